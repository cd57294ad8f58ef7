-- Live blocks, as a history of grants and releases leaves them.
use Rattle.std.specs.Prelude.{◌⊎◌, ℕ, ◌+◌, ◌*◌, ◌/◌, ◌≤◌, max, Bool, cond, nat_eq, List, [], ◌∷◌, Option, Some, None, is_some}
use Rattle.range_heap.specs.declared.call.HeapCall.{HeapCall}
use Rattle.range_heap.specs.declared.call.HeapEvent.{HeapEvent}
use Rattle.range_heap.specs.declared.call.HeapEvent.TheVariants.{Grant, Refuse, Release}

-- the least positive multiple of 16 that is not below the size
abbrev pub rounded : ℕ → ℕ
rounded size = 16 * max 1 ((size + 15) / 16)

-- a block: where it begins, and the size that was asked for. It takes `rounded size` addresses
pub record Block : Type 0 where
  pub place : ℕ
  pub size : ℕ

abbrev pub block : ℕ → ℕ → Block
block place size = record { place = place; size = size }

abbrev pub without : ℕ → List Block → List Block
without place [] = []
without place (b ∷ bs) = cond (nat_eq b.place place) (without place bs) (b ∷ without place bs)

abbrev pub blocks_after : List Block → HeapEvent → List Block
blocks_after bs (Grant size place) = block place size ∷ bs
blocks_after bs (Refuse size) = bs
blocks_after bs (Release place) = without place bs

abbrev pub blocks_from : List Block → List HeapCall → List Block
blocks_from bs [] = bs
blocks_from bs (e ∷ es) = blocks_from (blocks_after bs e.what) es

-- what is granted and not released after a history
abbrev pub live_blocks : List HeapCall → List Block
live_blocks h = blocks_from [] h

abbrev pub size_in : ℕ → List Block → Option ℕ
size_in place [] = None
size_in place (b ∷ bs) = cond (nat_eq b.place place) (Some b.size) (size_in place bs)

-- the size that was asked for of the live block that begins at a place
abbrev pub live_at : ℕ → List HeapCall → Option ℕ
live_at place h = size_in place (live_blocks h)

-- whether a live block begins at a place
abbrev pub live : ℕ → List HeapCall → Bool
live place h = is_some (live_at place h)

-- n addresses from `at` on meet no block
abbrev pub IsClear : List Block → ℕ → ℕ → Type 0
IsClear [] at n = Unit {0}
IsClear (b ∷ bs) at n = ((at + n ≤ b.place) ⊎ (b.place + rounded b.size ≤ at)) × IsClear bs at n

-- no two blocks meet
abbrev pub AllApart : List Block → Type 0
AllApart [] = Unit {0}
AllApart (b ∷ bs) = IsClear bs b.place (rounded b.size) × AllApart bs
