-- The state of a run, and steps on it.
use Rattle.std.specs.Prelude.{ℕ, zero, suc, ◌+◌, ◌-◌, Bool, true, false, if◌then◌else◌, nat_le, List, [], ◌∷◌, ◌++◌, length, replicate, Option, Some, None, Result, Ok, Err, slice_get, slice_set, slice_index_or}
use Rattle.tok_base.specs.declared.token.Span.{Span}
use Rattle.c_core.specs.declared.values.BlockKind.{BlockKind}
use Rattle.c_core.specs.declared.values.BlockKind.TheVariants as kind
use Rattle.tok_base.specs.declared.reason.Reason.{Reason}
use Rattle.c_core.specs.declared.values.End.{End}
use Rattle.c_core.specs.declared.values.End.TheVariants.{Trap, Spent, StackFull}
use Rattle.c_core.specs.Blocks.{Blocks, placed, killed}
use Rattle.range_heap.specs.Blocks.{rounded}
use Rattle.c_meaning.specs.Run.{Run, Ended, Asks, Frees, Begins, Label}

-- everything but the ticks
pub record World : Type 0 where
  pub blocks : Blocks
  -- the numbers of the requests that were granted, in order: the first made the first allocated block, and so on
  pub grants : List ℕ
  -- the blocks of the function's locals
  pub locals : List (Option ℕ)
  -- the rest of the input
  pub input : List ℕ
  pub output : List ℕ
  -- what is left of the region of objects
  pub room : ℕ
  -- how many requests were made
  pub asked : ℕ

pub record State : Type 0 where
  pub ticks : ℕ
  pub world : World

-- what gives an A and goes on, or ends the run
abbrev pub M : Type 0 → Type 0
M A = (A → State → Run) → State → Run

abbrev pub give : {A : Type 0} → A → M A
give a = λ next s. next a s

abbrev pub ◌>>=◌ : {A B : Type 0} → M A → (A → M B) → M B
◌>>=◌ m f = λ next s. m (λ a. f a next) s

abbrev pub ◌>>◌ : {A B : Type 0} → M A → M B → M B
◌>>◌ m n = λ next s. m (λ _. n next) s

-- the run is over
abbrev pub over : End → State → Run
over e s = Ended s.world.output e

abbrev pub stop : {A : Type 0} → End → M A
stop e = λ next s. over e s

abbrev pub paid : ℕ → (State → Run) → State → Run
paid zero go s = over Spent s
paid (suc t) go s = go (record s { ticks = t })

-- one tick
abbrev pub tick : M (Unit {0})
tick = λ next s. paid s.ticks (λ s. next tt s) s

-- an expression begins
abbrev pub begins : M (Unit {0})
begins = λ next s. Begins (next tt s)

-- a quiet step: it gives a value and changes the world, or ends the run; it costs no tick and asks nothing
pub data Acted (A : Type 0) : Type 0 where
  Gives : A → World → Acted A
  Stops : End → Acted A

abbrev pub acted : {A : Type 0} → Acted A → (A → State → Run) → State → Run
acted (Gives a w) next s = next a (record s { world = w })
acted (Stops e) next s = over e s

abbrev pub act : {A : Type 0} → (World → Acted A) → M A
act f = λ next s. acted (f s.world) next s

-- a change of the world alone
abbrev pub change : (World → World) → World → Acted (Unit {0})
change f w = Gives tt (f w)

-- a value, or a trap at the span
abbrev pub judged : {A : Type 0} → Span → Result A Reason → World → Acted A
judged span (Ok a) w = Gives a w
judged span (Err reason) w = Stops (Trap reason span)

-- ---- storage

-- 6.2.4, paragraph 5: a new object, or 7.22.3: a new allocated block
abbrev pub with_block : BlockKind → (size : ℕ) → World → World
with_block kind size w = record w { blocks = placed w.blocks kind size }

abbrev pub without_block : ℕ → World → World
without_block n w = record w { blocks = killed w.blocks n }

-- room in the region of objects, or the end
abbrev pub take_room : ℕ → World → Acted (Unit {0})
take_room n w = if nat_le n w.room then Gives tt (record w { room = w.room - n }) else Stops StackFull

abbrev pub give_room : ℕ → World → World
give_room n w = record w { room = w.room + n }

-- ---- locals

abbrev pub set_local : List (Option ℕ) → (local block : ℕ) → List (Option ℕ)
set_local locals x n = slice_set (locals ++ replicate (suc x - length locals) None) x (Some n)

abbrev pub block_in : Option (Option ℕ) → Option ℕ
block_in None = None
block_in (Some block) = block

-- the block of a local, where it was made
abbrev pub local_block : World → ℕ → Option ℕ
local_block w x = block_in (slice_get w.locals x)

-- 6.2.4, paragraph 5: an object of automatic storage duration is made; its value is indeterminate
abbrev pub with_local : (local size : ℕ) → World → World
with_local x size w = record (with_block kind.Auto size w) { locals = set_local w.locals x (length w.blocks) }

abbrev pub make_local : (local size : ℕ) → M (Unit {0})
make_local x size = do
  tick
  act (take_room (rounded size))
  act (change (with_local x size))

abbrev pub without_local : (block : Option ℕ) → World → World
without_local None w = w
without_local (Some n) w = without_block n w

-- 6.2.4, paragraph 2: it dies, and its room is given back
abbrev pub end_local : (local size : ℕ) → World → World
end_local x size w = give_room (rounded size) (without_local (local_block w x) w)

abbrev pub make_locals : List (ℕ × ℕ) → M (Unit {0})
make_locals [] = give tt
make_locals (o ∷ objects) = do
  make_local o.0 o.1
  make_locals objects

-- the object that was made last dies first
abbrev pub end_locals : List (ℕ × ℕ) → World → World
end_locals [] w = w
end_locals (o ∷ objects) w = end_local o.0 o.1 (end_locals objects w)

-- a function's own locals, while it runs
abbrev pub within : {A : Type 0} → M A → M A
within m = λ next s. m (λ a t. next a (record t { world = record (t.world) { locals = s.world.locals } })) (record s { world = record (s.world) { locals = [] } })

-- ---- requests

abbrev pub is_heap : BlockKind → Bool
is_heap kind.Heap = true
is_heap other = false

-- how many allocated blocks were made before the block with number n
abbrev pub heaps_before : (n : ℕ) → Blocks → ℕ
heaps_before zero bs = 0
heaps_before (suc n) [] = 0
heaps_before (suc n) (b ∷ bs) = (if is_heap b.kind then 1 else 0) + heaps_before n bs

-- the number of the request that made an allocated block: as many were granted before it as there are allocated blocks
-- before the block
abbrev pub maker : World → (block : ℕ) → ℕ
maker w n = slice_index_or w.grants (heaps_before n w.blocks) 0

-- the world after an answer: a new block of undefined cells where it was granted
abbrev pub after_answer : (size : ℕ) → Bool → World → World
after_answer size true w = record (with_block kind.Heap size w) { grants = w.grants ++ w.asked ∷ []; asked = suc w.asked }
after_answer size false w = record w { asked = suc w.asked }

-- 7.22.3: a request for storage, at an alignment of 16; gives the new block's number where it is granted
abbrev pub request : Label → (size : ℕ) → M (Option ℕ)
request label size = λ next s. Asks label size 16 (λ granted. next (if granted then Some (length s.world.blocks) else None) (record s { world = after_answer size granted s.world }))

-- 7.22.3.3: the block with this number is given back
abbrev pub release : (block : ℕ) → M (Unit {0})
release n = λ next s. Frees (maker s.world n) (next tt (record s { world = record (without_block n s.world) { asked = suc s.world.asked } }))
