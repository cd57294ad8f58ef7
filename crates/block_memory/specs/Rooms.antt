-- Where blocks stand: each takes an interval of addresses of its own while it lives.
use Rattle.std.specs.Prelude.{◌≡◌, ◌⊎◌, ℕ, ◌+◌, ◌*◌, ◌/◌, ◌≤◌, max, Bool, true, ◌==◌, if◌then◌else◌, List, [], ◌∷◌}
use Rattle.c_core.specs.declared.values.BlockKind.{BlockKind}
use Rattle.c_core.specs.declared.values.BlockKind.TheVariants as kind
use Rattle.c_core.specs.Blocks.{Block, Blocks}

-- the least positive multiple of 16 that is not below the size
abbrev pub rounded : ℕ → ℕ
rounded size = 16 * max 1 ((size + 15) / 16)

-- how many addresses a block takes: none where it is a fixed object of 0 bytes, which is one without a definition
abbrev pub room : BlockKind → ℕ → ℕ
room kind.Fixed size = if size == 0 then 0 else rounded size
room kind size = rounded size

-- two intervals have no address in common
abbrev pub AreApart : (at count other more : ℕ) → Type 0
AreApart at count other more = (count ≡ 0) ⊎ ((more ≡ 0) ⊎ ((at + count ≤ other) ⊎ (other + more ≤ at)))

-- an interval meets no live block; the blocks and where they start, in the order of their numbers
abbrev pub IsFree : Blocks → (starts : List ℕ) → (at count : ℕ) → Type 0
IsFree [] starts at count = Unit {0}
IsFree (b ∷ bs) [] at count = Unit {0}
IsFree (b ∷ bs) (s ∷ starts) at count = (b.live ≡ true → AreApart s (room b.kind b.size) at count) × IsFree bs starts at count
