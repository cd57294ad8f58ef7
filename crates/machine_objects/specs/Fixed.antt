-- Fixed objects, first without the cells of their initialisers.
use Rattle.std.specs.Prelude.{◌≡◌, ℕ, true, if◌then◌else◌, List, [], ◌∷◌, ◌++◌, map, replicate, Option, Some, None, slice_get, slice_set}
use Rattle.c_core.specs.declared.values.BlockKind.{BlockKind}
use Rattle.c_core.specs.declared.values.BlockKind.TheVariants as kind
use Rattle.c_core.specs.declared.values.Cell.{Cell}
use Rattle.c_core.specs.declared.values.Cell.TheVariants.{Undefined}
use Rattle.c_core.specs.declared.values.End.{End}
use Rattle.c_core.specs.declared.tree.FixedObject.{FixedObject}
use Rattle.c_core.specs.Blocks.{Block, Blocks}
use Rattle.range_heap.specs.Blocks.{rounded}
use Rattle.c_meaning.specs.Storage.{fixed_kind, fixed_block}
use Rattle.machine_steps.specs.Steps.{Makes, Ends, made_fixed}
use Rattle.machine_state.specs.State.{state_in}
use Rattle.machine_state.specs.declared.ledger.Ledger.{Ledger}

-- an object that is only declared is a block of 0 bytes, and takes no room
abbrev pub placed_kind : FixedObject → BlockKind
placed_kind o = if o.defined then fixed_kind o else kind.Fixed

abbrev pub placed_size : FixedObject → ℕ
placed_size o = if o.defined then o.size else 0

abbrev pub placed_room : FixedObject → ℕ
placed_room o = if o.defined then rounded o.size else 0

-- its block, before its cells are written
abbrev pub unfilled : FixedObject → Block
unfilled o = record { kind = placed_kind o; size = placed_size o; live = true; cells = replicate (placed_size o) Undefined }

-- one more object, where the run goes on
abbrev pub grown : Option End → Blocks → Block → Blocks
grown None bs b = bs ++ b ∷ []
grown (Some e) bs b = bs

-- a block with other cells
abbrev pub with_cells_in : Blocks → (number : ℕ) → List Cell → Option Block → Blocks
with_cells_in bs n cells None = bs
with_cells_in bs n cells (Some b) = slice_set bs n (record b { cells = cells })

abbrev pub with_cells : Blocks → (number : ℕ) → List Cell → Blocks
with_cells bs n cells = with_cells_in bs n cells (slice_get bs n)

abbrev pub cells_of : Option Block → List Cell
cells_of None = []
cells_of (Some b) = b.cells

abbrev pub cells_in : Blocks → (number : ℕ) → List Cell
cells_in bs n = cells_of (slice_get bs n)

abbrev pub all_filled : List FixedObject → Blocks
all_filled fixed = map fixed_block fixed

abbrev pub all_unfilled : List FixedObject → Blocks
all_unfilled fixed = map unfilled fixed

-- where the run goes on, all objects have their places, and no cells yet; where it has ended, it has ended there too
abbrev pub ArePlaced : Option End → List FixedObject → Blocks → (old now : Ledger) → Type 0
ArePlaced None fixed bs old now = (made_fixed fixed (state_in [] old) ≡ Makes (state_in (all_filled fixed) now)) × (bs ≡ all_unfilled fixed)
ArePlaced (Some e) fixed bs old now = (others : Blocks) × (made_fixed fixed (state_in [] old) ≡ Ends e (state_in others now))

-- all objects are made, or the run has ended, whatever objects there are
abbrev pub AreMade : Option End → List FixedObject → Blocks → (old now : Ledger) → Type 0
AreMade None fixed bs old now = made_fixed fixed (state_in [] old) ≡ Makes (state_in bs now)
AreMade (Some e) fixed bs old now = (others : Blocks) × (made_fixed fixed (state_in [] old) ≡ Ends e (state_in others now))
