use Rattle.std.proofs.Common.{◌≡◌, ℕ, ◌+◌, ◌<◌, ◌≤◌, true, List, [], ◌∷◌, ◌++◌, length, take, drop, map, set, get_or, replicate, Result, Ok, Err, refl, sym, ap, ◌∙◌, subst, arith}
use Rattle.std.specs.Prelude.{slice_get}
use Rattle.std.proofs.lemmas.List.{map-append, length-replicate}
use Rattle.c_core.specs.declared.values.Cell.{Cell}
use Rattle.c_core.specs.declared.values.Cell.TheVariants.{Undefined, Byte}
use Rattle.c_core.specs.declared.values.BlockKind.{BlockKind}
use Rattle.c_core.specs.Values.{cells_of, scalar_size, kind_of}
use Rattle.c_core.specs.Blocks.{Block, Blocks, replaced, reached, dead, killed, initialised, placed}
use Rattle.block_memory.specs.Given.{IsGivenValue, IsGivenCell, AreGiven}
use Rattle.block_memory.specs.Shape.{Stored, sizes_of, AreKept, place_of}
use Rattle.block_memory.specs.CellForm.{block_of, blocks_in, starts_in}
use Rattle.block_memory.specs.declared.cell_memory.CellBlock.{CellBlock}
use Rattle.block_memory.proofs.Keeping.{given_cells, given_replicate, kept_placed, kept_at, value_given}
use Rattle.block_memory.proofs.Steps.{Wrote, Kept, stored, filled, length-value, live_at, killed_is, killed_kept, kept_as, initialised_is, initialised_kept}
use Rattle.block_memory.proofs.Cells.{starts_same, is_there, set_is, within, kept_view, reach_within, room_there, cells_wrote, placed_kept}
use Rattle.block_memory.proofs.cell_memory.CellMemoryMemory.place.Goals as goal

pub invariant_of-self-2 : goal.invariant_of-self-2
invariant_of-self-2 c =
    let view : blocks_in c.self.inside.blocks.items ≡ c.args.self.now.blocks = ap (λ (s : Stored). s.blocks) c.self.view_is in
    placed_kept c.self.inside.blocks.items c.append.new.blocks.items c.args.self.now.blocks view c.args.kind c.args.size
    (record { kind = c.args.kind; size = c.args.size; at = c.args.at; live = true; cells = c.in_ok-cells.cells }) c.in_ok-append.ensures.ok
    (ap (λ l. let b : Block = record { kind = c.args.kind; size = c.args.size; live = true; cells = l } in b) c.in_ok-cells.ensures) c.self.invariant
