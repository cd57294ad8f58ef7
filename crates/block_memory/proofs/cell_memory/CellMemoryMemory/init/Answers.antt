use Rattle.std.proofs.Common.{◌≡◌, ℕ, ◌+◌, ◌<◌, ◌≤◌, true, List, [], ◌∷◌, ◌++◌, length, take, drop, map, set, get_or, replicate, Result, Ok, Err, refl, sym, ap, ◌∙◌, subst, arith}
use Rattle.std.specs.Prelude.{slice_get}
use Rattle.std.proofs.lemmas.List.{map-append, length-replicate}
use Rattle.std.proofs.lemmas.Option.{same_Some}
use Rattle.c_core.specs.declared.values.Cell.{Cell}
use Rattle.c_core.specs.declared.values.Cell.TheVariants.{Undefined, Byte}
use Rattle.c_core.specs.declared.values.BlockKind.{BlockKind}
use Rattle.c_core.specs.Values.{cells_of, scalar_size, kind_of}
use Rattle.c_core.specs.Blocks.{Block, Blocks, replaced, reached, dead, killed, initialised, placed}
use Rattle.block_memory.specs.Given.{IsGivenValue, IsGivenCell, AreGiven}
use Rattle.block_memory.specs.Shape.{Stored, sizes_of, AreKept, place_of}
use Rattle.block_memory.specs.CellForm.{block_of, blocks_in, starts_in}
use Rattle.block_memory.specs.declared.cell_memory.CellBlock.{CellBlock}
use Rattle.block_memory.proofs.Keeping.{given_cells, given_replicate, kept_placed, kept_at, kept_length, value_given}
use Rattle.block_memory.proofs.Steps.{Wrote, Kept, stored, filled, length-value, live_at, killed_is, killed_kept, kept_as, initialised_is, initialised_kept}
use Rattle.block_memory.proofs.Cells.{starts_same, is_there, size_at, set_is, within, kept_view, reach_within, room_there, cells_wrote}
use Rattle.block_memory.proofs.cell_memory.CellMemoryMemory.init.Goals as goal

pub set_cell-requires : goal.set_cell-requires
set_cell-requires c =
    let items = c.self.inside.blocks.items in
    let bs = c.args.self.now.blocks in
    let view : blocks_in items ≡ bs = ap (λ (s : Stored). s.blocks) c.self.view_is in
    let n = c.args.block in
    let x = c.index_mut-block.result.now in
    let e : x ≡ get_or items n x = c.index_mut-block.ensures.value in
    let live = live_at bs n c.requires.live in
    let h : n < length items = within items bs view n live.0 live.1 in
    let there = is_there items bs view n x h e in
    let kb = kept_at (sizes_of bs) bs n (block_of x) (kept_view items bs view c.self.invariant) there in
    let lv : x.live ≡ true = ap (λ (d : Block). d.live) (same_Some (block_of x) live.0 (sym there ∙ live.1)) ∙ live.2 in
    let len = kept_length (sizes_of bs) (block_of x) lv kb in
    let sz : get_or (sizes_of bs) n 0 ≡ x.size = size_at bs n (block_of x) there in
    omega (arith, len, sz, c.requires.inside)

pub invariant_of-self : goal.invariant_of-self
invariant_of-self c =
    let items = c.self.inside.blocks.items in
    let bs = c.args.self.now.blocks in
    let view : blocks_in items ≡ bs = ap (λ (s : Stored). s.blocks) c.self.view_is in
    let n = c.args.block in
    let x = c.index_mut-block.result.now in
    let e : x ≡ get_or items n x = c.index_mut-block.ensures.value in
    let live = live_at bs n c.requires.live in
    let h : n < length items = within items bs view n live.0 live.1 in
    let there = is_there items bs view n x h e in
    let new : List Cell = set x.cells.items c.args.offset c.args.c in
    let b : Block = record (block_of x) { cells = new } in
    let y : CellBlock = record x { cells = c.set_cell.new.cells } in
    let is : blocks_in (set items n y) ≡ set bs n b = set_is items bs view n y b (ap (λ l. let d : Block = record (block_of x) { cells = l } in d) c.set_cell.ensures) in
    let k = initialised_kept bs n c.args.offset c.args.c (block_of x) there c.requires.cell (kept_view items bs view c.self.invariant) in
    let m = kept_as bs (blocks_in (set items n y)) (set bs n b) is k in
    m.kept

pub returns-clause-written : goal.returns-clause-written
returns-clause-written c =
    let items = c.self.inside.blocks.items in
    let bs = c.args.self.now.blocks in
    let view : blocks_in items ≡ bs = ap (λ (s : Stored). s.blocks) c.self.view_is in
    let n = c.args.block in
    let x = c.index_mut-block.result.now in
    let e : x ≡ get_or items n x = c.index_mut-block.ensures.value in
    let live = live_at bs n c.requires.live in
    let h : n < length items = within items bs view n live.0 live.1 in
    let there = is_there items bs view n x h e in
    let new : List Cell = set x.cells.items c.args.offset c.args.c in
    let b : Block = record (block_of x) { cells = new } in
    let y : CellBlock = record x { cells = c.set_cell.new.cells } in
    let is : blocks_in (set items n y) ≡ set bs n b = set_is items bs view n y b (ap (λ l. let d : Block = record (block_of x) { cells = l } in d) c.set_cell.ensures) in
    let k = initialised_kept bs n c.args.offset c.args.c (block_of x) there c.requires.cell (kept_view items bs view c.self.invariant) in
    let m = kept_as bs (blocks_in (set items n y)) (set bs n b) is k in
    is ∙ sym (initialised_is bs n c.args.offset c.args.c (block_of x) there)

pub returns-clause-sizes : goal.returns-clause-sizes
returns-clause-sizes c =
    let items = c.self.inside.blocks.items in
    let bs = c.args.self.now.blocks in
    let view : blocks_in items ≡ bs = ap (λ (s : Stored). s.blocks) c.self.view_is in
    let n = c.args.block in
    let x = c.index_mut-block.result.now in
    let e : x ≡ get_or items n x = c.index_mut-block.ensures.value in
    let live = live_at bs n c.requires.live in
    let h : n < length items = within items bs view n live.0 live.1 in
    let there = is_there items bs view n x h e in
    let new : List Cell = set x.cells.items c.args.offset c.args.c in
    let b : Block = record (block_of x) { cells = new } in
    let y : CellBlock = record x { cells = c.set_cell.new.cells } in
    let is : blocks_in (set items n y) ≡ set bs n b = set_is items bs view n y b (ap (λ l. let d : Block = record (block_of x) { cells = l } in d) c.set_cell.ensures) in
    let k = initialised_kept bs n c.args.offset c.args.c (block_of x) there c.requires.cell (kept_view items bs view c.self.invariant) in
    let m = kept_as bs (blocks_in (set items n y)) (set bs n b) is k in
    m.sizes

pub returns-clause-starts : goal.returns-clause-starts
returns-clause-starts c =
    let items = c.self.inside.blocks.items in
    let bs = c.args.self.now.blocks in
    let view : blocks_in items ≡ bs = ap (λ (s : Stored). s.blocks) c.self.view_is in
    let n = c.args.block in
    let x = c.index_mut-block.result.now in
    let e : x ≡ get_or items n x = c.index_mut-block.ensures.value in
    let live = live_at bs n c.requires.live in
    let h : n < length items = within items bs view n live.0 live.1 in
    let there = is_there items bs view n x h e in
    let new : List Cell = set x.cells.items c.args.offset c.args.c in
    let b : Block = record (block_of x) { cells = new } in
    let y : CellBlock = record x { cells = c.set_cell.new.cells } in
    let is : blocks_in (set items n y) ≡ set bs n b = set_is items bs view n y b (ap (λ l. let d : Block = record (block_of x) { cells = l } in d) c.set_cell.ensures) in
    let k = initialised_kept bs n c.args.offset c.args.c (block_of x) there c.requires.cell (kept_view items bs view c.self.invariant) in
    let m = kept_as bs (blocks_in (set items n y)) (set bs n b) is k in
    starts_same items n x (record x { cells = c.set_cell.new.cells }) h e refl ∙ ap (λ (s : Stored). s.starts) c.self.view_is
