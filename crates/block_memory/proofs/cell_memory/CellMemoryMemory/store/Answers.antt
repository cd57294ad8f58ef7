use Rattle.std.proofs.Common.{◌≡◌, ℕ, ◌+◌, ◌<◌, ◌≤◌, true, List, [], ◌∷◌, ◌++◌, length, take, drop, map, set, get_or, replicate, Result, Ok, Err, refl, sym, ap, ◌∙◌, subst, arith}
use Rattle.std.specs.Prelude.{slice_get}
use Rattle.std.proofs.lemmas.List.{map-append, length-replicate}
use Rattle.c_core.specs.declared.values.Cell.{Cell}
use Rattle.c_core.specs.declared.values.Cell.TheVariants.{Undefined, Byte}
use Rattle.c_core.specs.declared.values.BlockKind.{BlockKind}
use Rattle.c_core.specs.Values.{cells_of, scalar_size, kind_of}
use Rattle.c_core.specs.Blocks.{Block, Blocks, replaced, reached, dead, killed, initialised, placed}
use Rattle.block_memory.specs.Given.{IsGivenValue, IsGivenCell, AreGiven}
use Rattle.block_memory.specs.Shape.{Stored, sizes_of, AreKept, place_of}
use Rattle.block_memory.specs.CellForm.{block_of, blocks_in, starts_in}
use Rattle.block_memory.specs.declared.cell_memory.CellBlock.{CellBlock}
use Rattle.block_memory.proofs.Keeping.{given_cells, given_replicate, kept_placed, kept_at, value_given}
use Rattle.block_memory.proofs.Steps.{Wrote, Kept, stored, filled, length-value, live_at, killed_is, killed_kept, kept_as, initialised_is, initialised_kept}
use Rattle.block_memory.proofs.Cells.{starts_same, is_there, set_is, within, kept_view, reach_within, room_there, cells_wrote}
use Rattle.block_memory.proofs.cell_memory.CellMemoryMemory.store.Goals as goal

pub put-requires : goal.put-requires
put-requires c =
    let items = c.self.inside.blocks.items in
    let bs = c.args.self.now.blocks in
    let view : blocks_in items ≡ bs = ap (λ (s : Stored). s.blocks) c.self.view_is in
    let place = c.in_ok-place.place in
    let x = c.index_mut-block.result.now in
    let e : x ≡ get_or items place.number x = c.index_mut-block.ensures.value in
    let n = c.size_of-size.result in
    let cells : take n c.cells_of-cells.result ≡ cells_of c.args.v = ap (λ k. take k c.cells_of-cells.result) (c.size_of-size.ensures ∙ ap scalar_size (sym c.requires.kind)) ∙ c.cells_of-cells.ensures in
    let size : length (cells_of c.args.v) ≡ n = length-value c.args.v ∙ ap scalar_size c.requires.kind ∙ sym c.size_of-size.ensures in
    let room = room_there items bs view c.self.invariant c.args.p n n true place c.in_ok-place.ensures x e in
    let l : length (take n c.cells_of-cells.result) ≡ n = ap (λ k. length k) cells ∙ size in
    omega (arith, room, l)

pub invariant_of-self : goal.invariant_of-self
invariant_of-self c =
    let items = c.self.inside.blocks.items in
    let bs = c.args.self.now.blocks in
    let view : blocks_in items ≡ bs = ap (λ (s : Stored). s.blocks) c.self.view_is in
    let place = c.in_ok-place.place in
    let x = c.index_mut-block.result.now in
    let e : x ≡ get_or items place.number x = c.index_mut-block.ensures.value in
    let n = c.size_of-size.result in
    let cells : take n c.cells_of-cells.result ≡ cells_of c.args.v = ap (λ k. take k c.cells_of-cells.result) (c.size_of-size.ensures ∙ ap scalar_size (sym c.requires.kind)) ∙ c.cells_of-cells.ensures in
    let size : length (cells_of c.args.v) ≡ n = length-value c.args.v ∙ ap scalar_size c.requires.kind ∙ sym c.size_of-size.ensures in
    let y : CellBlock = record x { cells = c.put.new.cells } in
    let put : c.put.new.cells.items ≡ replaced x.cells.items place.offset (cells_of c.args.v) = c.put.ensures ∙ ap (λ l. replaced x.cells.items place.offset l) cells in
    let same : block_of y ≡ record (block_of x) { cells = replaced x.cells.items place.offset (cells_of c.args.v) } = ap (λ l. let b : Block = record (block_of x) { cells = l } in b) put in
    let w : Wrote bs (blocks_in (set items place.number y)) c.args.p n n place (cells_of c.args.v) = cells_wrote items bs view c.self.invariant c.args.p n n place c.in_ok-place.ensures x e (cells_of c.args.v) y size (given_cells (sizes_of bs) c.args.v c.requires.value) same in
    w.kept.kept

pub returns-clause-ok : goal.returns-clause-ok
returns-clause-ok c =
    let items = c.self.inside.blocks.items in
    let bs = c.args.self.now.blocks in
    let view : blocks_in items ≡ bs = ap (λ (s : Stored). s.blocks) c.self.view_is in
    let place = c.in_ok-place.place in
    let x = c.index_mut-block.result.now in
    let e : x ≡ get_or items place.number x = c.index_mut-block.ensures.value in
    let n = c.size_of-size.result in
    let cells : take n c.cells_of-cells.result ≡ cells_of c.args.v = ap (λ k. take k c.cells_of-cells.result) (c.size_of-size.ensures ∙ ap scalar_size (sym c.requires.kind)) ∙ c.cells_of-cells.ensures in
    let size : length (cells_of c.args.v) ≡ n = length-value c.args.v ∙ ap scalar_size c.requires.kind ∙ sym c.size_of-size.ensures in
    let y : CellBlock = record x { cells = c.put.new.cells } in
    let put : c.put.new.cells.items ≡ replaced x.cells.items place.offset (cells_of c.args.v) = c.put.ensures ∙ ap (λ l. replaced x.cells.items place.offset l) cells in
    let same : block_of y ≡ record (block_of x) { cells = replaced x.cells.items place.offset (cells_of c.args.v) } = ap (λ l. let b : Block = record (block_of x) { cells = l } in b) put in
    let w : Wrote bs (blocks_in (set items place.number y)) c.args.p n n place (cells_of c.args.v) = cells_wrote items bs view c.self.invariant c.args.p n n place c.in_ok-place.ensures x e (cells_of c.args.v) y size (given_cells (sizes_of bs) c.args.v c.requires.value) same in
    stored bs (blocks_in (set items place.number y)) c.args.p c.args.kind c.args.v n place c.size_of-size.ensures w

pub returns-clause-sizes : goal.returns-clause-sizes
returns-clause-sizes c =
    let items = c.self.inside.blocks.items in
    let bs = c.args.self.now.blocks in
    let view : blocks_in items ≡ bs = ap (λ (s : Stored). s.blocks) c.self.view_is in
    let place = c.in_ok-place.place in
    let x = c.index_mut-block.result.now in
    let e : x ≡ get_or items place.number x = c.index_mut-block.ensures.value in
    let n = c.size_of-size.result in
    let cells : take n c.cells_of-cells.result ≡ cells_of c.args.v = ap (λ k. take k c.cells_of-cells.result) (c.size_of-size.ensures ∙ ap scalar_size (sym c.requires.kind)) ∙ c.cells_of-cells.ensures in
    let size : length (cells_of c.args.v) ≡ n = length-value c.args.v ∙ ap scalar_size c.requires.kind ∙ sym c.size_of-size.ensures in
    let y : CellBlock = record x { cells = c.put.new.cells } in
    let put : c.put.new.cells.items ≡ replaced x.cells.items place.offset (cells_of c.args.v) = c.put.ensures ∙ ap (λ l. replaced x.cells.items place.offset l) cells in
    let same : block_of y ≡ record (block_of x) { cells = replaced x.cells.items place.offset (cells_of c.args.v) } = ap (λ l. let b : Block = record (block_of x) { cells = l } in b) put in
    let w : Wrote bs (blocks_in (set items place.number y)) c.args.p n n place (cells_of c.args.v) = cells_wrote items bs view c.self.invariant c.args.p n n place c.in_ok-place.ensures x e (cells_of c.args.v) y size (given_cells (sizes_of bs) c.args.v c.requires.value) same in
    w.kept.sizes

pub returns-clause-starts : goal.returns-clause-starts
returns-clause-starts c =
    let items = c.self.inside.blocks.items in
    let bs = c.args.self.now.blocks in
    let view : blocks_in items ≡ bs = ap (λ (s : Stored). s.blocks) c.self.view_is in
    let place = c.in_ok-place.place in
    let x = c.index_mut-block.result.now in
    let e : x ≡ get_or items place.number x = c.index_mut-block.ensures.value in
    let n = c.size_of-size.result in
    let cells : take n c.cells_of-cells.result ≡ cells_of c.args.v = ap (λ k. take k c.cells_of-cells.result) (c.size_of-size.ensures ∙ ap scalar_size (sym c.requires.kind)) ∙ c.cells_of-cells.ensures in
    let size : length (cells_of c.args.v) ≡ n = length-value c.args.v ∙ ap scalar_size c.requires.kind ∙ sym c.size_of-size.ensures in
    let y : CellBlock = record x { cells = c.put.new.cells } in
    let put : c.put.new.cells.items ≡ replaced x.cells.items place.offset (cells_of c.args.v) = c.put.ensures ∙ ap (λ l. replaced x.cells.items place.offset l) cells in
    let same : block_of y ≡ record (block_of x) { cells = replaced x.cells.items place.offset (cells_of c.args.v) } = ap (λ l. let b : Block = record (block_of x) { cells = l } in b) put in
    let w : Wrote bs (blocks_in (set items place.number y)) c.args.p n n place (cells_of c.args.v) = cells_wrote items bs view c.self.invariant c.args.p n n place c.in_ok-place.ensures x e (cells_of c.args.v) y size (given_cells (sizes_of bs) c.args.v c.requires.value) same in
    starts_same items place.number x y (reach_within items bs view c.self.invariant c.args.p n n true place c.in_ok-place.ensures) e refl ∙ ap (λ (s : Stored). s.starts) c.self.view_is
