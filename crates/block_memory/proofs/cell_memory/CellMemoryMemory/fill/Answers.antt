use Rattle.std.proofs.Common.{◌≡◌, ℕ, ◌+◌, ◌<◌, ◌≤◌, true, List, [], ◌∷◌, ◌++◌, length, take, drop, map, set, get_or, replicate, Result, Ok, Err, refl, sym, ap, ◌∙◌, subst, arith}
use Rattle.std.specs.Prelude.{slice_get}
use Rattle.std.proofs.lemmas.List.{map-append, length-replicate}
use Rattle.c_core.specs.declared.values.Cell.{Cell}
use Rattle.c_core.specs.declared.values.Cell.TheVariants.{Undefined, Byte}
use Rattle.c_core.specs.declared.values.BlockKind.{BlockKind}
use Rattle.c_core.specs.Values.{cells_of, scalar_size, kind_of}
use Rattle.c_core.specs.Blocks.{Block, Blocks, replaced, reached, dead, killed, initialised, placed}
use Rattle.block_memory.specs.Given.{IsGivenValue, IsGivenCell, AreGiven}
use Rattle.block_memory.specs.Shape.{Stored, sizes_of, AreKept, place_of}
use Rattle.block_memory.specs.CellForm.{block_of, blocks_in, starts_in}
use Rattle.block_memory.specs.declared.cell_memory.CellBlock.{CellBlock}
use Rattle.block_memory.proofs.Keeping.{given_cells, given_replicate, kept_placed, kept_at, value_given}
use Rattle.block_memory.proofs.Steps.{Wrote, Kept, stored, filled, length-value, live_at, killed_is, killed_kept, kept_as, initialised_is, initialised_kept}
use Rattle.block_memory.proofs.Cells.{starts_same, is_there, set_is, within, kept_view, reach_within, room_there, cells_wrote}
use Rattle.block_memory.proofs.cell_memory.CellMemoryMemory.fill.Goals as goal

pub put_bytes-requires : goal.put_bytes-requires
put_bytes-requires c =
    let items = c.self.inside.blocks.items in
    let bs = c.args.self.now.blocks in
    let view : blocks_in items ≡ bs = ap (λ (s : Stored). s.blocks) c.self.view_is in
    let place = c.in_ok-place.place in
    let x = c.index_mut-block.result.now in
    let e : x ≡ get_or items place.number x = c.index_mut-block.ensures.value in
    let n = c.args.n in
    let room = room_there items bs view c.self.invariant c.args.to n 1 true place c.in_ok-place.ensures x e in
    omega (arith, room)

pub invariant_of-self : goal.invariant_of-self
invariant_of-self c =
    let items = c.self.inside.blocks.items in
    let bs = c.args.self.now.blocks in
    let view : blocks_in items ≡ bs = ap (λ (s : Stored). s.blocks) c.self.view_is in
    let place = c.in_ok-place.place in
    let x = c.index_mut-block.result.now in
    let e : x ≡ get_or items place.number x = c.index_mut-block.ensures.value in
    let n = c.args.n in
    let y : CellBlock = record x { cells = c.put_bytes.new.cells } in
    let same : block_of y ≡ record (block_of x) { cells = replaced x.cells.items place.offset (replicate n (Byte c.args.byte)) } = ap (λ l. let b : Block = record (block_of x) { cells = l } in b) c.put_bytes.ensures in
    let w : Wrote bs (blocks_in (set items place.number y)) c.args.to n 1 place (replicate n (Byte c.args.byte)) = cells_wrote items bs view c.self.invariant c.args.to n 1 place c.in_ok-place.ensures x e (replicate n (Byte c.args.byte)) y (length-replicate n (Byte c.args.byte)) (given_replicate (sizes_of bs) n (Byte c.args.byte) tt) same in
    w.kept.kept

pub returns-clause-ok : goal.returns-clause-ok
returns-clause-ok c =
    let items = c.self.inside.blocks.items in
    let bs = c.args.self.now.blocks in
    let view : blocks_in items ≡ bs = ap (λ (s : Stored). s.blocks) c.self.view_is in
    let place = c.in_ok-place.place in
    let x = c.index_mut-block.result.now in
    let e : x ≡ get_or items place.number x = c.index_mut-block.ensures.value in
    let n = c.args.n in
    let y : CellBlock = record x { cells = c.put_bytes.new.cells } in
    let same : block_of y ≡ record (block_of x) { cells = replaced x.cells.items place.offset (replicate n (Byte c.args.byte)) } = ap (λ l. let b : Block = record (block_of x) { cells = l } in b) c.put_bytes.ensures in
    let w : Wrote bs (blocks_in (set items place.number y)) c.args.to n 1 place (replicate n (Byte c.args.byte)) = cells_wrote items bs view c.self.invariant c.args.to n 1 place c.in_ok-place.ensures x e (replicate n (Byte c.args.byte)) y (length-replicate n (Byte c.args.byte)) (given_replicate (sizes_of bs) n (Byte c.args.byte) tt) same in
    filled bs (blocks_in (set items place.number y)) c.args.to c.args.byte n place w

pub returns-clause-sizes : goal.returns-clause-sizes
returns-clause-sizes c =
    let items = c.self.inside.blocks.items in
    let bs = c.args.self.now.blocks in
    let view : blocks_in items ≡ bs = ap (λ (s : Stored). s.blocks) c.self.view_is in
    let place = c.in_ok-place.place in
    let x = c.index_mut-block.result.now in
    let e : x ≡ get_or items place.number x = c.index_mut-block.ensures.value in
    let n = c.args.n in
    let y : CellBlock = record x { cells = c.put_bytes.new.cells } in
    let same : block_of y ≡ record (block_of x) { cells = replaced x.cells.items place.offset (replicate n (Byte c.args.byte)) } = ap (λ l. let b : Block = record (block_of x) { cells = l } in b) c.put_bytes.ensures in
    let w : Wrote bs (blocks_in (set items place.number y)) c.args.to n 1 place (replicate n (Byte c.args.byte)) = cells_wrote items bs view c.self.invariant c.args.to n 1 place c.in_ok-place.ensures x e (replicate n (Byte c.args.byte)) y (length-replicate n (Byte c.args.byte)) (given_replicate (sizes_of bs) n (Byte c.args.byte) tt) same in
    w.kept.sizes

pub returns-clause-starts : goal.returns-clause-starts
returns-clause-starts c =
    let items = c.self.inside.blocks.items in
    let bs = c.args.self.now.blocks in
    let view : blocks_in items ≡ bs = ap (λ (s : Stored). s.blocks) c.self.view_is in
    let place = c.in_ok-place.place in
    let x = c.index_mut-block.result.now in
    let e : x ≡ get_or items place.number x = c.index_mut-block.ensures.value in
    let n = c.args.n in
    let y : CellBlock = record x { cells = c.put_bytes.new.cells } in
    let same : block_of y ≡ record (block_of x) { cells = replaced x.cells.items place.offset (replicate n (Byte c.args.byte)) } = ap (λ l. let b : Block = record (block_of x) { cells = l } in b) c.put_bytes.ensures in
    let w : Wrote bs (blocks_in (set items place.number y)) c.args.to n 1 place (replicate n (Byte c.args.byte)) = cells_wrote items bs view c.self.invariant c.args.to n 1 place c.in_ok-place.ensures x e (replicate n (Byte c.args.byte)) y (length-replicate n (Byte c.args.byte)) (given_replicate (sizes_of bs) n (Byte c.args.byte) tt) same in
    starts_same items place.number x y (reach_within items bs view c.self.invariant c.args.to n 1 true place c.in_ok-place.ensures) e refl ∙ ap (λ (s : Stored). s.starts) c.self.view_is
