use Rattle.std.proofs.Common.{◌≡◌, ℕ, ◌+◌, ◌<◌, ◌≤◌, true, false, List, [], ◌∷◌, ◌++◌, length, take, drop, map, set, get_or, replicate, Result, Ok, Err, refl, sym, ap, ◌∙◌, subst, arith}
use Rattle.std.specs.Prelude.{slice_get}
use Rattle.std.proofs.lemmas.List.{map-append, length-replicate}
use Rattle.c_core.specs.declared.values.Cell.{Cell}
use Rattle.c_core.specs.declared.values.Cell.TheVariants.{Undefined, Byte}
use Rattle.c_core.specs.declared.values.BlockKind.{BlockKind}
use Rattle.c_core.specs.Values.{cells_of, scalar_size, kind_of}
use Rattle.c_core.specs.Blocks.{Block, Blocks, replaced, reached, dead, killed, initialised, placed}
use Rattle.block_memory.specs.Given.{IsGivenValue, IsGivenCell, AreGiven}
use Rattle.block_memory.specs.Shape.{Stored, sizes_of, AreKept, place_of}
use Rattle.block_memory.specs.CellForm.{block_of, blocks_in, starts_in}
use Rattle.block_memory.specs.declared.cell_memory.CellBlock.{CellBlock}
use Rattle.block_memory.proofs.Keeping.{given_cells, given_replicate, kept_placed, kept_at, value_given}
use Rattle.block_memory.proofs.Steps.{Wrote, Kept, stored, filled, length-value, killed_is, killed_kept, kept_as, initialised_is, initialised_kept}
use Rattle.block_memory.proofs.Cells.{starts_same, is_there, set_is, below, kept_view, reach_within, room_there, cells_wrote}
use Rattle.block_memory.proofs.cell_memory.CellMemoryMemory.kill.Goals as goal

pub invariant_of-self : goal.invariant_of-self
invariant_of-self c =
    let items = c.self.inside.blocks.items in
    let bs = c.args.self.now.blocks in
    let view : blocks_in items ≡ bs = ap (λ (s : Stored). s.blocks) c.self.view_is in
    let n = c.args.block in
    let x = c.index_mut-block.result.now in
    let e : x ≡ get_or items n x = c.index_mut-block.ensures.value in
    let h : n < length items = below items bs view n c.requires in
    let there = is_there items bs view n x h e in
    let y : CellBlock = record x { live = false; cells = c.new-empty.result } in
    let same : block_of y ≡ dead (block_of x) = ap (λ l. let b : Block = record (block_of x) { live = false; cells = l } in b) c.new-empty.ensures.items in
    let is : blocks_in (set items n y) ≡ set bs n (dead (block_of x)) = set_is items bs view n y (dead (block_of x)) same in
    let k = kept_as bs (blocks_in (set items n y)) (set bs n (dead (block_of x))) is (killed_kept bs n (block_of x) there (kept_view items bs view c.self.invariant)) in
    k.kept

pub returns-clause-killed : goal.returns-clause-killed
returns-clause-killed c =
    let items = c.self.inside.blocks.items in
    let bs = c.args.self.now.blocks in
    let view : blocks_in items ≡ bs = ap (λ (s : Stored). s.blocks) c.self.view_is in
    let n = c.args.block in
    let x = c.index_mut-block.result.now in
    let e : x ≡ get_or items n x = c.index_mut-block.ensures.value in
    let h : n < length items = below items bs view n c.requires in
    let there = is_there items bs view n x h e in
    let y : CellBlock = record x { live = false; cells = c.new-empty.result } in
    let same : block_of y ≡ dead (block_of x) = ap (λ l. let b : Block = record (block_of x) { live = false; cells = l } in b) c.new-empty.ensures.items in
    let is : blocks_in (set items n y) ≡ set bs n (dead (block_of x)) = set_is items bs view n y (dead (block_of x)) same in
    let k = kept_as bs (blocks_in (set items n y)) (set bs n (dead (block_of x))) is (killed_kept bs n (block_of x) there (kept_view items bs view c.self.invariant)) in
    is ∙ sym (killed_is bs n (block_of x) there)

pub returns-clause-sizes : goal.returns-clause-sizes
returns-clause-sizes c =
    let items = c.self.inside.blocks.items in
    let bs = c.args.self.now.blocks in
    let view : blocks_in items ≡ bs = ap (λ (s : Stored). s.blocks) c.self.view_is in
    let n = c.args.block in
    let x = c.index_mut-block.result.now in
    let e : x ≡ get_or items n x = c.index_mut-block.ensures.value in
    let h : n < length items = below items bs view n c.requires in
    let there = is_there items bs view n x h e in
    let y : CellBlock = record x { live = false; cells = c.new-empty.result } in
    let same : block_of y ≡ dead (block_of x) = ap (λ l. let b : Block = record (block_of x) { live = false; cells = l } in b) c.new-empty.ensures.items in
    let is : blocks_in (set items n y) ≡ set bs n (dead (block_of x)) = set_is items bs view n y (dead (block_of x)) same in
    let k = kept_as bs (blocks_in (set items n y)) (set bs n (dead (block_of x))) is (killed_kept bs n (block_of x) there (kept_view items bs view c.self.invariant)) in
    k.sizes

pub returns-clause-starts : goal.returns-clause-starts
returns-clause-starts c =
    let items = c.self.inside.blocks.items in
    let bs = c.args.self.now.blocks in
    let view : blocks_in items ≡ bs = ap (λ (s : Stored). s.blocks) c.self.view_is in
    let n = c.args.block in
    let x = c.index_mut-block.result.now in
    let e : x ≡ get_or items n x = c.index_mut-block.ensures.value in
    let h : n < length items = below items bs view n c.requires in
    let there = is_there items bs view n x h e in
    let y : CellBlock = record x { live = false; cells = c.new-empty.result } in
    let same : block_of y ≡ dead (block_of x) = ap (λ l. let b : Block = record (block_of x) { live = false; cells = l } in b) c.new-empty.ensures.items in
    let is : blocks_in (set items n y) ≡ set bs n (dead (block_of x)) = set_is items bs view n y (dead (block_of x)) same in
    let k = kept_as bs (blocks_in (set items n y)) (set bs n (dead (block_of x))) is (killed_kept bs n (block_of x) there (kept_view items bs view c.self.invariant)) in
    starts_same items n x y h e refl ∙ ap (λ (s : Stored). s.starts) c.self.view_is
