use Rattle.std.proofs.Common.{◌≡◌, ℕ, ◌+◌, ◌<◌, ◌≤◌, true, false, List, [], ◌∷◌, ◌++◌, length, take, drop, map, set, get_or, replicate, Result, Ok, Err, refl, sym, ap, ◌∙◌, subst, arith}
use Rattle.std.specs.Prelude.{slice_get}
use Rattle.std.proofs.lemmas.List.{map-append, length-replicate, set-set, get_or-set_same, get_or-set_other}
use Rattle.block_memory.proofs.Reaching.{Reached, reach_ok, reach_err, site_at}
use Rattle.c_core.specs.Blocks.{load, copy, cells_at}
use Rattle.c_core.specs.Values.{value_in}
use Rattle.c_core.specs.declared.values.Cell.{Cell}
use Rattle.c_core.specs.declared.values.Cell.TheVariants.{Undefined, Byte}
use Rattle.c_core.specs.declared.values.BlockKind.{BlockKind}
use Rattle.c_core.specs.Values.{cells_of, scalar_size, kind_of}
use Rattle.c_core.specs.Blocks.{Block, Blocks, replaced, reached, dead, killed, initialised, placed}
use Rattle.block_memory.specs.Given.{IsGivenValue, IsGivenCell, AreGiven}
use Rattle.block_memory.specs.Shape.{Stored, sizes_of, AreKept, place_of}
use Rattle.block_memory.specs.CellForm.{block_of, blocks_in, starts_in}
use Rattle.block_memory.specs.declared.cell_memory.CellBlock.{CellBlock}
use Rattle.block_memory.proofs.Keeping.{given_cells, given_replicate, kept_placed, kept_at, value_given}
use Rattle.block_memory.proofs.Steps.{Wrote, Kept, stored, filled, copied, copy_over, copy_unread, length-value, load_is, load_gives, cells_given, live_at, killed_is, killed_kept, kept_as, initialised_is, initialised_kept}
use Rattle.block_memory.proofs.Cells.{starts_same, is_there, set_is, within, kept_view, reach_within, room_there, same_block, cells_wrote, reach, copy_wrote, placed_kept}
use Rattle.block_memory.proofs.cell_memory.CellMemoryMemory.load.Goals as goal

pub read-requires : goal.read-requires
read-requires c =
    let items = c.self.inside.blocks.items in
    let bs = c.args.self.now.blocks in
    let view : blocks_in items ≡ bs = ap (λ (s : Stored). s.blocks) c.self.view_is in
    let place = c.in_ok-place.place in
    let x = c.index-block.result.now in
    let e : x ≡ get_or items place.number x = c.index-block.ensures in
    let n = c.size_of-size.result in
    let room = room_there items bs view c.self.invariant c.args.p n n false place c.in_ok-place.ensures x e in
    let l : length c.as_slice.result.now ≡ length x.cells.items = ap (λ k. length k) c.as_slice.ensures.value in
    omega (arith, room, l, c.size_of-size.ensures)

pub returns-clause-value : goal.returns-clause-value
returns-clause-value c =
    let items = c.self.inside.blocks.items in
    let bs = c.args.self.now.blocks in
    let view : blocks_in items ≡ bs = ap (λ (s : Stored). s.blocks) c.self.view_is in
    let place = c.in_ok-place.place in
    let x = c.index-block.result.now in
    let e : x ≡ get_or items place.number x = c.index-block.ensures in
    let n = c.size_of-size.result in
    let rr = reach items bs view c.self.invariant c.args.p n n false place c.in_ok-place.ensures in
    let b = same_block items bs view c.self.invariant c.args.p n n false place c.in_ok-place.ensures x e in
    let cells : c.as_slice.result.now ≡ rr.block.cells = c.as_slice.ensures.value ∙ sym (ap (λ (d : Block). d.cells) b) in
    let is : c.read.result ≡ load bs c.args.p c.args.kind = c.read.ensures ∙ ap (λ l. value_in c.args.kind (take (scalar_size c.args.kind) (drop place.offset l))) cells ∙ sym (load_is bs place c.args.p c.args.kind n c.size_of-size.ensures rr) in
    is

pub returns-clause-given : goal.returns-clause-given
returns-clause-given c =
    let items = c.self.inside.blocks.items in
    let bs = c.args.self.now.blocks in
    let view : blocks_in items ≡ bs = ap (λ (s : Stored). s.blocks) c.self.view_is in
    let place = c.in_ok-place.place in
    let x = c.index-block.result.now in
    let e : x ≡ get_or items place.number x = c.index-block.ensures in
    let n = c.size_of-size.result in
    let rr = reach items bs view c.self.invariant c.args.p n n false place c.in_ok-place.ensures in
    let b = same_block items bs view c.self.invariant c.args.p n n false place c.in_ok-place.ensures x e in
    let cells : c.as_slice.result.now ≡ rr.block.cells = c.as_slice.ensures.value ∙ sym (ap (λ (d : Block). d.cells) b) in
    let is : c.read.result ≡ load bs c.args.p c.args.kind = c.read.ensures ∙ ap (λ l. value_in c.args.kind (take (scalar_size c.args.kind) (drop place.offset l))) cells ∙ sym (load_is bs place c.args.p c.args.kind n c.size_of-size.ensures rr) in
    load_gives bs (kept_view items bs view c.self.invariant) c.args.p c.args.kind n place c.size_of-size.ensures rr c.read.result is
