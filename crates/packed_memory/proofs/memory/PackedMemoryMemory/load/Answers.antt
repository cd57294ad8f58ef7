use Rattle.std.proofs.Common.{◌≡◌, ◌+◌, false, take, drop, sym, ap, ◌∙◌, subst, arith}
use Rattle.c_core.specs.Values.{scalar_size, value_in}
use Rattle.c_core.specs.Blocks.{load}
use Rattle.block_memory.proofs.Steps.{load_is, load_gives}
use Rattle.packed_memory.proofs.RowSteps.{kept, reach, room_there, cells_there}
use Rattle.packed_memory.proofs.memory.PackedMemoryMemory.load.Goals as goal

pub overflow_add-block : goal.overflow_add-block
overflow_add-block c =
    let room = room_there c.self.inside c.args.self.now c.self.view_is c.self.invariant c.args.p c.size_of-size.result c.size_of-size.result false c.in_ok-place.place c.in_ok-place.ensures c.index-block.result.now c.index-block.ensures in
    omega (arith, room.0, room.1)

pub load-requires : goal.load-requires
load-requires c =
    let room = room_there c.self.inside c.args.self.now c.self.view_is c.self.invariant c.args.p c.size_of-size.result c.size_of-size.result false c.in_ok-place.place c.in_ok-place.ensures c.index-block.result.now c.index-block.ensures in
    omega (arith, room.0, c.size_of-size.ensures)

pub returns-clause-value : goal.returns-clause-value
returns-clause-value c =
    let r = reach c.self.inside c.args.self.now c.self.view_is c.self.invariant c.args.p c.size_of-size.result c.size_of-size.result false c.in_ok-place.place c.in_ok-place.ensures in
    let offset = c.in_ok-place.place.offset in
    let x = c.index-block.result.now in
    let row = c.self.inside.cells in
    let there : take (scalar_size c.args.kind) (drop offset r.block.cells) ≡ take (scalar_size c.args.kind) (drop (x.at + offset) row) = subst (λ k. take k (drop offset r.block.cells) ≡ take k (drop (x.at + offset) row)) c.size_of-size.ensures (cells_there c.self.inside c.args.self.now c.self.view_is c.self.invariant c.args.p c.size_of-size.result c.size_of-size.result false c.in_ok-place.place c.in_ok-place.ensures c.index-block.result.now c.index-block.ensures) in
    let is : c.load.result ≡ load c.args.self.now.blocks c.args.p c.args.kind = c.load.ensures ∙ ap (λ l. value_in c.args.kind l) (sym there) ∙ sym (load_is c.args.self.now.blocks c.in_ok-place.place c.args.p c.args.kind c.size_of-size.result c.size_of-size.ensures r) in
    is

pub returns-clause-given : goal.returns-clause-given
returns-clause-given c =
    let r = reach c.self.inside c.args.self.now c.self.view_is c.self.invariant c.args.p c.size_of-size.result c.size_of-size.result false c.in_ok-place.place c.in_ok-place.ensures in
    let offset = c.in_ok-place.place.offset in
    let x = c.index-block.result.now in
    let row = c.self.inside.cells in
    let there : take (scalar_size c.args.kind) (drop offset r.block.cells) ≡ take (scalar_size c.args.kind) (drop (x.at + offset) row) = subst (λ k. take k (drop offset r.block.cells) ≡ take k (drop (x.at + offset) row)) c.size_of-size.ensures (cells_there c.self.inside c.args.self.now c.self.view_is c.self.invariant c.args.p c.size_of-size.result c.size_of-size.result false c.in_ok-place.place c.in_ok-place.ensures c.index-block.result.now c.index-block.ensures) in
    let is : c.load.result ≡ load c.args.self.now.blocks c.args.p c.args.kind = c.load.ensures ∙ ap (λ l. value_in c.args.kind l) (sym there) ∙ sym (load_is c.args.self.now.blocks c.in_ok-place.place c.args.p c.args.kind c.size_of-size.result c.size_of-size.ensures r) in
    load_gives c.args.self.now.blocks (kept c.self.inside c.args.self.now c.self.view_is c.self.invariant) c.args.p c.args.kind c.size_of-size.result c.in_ok-place.place c.size_of-size.ensures r c.load.result is
