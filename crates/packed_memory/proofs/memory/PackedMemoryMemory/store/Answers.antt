use Rattle.std.proofs.Common.{◌≡◌, true, length, sym, ap, ◌∙◌, arith}
use Rattle.c_core.specs.Values.{cells_of, scalar_size, kind_of}
use Rattle.block_memory.specs.Shape.{sizes_of}
use Rattle.block_memory.proofs.Keeping.{given_cells}
use Rattle.block_memory.proofs.Steps.{stored, length-value}
use Rattle.packed_memory.specs.Form.{blocks_over}
use Rattle.packed_memory.proofs.RowSteps.{value_word, room_there, row_written}
use Rattle.packed_memory.proofs.memory.PackedMemoryMemory.store.Goals as goal

pub overflow_add-block : goal.overflow_add-block
overflow_add-block c =
    let room = room_there c.self.inside c.args.self.now c.self.view_is c.self.invariant c.args.p c.size_of-size.result c.size_of-size.result true c.in_ok-place.place c.in_ok-place.ensures c.index-block.result.now c.index-block.ensures in
    omega (arith, room.0, room.1)

pub store-requires-clause-room : goal.store-requires-clause-room
store-requires-clause-room c =
    let room = room_there c.self.inside c.args.self.now c.self.view_is c.self.invariant c.args.p c.size_of-size.result c.size_of-size.result true c.in_ok-place.place c.in_ok-place.ensures c.index-block.result.now c.index-block.ensures in
    let k : scalar_size (kind_of c.args.v) ≡ c.size_of-size.result = ap scalar_size c.requires.kind ∙ sym c.size_of-size.ensures in
    omega (arith, room.0, k)

pub store-requires-clause-small : goal.store-requires-clause-small
store-requires-clause-small c =
    value_word c.self.inside c.args.self.now c.self.view_is c.self.invariant c.args.v c.requires.value

pub invariant_of-self : goal.invariant_of-self
invariant_of-self c =
    let size : length (cells_of c.args.v) ≡ c.size_of-size.result = length-value c.args.v ∙ ap scalar_size c.requires.kind ∙ sym c.size_of-size.ensures in
    let w = row_written c.self.inside c.args.self.now c.self.view_is c.self.invariant c.args.p c.size_of-size.result c.size_of-size.result c.in_ok-place.place c.in_ok-place.ensures c.index-block.result.now c.index-block.ensures (cells_of c.args.v) c.store.new.self size (given_cells (sizes_of c.args.self.now.blocks) c.args.v c.requires.value) c.store.ensures in
    w.packed

pub returns-clause-ok : goal.returns-clause-ok
returns-clause-ok c =
    let size : length (cells_of c.args.v) ≡ c.size_of-size.result = length-value c.args.v ∙ ap scalar_size c.requires.kind ∙ sym c.size_of-size.ensures in
    let w = row_written c.self.inside c.args.self.now c.self.view_is c.self.invariant c.args.p c.size_of-size.result c.size_of-size.result c.in_ok-place.place c.in_ok-place.ensures c.index-block.result.now c.index-block.ensures (cells_of c.args.v) c.store.new.self size (given_cells (sizes_of c.args.self.now.blocks) c.args.v c.requires.value) c.store.ensures in
    stored c.args.self.now.blocks (blocks_over c.store.new.self c.self.inside.blocks.items) c.args.p c.args.kind c.args.v c.size_of-size.result c.in_ok-place.place c.size_of-size.ensures w.wrote

pub returns-clause-sizes : goal.returns-clause-sizes
returns-clause-sizes c =
    let size : length (cells_of c.args.v) ≡ c.size_of-size.result = length-value c.args.v ∙ ap scalar_size c.requires.kind ∙ sym c.size_of-size.ensures in
    let w = row_written c.self.inside c.args.self.now c.self.view_is c.self.invariant c.args.p c.size_of-size.result c.size_of-size.result c.in_ok-place.place c.in_ok-place.ensures c.index-block.result.now c.index-block.ensures (cells_of c.args.v) c.store.new.self size (given_cells (sizes_of c.args.self.now.blocks) c.args.v c.requires.value) c.store.ensures in
    w.wrote.kept.sizes

pub returns-clause-top : goal.returns-clause-top
returns-clause-top c =
    let size : length (cells_of c.args.v) ≡ c.size_of-size.result = length-value c.args.v ∙ ap scalar_size c.requires.kind ∙ sym c.size_of-size.ensures in
    let w = row_written c.self.inside c.args.self.now c.self.view_is c.self.invariant c.args.p c.size_of-size.result c.size_of-size.result c.in_ok-place.place c.in_ok-place.ensures c.index-block.result.now c.index-block.ensures (cells_of c.args.v) c.store.new.self size (given_cells (sizes_of c.args.self.now.blocks) c.args.v c.requires.value) c.store.ensures in
    w.top
