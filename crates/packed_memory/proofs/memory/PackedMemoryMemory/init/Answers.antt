use Rattle.std.proofs.Common.{arith}
use Rattle.packed_memory.proofs.RowSteps.{cell_word, cell_room, cell_written}
use Rattle.packed_memory.proofs.memory.PackedMemoryMemory.init.Goals as goal

pub overflow_add-block : goal.overflow_add-block
overflow_add-block c =
    let room = cell_room c.self.inside c.args.self.now c.self.view_is c.self.invariant c.args.block c.requires.live c.index-block.result.now c.index-block.ensures c.args.offset c.requires.inside in
    omega (arith, room.0, room.1)

pub set-requires-clause-room : goal.set-requires-clause-room
set-requires-clause-room c =
    let room = cell_room c.self.inside c.args.self.now c.self.view_is c.self.invariant c.args.block c.requires.live c.index-block.result.now c.index-block.ensures c.args.offset c.requires.inside in
    omega (arith, room.0)

pub set-requires-clause-small : goal.set-requires-clause-small
set-requires-clause-small c =
    cell_word c.self.inside c.args.self.now c.self.view_is c.self.invariant c.args.c c.requires.cell

pub invariant_of-self : goal.invariant_of-self
invariant_of-self c =
    let w = cell_written c.self.inside c.args.self.now c.self.view_is c.self.invariant c.args.block c.requires.live c.index-block.result.now c.index-block.ensures c.args.offset c.requires.inside c.args.c c.set.new.self c.requires.cell c.set.ensures in
    w.packed

pub returns-clause-written : goal.returns-clause-written
returns-clause-written c =
    let w = cell_written c.self.inside c.args.self.now c.self.view_is c.self.invariant c.args.block c.requires.live c.index-block.result.now c.index-block.ensures c.args.offset c.requires.inside c.args.c c.set.new.self c.requires.cell c.set.ensures in
    w.written

pub returns-clause-sizes : goal.returns-clause-sizes
returns-clause-sizes c =
    let w = cell_written c.self.inside c.args.self.now c.self.view_is c.self.invariant c.args.block c.requires.live c.index-block.result.now c.index-block.ensures c.args.offset c.requires.inside c.args.c c.set.new.self c.requires.cell c.set.ensures in
    w.sizes

pub returns-clause-top : goal.returns-clause-top
returns-clause-top c =
    let w = cell_written c.self.inside c.args.self.now c.self.view_is c.self.invariant c.args.block c.requires.live c.index-block.result.now c.index-block.ensures c.args.offset c.requires.inside c.args.c c.set.new.self c.requires.cell c.set.ensures in
    w.top
