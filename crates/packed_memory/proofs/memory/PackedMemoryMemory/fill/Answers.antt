use Rattle.std.proofs.Common.{true, replicate, arith}
use Rattle.std.proofs.lemmas.List.{length-replicate}
use Rattle.c_core.specs.declared.values.Cell.TheVariants.{Byte}
use Rattle.block_memory.specs.Shape.{sizes_of}
use Rattle.block_memory.proofs.Keeping.{given_replicate}
use Rattle.block_memory.proofs.Steps.{filled}
use Rattle.packed_memory.specs.Form.{blocks_over}
use Rattle.packed_memory.proofs.RowSteps.{room_there, row_written}
use Rattle.packed_memory.proofs.memory.PackedMemoryMemory.fill.Goals as goal

pub overflow_add-block : goal.overflow_add-block
overflow_add-block c =
    let room = room_there c.self.inside c.args.self.now c.self.view_is c.self.invariant c.args.to c.args.n 1 true c.in_ok-place.place c.in_ok-place.ensures c.index-block.result.now c.index-block.ensures in
    omega (arith, room.0, room.1)

pub fill-requires : goal.fill-requires
fill-requires c =
    let room = room_there c.self.inside c.args.self.now c.self.view_is c.self.invariant c.args.to c.args.n 1 true c.in_ok-place.place c.in_ok-place.ensures c.index-block.result.now c.index-block.ensures in
    omega (arith, room.0)

pub invariant_of-self : goal.invariant_of-self
invariant_of-self c =
    let w = row_written c.self.inside c.args.self.now c.self.view_is c.self.invariant c.args.to c.args.n 1 c.in_ok-place.place c.in_ok-place.ensures c.index-block.result.now c.index-block.ensures (replicate c.args.n (Byte c.args.byte)) c.fill.new.self (length-replicate c.args.n (Byte c.args.byte)) (given_replicate (sizes_of c.args.self.now.blocks) c.args.n (Byte c.args.byte) tt) c.fill.ensures in
    w.packed

pub returns-clause-ok : goal.returns-clause-ok
returns-clause-ok c =
    let w = row_written c.self.inside c.args.self.now c.self.view_is c.self.invariant c.args.to c.args.n 1 c.in_ok-place.place c.in_ok-place.ensures c.index-block.result.now c.index-block.ensures (replicate c.args.n (Byte c.args.byte)) c.fill.new.self (length-replicate c.args.n (Byte c.args.byte)) (given_replicate (sizes_of c.args.self.now.blocks) c.args.n (Byte c.args.byte) tt) c.fill.ensures in
    filled c.args.self.now.blocks (blocks_over c.fill.new.self c.self.inside.blocks.items) c.args.to c.args.byte c.args.n c.in_ok-place.place w.wrote

pub returns-clause-sizes : goal.returns-clause-sizes
returns-clause-sizes c =
    let w = row_written c.self.inside c.args.self.now c.self.view_is c.self.invariant c.args.to c.args.n 1 c.in_ok-place.place c.in_ok-place.ensures c.index-block.result.now c.index-block.ensures (replicate c.args.n (Byte c.args.byte)) c.fill.new.self (length-replicate c.args.n (Byte c.args.byte)) (given_replicate (sizes_of c.args.self.now.blocks) c.args.n (Byte c.args.byte) tt) c.fill.ensures in
    w.wrote.kept.sizes

pub returns-clause-top : goal.returns-clause-top
returns-clause-top c =
    let w = row_written c.self.inside c.args.self.now c.self.view_is c.self.invariant c.args.to c.args.n 1 c.in_ok-place.place c.in_ok-place.ensures c.index-block.result.now c.index-block.ensures (replicate c.args.n (Byte c.args.byte)) c.fill.new.self (length-replicate c.args.n (Byte c.args.byte)) (given_replicate (sizes_of c.args.self.now.blocks) c.args.n (Byte c.args.byte) tt) c.fill.ensures in
    w.top
