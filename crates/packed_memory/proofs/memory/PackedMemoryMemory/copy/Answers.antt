use Rattle.std.proofs.Common.{true, false, sym, ◌∙◌, arith}
use Rattle.block_memory.proofs.Reaching.{reach_ok}
use Rattle.block_memory.proofs.Steps.{copied, copy_over}
use Rattle.packed_memory.specs.Form.{blocks_over}
use Rattle.packed_memory.proofs.RowSteps.{reach, room_there, row_copied}
use Rattle.packed_memory.proofs.memory.PackedMemoryMemory.copy.Goals as goal

pub overflow_add-start : goal.overflow_add-start
overflow_add-start c =
    let room = room_there c.self.inside c.args.self.now c.self.view_is c.self.invariant c.args.to c.args.n 1 true c.in_ok-target.target c.in_ok-target.ensures c.index-block.result.now c.index-block.ensures in
    omega (arith, room.0, room.1)

pub overflow_add-other : goal.overflow_add-other
overflow_add-other c =
    let room = room_there c.self.inside c.args.self.now c.self.view_is c.self.invariant c.args.from c.args.n 1 false c.in_ok-source.source c.in_ok-source.ensures c.index-other.result.now c.index-other.ensures in
    omega (arith, room.0, room.1)

pub copy-requires-clause-to : goal.copy-requires-clause-to
copy-requires-clause-to c =
    let room = room_there c.self.inside c.args.self.now c.self.view_is c.self.invariant c.args.to c.args.n 1 true c.in_ok-target.target c.in_ok-target.ensures c.index-block.result.now c.index-block.ensures in
    omega (arith, room.0)

pub copy-requires-clause-from : goal.copy-requires-clause-from
copy-requires-clause-from c =
    let room = room_there c.self.inside c.args.self.now c.self.view_is c.self.invariant c.args.from c.args.n 1 false c.in_ok-source.source c.in_ok-source.ensures c.index-other.result.now c.index-other.ensures in
    omega (arith, room.0)

pub invariant_of-self : goal.invariant_of-self
invariant_of-self c =
    let w = row_copied c.self.inside c.args.self.now c.self.view_is c.self.invariant c.args.to c.args.from c.args.n c.in_ok-target.target c.in_ok-source.source c.in_ok-target.ensures c.in_ok-source.ensures c.index-block.result.now c.index-block.ensures c.index-other.result.now c.index-other.ensures c.copy.new.self c.copy.ensures in
    w.packed

pub returns-then-clashes-clause-fault : goal.returns-then-clashes-clause-fault
returns-then-clashes-clause-fault c =
    let bs = c.args.self.now.blocks in
    let t = reach_ok bs c.args.to c.args.n 1 true c.in_ok-target.target (sym c.in_ok-target.ensures) in
    let f = reach_ok bs c.args.from c.args.n 1 false c.in_ok-source.source (sym c.in_ok-source.ensures) in
    copy_over bs c.in_ok-target.target c.args.to c.args.from c.args.n c.args.may_overlap c.in_ok-source.source t f (sym c.clashes.ensures ∙ c.if-clashes.true)

pub returns-clause-ok : goal.returns-clause-ok
returns-clause-ok c =
    let w = row_copied c.self.inside c.args.self.now c.self.view_is c.self.invariant c.args.to c.args.from c.args.n c.in_ok-target.target c.in_ok-source.source c.in_ok-target.ensures c.in_ok-source.ensures c.index-block.result.now c.index-block.ensures c.index-other.result.now c.index-other.ensures c.copy.new.self c.copy.ensures in
    let r = reach c.self.inside c.args.self.now c.self.view_is c.self.invariant c.args.from c.args.n 1 false c.in_ok-source.source c.in_ok-source.ensures in
    copied c.args.self.now.blocks (blocks_over c.copy.new.self c.self.inside.blocks.items) c.args.to c.args.from c.args.n c.args.may_overlap c.in_ok-target.target c.in_ok-source.source r (sym c.clashes.ensures ∙ c.if-clashes.false) w.wrote

pub returns-clause-sizes : goal.returns-clause-sizes
returns-clause-sizes c =
    let w = row_copied c.self.inside c.args.self.now c.self.view_is c.self.invariant c.args.to c.args.from c.args.n c.in_ok-target.target c.in_ok-source.source c.in_ok-target.ensures c.in_ok-source.ensures c.index-block.result.now c.index-block.ensures c.index-other.result.now c.index-other.ensures c.copy.new.self c.copy.ensures in
    w.wrote.kept.sizes

pub returns-clause-top : goal.returns-clause-top
returns-clause-top c =
    let w = row_copied c.self.inside c.args.self.now c.self.view_is c.self.invariant c.args.to c.args.from c.args.n c.in_ok-target.target c.in_ok-source.source c.in_ok-target.ensures c.in_ok-source.ensures c.index-block.result.now c.index-block.ensures c.index-other.result.now c.index-other.ensures c.copy.new.self c.copy.ensures in
    w.top
