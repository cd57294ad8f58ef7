use Rattle.packed_memory.proofs.RowSteps.{killed_are, killed_keeps, killed_inside, killed_clear, killed_small, killed_starts}
use Rattle.packed_memory.proofs.memory.PackedMemoryMemory.kill.Goals as goal

pub invariant_of-self : goal.invariant_of-self
invariant_of-self c =
    record { small = killed_small c.self.inside c.args.self.now c.self.view_is c.self.invariant c.args.block c.requires c.index_mut-block.result.now c.index_mut-block.ensures.value; inside = killed_inside c.self.inside c.args.self.now c.self.view_is c.self.invariant c.args.block c.requires c.index_mut-block.result.now c.index_mut-block.ensures.value; clear = killed_clear c.self.inside c.args.self.now c.self.view_is c.self.invariant c.args.block c.requires c.index_mut-block.result.now c.index_mut-block.ensures.value; kept = (killed_keeps c.self.inside c.args.self.now c.self.view_is c.self.invariant c.args.block c.requires c.index_mut-block.result.now c.index_mut-block.ensures.value).kept }

pub returns-clause-killed : goal.returns-clause-killed
returns-clause-killed c =
    killed_are c.self.inside c.args.self.now c.self.view_is c.self.invariant c.args.block c.requires c.index_mut-block.result.now c.index_mut-block.ensures.value

pub returns-clause-sizes : goal.returns-clause-sizes
returns-clause-sizes c =
    (killed_keeps c.self.inside c.args.self.now c.self.view_is c.self.invariant c.args.block c.requires c.index_mut-block.result.now c.index_mut-block.ensures.value).sizes

pub returns-clause-starts : goal.returns-clause-starts
returns-clause-starts c =
    killed_starts c.self.inside c.args.self.now c.self.view_is c.self.invariant c.args.block c.requires c.index_mut-block.result.now c.index_mut-block.ensures.value
