use Rattle.machine_state.specs.State.{spots_of}
use Rattle.machine_objects.proofs.Region.{popped, pop_spots}
use Rattle.machine_objects.proofs.placing.drop_dead.Goals as goal

pub dead-preserved : goal.dead-preserved
dead-preserved g c =
    let p = popped (g.M.Memory.blocks c.args.memory.now) (g.M.Memory.starts c.args.memory.now) (spots_of c.dead.region.items) (spots_of c.pop.new.self.items) c.pop.result
    (c.is_top_dead.ensures c.dead-test.true) (pop_spots c.dead.region.items c.pop.new.self.items c.pop.result c.pop.ensures.items) in
    (p.0 c.dead.invariant.0, λ top all log s. p.1 top all log (c.dead.invariant.1 top all log s))
