use Rattle.std.proofs.Common.{◌∙◌}
use Rattle.machine_objects.proofs.Filling.{next_there, next_filled}
use Rattle.machine_objects.proofs.fixed.fill_all.Goals as goal

pub fill_object-requires-clause-there : goal.fill_object-requires-clause-there
fill_object-requires-clause-there g c = next_there c.args.fixed.now (g.M.Memory.blocks c.loop-at.memory) c.loop-at.at c.object_at.result.now c.loop-at-test.true c.object_at.ensures c.loop-at.invariant.filled

pub loop-at-preserved : goal.loop-at-preserved
loop-at-preserved g c =
    record {
      filled = next_filled c.args.fixed.now (g.M.Memory.blocks c.loop-at.memory) (g.M.Memory.blocks c.fill_object.new.memory) c.loop-at.at c.object_at.result.now c.loop-at-test.true c.object_at.ensures c.loop-at.invariant.filled c.in_ok-fill_object.ensures.filled;
      sound = c.in_ok-fill_object.ensures.sound;
      sizes = c.fill_object.ensures.sizes ∙ c.loop-at.invariant.sizes;
    }
