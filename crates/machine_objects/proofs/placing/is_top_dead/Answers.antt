use Rattle.std.proofs.Common.{arith}
use Rattle.machine_objects.proofs.Region.{top_low, top_dead}
use Rattle.machine_objects.proofs.placing.is_top_dead.Goals as goal

pub block-requires : goal.block-requires
block-requires g c = top_low _ c.args.region.now.items c.len-count.result c.index-spot.result.now (omega arith) c.if-count-eq0.false c.index-spot.ensures c.requires

pub returns : goal.returns
returns g c = λ n. top_dead (g.M.Memory.blocks c.args.memory.now) (g.M.Memory.starts c.args.memory.now) c.args.region.now.items c.len-count.result c.index-spot.result.now c.block.result (omega arith) c.if-count-eq0.false c.index-spot.ensures c.block.ensures.told n
