use Rattle.std.proofs.Common.{arith}
use Rattle.machine_objects.proofs.Region.{top_end, no_end}
use Rattle.machine_objects.proofs.placing.end_of.Goals as goal

pub returns-then-count-eq0 : goal.returns-then-count-eq0
returns-then-count-eq0 c = no_end c.args.region.now.items (omega arith)

pub returns : goal.returns
returns c = top_end c.args.region.now.items c.len-count.result c.index.result.now (omega arith) c.if-count-eq0.false c.index.ensures
