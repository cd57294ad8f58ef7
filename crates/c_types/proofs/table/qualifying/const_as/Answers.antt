use Rattle.std.proofs.Common.{refl}
use Rattle.c_types.proofs.Qualifying.{fact_raised}
use Rattle.c_types.proofs.table.qualifying.const_as.Goals as goal

pub returns : goal.returns
returns c = λ ls q t u a e i j. fact_raised ls q t u c.args.fact c.args.elements _ a e i j refl
