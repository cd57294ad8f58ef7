use Rattle.std.proofs.Common.{◌-◌, arith}
use Rattle.c_types.specs.Table.{type_at}
use Rattle.initialiser_rules.proofs.Pieces.{none_alike, one_alike}
use Rattle.initialiser_rules.proofs.parts.next_alike.Goals as goal

pub returns-then-count-eq0-clause-is : goal.returns-then-count-eq0-clause-is
returns-then-count-eq0-clause-is c = λ ts. none_alike c.args.count (type_at ts c.args.ty.0) c.if-count-eq0.true

pub returns-clause-is : goal.returns-clause-is
returns-clause-is c = λ ts. one_alike c.args.count (c.args.count - 1) (type_at ts c.args.ty.0) (omega arith)
