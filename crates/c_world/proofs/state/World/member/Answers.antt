use Rattle.std.proofs.Common.{sym}
use Rattle.c_types.specs.Table.{type_at}
use Rattle.c_world.proofs.Numbering.{member_missing, member_found}
use Rattle.c_world.proofs.state.World.member.Goals as goal

pub returns-in-None-clause-is : goal.returns-in-None-clause-is
returns-in-None-clause-is c = member_missing c.args.self.now (type_at c.args.self.now.table.terms c.args.id.0) c.args.name.now (sym c.in-None.ensures.is)

pub returns-in-Some-clause-is : goal.returns-in-Some-clause-is
returns-in-Some-clause-is c = rw c.member_at.ensures.is (member_found c.args.self.now (type_at c.args.self.now.table.terms c.args.id.0) c.args.name.now c.in-Some.place (sym c.in-Some.ensures.is))
