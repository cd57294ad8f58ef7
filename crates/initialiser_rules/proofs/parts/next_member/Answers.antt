use Rattle.std.proofs.Common.{List, length, subst}
use Rattle.c_types.specs.Table.{MembersBelow}
use Rattle.c_types.specs.declared.records.Member.{Member}
use Rattle.initialiser_rules.proofs.Pieces.{none_first}
use Rattle.initialiser_rules.proofs.parts.next_member.Goals as goal

pub member_step-requires : goal.member_step-requires
member_step-requires c = subst (λ (ms : List Member). MembersBelow (length c.args.world.now.table.terms) ms) c.in-Some.ensures.cases.0 c.requires

pub returns-in-None-clause-is : goal.returns-in-None-clause-is
returns-in-None-clause-is c = none_first c.args.world.now.table.terms c.args.is_alone c.args.members.now c.in-None.ensures.cases
