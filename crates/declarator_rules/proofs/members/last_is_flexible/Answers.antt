use Rattle.std.proofs.Common.{◌∙◌, sym}
use Rattle.declarator_rules.proofs.Ending.{last_member}
use Rattle.declarator_rules.proofs.members.last_is_flexible.Goals as goal

pub returns-in-Some : goal.returns-in-Some
returns-in-Some c = c.is_flexible.ensures ∙ sym (last_member c.args.world.now.table.terms _ c.args.members.now c.in-Some.last.now c.in-Some.ensures.cases.0)
