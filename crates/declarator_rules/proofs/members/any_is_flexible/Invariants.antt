use Rattle.std.proofs.Common.{map}
use Rattle.c_types.specs.Table.{member_of}
use Rattle.body_rules.specs.Lists.{IsLeft}
use Rattle.declarator_rules.specs.Members.{any_is_flexible}
use Rattle.declarator_rules.proofs.members.any_is_flexible.Given as goal

abbrev pub invariant-loop-member : goal.invariant-loop-member
invariant-loop-member l = IsLeft (λ ms. any_is_flexible (map (member_of l.world.table.terms) ms)) l.members l.member-index
