use Rattle.std.proofs.Common.{drop}
use Rattle.c_types.specs.Table.{member_types}
use Rattle.c_world.specs.Seen.{seen}
use Rattle.part_rules.proofs.Measuring.{IsMeasured}
use Rattle.part_rules.proofs.sizes.is_small.Given as goal

abbrev pub invariant-loop-member : goal.invariant-loop-member
invariant-loop-member l =
    IsMeasured (seen l.world).records.layouts l.is_union (member_types l.world.table.terms l.members) (member_types l.world.table.terms (drop l.member-index l.members)) l.end l.align
