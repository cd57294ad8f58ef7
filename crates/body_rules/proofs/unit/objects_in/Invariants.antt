use Rattle.std.proofs.Common.{map}
use Rattle.c_tree.specs.View.{view_external}
use Rattle.c_rules.specs.Unit as rules
use Rattle.body_rules.specs.Lists.{IsGathered}
use Rattle.body_rules.proofs.unit.objects_in.Given as goal

abbrev pub invariant-loop-x : goal.invariant-loop-x
invariant-loop-x l = IsGathered (λ xs. rules.objects_in (map view_external xs)) l.names l.externals l.x-index
