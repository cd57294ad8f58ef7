use Rattle.std.proofs.Common.{map}
use Rattle.c_tree.specs.View.{view_external}
use Rattle.c_rules.specs.Unit as rules
use Rattle.body_rules.specs.Lists.{IsLeft}
use Rattle.body_rules.proofs.unit.first_main.Given as goal

abbrev pub invariant-loop-x : goal.invariant-loop-x
invariant-loop-x l = IsLeft (λ xs. rules.first_main (map view_external xs)) l.externals l.x-index
