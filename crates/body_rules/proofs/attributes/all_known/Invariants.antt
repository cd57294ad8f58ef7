use Rattle.std.proofs.Common.{map}
use Rattle.c_tree.specs.View.{view_entry}
use Rattle.c_rules.specs.Attributes as rules
use Rattle.body_rules.specs.Lists.{IsLeft}
use Rattle.body_rules.proofs.attributes.all_known.Given as goal

abbrev pub invariant-loop-entry : goal.invariant-loop-entry
invariant-loop-entry l = IsLeft (λ es. rules.all_known (map view_entry es)) l.entries l.entry-index
