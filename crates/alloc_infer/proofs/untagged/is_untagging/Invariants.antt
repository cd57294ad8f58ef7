use Rattle.std.specs.Prelude.{map}
use Rattle.std.specs.List.{list_any}
use Rattle.c_tree.specs.View.{view_entry}
use Rattle.body_rules.specs.Lists.{IsLeft}
use Rattle.alloc_infer.specs.Untagged as spec
use Rattle.alloc_infer.proofs.untagged.is_untagging.Given as goal

abbrev pub invariant-loop-entry : goal.invariant-loop-entry
invariant-loop-entry l = IsLeft (λ xs. list_any spec.untags (map view_entry xs)) l.entry-items l.entry-index
