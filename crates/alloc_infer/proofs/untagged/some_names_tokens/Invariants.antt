use Rattle.std.specs.Prelude.{map}
use Rattle.std.specs.List.{list_any}
use Rattle.c_tree.specs.View.{view_argument}
use Rattle.body_rules.specs.Lists.{IsLeft}
use Rattle.alloc_infer.specs.Untagged as spec
use Rattle.alloc_infer.proofs.untagged.some_names_tokens.Given as goal

abbrev pub invariant-loop-argument : goal.invariant-loop-argument
invariant-loop-argument l = IsLeft (λ xs. list_any spec.names_tokens (map view_argument xs)) l.argument-items l.argument-index
