use Rattle.std.proofs.Common.{map}
use Rattle.c_tree.specs.View.{view_keyword}
use Rattle.c_rules.specs.Specifiers as rules
use Rattle.body_rules.specs.Lists.{IsLeft}
use Rattle.specifier_rules.proofs.words.has_static.Given as goal

abbrev pub invariant-loop-word : goal.invariant-loop-word
invariant-loop-word l = IsLeft (λ ws. rules.has rules.is_static (map view_keyword ws)) l.words l.word-index
