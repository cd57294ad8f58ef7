use Rattle.std.specs.Prelude.{◌≡◌, drop, map}
use Rattle.c_tree.specs.View.{view_external}
use Rattle.c_tree.specs.Bare.{bare_external}
use Rattle.call_rewriter.specs.Mentions.{unit_mentions}
use Rattle.call_rewriter.specs.Survey.{behind}
use Rattle.call_rewriter.proofs.survey.survey_of.Given as goal

abbrev pub invariant-loop-x : goal.invariant-loop-x
invariant-loop-x l =
    behind l.s (unit_mentions (map bare_external (map view_external (drop l.x-index l.x-items))))
    ≡ behind l.initial.s (unit_mentions (map bare_external (map view_external l.x-items)))
