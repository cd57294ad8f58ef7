use Rattle.std.proofs.Common.{◌≡◌, drop, map}
use Rattle.c_tree.specs.View.{view_argument}
use Rattle.c_rules.specs.Trials.{Trials, verdict}
use Rattle.c_rules.specs.Walk as walk
use Rattle.c_rules.specs.World.{World}
use Rattle.part_rules.proofs.attributes.judge_arguments.Given as goal

abbrev pub invariant-loop-argument : goal.invariant-loop-argument
invariant-loop-argument l =
    (w : World) (next : Unit {0} → World → Trials)
    → verdict (walk.judge_arguments (map view_argument l.arguments) next w) ≡ verdict (walk.judge_arguments (map view_argument (drop l.argument-index l.arguments)) next w)
