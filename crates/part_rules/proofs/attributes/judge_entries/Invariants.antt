use Rattle.std.proofs.Common.{◌≡◌, drop, map}
use Rattle.c_tree.specs.View.{view_entry}
use Rattle.c_rules.specs.Trials.{Trials, verdict}
use Rattle.c_rules.specs.Walk as walk
use Rattle.c_rules.specs.World.{World}
use Rattle.part_rules.proofs.attributes.judge_entries.Given as goal

abbrev pub invariant-loop-entry : goal.invariant-loop-entry
invariant-loop-entry l =
    (w : World) (next : Unit {0} → World → Trials)
    → verdict (walk.judge_entries (map view_entry l.entries) next w) ≡ verdict (walk.judge_entries (map view_entry (drop l.entry-index l.entries)) next w)
