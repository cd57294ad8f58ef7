use Rattle.std.proofs.Common.{◌≡◌, map, Err, ap, ◌∙◌, subst}
use Rattle.c_tree.specs.View.{view_entry}
use Rattle.c_rules.specs.Attributes.{all_known}
use Rattle.c_rules.specs.Trials.{Trials, keep, verdict}
use Rattle.c_rules.specs.Walk.{judge_entries}
use Rattle.c_rules.specs.World.{World}
use Rattle.c_world.specs.Seen.{Gives}
use Rattle.part_rules.proofs.Steps.{fails_first, goes_on, keeps}
use Rattle.part_rules.proofs.attributes.judge_attribute.Goals as goal

pub returns-in-Err : goal.returns-in-Err
returns-in-Err c = record {
  gives = λ w.
      let a = c.args.attribute.now in
      fails_first (judge_entries (map view_entry a.entries)) (keep 9 a.at (all_known (map view_entry a.entries))) w w w c.in-Err.end (λ _. tt) (λ _. tt) (subst (λ xs. Gives {B = Unit {0}} (judge_entries (map view_entry xs)) w (Err c.in-Err.end) (λ _. tt) w) c.as_slice.ensures (c.in-Err.ensures.gives w));
}

pub returns-in-Ok : goal.returns-in-Ok
returns-in-Ok c = record {
  gives = λ w.
      let a = c.args.attribute.now in
      goes_on (judge_entries (map view_entry a.entries)) (keep 9 a.at (all_known (map view_entry a.entries))) tt w w w c.keep.result (λ _. tt) (subst (λ xs. (next : Unit {0} → World → Trials) → verdict (judge_entries (map view_entry xs) next w) ≡ verdict (next tt w)) c.as_slice.ensures (c.in-Ok.ensures.gives w))
      (keeps 9 a.at _ c.all_known.result c.keep.result w (c.all_known.ensures ∙ ap (λ xs. all_known (map view_entry xs)) c.as_slice-in-Ok.ensures) c.keep.ensures.ok c.keep.ensures.err);
}
