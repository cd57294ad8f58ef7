use Rattle.std.proofs.Common.{map, refl}
use Rattle.c_tree.specs.View.{view_entry}
use Rattle.c_rules.specs.Walk as walk
use Rattle.part_rules.proofs.Steps.{each_ends}
use Rattle.part_rules.proofs.attributes.judge_entries.Goals as goal

pub returns-in-Err : goal.returns-in-Err
returns-in-Err c = record {
  gives = each_ends (λ xs. walk.judge_entries (map view_entry xs)) (λ x. walk.judge_maybe_arguments (view_entry x).arguments) (λ x xs. refl)
      c.args.entries.now c.loop-entry.entry-index c.entry-item.result c.in-Err.end c.loop-entry-test.true c.entry-item.is c.loop-entry.invariant c.in-Err.ensures.gives;
}
