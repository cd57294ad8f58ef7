use Rattle.std.proofs.Common.{map, refl}
use Rattle.c_tree.specs.View.{view_argument}
use Rattle.c_rules.specs.Walk as walk
use Rattle.part_rules.proofs.Steps.{each_ends}
use Rattle.part_rules.proofs.attributes.judge_arguments.Goals as goal

pub returns-in-Err : goal.returns-in-Err
returns-in-Err c = record {
  gives = each_ends (λ xs. walk.judge_arguments (map view_argument xs)) (λ x. walk.judge_argument (view_argument x)) (λ x xs. refl)
      c.args.arguments.now c.loop-argument.argument-index c.argument-item.result c.in-Err.end c.loop-argument-test.true c.argument-item.is c.loop-argument.invariant c.in-Err.ensures.gives;
}
