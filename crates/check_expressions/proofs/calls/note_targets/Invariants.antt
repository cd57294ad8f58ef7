use Rattle.std.proofs.Common.{◌≡◌, ◌-◌, length, drop}
use Rattle.c_types.specs.Pieces.{without}
use Rattle.c_types.specs.Plain.{plain, parameters_of}
use Rattle.c_types.specs.Table.{type_at}
use Rattle.c_world.specs.Seen.{seen}
use Rattle.expression_rules.specs.Arguments.{all_given, converted_all}
use Rattle.check_expressions.proofs.calls.note_targets.Given as goal

abbrev pub invariant-loop-argument : goal.invariant-loop-argument
invariant-loop-argument l = record {
  same : l.world.table ≡ l.fn.world.table;
  rest : converted_all (parameters_of (plain (type_at l.fn.world.table.terms l.function.0))) (all_given l.fn.world.table.terms l.arguments) (seen l.fn.world)
      ≡ converted_all (without l.place (parameters_of (plain (type_at l.fn.world.table.terms l.function.0)))) (all_given l.fn.world.table.terms (drop l.place l.arguments)) (seen l.world);
}

abbrev pub decreases-loop-argument : goal.decreases-loop-argument
decreases-loop-argument l = length l.arguments - l.place
