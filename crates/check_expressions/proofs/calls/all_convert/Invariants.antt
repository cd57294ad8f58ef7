use Rattle.std.proofs.Common.{◌≡◌, ◌-◌, length, drop}
use Rattle.c_types.specs.Pieces.{without}
use Rattle.c_types.specs.Plain.{plain, parameters_of}
use Rattle.c_types.specs.Table.{type_at}
use Rattle.c_rules.specs.Expressions as rules
use Rattle.c_rules.specs.Forms.{all_typed}
use Rattle.c_world.specs.Extends.{Extends}
use Rattle.c_world.specs.Seen.{seen}
use Rattle.expression_rules.specs.Arguments.{all_given}
use Rattle.check_expressions.proofs.calls.all_convert.Given as goal

abbrev pub invariant-loop-argument : goal.invariant-loop-argument
invariant-loop-argument l = record {
  seen : seen l.world ≡ seen l.fn.world;
  extends : Extends l.fn.world.table l.world.table;
  rest : rules.all_convert (parameters_of (plain (type_at l.fn.world.table.terms l.function.0))) (all_typed (all_given l.fn.world.table.terms l.arguments))
      ≡ rules.all_convert (without l.place (parameters_of (plain (type_at l.fn.world.table.terms l.function.0)))) (all_typed (all_given l.fn.world.table.terms (drop l.place l.arguments)));
}

abbrev pub decreases-loop-argument : goal.decreases-loop-argument
decreases-loop-argument l = length l.arguments - l.place
