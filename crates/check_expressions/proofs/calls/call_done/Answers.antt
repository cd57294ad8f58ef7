use Rattle.c_types.specs.Plain.{plain, parameters_of, result_of}
use Rattle.c_types.specs.Table.{type_at}
use Rattle.c_rules.specs.Forms as forms
use Rattle.c_rules.specs.Typed.{value_of}
use Rattle.c_world.specs.Seen.{seen}
use Rattle.expression_rules.specs.Arguments.{all_given}
use Rattle.expression_rules.specs.Typed.{typed_of}
use Rattle.check_expressions.proofs.Giving.{converted}
use Rattle.check_expressions.proofs.calls.call_done.Goals as goal

-- the arguments are converted, and then the type of the call is noted
pub returns-clause-gives : goal.returns-clause-gives
returns-clause-gives c =
    converted (forms.done c.args.at (value_of (result_of (plain (type_at c.args.world.now.table.terms c.args.function.0)))))
    (seen c.args.world.now) (typed_of c.done_value.new.world.table.terms) (seen c.done_value.new.world) c.done_value.result
    (parameters_of (plain (type_at c.args.world.now.table.terms c.args.function.0))) (all_given c.args.world.now.table.terms c.args.arguments.now)
    (rw (c.result_of-ty.ensures.is, c.note_targets.ensures.seen, c.note_targets.ensures.same) at c.done_value.ensures.gives)
