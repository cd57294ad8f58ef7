use Rattle.std.proofs.Common.{◌≡◌}
use Rattle.expression_rules.specs.Arguments.{all_given}
use Rattle.check_expressions.proofs.Args.{given_same}
use Rattle.check_expressions.proofs.calls.judge_call.Goals as goal

-- the arguments mean the same where the called type is made
pub returns-clause-gives : goal.returns-clause-gives
returns-clause-gives c =
    let same : all_given c.find_called.new.world.table.terms c.args.arguments.now ≡ all_given c.args.world.now.table.terms c.args.arguments.now
    = given_same c.args.world.now.table c.find_called.new.world.table c.args.arguments.now c.find_called.ensures.extends c.requires.arguments in
    let e = c.in_ok-called.ensures in
    rw (e.pointer, e.function, e.fits, e.seen, same) at c.called_as.ensures.gives
