use Rattle.std.proofs.Common.{length, sym, ap, ◌∙◌}
use Rattle.c_types.specs.Plain.{plain}
use Rattle.c_types.specs.Table.{type_at}
use Rattle.c_rules.specs.Expressions as rules
use Rattle.c_rules.specs.Trials.{keep, ◌>>◌}
use Rattle.c_world.specs.Seen.{seen}
use Rattle.expression_rules.specs.Arguments.{all_given}
use Rattle.expression_rules.specs.Steps as steps
use Rattle.expression_rules.specs.Typed.{typed_of}
use Rattle.check_expressions.proofs.Args.{given_length}
use Rattle.check_expressions.proofs.Giving.{kept}
use Rattle.check_expressions.proofs.calls.called_as.Goals as goal

pub returns-clause-gives : goal.returns-clause-gives
returns-clause-gives c =
    let f = type_at c.args.world.now.table.terms c.args.called.pointer.0 in
    let t = plain (type_at c.args.world.now.table.terms c.args.called.function.0) in
    let xs = all_given c.args.world.now.table.terms c.args.arguments.now in
    let many = rules.can_be_called f (length xs) in
    let as_many = ap (rules.can_be_called f) (given_length c.args.world.now.table.terms c.args.arguments.now) in
    let m = steps.call_done c.args.at t xs in
    let read = typed_of c.call_done.new.world.table.terms in
    kept (◌>>◌ (keep 27 c.args.at many) m) (seen c.args.world.now) c.call_done.result read (seen c.call_done.new.world) 23 c.args.at c.args.called.fits c.in_ok-keep.ensures.ok
    (kept m (seen c.args.world.now) c.call_done.result read (seen c.call_done.new.world) 27 c.args.at many
    (as_many ∙ sym c.can_be_called.ensures ∙ c.in_ok-keep-2.ensures.ok)
    c.call_done.ensures.gives)
