use Rattle.c_types.specs.Table.{type_at}
use Rattle.c_rules.specs.Forms as forms
use Rattle.c_rules.specs.Typed.{value_of}
use Rattle.c_rules.specs.World.{note_target}
use Rattle.c_world.specs.Seen.{seen}
use Rattle.expression_rules.specs.Typed.{typed_of}
use Rattle.check_expressions.proofs.Giving.{changed}
use Rattle.check_expressions.proofs.assignment.set_done.Goals as goal

pub returns-clause-gives : goal.returns-clause-gives
returns-clause-gives c =
    changed (forms.done c.args.at (value_of (forms.assigned_type (type_at c.args.world.now.table.terms c.args.ty.0))))
    (seen c.args.world.now) (typed_of c.done_value.new.world.table.terms) (seen c.done_value.new.world) c.done_value.result
    (note_target c.args.y_at.id (type_at c.args.world.now.table.terms c.args.to.0))
    (rw (c.in_ok-ty.ensures.is, c.assigned_type.ensures.seen, c.note_target.ensures.seen, c.note_target.ensures.same) at c.done_value.ensures.gives)
