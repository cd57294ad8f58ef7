use Rattle.std.proofs.Common.{sym, ◌∙◌}
use Rattle.c_types.specs.CTypes.{Pointer}
use Rattle.c_types.specs.Table.{type_at}
use Rattle.c_rules.specs.Expressions as rules
use Rattle.c_rules.specs.Forms as forms
use Rattle.c_rules.specs.Typed.{pointer_of}
use Rattle.c_world.specs.Seen.{seen}
use Rattle.expression_rules.specs.Typed.{typed_of}
use Rattle.check_expressions.proofs.Giving.{kept}
use Rattle.check_expressions.proofs.unary.judge_address.Goals as goal

pub returns-clause-gives : goal.returns-clause-gives
returns-clause-gives c =
    kept (forms.done c.args.at (pointer_of (Pointer (type_at c.args.world.now.table.terms c.args.x.now.ty.0)) (forms.taken_address c.args.x.now.address)))
    (seen c.args.world.now) c.done_pointer.result (typed_of c.done_pointer.new.world.table.terms) (seen c.done_pointer.new.world)
    15 c.args.at (rules.has_address (typed_of c.args.world.now.table.terms c.args.x.now))
    (sym c.has_address.ensures ∙ c.in_ok-keep.ensures.ok)
    (rw (c.in_ok-ty.ensures.is, c.make.ensures.seen, c.taken.ensures) at c.done_pointer.ensures.gives)
