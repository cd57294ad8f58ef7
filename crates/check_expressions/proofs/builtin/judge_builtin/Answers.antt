use Rattle.num_ops.specs.declared.kinds.IntKind.TheVariants as k
use Rattle.c_types.specs.CTypes.{Int}
use Rattle.c_rules.specs.Forms as forms
use Rattle.c_rules.specs.Trials.{give, keep, ◌>>◌}
use Rattle.c_rules.specs.Typed.{Typed, value_of}
use Rattle.c_world.specs.Seen.{seen}
use Rattle.expression_rules.specs.Steps as steps
use Rattle.expression_rules.specs.Typed.{typed_of}
use Rattle.check_expressions.proofs.Giving.{failed}
use Rattle.check_expressions.proofs.builtin.judge_builtin.Goals as goal

pub returns-in-Err-clause-gives : goal.returns-in-Err-clause-gives
returns-in-Err-clause-gives c =
    failed (forms.done c.args.at (value_of (Int k.ULong))) (seen c.args.world.now) (typed_of c.done_int.new.world.table.terms) (seen c.done_int.new.world)
    (λ (x : Typed). ◌>>◌ (keep 36 c.args.at (steps.is_unfixed c.args.fixed c.args.has_body)) (give x))
    c.in-Err.end (typed_of c.done_int.new.world.table.terms) (seen c.done_int.new.world)
    (rw (c.varies.ensures, c.in-Err.is) at c.done_int.ensures.gives)
