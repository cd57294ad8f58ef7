use Rattle.std.proofs.Common.{ap}
use Rattle.c_types.specs.Table.{Table, type_at}
use Rattle.declarator_rules.specs.Layers.{laid_of}
use Rattle.name_rules.proofs.Params.{nameless_ends, nameless_step}
use Rattle.name_rules.proofs.parameters.judge_nameless_param.Goals as goal

pub returns-in-Err-clause-gives : goal.returns-in-Err-clause-gives
returns-in-Err-clause-gives c = λ b h.
    nameless_ends c.args.at _ _ _ b (laid_of c.args.world.now.table.terms c.args.laid.now) c.in-Err.end _ _ (c.in-Err.ensures.gives b h)

pub returns-in-Ok-clause-gives : goal.returns-in-Ok-clause-gives
returns-in-Ok-clause-gives c = λ b h.
    nameless_step c.args.at _ _ b _ _ (laid_of c.args.world.now.table.terms c.args.laid.now)
    (ap (λ (t : Table). type_at t.terms c.in-Ok.ty.0) c.note_nameless.ensures.same) c.note_nameless.ensures.seen (c.in-Ok.ensures.gives b h)
