use Rattle.std.proofs.Common.{ap}
use Rattle.c_types.specs.Table.{Table, type_at}
use Rattle.declarator_rules.specs.Layers.{laid_of}
use Rattle.declarator_rules.proofs.Growing.{layers_same}
use Rattle.declarator_rules.proofs.Steps.{type_ends, type_step}
use Rattle.declarator_rules.proofs.judging.judge_type.Goals as goal

pub returns-in-Ok-clause-gives : goal.returns-in-Ok-clause-gives
returns-in-Ok-clause-gives c =
    let l = c.args.laid.now in
    type_step c.args.at _ _ _ _ _ _ (laid_of c.args.world.now.table.terms l) _ c.in_ok-built.ensures.seen
    (ap (λ ls. record { name = l.name; name_at = l.name_at; layers = ls }) (layers_same c.args.world.now.table _ c.in_ok-built.ensures.extends l.layers c.requires.layers))
    (ap (λ (t : Table). type_at t.terms c.in-Ok.ty.0) c.note_nameless.ensures.same)
    c.note_nameless.ensures.seen
    (c.in-Ok.ensures.gives _ (rw c.as_slice.ensures at c.in_ok-built.ensures.is))

pub returns-in-Err-clause-gives : goal.returns-in-Err-clause-gives
returns-in-Err-clause-gives c =
    type_ends c.args.at _ _ _ _ _ (laid_of c.args.world.now.table.terms c.args.laid.now) c.in-Err.end _ _ c.in_ok-built.ensures.seen
    (c.in-Err.ensures.gives _ (rw c.as_slice.ensures at c.in_ok-built.ensures.is))
