use Rattle.std.proofs.Common.{ap}
use Rattle.c_types.specs.Table.{Table, type_at}
use Rattle.declarator_rules.specs.Layers.{laid_of}
use Rattle.part_rules.proofs.Steps.{member_ends, member_step}
use Rattle.part_rules.proofs.members.judge_member.Goals as goal

pub returns-in-Ok-clause-gives : goal.returns-in-Ok-clause-gives
returns-in-Ok-clause-gives c =
    let l = c.args.laid.now in
    member_step c.args.at _ _ _ _ (type_at c.build.new.world.table.terms c.in-Ok.ty.0) _ (laid_of c.args.world.now.table.terms l) c.in_ok-built.ensures.seen
    (cc (c.in_ok-name.ensures, ap (λ (t : Table). type_at t.terms c.in-Ok.ty.0) c.note_type.ensures.same))
    c.note_type.ensures.seen
    (c.in-Ok.ensures.gives _ (c.closed.ensures.is _ (rw c.as_slice.ensures at c.in_ok-built.ensures.is)))

pub returns-in-Err-clause-gives : goal.returns-in-Err-clause-gives
returns-in-Err-clause-gives c =
    member_ends c.args.at _ _ _ _ _ (laid_of c.args.world.now.table.terms c.args.laid.now) c.in-Err.end _ _ c.in_ok-built.ensures.seen
    (c.in-Err.ensures.gives _ (c.closed.ensures.is _ (rw c.as_slice.ensures at c.in_ok-built.ensures.is)))
