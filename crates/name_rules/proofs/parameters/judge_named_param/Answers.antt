use Rattle.std.proofs.Common.{◌≡◌, false, sym, ap, ◌∙◌, rules}
use Rattle.c_types.specs.Table.{Table, type_at}
use Rattle.c_rules.specs.Declarators.{is_made}
use Rattle.c_rules.specs.Names.{may_be_named}
use Rattle.c_rules.specs.Walk.{new_object}
use Rattle.c_rules.specs.declared.known.Sort.TheVariants as sort
use Rattle.c_world.specs.Seen.{seen}
use Rattle.name_rules.proofs.Made.{kept_object}
use Rattle.name_rules.proofs.Params.{named_ends, named_step}
use Rattle.name_rules.proofs.parameters.judge_named_param.Goals as goal

pub returns-in_err-keep-clause-gives : goal.returns-in_err-keep-clause-gives
returns-in_err-keep-clause-gives c = λ b h.
    let kept : c.may_be_named-may_be.result ≡ may_be_named (seen c.args.world.now) c.args.name.now (sort.Object 0 false) b.type (is_made b) false
    = kept_object _ _ c.args.built b _ _ c.args.name.now (sort.Object 0 false) false h c.made_type.ensures c.may_be_named-may_be.ensures in
    search rules

pub returns-in-Err-clause-gives : goal.returns-in-Err-clause-gives
returns-in-Err-clause-gives c = λ b h.
    let kept : c.may_be_named-may_be.result ≡ may_be_named (seen c.args.world.now) c.args.name.now (sort.Object 0 false) b.type (is_made b) false
    = kept_object _ _ c.args.built b _ _ c.args.name.now (sort.Object 0 false) false h c.made_type.ensures c.may_be_named-may_be.ensures in
    named_ends c.args.number c.args.at c.args.name_at c.args.name.now b _ (sym c.in_ok-keep.ensures.ok ∙ kept) _ _ c.in-Err.end _ _ (c.in-Err.ensures.gives b h)

pub returns-in_ok-new_object-in-Ok-clause-gives : goal.returns-in_ok-new_object-in-Ok-clause-gives
returns-in_ok-new_object-in-Ok-clause-gives c = λ b h.
    let kept : c.may_be_named-may_be.result ≡ may_be_named (seen c.args.world.now) c.args.name.now (sort.Object 0 false) b.type (is_made b) false
    = kept_object _ _ c.args.built b _ _ c.args.name.now (sort.Object 0 false) false h c.made_type.ensures c.may_be_named-may_be.ensures in
    named_step c.args.number c.args.at c.args.name_at c.args.name.now b _ (sym c.in_ok-keep.ensures.ok ∙ kept) _ _ _
    (ap (λ (t : Table). type_at t.terms c.in-Ok.ty.0) (c.in_ok-new_object-in-Ok.ensures.same ∙ c.note_type.ensures.same))
    (c.in_ok-new_object-in-Ok.ensures.seen
    ∙ ap (λ (t : Table). new_object c.args.number c.args.name_at c.args.name.now (type_at t.terms c.in-Ok.ty.0) false (seen c.note_type.new.self)) c.note_type.ensures.same
    ∙ ap (new_object c.args.number c.args.name_at c.args.name.now (type_at c.args.world.now.table.terms c.in-Ok.ty.0) false) c.note_type.ensures.seen)
    (c.in-Ok.ensures.gives b h)
