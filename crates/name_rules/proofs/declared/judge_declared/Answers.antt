use Rattle.std.proofs.Common.{◌≡◌, sym, ap, ◌∙◌, rules}
use Rattle.c_types.specs.Table.{type_at}
use Rattle.c_rules.specs.Declarators.{is_made}
use Rattle.c_rules.specs.Names.{may_be_named}
use Rattle.c_rules.specs.Unit.{name_or_none, sort_declared, type_declared}
use Rattle.c_world.specs.Seen.{seen}
use Rattle.name_rules.proofs.Declaring.{declared_ends, declared_goes}
use Rattle.name_rules.proofs.Made.{kept_declared}
use Rattle.name_rules.proofs.declared.judge_declared.Goals as goal

pub returns-in_err-keep-clause-gives : goal.returns-in_err-keep-clause-gives
returns-in_err-keep-clause-gives c = λ whole l b listed name place h.
    let d = c.args.declared.now in
    let kept : c.may_be_named-may_be.result ≡ may_be_named (seen c.args.world.now) (name_or_none l.name) (sort_declared d.what) (type_declared d.what (name_or_none l.name) b.type) (is_made b) d.completes
    = kept_declared _ _ c.args.built b _ _ d.name.now _ (sort_declared d.what) d.completes d.what h c.made_type.ensures c.sort_declared-sort.ensures c.may_be_named-may_be.ensures
    ∙ ap (λ n. may_be_named (seen c.args.world.now) n (sort_declared d.what) (type_declared d.what n b.type) (is_made b) d.completes) (sym name) in
    search rules

pub returns-in-Err-clause-gives : goal.returns-in-Err-clause-gives
returns-in-Err-clause-gives c = λ whole l b listed name place h.
    let d = c.args.declared.now in
    declared_ends whole d c.args.at l b _ listed name place
    (sym c.in_ok-keep.ensures.ok ∙ kept_declared _ _ c.args.built b _ _ d.name.now _ (sort_declared d.what) d.completes d.what h c.made_type.ensures c.sort_declared-sort.ensures c.may_be_named-may_be.ensures)
    _ _ c.in-Err.end _ _ (c.in-Err.ensures.gives b h)

pub returns-in-Ok-clause-gives : goal.returns-in-Ok-clause-gives
returns-in-Ok-clause-gives c = λ whole l b listed name place h.
    let d = c.args.declared.now in
    declared_goes whole d c.args.at l b _ listed name place
    (sym c.in_ok-keep.ensures.ok ∙ kept_declared _ _ c.args.built b _ _ d.name.now _ (sort_declared d.what) d.completes d.what h c.made_type.ensures c.sort_declared-sort.ensures c.may_be_named-may_be.ensures)
    (type_at c.args.world.now.table.terms c.in-Ok.ty.0) c.judge_known.result _ _ (c.in-Ok.ensures.gives b h) (c.judge_known.ensures.gives whole listed)
