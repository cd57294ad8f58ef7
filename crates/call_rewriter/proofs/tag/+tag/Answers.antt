use Rattle.std.proofs.Common.{◌∙◌, Some, ap, refl, sym}
use Rattle.c_tree.specs.Tree as u
use Rattle.c_tree.specs.Marked as m
use Rattle.c_tree.specs.Bare.{bare, bare_body, bare_declarator, bare_declarators, bare_enumerators, bare_exprs, bare_fields, bare_maybe_declarator, bare_params, bare_specs}
use Rattle.c_tree.specs.View.{body_of, boxed_declarator, declarators_of, enumerators_of, exprs_of, fields_of, params_of, specs_of, view, view_assign, view_declarator, view_op, view_type_name}
use Rattle.c_tree.specs.declared.expression.EnumeratorList.{out-EnumeratorList}
use Rattle.c_tree.specs.declared.expression.Record.{out-Record}
use Rattle.c_tree.proofs.Views.{view_builtin, view_call, view_cast, view_function_of, view_sizeof_type}
use Rattle.call_rewriter.specs.Plans.{callee_seen, hooks_seen}
use Rattle.call_rewriter.specs.Tagger.{Tags, declarators_tagging, enumerators_tagging, exprs_tagging, fields_tagging, params_tagging, specs_tagging, put_declarator, put_enumerator, put_expr, put_field, put_param, put_spec}
use Rattle.call_rewriter.specs.Tagged as tagged
use Rattle.call_rewriter.specs.Tagged.{one, two}
use Rattle.call_rewriter.proofs.Forms.{list_seen}
use Rattle.call_rewriter.proofs.Heads.{record_heads, spec_shown}
use Rattle.call_rewriter.proofs.Numbering.{ends, goes_on, heads_two, in_operand, ok_to, tags_like, tags_one, tags_two}
use Rattle.call_rewriter.proofs.tag.+tag.Goals as goal

pub exprs-loop-x-preserved : goal.exprs-loop-x-preserved
exprs-loop-x-preserved t c =
    let max = c.args.plan.max in
    let h = hooks_seen c.args.plan.hooks in
    rw c.in_ok-push.ensures.ok (rw c.open.ensures
    (goes_on (exprs_tagging max h) put_expr max c.args.k.now c.loop-x.k c.expr.new.k c.as_slice-x-items.result.now c.loop-x.ys c.loop-x.x-index c.x-item.result c.in_ok-y.y
    c.loop-x-test.true (sym c.x-item.is) (λ rest. heads_two max c.loop-x.k c.expr.new.k u.expr (tagged.tag max h (bare (view c.x-item.result))) (exprs_tagging max h rest) (bare (view c.in_ok-y.y)) c.in_ok-y.ensures) c.loop-x.invariant))

pub exprs-returns : goal.exprs-returns
exprs-returns t c =
    let max = c.args.plan.max in
    let h = hooks_seen c.args.plan.hooks in
    rw (sym c.as_slice-x-items.ensures)
    (ends (exprs_tagging max h) put_expr (λ zs. bare_exprs (exprs_of zs)) max c.args.k.now c.loop-x.k c.as_slice-x-items.result.now c.loop-x.ys c.loop-x.x-index refl (λ y zs. refl)
    c.loop-x-test.false c.loop-x.invariant)

pub specs-loop-x-preserved : goal.specs-loop-x-preserved
specs-loop-x-preserved t c =
    let max = c.args.plan.max in
    let h = hooks_seen c.args.plan.hooks in
    rw c.in_ok-push.ensures.ok
    (goes_on (specs_tagging max h) put_spec max c.args.k.now c.loop-x.k c.spec.new.k c.as_slice-x-items.result.now c.loop-x.ys c.loop-x.x-index c.x-item.result c.in_ok-y.y
    c.loop-x-test.true (sym c.x-item.is) c.in_ok-y.ensures c.loop-x.invariant)

pub specs-returns : goal.specs-returns
specs-returns t c =
    let max = c.args.plan.max in
    let h = hooks_seen c.args.plan.hooks in
    rw (sym c.as_slice-x-items.ensures)
    (ends (specs_tagging max h) put_spec (λ zs. bare_specs (specs_of zs)) max c.args.k.now c.loop-x.k c.as_slice-x-items.result.now c.loop-x.ys c.loop-x.x-index refl spec_shown
    c.loop-x-test.false c.loop-x.invariant)

pub fields-loop-x-preserved : goal.fields-loop-x-preserved
fields-loop-x-preserved t c =
    let max = c.args.plan.max in
    let h = hooks_seen c.args.plan.hooks in
    rw c.in_ok-push.ensures.ok
    (goes_on (fields_tagging max h) put_field max c.args.k.now c.loop-x.k c.field.new.k c.as_slice-x-items.result.now c.loop-x.ys c.loop-x.x-index c.x-item.result c.in_ok-y.y
    c.loop-x-test.true (sym c.x-item.is) c.in_ok-y.ensures c.loop-x.invariant)

pub fields-returns : goal.fields-returns
fields-returns t c =
    let max = c.args.plan.max in
    let h = hooks_seen c.args.plan.hooks in
    rw (sym c.as_slice-x-items.ensures)
    (ends (fields_tagging max h) put_field (λ zs. bare_fields (fields_of zs)) max c.args.k.now c.loop-x.k c.as_slice-x-items.result.now c.loop-x.ys c.loop-x.x-index refl (λ y zs. refl)
    c.loop-x-test.false c.loop-x.invariant)

pub declarators-loop-x-preserved : goal.declarators-loop-x-preserved
declarators-loop-x-preserved t c =
    let max = c.args.plan.max in
    let h = hooks_seen c.args.plan.hooks in
    rw c.in_ok-push.ensures.ok (rw c.open.ensures
    (goes_on (declarators_tagging max h) put_declarator max c.args.k.now c.loop-x.k c.declarator.new.k c.as_slice-x-items.result.now c.loop-x.ys c.loop-x.x-index c.x-item.result c.in_ok-y.y
    c.loop-x-test.true (sym c.x-item.is) (λ rest. heads_two max c.loop-x.k c.declarator.new.k u.declarator (tagged.tag_declarator max h (bare_declarator (view_declarator c.x-item.result))) (declarators_tagging max h rest) (bare_declarator (view_declarator c.in_ok-y.y)) c.in_ok-y.ensures) c.loop-x.invariant))

pub declarators-returns : goal.declarators-returns
declarators-returns t c =
    let max = c.args.plan.max in
    let h = hooks_seen c.args.plan.hooks in
    rw (sym c.as_slice-x-items.ensures)
    (ends (declarators_tagging max h) put_declarator (λ zs. bare_declarators (declarators_of zs)) max c.args.k.now c.loop-x.k c.as_slice-x-items.result.now c.loop-x.ys c.loop-x.x-index refl (λ y zs. refl)
    c.loop-x-test.false c.loop-x.invariant)

pub enumerators-loop-x-preserved : goal.enumerators-loop-x-preserved
enumerators-loop-x-preserved t c =
    let max = c.args.plan.max in
    let h = hooks_seen c.args.plan.hooks in
    rw c.in_ok-push.ensures.ok
    (goes_on (enumerators_tagging max h) put_enumerator max c.args.k.now c.loop-x.k c.enumerator.new.k c.as_slice-x-items.result.now c.loop-x.ys c.loop-x.x-index c.x-item.result c.in_ok-y.y
    c.loop-x-test.true (sym c.x-item.is) c.in_ok-y.ensures c.loop-x.invariant)

pub enumerators-returns : goal.enumerators-returns
enumerators-returns t c =
    let max = c.args.plan.max in
    let h = hooks_seen c.args.plan.hooks in
    rw (sym c.as_slice-x-items.ensures)
    (ends (enumerators_tagging max h) put_enumerator (λ zs. bare_enumerators (enumerators_of zs)) max c.args.k.now c.loop-x.k c.as_slice-x-items.result.now c.loop-x.ys c.loop-x.x-index refl (λ y zs. refl)
    c.loop-x-test.false c.loop-x.invariant)

pub params-loop-x-preserved : goal.params-loop-x-preserved
params-loop-x-preserved t c =
    let max = c.args.plan.max in
    let h = hooks_seen c.args.plan.hooks in
    rw c.in_ok-push.ensures.ok
    (goes_on (params_tagging max h) put_param max c.args.k.now c.loop-x.k c.param.new.k c.as_slice-x-items.result.now c.loop-x.ys c.loop-x.x-index c.x-item.result c.in_ok-y.y
    c.loop-x-test.true (sym c.x-item.is) c.in_ok-y.ensures c.loop-x.invariant)

pub params-returns : goal.params-returns
params-returns t c =
    let max = c.args.plan.max in
    let h = hooks_seen c.args.plan.hooks in
    rw (sym c.as_slice-x-items.ensures)
    (ends (params_tagging max h) put_param (λ zs. bare_params (params_of zs)) max c.args.k.now c.loop-x.k c.as_slice-x-items.result.now c.loop-x.ys c.loop-x.x-index refl (λ y zs. refl)
    c.loop-x-test.false c.loop-x.invariant)

pub expr-returns-in-Cast : goal.expr-returns-in-Cast
expr-returns-in-Cast t c =
    let max = c.args.plan.max in
    let h = hooks_seen c.args.plan.hooks in
    let at = c.in-Cast.at in
    ok_to c.cast.result _ _
    (λ e q. tags_like max _ _ _ _ _ _
    (ap (λ a. tagged.tag max h (bare (view a))) c.in-Cast.is
    ∙ ap (λ a. tagged.tag max h (bare a)) (view_cast at c.in-Cast.t c.in-Cast.a)
    ∙ ap (λ t. tagged.tag max h (bare (m.Cast at (view_type_name t) (view c.in-Cast.a.value)))) (sym c.deref-in-Cast.ensures)
    ∙ ap (λ a. tagged.tag max h (bare (m.Cast at (view_type_name c.deref-in-Cast.result.now) (view a)))) (sym c.deref-in-Cast-2.ensures))
    refl q)
    c.cast.ensures

pub expr-returns-in-SizeofType : goal.expr-returns-in-SizeofType
expr-returns-in-SizeofType t c =
    let max = c.args.plan.max in
    let h = hooks_seen c.args.plan.hooks in
    let at = c.in-SizeofType.at in
    ok_to c.sizeof_type.result _ _
    (λ e q. tags_like max _ _ _ _ _ _
    (ap (λ a. tagged.tag max h (bare (view a))) c.in-SizeofType.is
    ∙ ap (λ a. tagged.tag max h (bare a)) (view_sizeof_type at c.in-SizeofType.t)
    ∙ ap (λ t. tagged.tag max h (bare (m.SizeofType at (view_type_name t)))) (sym c.deref-in-SizeofType.ensures))
    refl q)
    c.sizeof_type.ensures

pub expr-returns-in_ok-xs-in-Some : goal.expr-returns-in_ok-xs-in-Some
expr-returns-in_ok-xs-in-Some t c =
    let max = c.args.plan.max in
    let h = hooks_seen c.args.plan.hooks in
    let f = bare (view c.in-Call.f.value) in
    let xs = exprs_tagging max h c.in-Call.xs in
    ok_to c.call.result _ _
    (λ e q. tags_like max _ _ _ _ _ _
    (ap (λ a. tagged.tag max h (bare (view a))) c.in-Call.is
    ∙ ap (λ a. tagged.tag max h (bare a)) (view_call c.in-Call.at c.in-Call.f c.in-Call.xs)
    ∙ ap (λ g. tagged.tag_call max (tagged.site_in h (bare (view g))) f (tagged.tag max h f) xs) (sym c.deref-in-Call.ensures)
    ∙ ap (λ s. tagged.tag_call max s f (tagged.tag max h f) xs) (sym c.in-Some.ensures)
    ∙ ap (λ g. tagged.tag_site max (tagged.entered (callee_seen c.in-Some.callee) (bare (view g))) xs) (sym c.deref-in-Some.ensures)
    ∙ ap (λ n. tagged.tag_site max n xs) (sym c.in_ok-name-in-Some.ensures))
    (ap bare q) (tags_one max _ _ (u.Call (bare (view c.in_ok-name-in-Some.name))) _ _ c.in_ok-xs-in-Some.ensures))
    c.call.ensures

pub expr-returns-in_ok-xs-in-None : goal.expr-returns-in_ok-xs-in-None
expr-returns-in_ok-xs-in-None t c =
    let max = c.args.plan.max in
    let h = hooks_seen c.args.plan.hooks in
    let f = bare (view c.in-Call.f.value) in
    let xs = exprs_tagging max h c.in-Call.xs in
    ok_to c.call-in-None.result _ _
    (λ e q. tags_like max _ _ _ _ _ _
    (ap (λ a. tagged.tag max h (bare (view a))) c.in-Call.is
    ∙ ap (λ a. tagged.tag max h (bare a)) (view_call c.in-Call.at c.in-Call.f c.in-Call.xs)
    ∙ ap (λ g. tagged.tag_call max (tagged.site_in h (bare (view g))) f (tagged.tag max h f) xs) (sym c.deref-in-Call.ensures)
    ∙ ap (λ s. tagged.tag_call max s f (tagged.tag max h f) xs) (sym c.in-None.ensures)
    ∙ ap (λ g. two u.Call (tagged.tag max h (bare (view g))) xs) (sym c.deref-in-None.ensures))
    (ap bare q) (tags_two max _ _ _ u.Call _ _ _ _ c.in_ok-f-in-None.ensures c.in_ok-xs-in-None.ensures))
    c.call-in-None.ensures

pub expr-returns-in-Builtin : goal.expr-returns-in-Builtin
expr-returns-in-Builtin t c =
    let max = c.args.plan.max in
    let h = hooks_seen c.args.plan.hooks in
    let xs = c.in-Builtin.xs in
    ok_to c.builtin.result _ _
    (λ e q. tags_like max _ _ _ _ _ _
    (ap (λ a. tagged.tag max h (bare (view a))) c.in-Builtin.is ∙ ap (λ a. tagged.tag max h (bare a)) (view_builtin c.in-Builtin.at xs))
    refl q)
    c.builtin.ensures

pub comma-returns : goal.comma-returns
comma-returns t c =
    rw c.new.ensures (rw c.open.ensures (rw c.open-2.ensures
    (tags_two c.args.plan.max _ _ _ u.Comma _ _ _ _ c.in_ok-a.ensures c.in_ok-b.ensures)))

pub assign-returns : goal.assign-returns
assign-returns t c =
    rw c.new.ensures (rw c.open.ensures (rw c.open-2.ensures
    (tags_two c.args.plan.max _ _ _ (λ a b. u.Assign a (view_assign c.args.op) b) _ _ _ _ c.in_ok-a.ensures c.in_ok-b.ensures)))

pub binary-returns : goal.binary-returns
binary-returns t c =
    rw c.new.ensures (rw c.open.ensures (rw c.open-2.ensures
    (tags_two c.args.plan.max _ _ _ (λ a b. u.Binary a (view_op c.args.op) b) _ _ _ _ c.in_ok-a.ensures c.in_ok-b.ensures)))

pub conditional-returns : goal.conditional-returns
conditional-returns t c =
    rw c.new.ensures (rw c.open.ensures (rw c.open-2.ensures (rw c.open-3.ensures
    (tags_two {A = u.Expr → u.Expr} {B = u.Expr} {C = u.Expr} c.args.plan.max _ _ _ (λ g x. g x) _ _ _ _
    (tags_two c.args.plan.max _ _ _ (λ a b x. u.Cond a b x) _ _ _ _ c.in_ok-c.ensures c.in_ok-a.ensures) c.in_ok-b.ensures))))

pub cast-returns : goal.cast-returns
cast-returns t c =
    let max = c.args.plan.max in
    ok_to c.cast.result _ _
    (λ e q. tags_like max _ _ _ _ _ _ refl (ap bare q) (tags_two max _ _ _ (λ p a. u.Cast p.0 p.1 a) _ _ _ _ c.in_ok-t.ensures c.in_ok-a.ensures))
    c.cast.ensures

pub sizeof_type-returns : goal.sizeof_type-returns
sizeof_type-returns t c =
    let max = c.args.plan.max in
    let n = c.args.t.now in
    let r = c.in_ok-t.t in
    ok_to c.sizeof_type.result _ _
    (λ e q. tags_like max _ _ _ _ _ _ refl (ap bare q)
    (tags_one max _ _ (λ p. u.SizeofType p.0 p.1) _ _
    (in_operand c.operand.result.max max (hooks_seen c.operand.result.hooks) tagged.no_hooks
    (λ m g. Tags {A = u.Specs × u.MaybeDeclarator} m c.args.k.now c.type_name.new.k
    (two (λ x y. (x, y)) (specs_tagging m g n.specs) (tagged.tag_maybe_declarator m g (bare_maybe_declarator (boxed_declarator n.declarator))))
    (bare_specs (specs_of r.specs), bare_maybe_declarator (boxed_declarator r.declarator)))
    c.operand.ensures.max c.operand.ensures.hooks c.in_ok-t.ensures)))
    c.sizeof_type.ensures

pub index-returns : goal.index-returns
index-returns t c =
    rw c.new.ensures (rw c.open.ensures (rw c.open-2.ensures
    (tags_two c.args.plan.max _ _ _ u.Index _ _ _ _ c.in_ok-a.ensures c.in_ok-b.ensures)))

pub builtin-returns : goal.builtin-returns
builtin-returns t c =
    let max = c.args.plan.max in
    let xs = c.args.xs.now in
    rw c.new.ensures
    (tags_like max c.args.k.now c.exprs.new.k (one u.Builtin (exprs_tagging max tagged.no_hooks xs)) _ _ _ refl (ap bare (c.builtin.ensures ∙ ap (λ ys. m.Builtin c.args.at (exprs_of ys)) c.open.ensures))
    (tags_one max _ _ u.Builtin _ _
    (in_operand c.operand.result.max max (hooks_seen c.operand.result.hooks) tagged.no_hooks
    (λ m g. Tags m c.args.k.now c.exprs.new.k (exprs_tagging m g xs) (bare_exprs (exprs_of c.in_ok-xs.xs)))
    c.operand.ensures.max c.operand.ensures.hooks c.in_ok-xs.ensures)))

pub maybe_list-returns-in_ok-enumerators-in-Some : goal.maybe_list-returns-in_ok-enumerators-in-Some
maybe_list-returns-in_ok-enumerators-in-Some t c =
    rw c.in-Some.is (rw (list_seen c.in-Some.l) (rw c.enumerator_list.ensures (rw c.open.ensures
    (tags_one c.args.plan.max _ _ (λ es. u.list es (out-EnumeratorList c.in-Some.l).has_comma) _ _ c.in_ok-enumerators-in-Some.ensures))))

pub record-returns-in_ok-fs-in-Some : goal.record-returns-in_ok-fs-in-Some
record-returns-in_ok-fs-in-Some t c =
    let r = out-Record c.args.r.now in
    let gs = c.open.result in
    record_heads c.args.plan.max _ _ (hooks_seen c.args.plan.hooks) c.args.r.now c.with_fields.result c.in-Some.fs gs c.in-Some.is
    (λ ss. c.with_fields.ensures ss ∙ ap (λ t. u.Record r.is_union t (bare_body (body_of (Some gs))) ss) c.in_ok-tag.ensures)
    (rw c.open.ensures c.in_ok-fs-in-Some.ensures)

pub spec-returns-in_ok-r-in-Record : goal.spec-returns-in_ok-r-in-Record
spec-returns-in_ok-r-in-Record t c = rw c.in-Record.is c.in_ok-r-in-Record.ensures

pub spec-returns-in_ok-e-in-Enum : goal.spec-returns-in_ok-e-in-Enum
spec-returns-in_ok-e-in-Enum t c = rw c.in-Enum.is c.in_ok-e-in-Enum.ensures

pub declarator-returns-in_ok-ps-in-FunctionOf : goal.declarator-returns-in_ok-ps-in-FunctionOf
declarator-returns-in_ok-ps-in-FunctionOf t c =
    let max = c.args.plan.max in
    let h = hooks_seen c.args.plan.hooks in
    let at = c.in-FunctionOf.at in
    let ps = c.in-FunctionOf.ps in
    ok_to c.function_of.result _ _
    (λ e q. tags_like max _ _ _ _ _ _
    (ap (λ d. tagged.tag_declarator max h (bare_declarator (view_declarator d))) c.in-FunctionOf.is
    ∙ ap (λ d. tagged.tag_declarator max h (bare_declarator d)) (view_function_of at c.in-FunctionOf.d ps)
    ∙ ap (λ d. tagged.tag_declarator max h (bare_declarator (m.FunctionOf at (view_declarator d) (params_of ps)))) (sym c.deref-in-FunctionOf.ensures))
    (ap bare_declarator q) (tags_two max _ _ _ u.FunctionOf _ _ _ _ c.in_ok-d-in-FunctionOf.ensures c.in_ok-ps-in-FunctionOf.ensures))
    c.function_of.ensures
