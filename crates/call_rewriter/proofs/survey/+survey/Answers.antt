use Rattle.std.proofs.Common.{◌∙◌, ap, sym}
use Rattle.c_tree.specs.Bare.{bare, bare_body, bare_declarator, bare_exprs, bare_fields, bare_list, bare_params, bare_specs}
use Rattle.c_tree.specs.View.{body_of, exprs_of, fields_of, list_of, params_of, view, view_declarator}
use Rattle.c_tree.proofs.Views.{view_builtin, view_call, view_cast, view_function_of, view_sizeof_type}
use Rattle.call_rewriter.specs.Mentions as mentions
use Rattle.call_rewriter.specs.Mentions.{body_mentions, declarator_mentions, exprs_mentions, fields_mentions, list_mentions, maybe_declarator_mentions, name_of, operand, params_mentions, specs_mentions, with_called}
use Rattle.call_rewriter.specs.Survey.{behind, place_of, type_name_mentions}
use Rattle.call_rewriter.proofs.Forms.{enum_seen, list_seen, record_seen}
use Rattle.call_rewriter.proofs.survey.+survey.Goals as goal

pub declarator-returns-in-FunctionOf : goal.declarator-returns-in-FunctionOf
declarator-returns-in-FunctionOf t c = λ rest.
    let s = c.args.s in
    let p = place_of c.args.p in
    let f = c.args.is_function in
    let r = params_mentions p (bare_params (params_of c.in-FunctionOf.ps)) rest in
    c.params.ensures rest ∙ c.declarator-in-FunctionOf.ensures r
    ∙ ap (λ d. behind s (declarator_mentions p f (bare_declarator (view_declarator d)) r)) c.deref-in-FunctionOf.ensures
    ∙ ap (λ d. behind s (declarator_mentions p f (bare_declarator d) rest)) (sym (view_function_of c.in-FunctionOf.field-0 c.in-FunctionOf.d c.in-FunctionOf.ps))
    ∙ ap (λ d. behind s (declarator_mentions p f (bare_declarator (view_declarator d)) rest)) (sym c.in-FunctionOf.is)

pub enumeration-returns-in-Some : goal.enumeration-returns-in-Some
enumeration-returns-in-Some t c = λ ss rest.
    let s = c.args.s in
    let p = place_of c.args.p in
    let r = specs_mentions p (bare_specs ss) rest in
    c.enumerators.ensures r
    ∙ ap (λ l. behind s (list_mentions p (bare_list l) r)) (sym (list_seen c.in-Some.l))
    ∙ ap (λ l. behind s (list_mentions p (bare_list (list_of l)) r)) (sym c.in-Some.is)
    ∙ ap (λ e. behind s (specs_mentions p (bare_specs e) rest)) (sym (enum_seen c.args.e.now ss))

pub expr-returns-in-Cast : goal.expr-returns-in-Cast
expr-returns-in-Cast t c = λ rest.
    let s = c.args.s in
    let p = place_of c.args.p in
    let n = c.in-Cast.t.value in
    let inner = mentions.mentions p (bare (view c.deref-in-Cast-2.result.now)) rest in
    c.expr-in-Cast.ensures rest ∙ c.type_name.ensures inner
    ∙ ap (λ m. behind s (type_name_mentions p m inner)) c.deref-in-Cast.ensures
    ∙ ap (λ a. behind s (type_name_mentions p n (mentions.mentions p (bare (view a)) rest))) c.deref-in-Cast-2.ensures
    ∙ ap (λ a. behind s (mentions.mentions p (bare a) rest)) (sym (view_cast c.in-Cast.field-0 c.in-Cast.t c.in-Cast.a))
    ∙ ap (λ a. behind s (mentions.mentions p (bare (view a)) rest)) (sym c.in-Cast.is)

pub expr-returns-in-SizeofType : goal.expr-returns-in-SizeofType
expr-returns-in-SizeofType t c = λ rest.
    let s = c.args.s in
    let p = place_of c.args.p in
    c.type_name-in-SizeofType.ensures rest
    ∙ ap (λ q. behind s (type_name_mentions q c.deref-in-SizeofType.result.now rest)) c.operand-in-SizeofType.ensures
    ∙ ap (λ m. behind s (type_name_mentions (operand p) m rest)) c.deref-in-SizeofType.ensures
    ∙ ap (λ a. behind s (mentions.mentions p (bare a) rest)) (sym (view_sizeof_type c.in-SizeofType.field-0 c.in-SizeofType.t))
    ∙ ap (λ a. behind s (mentions.mentions p (bare (view a)) rest)) (sym c.in-SizeofType.is)

pub expr-returns-in-Call : goal.expr-returns-in-Call
expr-returns-in-Call t c = λ rest.
    let s = c.args.s in
    let p = place_of c.args.p in
    let r = exprs_mentions p (bare_exprs (exprs_of c.in-Call.xs)) rest in
    let inner = mentions.mentions p (bare (view c.deref-in-Call-2.result.now)) r in
    c.exprs.ensures rest ∙ c.expr-in-Call.ensures r ∙ c.with_called.ensures inner
    ∙ ap (λ f. behind s (with_called p.is_operand (name_of (bare (view f))) inner)) c.deref-in-Call.ensures
    ∙ ap (λ f. behind s (with_called p.is_operand (name_of (bare (view c.in-Call.f.value))) (mentions.mentions p (bare (view f)) r))) c.deref-in-Call-2.ensures
    ∙ ap (λ a. behind s (mentions.mentions p (bare a) rest)) (sym (view_call c.in-Call.field-0 c.in-Call.f c.in-Call.xs))
    ∙ ap (λ a. behind s (mentions.mentions p (bare (view a)) rest)) (sym c.in-Call.is)

pub expr-returns-in-Builtin : goal.expr-returns-in-Builtin
expr-returns-in-Builtin t c = λ rest.
    let s = c.args.s in
    let p = place_of c.args.p in
    c.exprs-in-Builtin.ensures rest
    ∙ ap (λ q. behind s (exprs_mentions q (bare_exprs (exprs_of c.in-Builtin.xs)) rest)) c.operand-in-Builtin.ensures
    ∙ ap (λ a. behind s (mentions.mentions p (bare a) rest)) (sym (view_builtin c.in-Builtin.field-0 c.in-Builtin.xs))
    ∙ ap (λ a. behind s (mentions.mentions p (bare (view a)) rest)) (sym c.in-Builtin.is)

pub record-returns-in-Some : goal.record-returns-in-Some
record-returns-in-Some t c = λ ss rest.
    let s = c.args.s in
    let p = place_of c.args.p in
    let r = specs_mentions p (bare_specs ss) rest in
    c.fields.ensures r
    ∙ ap (λ q. behind s (fields_mentions q (bare_fields (fields_of c.in-Some.fs)) r)) c.field.ensures
    ∙ ap (λ b. behind s (body_mentions p (bare_body (body_of b)) r)) (sym c.in-Some.is)
    ∙ ap (λ x. behind s (specs_mentions p (bare_specs x) rest)) (sym (record_seen c.args.r.now ss))
