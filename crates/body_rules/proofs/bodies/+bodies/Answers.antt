use Rattle.std.proofs.Common.{◌∙◌, ap, sym}
use Rattle.c_tree.specs.View.{view, view_declarator, view_type_name, exprs_of, params_of}
use Rattle.c_tree.proofs.Views.{view_builtin, view_call, view_cast, view_function_of, view_sizeof_type}
use Rattle.c_rules.specs.Bodies.{any_has_body, declarator_has_body, has_body, name_has_body, params_have_body}
use Rattle.body_rules.proofs.Either.{or_left, or_right}
use Rattle.body_rules.proofs.bodies.+bodies.Goals as goal

pub declarator_has_body-returns-else-declarator_has_body-2 : goal.declarator_has_body-returns-else-declarator_has_body-2
declarator_has_body-returns-else-declarator_has_body-2 t c =
    let d = c.in-FunctionOf.d in
    or_right c.declarator_has_body-in-FunctionOf.result (declarator_has_body (view_declarator d.value)) c.params_have_body.result (params_have_body (params_of c.in-FunctionOf.params))
    c.if-declarator_has_body-2.false
    (c.declarator_has_body-in-FunctionOf.ensures ∙ ap (λ x. declarator_has_body (view_declarator x)) c.deref-in-FunctionOf.ensures)
    c.params_have_body.ensures
    ∙ ap declarator_has_body (sym (view_function_of c.in-FunctionOf.field-0 d c.in-FunctionOf.params))
    ∙ ap (λ x. declarator_has_body (view_declarator x)) (sym c.in-FunctionOf.is)

pub has_body-returns-then-name_has_body : goal.has_body-returns-then-name_has_body
has_body-returns-then-name_has_body t c =
    or_left c.name_has_body.result (name_has_body (view_type_name c.in-Cast.name.value)) (has_body (view c.in-Cast.a.value))
    c.if-name_has_body.true
    (c.name_has_body.ensures ∙ ap (λ x. name_has_body (view_type_name x)) c.deref-in-Cast.ensures)
    ∙ ap has_body (sym (view_cast c.in-Cast.field-0 c.in-Cast.name c.in-Cast.a))
    ∙ ap (λ x. has_body (view x)) (sym c.in-Cast.is)

pub has_body-returns-else-name_has_body : goal.has_body-returns-else-name_has_body
has_body-returns-else-name_has_body t c =
    or_right c.name_has_body.result (name_has_body (view_type_name c.in-Cast.name.value)) c.has_body-else-name_has_body.result (has_body (view c.in-Cast.a.value))
    c.if-name_has_body.false
    (c.name_has_body.ensures ∙ ap (λ x. name_has_body (view_type_name x)) c.deref-in-Cast.ensures)
    (c.has_body-else-name_has_body.ensures ∙ ap (λ x. has_body (view x)) c.deref-else-name_has_body.ensures)
    ∙ ap has_body (sym (view_cast c.in-Cast.field-0 c.in-Cast.name c.in-Cast.a))
    ∙ ap (λ x. has_body (view x)) (sym c.in-Cast.is)

pub has_body-returns-in-SizeofType : goal.has_body-returns-in-SizeofType
has_body-returns-in-SizeofType t c =
    c.name_has_body-in-SizeofType.ensures ∙ ap (λ x. name_has_body (view_type_name x)) c.deref-in-SizeofType.ensures
    ∙ ap has_body (sym (view_sizeof_type c.in-SizeofType.field-0 c.in-SizeofType.name))
    ∙ ap (λ x. has_body (view x)) (sym c.in-SizeofType.is)

pub has_body-returns-else-has_body-7 : goal.has_body-returns-else-has_body-7
has_body-returns-else-has_body-7 t c =
    or_right c.has_body-in-Call.result (has_body (view c.in-Call.f.value)) c.any_has_body.result (any_has_body (exprs_of c.in-Call.xs))
    c.if-has_body-7.false
    (c.has_body-in-Call.ensures ∙ ap (λ x. has_body (view x)) c.deref-in-Call.ensures)
    c.any_has_body.ensures
    ∙ ap has_body (sym (view_call c.in-Call.field-0 c.in-Call.f c.in-Call.xs))
    ∙ ap (λ x. has_body (view x)) (sym c.in-Call.is)

pub has_body-returns-in-Builtin : goal.has_body-returns-in-Builtin
has_body-returns-in-Builtin t c =
    c.any_has_body-in-Builtin.ensures
    ∙ ap has_body (sym (view_builtin c.in-Builtin.field-0 c.in-Builtin.xs))
    ∙ ap (λ x. has_body (view x)) (sym c.in-Builtin.is)
