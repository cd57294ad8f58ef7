use Rattle.std.proofs.Common.{◌+◌, ◌*◌, max}
use Rattle.c_tree.specs.Bare.{bare_declarators, bare_enumerators, bare_exprs, bare_fields, bare_params, bare_specs}
use Rattle.c_tree.specs.Put.{put_fields, put_more_declarators, put_more_enumerators, put_more_exprs, put_more_params, put_specs}
use Rattle.c_tree.specs.View.{declarators_of, enumerators_of, exprs_of, fields_of, params_of, specs_of}
use Rattle.c_tree.specs.Spelling.{Left}
use Rattle.c_tree.specs.declared.expression.Expr.{size-Expr}
use Rattle.c_tree.specs.declared.expression.TypeName.{size-TypeName}
use Rattle.c_tree.proofs.spell.+spell.Given as goal

-- twice the depth, and one more for a function that hands its own argument on

abbrev pub decreases-arguments : goal.decreases-arguments
decreases-arguments l = 2 * goal.size-arguments l + 1

abbrev pub decreases-declarator : goal.decreases-declarator
decreases-declarator l = 2 * goal.size-declarator l

abbrev pub decreases-declarators : goal.decreases-declarators
decreases-declarators l = 2 * goal.size-declarators l + 1

abbrev pub decreases-enumeration : goal.decreases-enumeration
decreases-enumeration l = 2 * goal.size-enumeration l

abbrev pub decreases-enumerator : goal.decreases-enumerator
decreases-enumerator l = 2 * goal.size-enumerator l

abbrev pub decreases-enumerator_list : goal.decreases-enumerator_list
decreases-enumerator_list l = 2 * goal.size-enumerator_list l

abbrev pub decreases-enumerators : goal.decreases-enumerators
decreases-enumerators l = 2 * goal.size-enumerators l + 1

abbrev pub decreases-expr : goal.decreases-expr
decreases-expr l = 2 * goal.size-expr l

abbrev pub decreases-fields : goal.decreases-fields
decreases-fields l = 2 * goal.size-fields l + 1

abbrev pub decreases-maybe : goal.decreases-maybe
decreases-maybe l = 2 * goal.size-maybe l + 1

abbrev pub decreases-maybe_declarator : goal.decreases-maybe_declarator
decreases-maybe_declarator l = 2 * goal.size-maybe_declarator l + 1

abbrev pub decreases-member : goal.decreases-member
decreases-member l = 2 * goal.size-member l + 1

abbrev pub decreases-param : goal.decreases-param
decreases-param l = 2 * goal.size-param l

abbrev pub decreases-params : goal.decreases-params
decreases-params l = 2 * goal.size-params l + 1

abbrev pub decreases-record : goal.decreases-record
decreases-record l = 2 * goal.size-record l

abbrev pub decreases-spec : goal.decreases-spec
decreases-spec l = 2 * goal.size-spec l

abbrev pub decreases-specs : goal.decreases-specs
decreases-specs l = 2 * goal.size-specs l + 1

abbrev pub decreases-type_name : goal.decreases-type_name
decreases-type_name l = 2 * goal.size-type_name l

abbrev pub decreases-pair : goal.decreases-pair
decreases-pair l = 2 * max (size-Expr l.a.now) (size-Expr l.b.now) + 1

abbrev pub decreases-index : goal.decreases-index
decreases-index l = 2 * max (size-Expr l.a.now) (size-Expr l.b.now) + 1

abbrev pub decreases-choice : goal.decreases-choice
decreases-choice l = 2 * max (size-Expr l.c.now) (max (size-Expr l.a.now) (size-Expr l.b.now)) + 1

abbrev pub decreases-cast : goal.decreases-cast
decreases-cast l = 2 * max (size-TypeName l.t.now) (size-Expr l.a.now) + 1

abbrev pub decreases-prefixed : goal.decreases-prefixed
decreases-prefixed l = 2 * goal.size-prefixed l + 1

abbrev pub decreases-postfixed : goal.decreases-postfixed
decreases-postfixed l = 2 * goal.size-postfixed l + 1

abbrev pub decreases-in_parens : goal.decreases-in_parens
decreases-in_parens l = 2 * goal.size-in_parens l + 1

abbrev pub invariant-arguments-loop-a : goal.invariant-arguments-loop-a
invariant-arguments-loop-a l = Left (λ xs. put_more_exprs (bare_exprs (exprs_of xs))) l.initial.out l.out l.more l.a-index

abbrev pub invariant-declarators-loop-d : goal.invariant-declarators-loop-d
invariant-declarators-loop-d l = Left (λ ds. put_more_declarators (bare_declarators (declarators_of ds))) l.initial.out l.out l.more l.d-index

abbrev pub invariant-enumerators-loop-e : goal.invariant-enumerators-loop-e
invariant-enumerators-loop-e l = Left (λ es. put_more_enumerators (bare_enumerators (enumerators_of es))) l.initial.out l.out l.more l.e-index

abbrev pub invariant-fields-loop-f : goal.invariant-fields-loop-f
invariant-fields-loop-f l = Left (λ fs. put_fields (bare_fields (fields_of fs))) l.initial.out l.out l.f-items l.f-index

abbrev pub invariant-params-loop-p : goal.invariant-params-loop-p
invariant-params-loop-p l = Left (λ ps. put_more_params (bare_params (params_of ps))) l.initial.out l.out l.more l.p-index

abbrev pub invariant-specs-loop-s : goal.invariant-specs-loop-s
invariant-specs-loop-s l = Left (λ ss. put_specs (bare_specs (specs_of ss))) l.initial.out l.out l.s-items l.s-index
