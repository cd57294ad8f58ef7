use Rattle.std.proofs.Common.{◌+◌, ◌*◌, max}
use Rattle.c_tree.specs.declared.expression.Expr.{size-Expr}
use Rattle.c_tree.specs.declared.expression.TypeName.{size-TypeName}
use Rattle.call_rewriter.specs.Plans.{hooks_seen}
use Rattle.std.specs.Prelude.{drop}
use Rattle.call_rewriter.specs.Tagger.{TagsLeft, exprs_tagging, specs_tagging, fields_tagging, declarators_tagging, enumerators_tagging, params_tagging, put_expr, put_spec, put_field, put_declarator, put_enumerator, put_param}
use Rattle.call_rewriter.proofs.tag.+tag.Given as goal

-- three times the depth, and more for a function that hands its own argument on

abbrev pub decreases-expr : goal.decreases-expr
decreases-expr l = 3 * goal.size-expr l

abbrev pub decreases-type_name : goal.decreases-type_name
decreases-type_name l = 3 * goal.size-type_name l

abbrev pub decreases-spec : goal.decreases-spec
decreases-spec l = 3 * goal.size-spec l

abbrev pub decreases-record : goal.decreases-record
decreases-record l = 3 * goal.size-record l

abbrev pub decreases-field : goal.decreases-field
decreases-field l = 3 * goal.size-field l

abbrev pub decreases-enumeration : goal.decreases-enumeration
decreases-enumeration l = 3 * goal.size-enumeration l

abbrev pub decreases-enumerator : goal.decreases-enumerator
decreases-enumerator l = 3 * goal.size-enumerator l

abbrev pub decreases-declarator : goal.decreases-declarator
decreases-declarator l = 3 * goal.size-declarator l

abbrev pub decreases-param : goal.decreases-param
decreases-param l = 3 * goal.size-param l

abbrev pub decreases-boxed : goal.decreases-boxed
decreases-boxed l = 3 * goal.size-boxed l + 1

abbrev pub decreases-exprs : goal.decreases-exprs
decreases-exprs l = 3 * goal.size-exprs l + 1

abbrev pub decreases-specs : goal.decreases-specs
decreases-specs l = 3 * goal.size-specs l + 1

abbrev pub decreases-fields : goal.decreases-fields
decreases-fields l = 3 * goal.size-fields l + 1

abbrev pub decreases-declarators : goal.decreases-declarators
decreases-declarators l = 3 * goal.size-declarators l + 1

abbrev pub decreases-maybe_list : goal.decreases-maybe_list
decreases-maybe_list l = 3 * goal.size-maybe_list l + 1

abbrev pub decreases-enumerators : goal.decreases-enumerators
decreases-enumerators l = 3 * goal.size-enumerators l + 1

abbrev pub decreases-inner : goal.decreases-inner
decreases-inner l = 3 * goal.size-inner l + 1

abbrev pub decreases-params : goal.decreases-params
decreases-params l = 3 * goal.size-params l + 1

abbrev pub decreases-sizeof_type : goal.decreases-sizeof_type
decreases-sizeof_type l = 3 * goal.size-sizeof_type l + 1

abbrev pub decreases-site_arguments : goal.decreases-site_arguments
decreases-site_arguments l = 3 * goal.size-site_arguments l + 2

abbrev pub decreases-builtin : goal.decreases-builtin
decreases-builtin l = 3 * goal.size-builtin l + 2

abbrev pub decreases-maybe : goal.decreases-maybe
decreases-maybe l = 3 * goal.size-maybe l + 2

abbrev pub decreases-maybe_declarator : goal.decreases-maybe_declarator
decreases-maybe_declarator l = 3 * goal.size-maybe_declarator l + 2

abbrev pub decreases-dot : goal.decreases-dot
decreases-dot l = 3 * goal.size-dot l + 2

abbrev pub decreases-arrow : goal.decreases-arrow
decreases-arrow l = 3 * goal.size-arrow l + 2

abbrev pub decreases-comma : goal.decreases-comma
decreases-comma l = 3 * max (size-Expr l.a.now) (size-Expr l.b.now) + 2

abbrev pub decreases-assign : goal.decreases-assign
decreases-assign l = 3 * max (size-Expr l.a.now) (size-Expr l.b.now) + 2

abbrev pub decreases-binary : goal.decreases-binary
decreases-binary l = 3 * max (size-Expr l.a.now) (size-Expr l.b.now) + 2

abbrev pub decreases-index : goal.decreases-index
decreases-index l = 3 * max (size-Expr l.a.now) (size-Expr l.b.now) + 2

abbrev pub decreases-conditional : goal.decreases-conditional
decreases-conditional l = 3 * max (size-Expr l.c.now) (max (size-Expr l.a.now) (size-Expr l.b.now)) + 2

abbrev pub decreases-cast : goal.decreases-cast
decreases-cast l = 3 * max (size-TypeName l.t.now) (size-Expr l.a.now) + 1

abbrev pub invariant-exprs-loop-x : goal.invariant-exprs-loop-x
invariant-exprs-loop-x l = TagsLeft (exprs_tagging l.plan.max (hooks_seen l.plan.hooks)) put_expr l.plan.max l.initial.k l.k l.x-items l.ys (drop l.x-index l.x-items)

abbrev pub invariant-specs-loop-x : goal.invariant-specs-loop-x
invariant-specs-loop-x l = TagsLeft (specs_tagging l.plan.max (hooks_seen l.plan.hooks)) put_spec l.plan.max l.initial.k l.k l.x-items l.ys (drop l.x-index l.x-items)

abbrev pub invariant-fields-loop-x : goal.invariant-fields-loop-x
invariant-fields-loop-x l = TagsLeft (fields_tagging l.plan.max (hooks_seen l.plan.hooks)) put_field l.plan.max l.initial.k l.k l.x-items l.ys (drop l.x-index l.x-items)

abbrev pub invariant-declarators-loop-x : goal.invariant-declarators-loop-x
invariant-declarators-loop-x l = TagsLeft (declarators_tagging l.plan.max (hooks_seen l.plan.hooks)) put_declarator l.plan.max l.initial.k l.k l.x-items l.ys (drop l.x-index l.x-items)

abbrev pub invariant-enumerators-loop-x : goal.invariant-enumerators-loop-x
invariant-enumerators-loop-x l = TagsLeft (enumerators_tagging l.plan.max (hooks_seen l.plan.hooks)) put_enumerator l.plan.max l.initial.k l.k l.x-items l.ys (drop l.x-index l.x-items)

abbrev pub invariant-params-loop-x : goal.invariant-params-loop-x
invariant-params-loop-x l = TagsLeft (params_tagging l.plan.max (hooks_seen l.plan.hooks)) put_param l.plan.max l.initial.k l.k l.x-items l.ys (drop l.x-index l.x-items)
