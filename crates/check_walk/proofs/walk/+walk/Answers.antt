use Rattle.std.proofs.Common.{rules, to_z, of_z, ◌≡◌, ◌∙◌, sym, ap, refl, Err, Ok, suc, None, Some, true, map, pos, ◌+◌, [], ◌∷◌, ◌++◌, drop, arith}
use Rattle.c_tree.specs.Marked as t
use Rattle.c_tree.specs.View.{view, view_op, view_assign, view_declarator, view_spec, view_attribute, view_qualifier, view_type_name, boxed_declarator, boxed_expr, declarators_of, enumerators_of, exprs_of, fields_of, params_of, specs_of, body_of, list_of}
use Rattle.c_tree.specs.declared.expression.Record as rr
use Rattle.c_tree.specs.declared.expression.Enum as ee
use Rattle.c_tree.proofs.Views.{view_call, view_cast, view_sizeof_type, view_builtin, view_function_of, list_seen}
use Rattle.c_tree.specs.declared.expression.Declarator.TheViews as w
use Rattle.c_types.specs.Table.{type_at, member_of}
use Rattle.c_rules.specs.Forms as forms
use Rattle.c_rules.specs.Specifiers as specifiers
use Rattle.c_rules.specs.Trials.{give, verdict, ◌>>=◌}
use Rattle.c_rules.specs.Walk as walk
use Rattle.c_world.specs.Seen.{seen}
use Rattle.c_world.proofs.Growth.{extends_on, extends_self}
use Rattle.declarator_rules.specs.Layers.{all_types, laid_of}
use Rattle.expression_rules.specs.Arguments as arguments
use Rattle.expression_rules.specs.Typed.{typed_of}
use Rattle.specifier_rules.specs.Specified.{specified_of}
use Rattle.check_walk.specs.Parts.{record_seen, enum_seen}
use Rattle.check_walk.specs.Walking.{base_of, enumerator_of, field_of, function_around, gathered, given_one, judge_two, member_in, one, param_built, param_of, sized_by, two_of}
use Rattle.check_walk.proofs.Gathering.{and_more, gather_step, gather_more, hand_step, left}
use Rattle.check_walk.proofs.Alone.{alone_is}
use Rattle.check_walk.proofs.Growing.{none_given, laid_after, tagged_after, typed_after, extends_to_new, on_extends, members_same, laid_same, given_after, given_below_after}
use Rattle.check_expressions.proofs.Args.{typed_same}
use Rattle.declarator_rules.proofs.Growing.{layers_up, types_same}
use Rattle.specifier_rules.proofs.Growing.{below_up}
use Rattle.part_rules.specs.Layers.{function_ended}
use Rattle.part_rules.specs.Types.{named_type}
use Rattle.c_rules.specs.Trials.{change}
use Rattle.c_rules.specs.World as known
use Rattle.c_rules.specs.Declarators.{array, pointer}
use Rattle.std.proofs.lemmas.List.{at_drop_all}
use Rattle.std.proofs.lemmas.Int.{to_z-of_z}
use mir.Syntax.{w128}
use Rattle.check_walk.proofs.Parts as parts
use Rattle.check_walk.proofs.Parts.{attribute_done, named_gives, params_left}
use Rattle.check_walk.proofs.Sequencing.{stops, runs, same, gathers_all, gathering_ends, handing_ends}
use Rattle.check_walk.proofs.walk.+walk.Goals as goal

pub judge-returns-in_err-two-in-Comma-clause-gives : goal.judge-returns-in_err-two-in-Comma-clause-gives
judge-returns-in_err-two-in-Comma-clause-gives z c =
    stops (judge_two c.args.whole.now c.args.fixed (view c.deref.result.now) (view c.deref-in-Comma.result.now)) (λ p. forms.judge_comma c.in-Comma.at p.y) (walk.judge c.args.whole.now c.args.fixed (view c.args.e.now)) _ (seen c.judge_two.new.world) _ c.in_err-two-in-Comma.field-0.0 c.from_residual.result (two_of c.judge_two.new.world.table.terms) _
    (rw (c.deref.ensures, c.deref-in-Comma.ensures) (ap (λ e. walk.judge c.args.whole.now c.args.fixed (view e)) c.in-Comma.is)) c.in_err-two-in-Comma.ensures.gives (search rules)

pub judge-returns-in_err-two-in-Assign-clause-gives : goal.judge-returns-in_err-two-in-Assign-clause-gives
judge-returns-in_err-two-in-Assign-clause-gives z c =
    stops (judge_two c.args.whole.now c.args.fixed (view c.deref-in-Assign.result.now) (view c.deref-in-Assign-2.result.now)) (λ p. forms.judge_assign c.in-Assign.at (forms.operator_of (view_assign c.in-Assign.op)) p.x (walk.at_of_expr (view c.in-Assign.b.value)) p.y) (walk.judge c.args.whole.now c.args.fixed (view c.args.e.now)) _ (seen c.judge_two-in-Assign.new.world) _ c.in_err-two-in-Assign.field-0.0 c.from_residual-in_err-two-in-Assign.result (two_of c.judge_two-in-Assign.new.world.table.terms) _
    (rw (c.deref-in-Assign.ensures, c.deref-in-Assign-2.ensures) (ap (λ e. walk.judge c.args.whole.now c.args.fixed (view e)) c.in-Assign.is)) c.in_err-two-in-Assign.ensures.gives (search rules)

pub judge-returns-in_err-two-in-Binary-clause-gives : goal.judge-returns-in_err-two-in-Binary-clause-gives
judge-returns-in_err-two-in-Binary-clause-gives z c =
    stops (judge_two c.args.whole.now c.args.fixed (view c.deref-in-Binary.result.now) (view c.deref-in-Binary-2.result.now)) (λ p. forms.judge_binary c.in-Binary.at (view_op c.in-Binary.op) p.x p.y) (walk.judge c.args.whole.now c.args.fixed (view c.args.e.now)) _ (seen c.judge_two-in-Binary.new.world) _ c.in_err-two-in-Binary.field-0.0 c.from_residual-in_err-two-in-Binary.result (two_of c.judge_two-in-Binary.new.world.table.terms) _
    (rw (c.deref-in-Binary.ensures, c.deref-in-Binary-2.ensures) (ap (λ e. walk.judge c.args.whole.now c.args.fixed (view e)) c.in-Binary.is)) c.in_err-two-in-Binary.ensures.gives (search rules)

pub judge-returns-in_err-ty-in-SizeofType-clause-gives : goal.judge-returns-in_err-ty-in-SizeofType-clause-gives
judge-returns-in_err-ty-in-SizeofType-clause-gives z c =
    stops (walk.judge_name_of_type c.args.whole.now c.args.fixed (view_type_name c.deref-in-SizeofType.result.now)) (λ ty. forms.judge_sizeof c.in-SizeofType.at ty) _ _ (seen c.judge_name_of_type.new.world) _ c.in_err-ty-in-SizeofType.field-0.0 c.from_residual-in_err-ty-in-SizeofType.result (λ r. type_at c.judge_name_of_type.new.world.table.terms r.0) _
    (ap (λ e. walk.judge c.args.whole.now c.args.fixed (view e)) c.in-SizeofType.is ∙ ap (walk.judge c.args.whole.now c.args.fixed) (view_sizeof_type c.in-SizeofType.at c.in-SizeofType.name) ∙ ap (λ n. walk.judge c.args.whole.now c.args.fixed (t.SizeofType c.in-SizeofType.at (view_type_name n))) (sym c.deref-in-SizeofType.ensures)) c.in_err-ty-in-SizeofType.ensures.gives (search rules)

pub judge-returns-in_err-two-in-Index-clause-gives : goal.judge-returns-in_err-two-in-Index-clause-gives
judge-returns-in_err-two-in-Index-clause-gives z c =
    stops (judge_two c.args.whole.now c.args.fixed (view c.deref-in-Index.result.now) (view c.deref-in-Index-2.result.now)) (λ p. forms.judge_index c.in-Index.at p.x p.y) (walk.judge c.args.whole.now c.args.fixed (view c.args.e.now)) _ (seen c.judge_two-in-Index.new.world) _ c.in_err-two-in-Index.field-0.0 c.from_residual-in_err-two-in-Index.result (two_of c.judge_two-in-Index.new.world.table.terms) _
    (rw (c.deref-in-Index.ensures, c.deref-in-Index-2.ensures) (ap (λ e. walk.judge c.args.whole.now c.args.fixed (view e)) c.in-Index.is)) c.in_err-two-in-Index.ensures.gives (search rules)

pub judge-returns-in_err-given-in-Call-clause-gives : goal.judge-returns-in_err-given-in-Call-clause-gives
judge-returns-in_err-given-in-Call-clause-gives z c =
    runs (walk.judge c.args.whole.now c.args.fixed (view c.deref-in-Call.result.now)) (λ g. ◌>>=◌ (walk.judge_all c.args.whole.now c.args.fixed (exprs_of c.in-Call.xs)) (λ xs. forms.judge_call c.in-Call.at g xs)) _ (typed_of c.judge-in-Call.new.world.table.terms c.in_ok-g-in-Call.g) _ (seen c.judge-in-Call.new.world) _ c.from_residual-in_err-given-in-Call.result (typed_of c.judge_all.new.world.table.terms)
    (ap (λ e. walk.judge c.args.whole.now c.args.fixed (view e)) c.in-Call.is ∙ ap (walk.judge c.args.whole.now c.args.fixed) (view_call c.in-Call.at c.in-Call.f c.in-Call.xs) ∙ ap (λ a. walk.judge c.args.whole.now c.args.fixed (t.Call c.in-Call.at (view a) (exprs_of c.in-Call.xs))) (sym c.deref-in-Call.ensures)) c.in_ok-g-in-Call.ensures.gives
    (stops (walk.judge_all c.args.whole.now c.args.fixed (exprs_of c.in-Call.xs)) (λ xs. forms.judge_call c.in-Call.at (typed_of c.judge-in-Call.new.world.table.terms c.in_ok-g-in-Call.g) xs) _ _ (seen c.judge_all.new.world) _ c.in_err-given-in-Call.field-0.0 c.from_residual-in_err-given-in-Call.result (λ xs. arguments.all_given c.judge_all.new.world.table.terms xs) _ refl c.in_err-given-in-Call.ensures.gives (search rules))

pub judge-returns-in_err-judge_all-in-Builtin-clause-gives : goal.judge-returns-in_err-judge_all-in-Builtin-clause-gives
judge-returns-in_err-judge_all-in-Builtin-clause-gives z c =
    stops (walk.judge_all c.args.whole.now c.args.fixed (exprs_of c.in-Builtin.xs)) (λ _. walk.judge_builtin c.args.fixed c.in-Builtin.at (exprs_of c.in-Builtin.xs)) _ _ (seen c.judge_all-in-Builtin.new.world) _ c.in_err-judge_all-in-Builtin.field-0.0 c.from_residual-in_err-judge_all-in-Builtin.result (λ xs. arguments.all_given c.judge_all-in-Builtin.new.world.table.terms xs) _
    (ap (λ e. walk.judge c.args.whole.now c.args.fixed (view e)) c.in-Builtin.is ∙ ap (walk.judge c.args.whole.now c.args.fixed) (view_builtin c.in-Builtin.at c.in-Builtin.xs)) c.in_err-judge_all-in-Builtin.ensures.gives (search rules)

pub judge-returns-in_ok-two-in-Comma-clause-gives : goal.judge-returns-in_ok-two-in-Comma-clause-gives
judge-returns-in_ok-two-in-Comma-clause-gives z c =
    runs (judge_two c.args.whole.now c.args.fixed (view c.deref.result.now) (view c.deref-in-Comma.result.now)) (λ p. forms.judge_comma c.in-Comma.at p.y) (walk.judge c.args.whole.now c.args.fixed (view c.args.e.now)) (two_of c.judge_two.new.world.table.terms c.in_ok-two-in-Comma.two) _ (seen c.judge_two.new.world) _ c.judge_comma.result (typed_of c.judge_comma.new.world.table.terms)
    (rw (c.deref.ensures, c.deref-in-Comma.ensures) (ap (λ e. walk.judge c.args.whole.now c.args.fixed (view e)) c.in-Comma.is)) c.in_ok-two-in-Comma.ensures.gives c.judge_comma.ensures.gives

pub judge-returns-in_ok-two-in-Assign-clause-gives : goal.judge-returns-in_ok-two-in-Assign-clause-gives
judge-returns-in_ok-two-in-Assign-clause-gives z c =
    runs (judge_two c.args.whole.now c.args.fixed (view c.deref-in-Assign.result.now) (view c.deref-in-Assign-2.result.now)) (λ p. forms.judge_assign c.in-Assign.at (forms.operator_of (view_assign c.in-Assign.op)) p.x (walk.at_of_expr (view c.in-Assign.b.value)) p.y) (walk.judge c.args.whole.now c.args.fixed (view c.args.e.now)) (two_of c.judge_two-in-Assign.new.world.table.terms c.in_ok-two-in-Assign.two) _ (seen c.judge_two-in-Assign.new.world) _ c.judge_assign.result (typed_of c.judge_assign.new.world.table.terms)
    (rw (c.deref-in-Assign.ensures, c.deref-in-Assign-2.ensures) (ap (λ e. walk.judge c.args.whole.now c.args.fixed (view e)) c.in-Assign.is)) c.in_ok-two-in-Assign.ensures.gives (rw (c.at_of_expr.ensures, c.deref-in-Assign-3.ensures) at c.judge_assign.ensures.gives)

pub judge-returns-in-Cond-clause-gives : goal.judge-returns-in-Cond-clause-gives
judge-returns-in-Cond-clause-gives z c =
    same (walk.judge c.args.whole.now c.args.fixed (t.Cond c.in-Cond.at (view c.deref-in-Cond.result.now) (view c.deref-in-Cond-2.result.now) (view c.deref-in-Cond-3.result.now))) (walk.judge c.args.whole.now c.args.fixed (view c.args.e.now)) _ _ c.judge_choice.result (typed_of c.judge_choice.new.world.table.terms)
    (rw (c.deref-in-Cond.ensures, c.deref-in-Cond-2.ensures, c.deref-in-Cond-3.ensures) (ap (λ e. walk.judge c.args.whole.now c.args.fixed (view e)) c.in-Cond.is)) c.judge_choice.ensures.gives

pub judge-returns-in_ok-two-in-Binary-clause-gives : goal.judge-returns-in_ok-two-in-Binary-clause-gives
judge-returns-in_ok-two-in-Binary-clause-gives z c =
    runs (judge_two c.args.whole.now c.args.fixed (view c.deref-in-Binary.result.now) (view c.deref-in-Binary-2.result.now)) (λ p. forms.judge_binary c.in-Binary.at (view_op c.in-Binary.op) p.x p.y) (walk.judge c.args.whole.now c.args.fixed (view c.args.e.now)) (two_of c.judge_two-in-Binary.new.world.table.terms c.in_ok-two-in-Binary.two) _ (seen c.judge_two-in-Binary.new.world) _ c.judge_binary.result (typed_of c.judge_binary.new.world.table.terms)
    (rw (c.deref-in-Binary.ensures, c.deref-in-Binary-2.ensures) (ap (λ e. walk.judge c.args.whole.now c.args.fixed (view e)) c.in-Binary.is)) c.in_ok-two-in-Binary.ensures.gives c.judge_binary.ensures.gives

pub judge-returns-in-Cast-clause-gives : goal.judge-returns-in-Cast-clause-gives
judge-returns-in-Cast-clause-gives z c =
    same (walk.judge c.args.whole.now c.args.fixed (t.Cast c.in-Cast.at (view_type_name c.deref-in-Cast.result.now) (view c.deref-in-Cast-2.result.now))) _ _ _ c.judge_cast_to.result (typed_of c.judge_cast_to.new.world.table.terms)
    (ap (λ e. walk.judge c.args.whole.now c.args.fixed (view e)) c.in-Cast.is ∙ ap (walk.judge c.args.whole.now c.args.fixed) (view_cast c.in-Cast.at c.in-Cast.name c.in-Cast.a) ∙ ap (λ n. walk.judge c.args.whole.now c.args.fixed (t.Cast c.in-Cast.at (view_type_name n) (view c.in-Cast.a.value))) (sym c.deref-in-Cast.ensures) ∙ ap (λ a. walk.judge c.args.whole.now c.args.fixed (t.Cast c.in-Cast.at (view_type_name c.deref-in-Cast.result.now) (view a))) (sym c.deref-in-Cast-2.ensures)) c.judge_cast_to.ensures.gives

pub judge-returns-in_ok-ty-in-SizeofType-clause-gives : goal.judge-returns-in_ok-ty-in-SizeofType-clause-gives
judge-returns-in_ok-ty-in-SizeofType-clause-gives z c =
    runs (walk.judge_name_of_type c.args.whole.now c.args.fixed (view_type_name c.deref-in-SizeofType.result.now)) (λ ty. forms.judge_sizeof c.in-SizeofType.at ty) _ (type_at c.judge_name_of_type.new.world.table.terms c.in_ok-ty-in-SizeofType.ty.0) _ (seen c.judge_name_of_type.new.world) _ c.judge_sizeof-in-SizeofType.result (typed_of c.judge_sizeof-in-SizeofType.new.world.table.terms)
    (ap (λ e. walk.judge c.args.whole.now c.args.fixed (view e)) c.in-SizeofType.is ∙ ap (walk.judge c.args.whole.now c.args.fixed) (view_sizeof_type c.in-SizeofType.at c.in-SizeofType.name) ∙ ap (λ n. walk.judge c.args.whole.now c.args.fixed (t.SizeofType c.in-SizeofType.at (view_type_name n))) (sym c.deref-in-SizeofType.ensures)) c.in_ok-ty-in-SizeofType.ensures.gives c.judge_sizeof-in-SizeofType.ensures.gives

pub judge-returns-in_ok-two-in-Index-clause-gives : goal.judge-returns-in_ok-two-in-Index-clause-gives
judge-returns-in_ok-two-in-Index-clause-gives z c =
    runs (judge_two c.args.whole.now c.args.fixed (view c.deref-in-Index.result.now) (view c.deref-in-Index-2.result.now)) (λ p. forms.judge_index c.in-Index.at p.x p.y) (walk.judge c.args.whole.now c.args.fixed (view c.args.e.now)) (two_of c.judge_two-in-Index.new.world.table.terms c.in_ok-two-in-Index.two) _ (seen c.judge_two-in-Index.new.world) _ c.judge_index.result (typed_of c.judge_index.new.world.table.terms)
    (rw (c.deref-in-Index.ensures, c.deref-in-Index-2.ensures) (ap (λ e. walk.judge c.args.whole.now c.args.fixed (view e)) c.in-Index.is)) c.in_ok-two-in-Index.ensures.gives c.judge_index.ensures.gives

pub judge-returns-in_ok-given-in-Call-clause-gives : goal.judge-returns-in_ok-given-in-Call-clause-gives
judge-returns-in_ok-given-in-Call-clause-gives z c =
    runs (walk.judge c.args.whole.now c.args.fixed (view c.deref-in-Call.result.now)) (λ g. ◌>>=◌ (walk.judge_all c.args.whole.now c.args.fixed (exprs_of c.in-Call.xs)) (λ xs. forms.judge_call c.in-Call.at g xs)) _ (typed_of c.judge-in-Call.new.world.table.terms c.in_ok-g-in-Call.g) _ (seen c.judge-in-Call.new.world) _ c.judge_call.result (typed_of c.judge_call.new.world.table.terms)
    (ap (λ e. walk.judge c.args.whole.now c.args.fixed (view e)) c.in-Call.is ∙ ap (walk.judge c.args.whole.now c.args.fixed) (view_call c.in-Call.at c.in-Call.f c.in-Call.xs) ∙ ap (λ a. walk.judge c.args.whole.now c.args.fixed (t.Call c.in-Call.at (view a) (exprs_of c.in-Call.xs))) (sym c.deref-in-Call.ensures)) c.in_ok-g-in-Call.ensures.gives
    (runs (walk.judge_all c.args.whole.now c.args.fixed (exprs_of c.in-Call.xs)) (λ xs. forms.judge_call c.in-Call.at (typed_of c.judge-in-Call.new.world.table.terms c.in_ok-g-in-Call.g) xs) _ (arguments.all_given c.judge_all.new.world.table.terms c.in_ok-given-in-Call.given) _ (seen c.judge_all.new.world) _ c.judge_call.result (typed_of c.judge_call.new.world.table.terms)
    refl c.in_ok-given-in-Call.ensures.gives
    (same (forms.judge_call c.in-Call.at (typed_of c.judge_all.new.world.table.terms c.in_ok-g-in-Call.g) (arguments.all_given c.judge_all.new.world.table.terms c.as_slice.result.now)) (forms.judge_call c.in-Call.at (typed_of c.judge-in-Call.new.world.table.terms c.in_ok-g-in-Call.g) (arguments.all_given c.judge_all.new.world.table.terms c.in_ok-given-in-Call.given)) _ _ c.judge_call.result (typed_of c.judge_call.new.world.table.terms)
    (ap (λ g. forms.judge_call c.in-Call.at g (arguments.all_given c.judge_all.new.world.table.terms c.in_ok-given-in-Call.given)) (sym (typed_same c.judge-in-Call.new.world.table c.judge_all.new.world.table c.in_ok-given-in-Call.ensures.extends c.in_ok-g-in-Call.g c.in_ok-g-in-Call.ensures.valid)) ∙ ap (λ xs. forms.judge_call c.in-Call.at (typed_of c.judge_all.new.world.table.terms c.in_ok-g-in-Call.g) (arguments.all_given c.judge_all.new.world.table.terms xs)) (sym c.as_slice.ensures))
    c.judge_call.ensures.gives))

pub judge-returns-in-Number-clause-gives : goal.judge-returns-in-Number-clause-gives
judge-returns-in-Number-clause-gives z c =
    same (forms.judge_number c.in-Number.at c.in-Number.text) _ _ _ c.judge_number.result (typed_of c.judge_number.new.world.table.terms)
    (ap (λ e. walk.judge c.args.whole.now c.args.fixed (view e)) c.in-Number.is) (rw c.as_slice-in-Number.ensures at c.judge_number.ensures.gives)

pub judge-returns-in_ok-judge_all-in-Builtin-clause-gives : goal.judge-returns-in_ok-judge_all-in-Builtin-clause-gives
judge-returns-in_ok-judge_all-in-Builtin-clause-gives z c =
    runs (walk.judge_all c.args.whole.now c.args.fixed (exprs_of c.in-Builtin.xs)) (λ _. walk.judge_builtin c.args.fixed c.in-Builtin.at (exprs_of c.in-Builtin.xs)) _ (arguments.all_given c.judge_all-in-Builtin.new.world.table.terms c.in_ok-judge_all-in-Builtin.field-0) _ (seen c.judge_all-in-Builtin.new.world) _ c.judge_builtin_with.result (typed_of c.judge_builtin_with.new.world.table.terms)
    (ap (λ e. walk.judge c.args.whole.now c.args.fixed (view e)) c.in-Builtin.is ∙ ap (walk.judge c.args.whole.now c.args.fixed) (view_builtin c.in-Builtin.at c.in-Builtin.xs)) c.in_ok-judge_all-in-Builtin.ensures.gives c.judge_builtin_with.ensures.gives

pub judge_all-loop-x-init : goal.judge_all-loop-x-init
judge_all-loop-x-init z c =
    record {
      gives = λ next. ap (λ ds. verdict (walk.judge_all c.args.whole.now c.args.fixed (exprs_of c.as_slice-x-items.result.now) (λ ys. next (ds ++ ys)) (seen c.args.world.now))) (none_given c.args.world.now.table.terms ∙ ap (arguments.all_given c.args.world.now.table.terms) (sym c.new-done.ensures));
      extends = extends_self _;
      valid = rw c.new-done.ensures tt;
    }

pub judge_all-returns-in-Err-clause-gives : goal.judge_all-returns-in-Err-clause-gives
judge_all-returns-in-Err-clause-gives z c =
    gathering_ends (walk.judge_all c.args.whole.now c.args.fixed (exprs_of c.args.xs.now)) (walk.judge_all c.args.whole.now c.args.fixed (exprs_of c.as_slice-x-items.result.now)) (walk.judge_all c.args.whole.now c.args.fixed (exprs_of (drop c.loop-x.x-index c.as_slice-x-items.result.now))) (given_one c.args.whole.now c.args.fixed (view c.x-item.result)) (walk.judge_all c.args.whole.now c.args.fixed (exprs_of (drop (c.loop-x.x-index + 1) c.as_slice-x-items.result.now))) [] (arguments.all_given c.loop-x.world.table.terms c.loop-x.done) _ (seen c.loop-x.world) (seen c.judge.new.world) _ c.in-Err.end (λ xs. xs) _ (ap (λ l. walk.judge_all c.args.whole.now c.args.fixed (exprs_of l)) (sym c.as_slice-x-items.ensures)) (ap (λ l. walk.judge_all c.args.whole.now c.args.fixed (exprs_of l)) (left c.as_slice-x-items.result.now c.loop-x.x-index c.x-item.result c.loop-x-test.true c.x-item.is)) c.loop-x.invariant.gives
    (stops (walk.judge c.args.whole.now c.args.fixed (view c.x-item.result)) (λ y. give ((arguments.all_given c.loop-x.world.table.terms c.loop-x.done) ++ (record { at = walk.at_of_expr (view c.x-item.result); typed = y } ∷ []))) (gathered (arguments.all_given c.loop-x.world.table.terms c.loop-x.done) (given_one c.args.whole.now c.args.fixed (view c.x-item.result))) _ (seen c.judge.new.world) _ c.in-Err.end (Err c.in-Err.end) (typed_of c.judge.new.world.table.terms) _ refl c.in-Err.ensures.gives refl)

pub judge_all-loop-x-preserved : goal.judge_all-loop-x-preserved
judge_all-loop-x-preserved z c =
    record {
      gives = gather_step (walk.judge_all c.args.whole.now c.args.fixed (exprs_of c.as_slice-x-items.result.now)) (walk.judge_all c.args.whole.now c.args.fixed (exprs_of (drop c.loop-x.x-index c.as_slice-x-items.result.now))) (given_one c.args.whole.now c.args.fixed (view c.x-item.result)) (walk.judge_all c.args.whole.now c.args.fixed (exprs_of (drop (c.loop-x.x-index + 1) c.as_slice-x-items.result.now))) [] (arguments.all_given c.loop-x.world.table.terms c.loop-x.done) (arguments.all_given c.judge.new.world.table.terms c.push.new.self) (seen c.args.world.now) (seen c.loop-x.world) (seen c.judge.new.world) (ap (λ l. walk.judge_all c.args.whole.now c.args.fixed (exprs_of l)) (left c.as_slice-x-items.result.now c.loop-x.x-index c.x-item.result c.loop-x-test.true c.x-item.is)) c.loop-x.invariant.gives
          (gather_more (given_one c.args.whole.now c.args.fixed (view c.x-item.result)) (arguments.all_given c.loop-x.world.table.terms c.loop-x.done) _ (record { at = walk.at_of_expr (view c.x-item.result); typed = typed_of c.judge.new.world.table.terms c.in-Ok.typed } ∷ []) _ _ (given_after c.loop-x.world.table c.judge.new.world.table c.in-Ok.ensures.extends c.push.new.self c.loop-x.done (record { at = c.at_of_expr-at.result; typed = c.in-Ok.typed }) (walk.at_of_expr (view c.x-item.result)) c.loop-x.invariant.valid c.in_ok-push-in-Ok.ensures.ok c.at_of_expr-at.ensures)
          (λ next. c.in-Ok.ensures.gives (λ y. next (record { at = walk.at_of_expr (view c.x-item.result); typed = y } ∷ []))));
      extends = extends_on _ _ _ c.loop-x.invariant.extends c.in-Ok.ensures.extends;
      valid = given_below_after _ _ c.push.new.self c.loop-x.done (record { at = c.at_of_expr-at.result; typed = c.in-Ok.typed }) c.in-Ok.ensures.extends.grows.longer c.loop-x.invariant.valid c.in-Ok.ensures.valid c.in_ok-push-in-Ok.ensures.ok;
    }

pub judge_all-returns-clause-gives : goal.judge_all-returns-clause-gives
judge_all-returns-clause-gives z c =
    gathers_all (walk.judge_all c.args.whole.now c.args.fixed (exprs_of c.args.xs.now)) (walk.judge_all c.args.whole.now c.args.fixed (exprs_of c.as_slice-x-items.result.now)) (walk.judge_all c.args.whole.now c.args.fixed (exprs_of (drop c.loop-x.x-index c.as_slice-x-items.result.now))) [] (arguments.all_given c.loop-x.world.table.terms c.loop-x.done) _ (seen c.loop-x.world) (ap (λ l. walk.judge_all c.args.whole.now c.args.fixed (exprs_of l)) (sym c.as_slice-x-items.ensures)) (at_drop_all (λ l. walk.judge_all c.args.whole.now c.args.fixed (exprs_of l)) c.as_slice-x-items.result.now c.loop-x.x-index c.loop-x-test.false) c.loop-x.invariant.gives

pub judge_base-returns-clause-gives : goal.judge_base-returns-clause-gives
judge_base-returns-clause-gives z c =
    λ before. runs (walk.judge_specs c.args.whole.now c.args.fixed None (specs_of c.args.specs.now) specifiers.nothing_specified) (λ s. walk.judge_part before c.args.at s) _ (specified_of c.judge_specs.new.world.table.terms c.in_ok-specified.specified) _ (seen c.judge_specs.new.world) _ c.judge_part.result (λ r. type_at c.judge_part.new.world.table.terms r.0) refl c.in_ok-specified.ensures.gives (c.judge_part.ensures.gives before)

pub judge_cast_to-returns-in_err-ty-clause-gives : goal.judge_cast_to-returns-in_err-ty-clause-gives
judge_cast_to-returns-in_err-ty-clause-gives z c =
    stops (walk.judge_name_of_type c.args.whole.now c.args.fixed (view_type_name c.args.name.now)) (λ ty. ◌>>=◌ (walk.judge c.args.whole.now c.args.fixed (view c.args.a.now)) (λ x. forms.judge_cast c.args.at ty x)) (walk.judge c.args.whole.now c.args.fixed (t.Cast c.args.at (view_type_name c.args.name.now) (view c.args.a.now))) _ (seen c.judge_name_of_type.new.world) _ c.in_err-ty.field-0.0 c.from_residual.result (λ r. type_at c.judge_name_of_type.new.world.table.terms r.0) _ refl c.in_err-ty.ensures.gives (search rules)

pub judge_cast_to-returns-in_err-x-clause-gives : goal.judge_cast_to-returns-in_err-x-clause-gives
judge_cast_to-returns-in_err-x-clause-gives z c =
    runs (walk.judge_name_of_type c.args.whole.now c.args.fixed (view_type_name c.args.name.now)) (λ ty. ◌>>=◌ (walk.judge c.args.whole.now c.args.fixed (view c.args.a.now)) (λ x. forms.judge_cast c.args.at ty x)) (walk.judge c.args.whole.now c.args.fixed (t.Cast c.args.at (view_type_name c.args.name.now) (view c.args.a.now))) (type_at c.judge_name_of_type.new.world.table.terms c.in_ok-ty.ty.0) _ (seen c.judge_name_of_type.new.world) _ c.from_residual-in_err-x.result (typed_of c.judge.new.world.table.terms) refl c.in_ok-ty.ensures.gives
    (stops (walk.judge c.args.whole.now c.args.fixed (view c.args.a.now)) (λ x. forms.judge_cast c.args.at (type_at c.judge_name_of_type.new.world.table.terms c.in_ok-ty.ty.0) x) _ _ (seen c.judge.new.world) _ c.in_err-x.field-0.0 c.from_residual-in_err-x.result (typed_of c.judge.new.world.table.terms) _ refl c.in_err-x.ensures.gives (search rules))

pub judge_cast_to-returns-clause-gives : goal.judge_cast_to-returns-clause-gives
judge_cast_to-returns-clause-gives z c =
    runs (walk.judge_name_of_type c.args.whole.now c.args.fixed (view_type_name c.args.name.now)) (λ ty. ◌>>=◌ (walk.judge c.args.whole.now c.args.fixed (view c.args.a.now)) (λ x. forms.judge_cast c.args.at ty x)) (walk.judge c.args.whole.now c.args.fixed (t.Cast c.args.at (view_type_name c.args.name.now) (view c.args.a.now))) (type_at c.judge_name_of_type.new.world.table.terms c.in_ok-ty.ty.0) _ (seen c.judge_name_of_type.new.world) _ c.judge_cast.result (typed_of c.judge_cast.new.world.table.terms) refl c.in_ok-ty.ensures.gives
    (runs (walk.judge c.args.whole.now c.args.fixed (view c.args.a.now)) (λ x. forms.judge_cast c.args.at (type_at c.judge_name_of_type.new.world.table.terms c.in_ok-ty.ty.0) x) _ (typed_of c.judge.new.world.table.terms c.in_ok-x.x) _ (seen c.judge.new.world) _ c.judge_cast.result (typed_of c.judge_cast.new.world.table.terms) refl c.in_ok-x.ensures.gives
    (same (forms.judge_cast c.args.at (type_at c.judge.new.world.table.terms c.in_ok-ty.ty.0) (typed_of c.judge.new.world.table.terms c.in_ok-x.x)) (forms.judge_cast c.args.at (type_at c.judge_name_of_type.new.world.table.terms c.in_ok-ty.ty.0) (typed_of c.judge.new.world.table.terms c.in_ok-x.x)) _ _ c.judge_cast.result (typed_of c.judge_cast.new.world.table.terms) (ap (λ ty. forms.judge_cast c.args.at ty (typed_of c.judge.new.world.table.terms c.in_ok-x.x)) (sym (c.in_ok-x.ensures.extends.grows.same c.in_ok-ty.ty.0 c.in_ok-ty.ensures.valid))) c.judge_cast.ensures.gives))

pub judge_cast_to-returns-clause-extends : goal.judge_cast_to-returns-clause-extends
judge_cast_to-returns-clause-extends z c =
    on_extends c.judge_cast.result _ _ _ (extends_on _ _ _ c.in_ok-ty.ensures.extends c.in_ok-x.ensures.extends) c.judge_cast.ensures.extends

pub judge_choice-returns-in_err-two-clause-gives : goal.judge_choice-returns-in_err-two-clause-gives
judge_choice-returns-in_err-two-clause-gives z c =
    runs (walk.judge c.args.whole.now c.args.fixed (view c.args.c.now)) (λ z. ◌>>=◌ (judge_two c.args.whole.now c.args.fixed (view c.args.a.now) (view c.args.b.now)) (λ p. forms.judge_cond c.args.at z p.x p.y)) (walk.judge c.args.whole.now c.args.fixed (t.Cond c.args.at (view c.args.c.now) (view c.args.a.now) (view c.args.b.now))) (typed_of c.judge.new.world.table.terms c.in_ok-z.z) _ (seen c.judge.new.world) _ c.from_residual-in_err-two.result (typed_of c.judge_two.new.world.table.terms) refl c.in_ok-z.ensures.gives
    (stops (judge_two c.args.whole.now c.args.fixed (view c.args.a.now) (view c.args.b.now)) (λ p. forms.judge_cond c.args.at (typed_of c.judge.new.world.table.terms c.in_ok-z.z) p.x p.y) _ _ (seen c.judge_two.new.world) _ c.in_err-two.field-0.0 c.from_residual-in_err-two.result (two_of c.judge_two.new.world.table.terms) _ refl c.in_err-two.ensures.gives (search rules))

pub judge_choice-returns-clause-gives : goal.judge_choice-returns-clause-gives
judge_choice-returns-clause-gives z c =
    runs (walk.judge c.args.whole.now c.args.fixed (view c.args.c.now)) (λ z. ◌>>=◌ (judge_two c.args.whole.now c.args.fixed (view c.args.a.now) (view c.args.b.now)) (λ p. forms.judge_cond c.args.at z p.x p.y)) (walk.judge c.args.whole.now c.args.fixed (t.Cond c.args.at (view c.args.c.now) (view c.args.a.now) (view c.args.b.now))) (typed_of c.judge.new.world.table.terms c.in_ok-z.z) _ (seen c.judge.new.world) _ c.judge_cond.result (typed_of c.judge_cond.new.world.table.terms) refl c.in_ok-z.ensures.gives
    (runs (judge_two c.args.whole.now c.args.fixed (view c.args.a.now) (view c.args.b.now)) (λ p. forms.judge_cond c.args.at (typed_of c.judge.new.world.table.terms c.in_ok-z.z) p.x p.y) _ (two_of c.judge_two.new.world.table.terms c.in_ok-two.two) _ (seen c.judge_two.new.world) _ c.judge_cond.result (typed_of c.judge_cond.new.world.table.terms) refl c.in_ok-two.ensures.gives
    (same (forms.judge_cond c.args.at (typed_of c.judge_two.new.world.table.terms c.in_ok-z.z) (typed_of c.judge_two.new.world.table.terms c.in_ok-two.two.x) (typed_of c.judge_two.new.world.table.terms c.in_ok-two.two.y)) (forms.judge_cond c.args.at (typed_of c.judge.new.world.table.terms c.in_ok-z.z) (typed_of c.judge_two.new.world.table.terms c.in_ok-two.two.x) (typed_of c.judge_two.new.world.table.terms c.in_ok-two.two.y)) _ _ c.judge_cond.result (typed_of c.judge_cond.new.world.table.terms) (ap (λ z. forms.judge_cond c.args.at z (typed_of c.judge_two.new.world.table.terms c.in_ok-two.two.x) (typed_of c.judge_two.new.world.table.terms c.in_ok-two.two.y)) (sym (typed_same c.judge.new.world.table c.judge_two.new.world.table c.in_ok-two.ensures.extends c.in_ok-z.z c.in_ok-z.ensures.valid))) c.judge_cond.ensures.gives))

pub judge_declared_member-returns-clause-gives : goal.judge_declared_member-returns-clause-gives
judge_declared_member-returns-clause-gives z c =
    runs (walk.judge_layers c.args.whole.now c.args.fixed (view_declarator c.args.d.now)) (λ l. gathered (map (member_of c.args.world.now.table.terms) c.args.members.now) (one (walk.judge_member (walk.at_of (view_declarator c.args.d.now)) (type_at c.args.world.now.table.terms c.args.base.0) l))) _ (laid_of c.judge_layers.new.world.table.terms c.in_ok-laid.laid) _ (seen c.judge_layers.new.world) _ c.gather_member.result (λ _. map (member_of c.gather_member.new.world.table.terms) c.gather_member.new.members) refl c.in_ok-laid.ensures.gives
    (same (gathered (map (member_of c.judge_layers.new.world.table.terms) c.args.members.now) (one (walk.judge_member c.at_of.result (type_at c.judge_layers.new.world.table.terms c.args.base.0) (laid_of c.judge_layers.new.world.table.terms c.in_ok-laid.laid)))) (gathered (map (member_of c.args.world.now.table.terms) c.args.members.now) (one (walk.judge_member (walk.at_of (view_declarator c.args.d.now)) (type_at c.args.world.now.table.terms c.args.base.0) (laid_of c.judge_layers.new.world.table.terms c.in_ok-laid.laid)))) _ _ c.gather_member.result (λ _. map (member_of c.gather_member.new.world.table.terms) c.gather_member.new.members)
    (ap (λ ms. gathered ms (one (walk.judge_member (walk.at_of (view_declarator c.args.d.now)) (type_at c.args.world.now.table.terms c.args.base.0) (laid_of c.judge_layers.new.world.table.terms c.in_ok-laid.laid)))) (sym (members_same c.args.world.now.table c.judge_layers.new.world.table c.in_ok-laid.ensures.extends c.args.members.now c.requires.members)) ∙ ap (λ b. gathered (map (member_of c.judge_layers.new.world.table.terms) c.args.members.now) (one (walk.judge_member (walk.at_of (view_declarator c.args.d.now)) b (laid_of c.judge_layers.new.world.table.terms c.in_ok-laid.laid)))) (sym (c.in_ok-laid.ensures.extends.grows.same c.args.base.0 c.requires.base)) ∙ ap (λ a. gathered (map (member_of c.judge_layers.new.world.table.terms) c.args.members.now) (one (walk.judge_member a (type_at c.judge_layers.new.world.table.terms c.args.base.0) (laid_of c.judge_layers.new.world.table.terms c.in_ok-laid.laid)))) (sym c.at_of.ensures))
    c.gather_member.ensures.gives)

pub judge_enum_spec-returns-in_err-number-clause-gives : goal.judge_enum_spec-returns-in_err-number-clause-gives
judge_enum_spec-returns-in_err-number-clause-gives z c =
    λ fixed. stops (walk.enum_number (ee.out-Enum c.args.e.now).tag c.args.own.now) (λ n. walk.judge_list c.args.whole.now fixed (ee.out-Enum c.args.e.now).at (ee.out-Enum c.args.e.now).tag n (list_of (ee.out-Enum c.args.e.now).list)) (enum_seen c.args.whole.now fixed c.args.own.now c.args.e.now) _ (seen c.tagged_enum.new.world) _ c.in_err-number.field-0.0 c.from_residual.result (λ n. n) _ refl c.in_err-number.ensures.gives (search rules)

pub judge_enum_spec-returns-in_err-judge_enumerators-in-Some-clause-gives : goal.judge_enum_spec-returns-in_err-judge_enumerators-in-Some-clause-gives
judge_enum_spec-returns-in_err-judge_enumerators-in-Some-clause-gives z c =
    λ fixed. runs (walk.enum_number (ee.out-Enum c.args.e.now).tag c.args.own.now) (λ n. walk.judge_list c.args.whole.now fixed (ee.out-Enum c.args.e.now).at (ee.out-Enum c.args.e.now).tag n (list_of (ee.out-Enum c.args.e.now).list)) (enum_seen c.args.whole.now fixed c.args.own.now c.args.e.now) c.in_ok-number.number _ (seen c.tagged_enum.new.world) _ c.from_residual-in_err-judge_enumerators-in-Some.result (λ r. type_at c.judge_enumerators.new.world.table.terms r.0) refl c.in_ok-number.ensures.gives
    (stops (walk.judge_enumerators c.args.whole.now (pos 0) (enumerators_of (w.out-EnumeratorList c.in-Some.list).enumerators)) (λ _. walk.judge_enum (ee.out-Enum c.args.e.now).at (ee.out-Enum c.args.e.now).tag c.in_ok-number.number) (walk.judge_list c.args.whole.now fixed (ee.out-Enum c.args.e.now).at (ee.out-Enum c.args.e.now).tag c.in_ok-number.number (list_of (ee.out-Enum c.args.e.now).list)) _ (seen c.judge_enumerators.new.world) _ c.in_err-judge_enumerators-in-Some.field-0.0 c.from_residual-in_err-judge_enumerators-in-Some.result (λ _. tt) _ (ap (λ l. walk.judge_list c.args.whole.now fixed (ee.out-Enum c.args.e.now).at (ee.out-Enum c.args.e.now).tag c.in_ok-number.number (list_of l)) c.in-Some.is ∙ ap (λ l. walk.judge_list c.args.whole.now fixed (ee.out-Enum c.args.e.now).at (ee.out-Enum c.args.e.now).tag c.in_ok-number.number l) (list_seen c.in-Some.list)) c.in_err-judge_enumerators-in-Some.ensures.gives (search rules))

pub judge_enum_spec-returns-in-None-clause-gives : goal.judge_enum_spec-returns-in-None-clause-gives
judge_enum_spec-returns-in-None-clause-gives z c =
    λ fixed. runs (walk.enum_number (ee.out-Enum c.args.e.now).tag c.args.own.now) (λ n. walk.judge_list c.args.whole.now fixed (ee.out-Enum c.args.e.now).at (ee.out-Enum c.args.e.now).tag n (list_of (ee.out-Enum c.args.e.now).list)) (enum_seen c.args.whole.now fixed c.args.own.now c.args.e.now) c.in_ok-number.number _ (seen c.tagged_enum.new.world) _ c.judge_enum_tag.result (λ r. type_at c.judge_enum_tag.new.world.table.terms r.0) refl c.in_ok-number.ensures.gives
    (same (walk.judge_enum_tag (ee.out-Enum c.args.e.now).at (ee.out-Enum c.args.e.now).tag c.in_ok-number.number) (walk.judge_list c.args.whole.now fixed (ee.out-Enum c.args.e.now).at (ee.out-Enum c.args.e.now).tag c.in_ok-number.number (list_of (ee.out-Enum c.args.e.now).list)) _ _ c.judge_enum_tag.result (λ r. type_at c.judge_enum_tag.new.world.table.terms r.0) (ap (λ l. walk.judge_list c.args.whole.now fixed (ee.out-Enum c.args.e.now).at (ee.out-Enum c.args.e.now).tag c.in_ok-number.number (list_of l)) c.in-None.is) c.judge_enum_tag.ensures.gives)

pub judge_enum_spec-returns-in_ok-judge_enumerators-in-Some-clause-gives : goal.judge_enum_spec-returns-in_ok-judge_enumerators-in-Some-clause-gives
judge_enum_spec-returns-in_ok-judge_enumerators-in-Some-clause-gives z c =
    λ fixed. runs (walk.enum_number (ee.out-Enum c.args.e.now).tag c.args.own.now) (λ n. walk.judge_list c.args.whole.now fixed (ee.out-Enum c.args.e.now).at (ee.out-Enum c.args.e.now).tag n (list_of (ee.out-Enum c.args.e.now).list)) (enum_seen c.args.whole.now fixed c.args.own.now c.args.e.now) c.in_ok-number.number _ (seen c.tagged_enum.new.world) _ c.judge_enum.result (λ r. type_at c.judge_enum.new.world.table.terms r.0) refl c.in_ok-number.ensures.gives
    (runs (walk.judge_enumerators c.args.whole.now (pos 0) (enumerators_of (w.out-EnumeratorList c.in-Some.list).enumerators)) (λ _. walk.judge_enum (ee.out-Enum c.args.e.now).at (ee.out-Enum c.args.e.now).tag c.in_ok-number.number) (walk.judge_list c.args.whole.now fixed (ee.out-Enum c.args.e.now).at (ee.out-Enum c.args.e.now).tag c.in_ok-number.number (list_of (ee.out-Enum c.args.e.now).list)) tt _ (seen c.judge_enumerators.new.world) _ c.judge_enum.result (λ r. type_at c.judge_enum.new.world.table.terms r.0) (ap (λ l. walk.judge_list c.args.whole.now fixed (ee.out-Enum c.args.e.now).at (ee.out-Enum c.args.e.now).tag c.in_ok-number.number (list_of l)) c.in-Some.is ∙ ap (λ l. walk.judge_list c.args.whole.now fixed (ee.out-Enum c.args.e.now).at (ee.out-Enum c.args.e.now).tag c.in_ok-number.number l) (list_seen c.in-Some.list)) c.in_ok-judge_enumerators-in-Some.ensures.gives c.judge_enum.ensures.gives)

pub judge_enumerators-returns-in-Err-clause-gives : goal.judge_enumerators-returns-in-Err-clause-gives
judge_enumerators-returns-in-Err-clause-gives z c =
    handing_ends (walk.judge_enumerators c.args.whole.now (pos 0) (enumerators_of c.args.enumerators.now)) (walk.judge_enumerators c.args.whole.now (pos 0) (enumerators_of c.as_slice-e-items.result.now)) (walk.judge_enumerators c.args.whole.now (to_z w128 c.loop-e.next-bits) (enumerators_of (drop c.loop-e.e-index c.as_slice-e-items.result.now))) (enumerator_of c.args.whole.now c.e-item.result.at c.e-item.result.name (to_z w128 c.loop-e.next-bits) (boxed_expr c.e-item.result.value)) (λ s. (walk.judge_enumerators c.args.whole.now s (enumerators_of (drop (c.loop-e.e-index + 1) c.as_slice-e-items.result.now)))) _ (seen c.loop-e.world) (seen c.judge_one_enumerator.new.world) _ c.in-Err.end (λ z. z) _ (ap (λ l. (walk.judge_enumerators c.args.whole.now (pos 0) (enumerators_of l))) (sym c.as_slice-e-items.ensures)) (ap (λ l. (walk.judge_enumerators c.args.whole.now (to_z w128 c.loop-e.next-bits) (enumerators_of l))) (left c.as_slice-e-items.result.now c.loop-e.e-index c.e-item.result c.loop-e-test.true c.e-item.is)) c.loop-e.invariant.gives c.in-Err.ensures.gives

pub judge_enumerators-loop-e-preserved : goal.judge_enumerators-loop-e-preserved
judge_enumerators-loop-e-preserved z c =
    let back : to_z w128 (of_z w128 c.in-Ok.later) ≡ c.in-Ok.later = search (rules, to_z-of_z) in
    record {
      gives = λ next. hand_step (walk.judge_enumerators c.args.whole.now (pos 0) (enumerators_of c.as_slice-e-items.result.now)) (walk.judge_enumerators c.args.whole.now (to_z w128 c.loop-e.next-bits) (enumerators_of (drop c.loop-e.e-index c.as_slice-e-items.result.now))) (enumerator_of c.args.whole.now c.e-item.result.at c.e-item.result.name (to_z w128 c.loop-e.next-bits) (boxed_expr c.e-item.result.value)) (λ s. (walk.judge_enumerators c.args.whole.now s (enumerators_of (drop (c.loop-e.e-index + 1) c.as_slice-e-items.result.now)))) c.in-Ok.later (seen c.args.world.now) (seen c.loop-e.world) (seen c.judge_one_enumerator.new.world) (ap (λ l. (walk.judge_enumerators c.args.whole.now (to_z w128 c.loop-e.next-bits) (enumerators_of l))) (left c.as_slice-e-items.result.now c.loop-e.e-index c.e-item.result c.loop-e-test.true c.e-item.is)) c.loop-e.invariant.gives c.in-Ok.ensures.gives next ∙ ap (λ z. verdict ((walk.judge_enumerators c.args.whole.now z (enumerators_of (drop (c.loop-e.e-index + 1) c.as_slice-e-items.result.now))) next (seen c.judge_one_enumerator.new.world))) (sym back);
      extends = extends_on _ _ _ c.loop-e.invariant.extends c.in-Ok.ensures.extends;
    }

pub judge_field-returns-in_err-base-clause-gives : goal.judge_field-returns-in_err-base-clause-gives
judge_field-returns-in_err-base-clause-gives z c =
    stops (base_of c.args.whole.now c.args.fixed (walk.behind_field c.args.field.now.at (declarators_of c.args.field.now.declarators)) c.args.field.now.at (specs_of c.args.field.now.specs)) (λ b. gathered (map (member_of c.args.world.now.table.terms) c.args.members.now) (walk.judge_members c.args.whole.now c.args.fixed b (declarators_of c.args.field.now.declarators))) (gathered (map (member_of c.args.world.now.table.terms) c.args.members.now) (field_of c.args.whole.now c.args.fixed c.args.field.now.at (specs_of c.args.field.now.specs) (declarators_of c.args.field.now.declarators))) _ (seen c.judge_base.new.world) _ c.in_err-base.field-0.0 c.from_residual.result (λ r. type_at c.judge_base.new.world.table.terms r.0) _ refl (c.in_err-base.ensures.gives (walk.behind_field c.args.field.now.at (declarators_of c.args.field.now.declarators))) (search rules)

pub judge_field-returns-clause-gives : goal.judge_field-returns-clause-gives
judge_field-returns-clause-gives z c =
    runs (base_of c.args.whole.now c.args.fixed (walk.behind_field c.args.field.now.at (declarators_of c.args.field.now.declarators)) c.args.field.now.at (specs_of c.args.field.now.specs)) (λ b. gathered (map (member_of c.args.world.now.table.terms) c.args.members.now) (walk.judge_members c.args.whole.now c.args.fixed b (declarators_of c.args.field.now.declarators))) (gathered (map (member_of c.args.world.now.table.terms) c.args.members.now) (field_of c.args.whole.now c.args.fixed c.args.field.now.at (specs_of c.args.field.now.specs) (declarators_of c.args.field.now.declarators))) (type_at c.judge_base.new.world.table.terms c.in_ok-base.base.0) _ (seen c.judge_base.new.world) _ c.judge_members.result (λ _. map (member_of c.judge_members.new.world.table.terms) c.judge_members.new.members) refl (c.in_ok-base.ensures.gives (walk.behind_field c.args.field.now.at (declarators_of c.args.field.now.declarators)))
    (same (gathered (map (member_of c.judge_base.new.world.table.terms) c.args.members.now) (walk.judge_members c.args.whole.now c.args.fixed (type_at c.judge_base.new.world.table.terms c.in_ok-base.base.0) (declarators_of c.args.field.now.declarators))) (gathered (map (member_of c.args.world.now.table.terms) c.args.members.now) (walk.judge_members c.args.whole.now c.args.fixed (type_at c.judge_base.new.world.table.terms c.in_ok-base.base.0) (declarators_of c.args.field.now.declarators))) _ _ c.judge_members.result (λ _. map (member_of c.judge_members.new.world.table.terms) c.judge_members.new.members) (ap (λ ms. gathered ms (walk.judge_members c.args.whole.now c.args.fixed (type_at c.judge_base.new.world.table.terms c.in_ok-base.base.0) (declarators_of c.args.field.now.declarators))) (sym (members_same c.args.world.now.table c.judge_base.new.world.table c.in_ok-base.ensures.extends c.args.members.now c.requires.members))) c.judge_members.ensures.gives)

pub judge_fields-returns-in-Err-clause-gives : goal.judge_fields-returns-in-Err-clause-gives
judge_fields-returns-in-Err-clause-gives z c =
    gathering_ends (walk.judge_fields c.args.whole.now c.args.fixed (fields_of c.args.fields.now)) (walk.judge_fields c.args.whole.now c.args.fixed (fields_of c.as_slice-field-items.result.now)) (walk.judge_fields c.args.whole.now c.args.fixed (fields_of (drop c.loop-field.field-index c.as_slice-field-items.result.now))) (field_of c.args.whole.now c.args.fixed c.field-item.result.at (specs_of c.field-item.result.specs) (declarators_of c.field-item.result.declarators)) (walk.judge_fields c.args.whole.now c.args.fixed (fields_of (drop (c.loop-field.field-index + 1) c.as_slice-field-items.result.now))) [] (map (member_of c.loop-field.world.table.terms) c.loop-field.members) _ (seen c.loop-field.world) (seen c.judge_field.new.world) _ c.in-Err.end (λ _. (map (member_of c.judge_field.new.world.table.terms) c.judge_field.new.members)) _ (ap (λ l. walk.judge_fields c.args.whole.now c.args.fixed (fields_of l)) (sym c.as_slice-field-items.ensures)) (ap (λ l. walk.judge_fields c.args.whole.now c.args.fixed (fields_of l)) (left c.as_slice-field-items.result.now c.loop-field.field-index c.field-item.result c.loop-field-test.true c.field-item.is)) c.loop-field.invariant.gives c.in-Err.ensures.gives

pub judge_fields-loop-field-preserved : goal.judge_fields-loop-field-preserved
judge_fields-loop-field-preserved z c =
    record {
      gives = gather_step (walk.judge_fields c.args.whole.now c.args.fixed (fields_of c.as_slice-field-items.result.now)) (walk.judge_fields c.args.whole.now c.args.fixed (fields_of (drop c.loop-field.field-index c.as_slice-field-items.result.now))) (field_of c.args.whole.now c.args.fixed c.field-item.result.at (specs_of c.field-item.result.specs) (declarators_of c.field-item.result.declarators)) (walk.judge_fields c.args.whole.now c.args.fixed (fields_of (drop (c.loop-field.field-index + 1) c.as_slice-field-items.result.now))) [] (map (member_of c.loop-field.world.table.terms) c.loop-field.members) (map (member_of c.judge_field.new.world.table.terms) c.judge_field.new.members) (seen c.args.world.now) (seen c.loop-field.world) (seen c.judge_field.new.world) (ap (λ l. walk.judge_fields c.args.whole.now c.args.fixed (fields_of l)) (left c.as_slice-field-items.result.now c.loop-field.field-index c.field-item.result c.loop-field-test.true c.field-item.is)) c.loop-field.invariant.gives c.in-Ok.ensures.gives;
      extends = extends_on _ _ _ c.loop-field.invariant.extends c.in-Ok.ensures.extends;
      valid = c.in-Ok.ensures.valid;
    }

pub judge_fields-returns-clause-gives : goal.judge_fields-returns-clause-gives
judge_fields-returns-clause-gives z c =
    gathers_all (walk.judge_fields c.args.whole.now c.args.fixed (fields_of c.args.fields.now)) (walk.judge_fields c.args.whole.now c.args.fixed (fields_of c.as_slice-field-items.result.now)) (walk.judge_fields c.args.whole.now c.args.fixed (fields_of (drop c.loop-field.field-index c.as_slice-field-items.result.now))) [] (map (member_of c.loop-field.world.table.terms) c.loop-field.members) _ (seen c.loop-field.world) (ap (λ l. walk.judge_fields c.args.whole.now c.args.fixed (fields_of l)) (sym c.as_slice-field-items.ensures)) (at_drop_all (λ l. walk.judge_fields c.args.whole.now c.args.fixed (fields_of l)) c.as_slice-field-items.result.now c.loop-field.field-index c.loop-field-test.false) c.loop-field.invariant.gives

pub judge_function-end_function-requires-clause-layers : goal.judge_function-end_function-requires-clause-layers
judge_function-end_function-requires-clause-layers z c =
    layers_up _ _ c.args.laid.layers (extends_to_new c.args.world.now.table c.enter.new.self.table c.judge_params.new.world.table c.in_ok-enter.ensures.same c.in_ok-types.ensures.extends).grows.longer c.requires

pub judge_function-returns-clause-gives : goal.judge_function-returns-clause-gives
judge_function-returns-clause-gives z c =
    runs (change known.enter) (λ _. ◌>>=◌ (walk.judge_params c.args.whole.now c.args.fixed 0 (params_of c.args.params.now)) (λ ts. function_ended ts (laid_of c.args.world.now.table.terms c.args.laid))) (function_around c.args.whole.now c.args.fixed (laid_of c.args.world.now.table.terms c.args.laid) (params_of c.args.params.now)) tt _ (seen c.enter.new.self) (seen c.end_function.new.world) c.end_function.result (laid_of c.end_function.new.world.table.terms) refl (λ k. ap (λ w. verdict (k tt w)) (sym c.in_ok-enter.ensures.seen))
    (runs (walk.judge_params c.args.whole.now c.args.fixed 0 (params_of c.args.params.now)) (λ ts. function_ended ts (laid_of c.args.world.now.table.terms c.args.laid)) _ (all_types c.judge_params.new.world.table.terms c.in_ok-types.types) _ (seen c.judge_params.new.world) (seen c.end_function.new.world) c.end_function.result (laid_of c.end_function.new.world.table.terms) refl c.in_ok-types.ensures.gives
    (same (function_ended (all_types c.judge_params.new.world.table.terms c.in_ok-types.types) (laid_of c.judge_params.new.world.table.terms c.args.laid)) (function_ended (all_types c.judge_params.new.world.table.terms c.in_ok-types.types) (laid_of c.args.world.now.table.terms c.args.laid)) (seen c.judge_params.new.world) (seen c.end_function.new.world) c.end_function.result (laid_of c.end_function.new.world.table.terms) (ap (λ l. function_ended (all_types c.judge_params.new.world.table.terms c.in_ok-types.types) l) (sym (laid_same c.args.world.now.table c.judge_params.new.world.table (extends_to_new c.args.world.now.table c.enter.new.self.table c.judge_params.new.world.table c.in_ok-enter.ensures.same c.in_ok-types.ensures.extends) c.args.laid c.requires))) c.end_function.ensures.gives))

pub judge_layers-returns-in_err-laid-in-ArrayOf-clause-gives : goal.judge_layers-returns-in_err-laid-in-ArrayOf-clause-gives
judge_layers-returns-in_err-laid-in-ArrayOf-clause-gives z c =
    stops (walk.judge_layers c.args.whole.now c.args.fixed (view_declarator c.deref-in-ArrayOf.result.now)) (λ l. sized_by c.args.whole.now l (boxed_expr c.in-ArrayOf.size)) (walk.judge_layers c.args.whole.now c.args.fixed (view_declarator c.args.d.now)) _ (seen c.judge_layers-in-ArrayOf.new.world) _ c.in_err-laid-in-ArrayOf.field-0.0 c.from_residual-in_err-laid-in-ArrayOf.result (laid_of c.judge_layers-in-ArrayOf.new.world.table.terms) _ (ap (λ d. walk.judge_layers c.args.whole.now c.args.fixed (view_declarator d)) c.in-ArrayOf.is ∙ parts.array_of c.args.whole.now c.args.fixed c.in-ArrayOf.field-0 c.in-ArrayOf.d c.in-ArrayOf.size ∙ ap (λ d. ◌>>=◌ (walk.judge_layers c.args.whole.now c.args.fixed (view_declarator d)) (λ l. sized_by c.args.whole.now l (boxed_expr c.in-ArrayOf.size))) (sym c.deref-in-ArrayOf.ensures)) c.in_err-laid-in-ArrayOf.ensures.gives (search rules)

pub judge_layers-returns-in_ok-put_pointer-in-PointerTo-clause-gives : goal.judge_layers-returns-in_ok-put_pointer-in-PointerTo-clause-gives
judge_layers-returns-in_ok-put_pointer-in-PointerTo-clause-gives z c =
    runs (walk.judge_layers c.args.whole.now c.args.fixed (view_declarator c.deref-in-PointerTo.result.now)) (λ l. give (walk.laid_more (pointer (specifiers.qualifiers_in (map view_qualifier c.in-PointerTo.qualifiers))) l)) (walk.judge_layers c.args.whole.now c.args.fixed (view_declarator c.args.d.now)) (laid_of c.judge_layers-in-PointerTo.new.world.table.terms c.in_ok-laid-in-PointerTo.laid) _ (seen c.judge_layers-in-PointerTo.new.world) _ (Ok c.put_pointer.new.self) (laid_of c.judge_layers-in-PointerTo.new.world.table.terms)
    (ap (λ d. walk.judge_layers c.args.whole.now c.args.fixed (view_declarator d)) c.in-PointerTo.is ∙ ap (λ d. ◌>>=◌ (walk.judge_layers c.args.whole.now c.args.fixed (view_declarator d)) (λ l. give (walk.laid_more (pointer (specifiers.qualifiers_in (map view_qualifier c.in-PointerTo.qualifiers))) l))) (sym c.deref-in-PointerTo.ensures)) c.in_ok-laid-in-PointerTo.ensures.gives
    (λ next. ap (λ l. verdict (next l (seen c.judge_layers-in-PointerTo.new.world))) (ap (λ q. walk.laid_more (pointer q) (laid_of c.judge_layers-in-PointerTo.new.world.table.terms c.in_ok-laid-in-PointerTo.laid)) (sym c.qualifiers_in.ensures.is) ∙ sym (c.in_ok-put_pointer-in-PointerTo.ensures.is c.judge_layers-in-PointerTo.new.world.table.terms)))

pub judge_layers-returns-in_ok-put_pointer-in-PointerTo-clause-valid : goal.judge_layers-returns-in_ok-put_pointer-in-PointerTo-clause-valid
judge_layers-returns-in_ok-put_pointer-in-PointerTo-clause-valid z c =
    c.in_ok-put_pointer-in-PointerTo.ensures.valid _ c.in_ok-laid-in-PointerTo.ensures.valid c.qualifiers_in.ensures.small

pub judge_layers-returns-in_ok-laid-in-ArrayOf-clause-gives : goal.judge_layers-returns-in_ok-laid-in-ArrayOf-clause-gives
judge_layers-returns-in_ok-laid-in-ArrayOf-clause-gives z c =
    runs (walk.judge_layers c.args.whole.now c.args.fixed (view_declarator c.deref-in-ArrayOf.result.now)) (λ l. sized_by c.args.whole.now l (boxed_expr c.in-ArrayOf.size)) (walk.judge_layers c.args.whole.now c.args.fixed (view_declarator c.args.d.now)) (laid_of c.judge_layers-in-ArrayOf.new.world.table.terms c.in_ok-laid-in-ArrayOf.laid) _ (seen c.judge_layers-in-ArrayOf.new.world) _ c.judge_length.result (laid_of c.judge_length.new.world.table.terms) (ap (λ d. walk.judge_layers c.args.whole.now c.args.fixed (view_declarator d)) c.in-ArrayOf.is ∙ parts.array_of c.args.whole.now c.args.fixed c.in-ArrayOf.field-0 c.in-ArrayOf.d c.in-ArrayOf.size ∙ ap (λ d. ◌>>=◌ (walk.judge_layers c.args.whole.now c.args.fixed (view_declarator d)) (λ l. sized_by c.args.whole.now l (boxed_expr c.in-ArrayOf.size))) (sym c.deref-in-ArrayOf.ensures)) c.in_ok-laid-in-ArrayOf.ensures.gives c.judge_length.ensures.gives

pub judge_layers-returns-in_ok-laid-in-FunctionOf-clause-gives : goal.judge_layers-returns-in_ok-laid-in-FunctionOf-clause-gives
judge_layers-returns-in_ok-laid-in-FunctionOf-clause-gives z c =
    runs (walk.judge_layers c.args.whole.now c.args.fixed (view_declarator c.deref-in-FunctionOf.result.now)) (λ l. function_around c.args.whole.now c.args.fixed l (params_of c.in-FunctionOf.params)) (walk.judge_layers c.args.whole.now c.args.fixed (view_declarator c.args.d.now)) (laid_of c.judge_layers-in-FunctionOf.new.world.table.terms c.in_ok-laid-in-FunctionOf.laid) _ (seen c.judge_layers-in-FunctionOf.new.world) _ c.judge_function.result (laid_of c.judge_function.new.world.table.terms) (ap (λ d. walk.judge_layers c.args.whole.now c.args.fixed (view_declarator d)) c.in-FunctionOf.is ∙ ap (walk.judge_layers c.args.whole.now c.args.fixed) (view_function_of c.in-FunctionOf.field-0 c.in-FunctionOf.d c.in-FunctionOf.params) ∙ ap (λ d. walk.judge_layers c.args.whole.now c.args.fixed (t.FunctionOf c.in-FunctionOf.field-0 (view_declarator d) (params_of c.in-FunctionOf.params))) (sym c.deref-in-FunctionOf.ensures)) c.in_ok-laid-in-FunctionOf.ensures.gives c.judge_function.ensures.gives

pub judge_length-returns-in_ok-put_unsized-in-None-clause-gives : goal.judge_length-returns-in_ok-put_unsized-in-None-clause-gives
judge_length-returns-in_ok-put_unsized-in-None-clause-gives z c =
    λ next. ap (λ n. verdict (sized_by c.args.whole.now (laid_of c.args.world.now.table.terms c.args.laid) (boxed_expr n) next (seen c.args.world.now))) c.in-None.is ∙ ap (λ l. verdict (next l (seen c.args.world.now))) (sym (c.in_ok-put_unsized-in-None.ensures.is c.args.world.now.table.terms))

pub judge_length-returns-in_ok-put_unsized-in-None-clause-valid : goal.judge_length-returns-in_ok-put_unsized-in-None-clause-valid
judge_length-returns-in_ok-put_unsized-in-None-clause-valid z c =
    c.in_ok-put_unsized-in-None.ensures.valid _ c.requires

pub judge_length-returns-in_ok-put_array-in-Some-clause-gives : goal.judge_length-returns-in_ok-put_array-in-Some-clause-gives
judge_length-returns-in_ok-put_array-in-Some-clause-gives z c =
    runs (walk.judge c.args.whole.now true (view c.deref.result.now)) (λ x. give (walk.laid_more (array x.value) (laid_of c.args.world.now.table.terms c.args.laid))) (sized_by c.args.whole.now (laid_of c.args.world.now.table.terms c.args.laid) (boxed_expr c.args.size.now)) (typed_of c.judge.new.world.table.terms c.in_ok-x-in-Some.x) _ (seen c.judge.new.world) _ (Ok c.put_array.new.self) (laid_of c.judge.new.world.table.terms)
    (ap (λ n. sized_by c.args.whole.now (laid_of c.args.world.now.table.terms c.args.laid) (boxed_expr n)) c.in-Some.is ∙ ap (λ e. ◌>>=◌ (walk.judge c.args.whole.now true (view e)) (λ x. give (walk.laid_more (array x.value) (laid_of c.args.world.now.table.terms c.args.laid)))) (sym c.deref.ensures)) c.in_ok-x-in-Some.ensures.gives
    (λ next. ap (λ l. verdict (next l (seen c.judge.new.world))) (laid_after c.args.world.now.table c.judge.new.world.table c.in_ok-x-in-Some.ensures.extends c.args.laid c.requires _ _ (c.in_ok-put_array-in-Some.ensures.is c.judge.new.world.table.terms)))

pub judge_length-returns-in_ok-put_array-in-Some-clause-valid : goal.judge_length-returns-in_ok-put_array-in-Some-clause-valid
judge_length-returns-in_ok-put_array-in-Some-clause-valid z c =
    c.in_ok-put_array-in-Some.ensures.valid _ (layers_up _ _ c.args.laid.layers c.in_ok-x-in-Some.ensures.extends.grows.longer c.requires)

pub judge_members-returns-in-Err-clause-gives : goal.judge_members-returns-in-Err-clause-gives
judge_members-returns-in-Err-clause-gives z c =
    gathering_ends (walk.judge_members c.args.whole.now c.args.fixed (type_at c.args.world.now.table.terms c.args.base.0) (declarators_of c.args.declarators.now)) (walk.judge_members c.args.whole.now c.args.fixed (type_at c.args.world.now.table.terms c.args.base.0) (declarators_of c.as_slice-d-items.result.now)) (walk.judge_members c.args.whole.now c.args.fixed (type_at c.args.world.now.table.terms c.args.base.0) (declarators_of (drop c.loop-d.d-index c.as_slice-d-items.result.now))) (one (member_in c.args.whole.now c.args.fixed (type_at c.loop-d.world.table.terms c.args.base.0) (view_declarator c.d-item.result))) (walk.judge_members c.args.whole.now c.args.fixed (type_at c.args.world.now.table.terms c.args.base.0) (declarators_of (drop (c.loop-d.d-index + 1) c.as_slice-d-items.result.now))) (map (member_of c.args.world.now.table.terms) c.args.members.now) (map (member_of c.loop-d.world.table.terms) c.loop-d.members) _ (seen c.loop-d.world) (seen c.judge_declared_member.new.world) _ c.in-Err.end (λ _. (map (member_of c.judge_declared_member.new.world.table.terms) c.judge_declared_member.new.members)) _ (ap (λ l. walk.judge_members c.args.whole.now c.args.fixed (type_at c.args.world.now.table.terms c.args.base.0) (declarators_of l)) (sym c.as_slice-d-items.ensures)) (ap (λ l. walk.judge_members c.args.whole.now c.args.fixed (type_at c.args.world.now.table.terms c.args.base.0) (declarators_of l)) (left c.as_slice-d-items.result.now c.loop-d.d-index c.d-item.result c.loop-d-test.true c.d-item.is) ∙ ap (λ b. and_more (one (member_in c.args.whole.now c.args.fixed b (view_declarator c.d-item.result))) (walk.judge_members c.args.whole.now c.args.fixed (type_at c.args.world.now.table.terms c.args.base.0) (declarators_of (drop (c.loop-d.d-index + 1) c.as_slice-d-items.result.now)))) (sym (c.loop-d.invariant.extends.grows.same c.args.base.0 c.requires.base))) c.loop-d.invariant.gives c.in-Err.ensures.gives

pub judge_members-loop-d-preserved : goal.judge_members-loop-d-preserved
judge_members-loop-d-preserved z c =
    record {
      gives = gather_step (walk.judge_members c.args.whole.now c.args.fixed (type_at c.args.world.now.table.terms c.args.base.0) (declarators_of c.as_slice-d-items.result.now)) (walk.judge_members c.args.whole.now c.args.fixed (type_at c.args.world.now.table.terms c.args.base.0) (declarators_of (drop c.loop-d.d-index c.as_slice-d-items.result.now))) (one (member_in c.args.whole.now c.args.fixed (type_at c.loop-d.world.table.terms c.args.base.0) (view_declarator c.d-item.result))) (walk.judge_members c.args.whole.now c.args.fixed (type_at c.args.world.now.table.terms c.args.base.0) (declarators_of (drop (c.loop-d.d-index + 1) c.as_slice-d-items.result.now))) (map (member_of c.args.world.now.table.terms) c.args.members.now) (map (member_of c.loop-d.world.table.terms) c.loop-d.members) (map (member_of c.judge_declared_member.new.world.table.terms) c.judge_declared_member.new.members) (seen c.args.world.now) (seen c.loop-d.world) (seen c.judge_declared_member.new.world) (ap (λ l. walk.judge_members c.args.whole.now c.args.fixed (type_at c.args.world.now.table.terms c.args.base.0) (declarators_of l)) (left c.as_slice-d-items.result.now c.loop-d.d-index c.d-item.result c.loop-d-test.true c.d-item.is) ∙ ap (λ b. and_more (one (member_in c.args.whole.now c.args.fixed b (view_declarator c.d-item.result))) (walk.judge_members c.args.whole.now c.args.fixed (type_at c.args.world.now.table.terms c.args.base.0) (declarators_of (drop (c.loop-d.d-index + 1) c.as_slice-d-items.result.now)))) (sym (c.loop-d.invariant.extends.grows.same c.args.base.0 c.requires.base))) c.loop-d.invariant.gives c.in-Ok.ensures.gives;
      extends = extends_on _ _ _ c.loop-d.invariant.extends c.in-Ok.ensures.extends;
      valid = c.in-Ok.ensures.valid;
    }

pub judge_members-returns-clause-gives : goal.judge_members-returns-clause-gives
judge_members-returns-clause-gives z c =
    gathers_all (walk.judge_members c.args.whole.now c.args.fixed (type_at c.args.world.now.table.terms c.args.base.0) (declarators_of c.args.declarators.now)) (walk.judge_members c.args.whole.now c.args.fixed (type_at c.args.world.now.table.terms c.args.base.0) (declarators_of c.as_slice-d-items.result.now)) (walk.judge_members c.args.whole.now c.args.fixed (type_at c.args.world.now.table.terms c.args.base.0) (declarators_of (drop c.loop-d.d-index c.as_slice-d-items.result.now))) (map (member_of c.args.world.now.table.terms) c.args.members.now) (map (member_of c.loop-d.world.table.terms) c.loop-d.members) _ (seen c.loop-d.world) (ap (λ l. walk.judge_members c.args.whole.now c.args.fixed (type_at c.args.world.now.table.terms c.args.base.0) (declarators_of l)) (sym c.as_slice-d-items.ensures)) (at_drop_all (λ l. walk.judge_members c.args.whole.now c.args.fixed (type_at c.args.world.now.table.terms c.args.base.0) (declarators_of l)) c.as_slice-d-items.result.now c.loop-d.d-index c.loop-d-test.false) c.loop-d.invariant.gives

pub judge_name_of_type-returns-in_err-base-clause-gives : goal.judge_name_of_type-returns-in_err-base-clause-gives
judge_name_of_type-returns-in_err-base-clause-gives z c =
    stops (base_of c.args.whole.now c.args.fixed (walk.behind_maybe c.args.name.now.at (boxed_declarator c.args.name.now.declarator)) c.args.name.now.at (specs_of c.args.name.now.specs)) (λ b. ◌>>=◌ (walk.judge_maybe c.args.whole.now c.args.fixed c.args.name.now.at (boxed_declarator c.args.name.now.declarator)) (λ l. (named_type c.args.name.now.at (walk.at_of_maybe c.args.name.now.at (boxed_declarator c.args.name.now.declarator)) b l))) (walk.judge_name_of_type c.args.whole.now c.args.fixed (view_type_name c.args.name.now)) _ (seen c.judge_base.new.world) _ c.in_err-base.field-0.0 c.from_residual.result (λ r. type_at c.judge_base.new.world.table.terms r.0) _ refl (c.in_err-base.ensures.gives (walk.behind_maybe c.args.name.now.at (boxed_declarator c.args.name.now.declarator))) (search rules)

pub judge_name_of_type-returns-in_err-laid-clause-gives : goal.judge_name_of_type-returns-in_err-laid-clause-gives
judge_name_of_type-returns-in_err-laid-clause-gives z c =
    runs (base_of c.args.whole.now c.args.fixed (walk.behind_maybe c.args.name.now.at (boxed_declarator c.args.name.now.declarator)) c.args.name.now.at (specs_of c.args.name.now.specs)) (λ b. ◌>>=◌ (walk.judge_maybe c.args.whole.now c.args.fixed c.args.name.now.at (boxed_declarator c.args.name.now.declarator)) (λ l. (named_type c.args.name.now.at (walk.at_of_maybe c.args.name.now.at (boxed_declarator c.args.name.now.declarator)) b l))) (walk.judge_name_of_type c.args.whole.now c.args.fixed (view_type_name c.args.name.now)) (type_at c.judge_base.new.world.table.terms c.in_ok-base.base.0) _ (seen c.judge_base.new.world) _ c.from_residual-in_err-laid.result (λ r. type_at c.judge_maybe.new.world.table.terms r.0) refl (c.in_ok-base.ensures.gives (walk.behind_maybe c.args.name.now.at (boxed_declarator c.args.name.now.declarator)))
    (stops (walk.judge_maybe c.args.whole.now c.args.fixed c.args.name.now.at (boxed_declarator c.args.name.now.declarator)) (λ l. (named_type c.args.name.now.at (walk.at_of_maybe c.args.name.now.at (boxed_declarator c.args.name.now.declarator)) (type_at c.judge_base.new.world.table.terms c.in_ok-base.base.0) l)) _ _ (seen c.judge_maybe.new.world) _ c.in_err-laid.field-0.0 c.from_residual-in_err-laid.result (laid_of c.judge_maybe.new.world.table.terms) _ refl c.in_err-laid.ensures.gives (search rules))

pub judge_name_of_type-returns-clause-gives : goal.judge_name_of_type-returns-clause-gives
judge_name_of_type-returns-clause-gives z c =
    runs (base_of c.args.whole.now c.args.fixed (walk.behind_maybe c.args.name.now.at (boxed_declarator c.args.name.now.declarator)) c.args.name.now.at (specs_of c.args.name.now.specs)) (λ b. ◌>>=◌ (walk.judge_maybe c.args.whole.now c.args.fixed c.args.name.now.at (boxed_declarator c.args.name.now.declarator)) (λ l. (named_type c.args.name.now.at (walk.at_of_maybe c.args.name.now.at (boxed_declarator c.args.name.now.declarator)) b l))) (walk.judge_name_of_type c.args.whole.now c.args.fixed (view_type_name c.args.name.now)) (type_at c.judge_base.new.world.table.terms c.in_ok-base.base.0) _ (seen c.judge_base.new.world) _ c.judge_named_type.result (λ r. type_at c.judge_named_type.new.world.table.terms r.0) refl (c.in_ok-base.ensures.gives (walk.behind_maybe c.args.name.now.at (boxed_declarator c.args.name.now.declarator)))
    (runs (walk.judge_maybe c.args.whole.now c.args.fixed c.args.name.now.at (boxed_declarator c.args.name.now.declarator)) (λ l. (named_type c.args.name.now.at (walk.at_of_maybe c.args.name.now.at (boxed_declarator c.args.name.now.declarator)) (type_at c.judge_base.new.world.table.terms c.in_ok-base.base.0) l)) _ (laid_of c.judge_maybe.new.world.table.terms c.in_ok-laid.laid) _ (seen c.judge_maybe.new.world) _ c.judge_named_type.result (λ r. type_at c.judge_named_type.new.world.table.terms r.0) refl c.in_ok-laid.ensures.gives
    (same (named_type c.args.name.now.at c.at_of_maybe-outer.result (type_at c.judge_maybe.new.world.table.terms c.in_ok-base.base.0) (laid_of c.judge_maybe.new.world.table.terms c.in_ok-laid.laid)) (named_type c.args.name.now.at (walk.at_of_maybe c.args.name.now.at (boxed_declarator c.args.name.now.declarator)) (type_at c.judge_base.new.world.table.terms c.in_ok-base.base.0) (laid_of c.judge_maybe.new.world.table.terms c.in_ok-laid.laid)) _ _ c.judge_named_type.result (λ r. type_at c.judge_named_type.new.world.table.terms r.0) (ap (λ b. (named_type c.args.name.now.at (walk.at_of_maybe c.args.name.now.at (boxed_declarator c.args.name.now.declarator)) b (laid_of c.judge_maybe.new.world.table.terms c.in_ok-laid.laid))) (sym (c.in_ok-laid.ensures.extends.grows.same c.in_ok-base.base.0 c.in_ok-base.ensures.valid)) ∙ ap (λ o. (named_type c.args.name.now.at o (type_at c.judge_maybe.new.world.table.terms c.in_ok-base.base.0) (laid_of c.judge_maybe.new.world.table.terms c.in_ok-laid.laid))) (sym c.at_of_maybe-outer.ensures)) c.judge_named_type.ensures.gives))

pub judge_one_enumerator-returns-clause-gives : goal.judge_one_enumerator-returns-clause-gives
judge_one_enumerator-returns-clause-gives z c =
    let back : (to_z w128 (of_z w128 c.args.next)) ≡ c.args.next = search (rules, to_z-of_z) in
    runs (walk.judge_value c.args.whole.now (to_z w128 (of_z w128 c.args.next)) (boxed_expr c.args.e.now.value)) (λ v. walk.judge_enumerator c.args.e.now.at c.args.e.now.name (to_z w128 (of_z w128 c.args.next)) v) (enumerator_of c.args.whole.now c.args.e.now.at c.args.e.now.name c.args.next (boxed_expr c.args.e.now.value)) c.in_ok-value.value _ (seen c.judge_value.new.world) (seen c.judge_enumerator.new.world) c.judge_enumerator.result (λ z. z) (ap (λ n. enumerator_of c.args.whole.now c.args.e.now.at c.args.e.now.name n (boxed_expr c.args.e.now.value)) (sym back)) c.in_ok-value.ensures.gives
    (same (walk.judge_enumerator c.args.e.now.at c.as_slice.result.now (to_z w128 (of_z w128 c.args.next)) c.in_ok-value.value) (walk.judge_enumerator c.args.e.now.at c.args.e.now.name (to_z w128 (of_z w128 c.args.next)) c.in_ok-value.value) (seen c.judge_value.new.world) (seen c.judge_enumerator.new.world) c.judge_enumerator.result (λ z. z) (ap (λ n. walk.judge_enumerator c.args.e.now.at n (to_z w128 (of_z w128 c.args.next)) c.in_ok-value.value) (sym c.as_slice.ensures)) c.judge_enumerator.ensures.gives)

pub judge_param-returns-in_err-base-clause-gives : goal.judge_param-returns-in_err-base-clause-gives
judge_param-returns-in_err-base-clause-gives z c =
    stops (base_of c.args.whole.now c.args.fixed (walk.behind_maybe c.args.param.now.at (boxed_declarator c.args.param.now.declarator)) c.args.param.now.at (specs_of c.args.param.now.specs)) (λ b. ◌>>=◌ (walk.take_number (walk.is_named (boxed_declarator c.args.param.now.declarator)) (Some c.args.place)) (λ n. ◌>>=◌ (walk.judge_maybe c.args.whole.now c.args.fixed c.args.param.now.at (boxed_declarator c.args.param.now.declarator)) (λ l. (gathered (all_types c.args.world.now.table.terms c.args.types.now) (param_built c.args.alone n (walk.at_of_maybe c.args.param.now.at (boxed_declarator c.args.param.now.declarator)) b l))))) (gathered (all_types c.args.world.now.table.terms c.args.types.now) (param_of c.args.whole.now c.args.fixed c.args.alone c.args.place c.args.param.now.at (specs_of c.args.param.now.specs) (boxed_declarator c.args.param.now.declarator))) _ (seen c.judge_base.new.world) _ c.in_err-base.field-0.0 c.from_residual.result (λ r. type_at c.judge_base.new.world.table.terms r.0) _ refl (c.in_err-base.ensures.gives (walk.behind_maybe c.args.param.now.at (boxed_declarator c.args.param.now.declarator))) (search rules)

pub judge_param-returns-in_err-number-clause-gives : goal.judge_param-returns-in_err-number-clause-gives
judge_param-returns-in_err-number-clause-gives z c =
    runs (base_of c.args.whole.now c.args.fixed (walk.behind_maybe c.args.param.now.at (boxed_declarator c.args.param.now.declarator)) c.args.param.now.at (specs_of c.args.param.now.specs)) (λ b. ◌>>=◌ (walk.take_number (walk.is_named (boxed_declarator c.args.param.now.declarator)) (Some c.args.place)) (λ n. ◌>>=◌ (walk.judge_maybe c.args.whole.now c.args.fixed c.args.param.now.at (boxed_declarator c.args.param.now.declarator)) (λ l. (gathered (all_types c.args.world.now.table.terms c.args.types.now) (param_built c.args.alone n (walk.at_of_maybe c.args.param.now.at (boxed_declarator c.args.param.now.declarator)) b l))))) (gathered (all_types c.args.world.now.table.terms c.args.types.now) (param_of c.args.whole.now c.args.fixed c.args.alone c.args.place c.args.param.now.at (specs_of c.args.param.now.specs) (boxed_declarator c.args.param.now.declarator))) (type_at c.judge_base.new.world.table.terms c.in_ok-base.base.0) _ (seen c.judge_base.new.world) _ c.from_residual-in_err-number.result (λ _. all_types c.parameter_number.new.world.table.terms c.args.types.now) refl (c.in_ok-base.ensures.gives (walk.behind_maybe c.args.param.now.at (boxed_declarator c.args.param.now.declarator)))
    (stops (walk.take_number c.is_named.result (Some c.args.place)) (λ n. ◌>>=◌ (walk.judge_maybe c.args.whole.now c.args.fixed c.args.param.now.at (boxed_declarator c.args.param.now.declarator)) (λ l. (gathered (all_types c.args.world.now.table.terms c.args.types.now) (param_built c.args.alone n (walk.at_of_maybe c.args.param.now.at (boxed_declarator c.args.param.now.declarator)) (type_at c.judge_base.new.world.table.terms c.in_ok-base.base.0) l)))) (◌>>=◌ (walk.take_number (walk.is_named (boxed_declarator c.args.param.now.declarator)) (Some c.args.place)) (λ n. ◌>>=◌ (walk.judge_maybe c.args.whole.now c.args.fixed c.args.param.now.at (boxed_declarator c.args.param.now.declarator)) (λ l. (gathered (all_types c.args.world.now.table.terms c.args.types.now) (param_built c.args.alone n (walk.at_of_maybe c.args.param.now.at (boxed_declarator c.args.param.now.declarator)) (type_at c.judge_base.new.world.table.terms c.in_ok-base.base.0) l))))) _ (seen c.parameter_number.new.world) _ c.in_err-number.field-0.0 c.from_residual-in_err-number.result (λ n. n) _ (ap (λ b. ◌>>=◌ (walk.take_number b (Some c.args.place)) (λ n. ◌>>=◌ (walk.judge_maybe c.args.whole.now c.args.fixed c.args.param.now.at (boxed_declarator c.args.param.now.declarator)) (λ l. (gathered (all_types c.args.world.now.table.terms c.args.types.now) (param_built c.args.alone n (walk.at_of_maybe c.args.param.now.at (boxed_declarator c.args.param.now.declarator)) (type_at c.judge_base.new.world.table.terms c.in_ok-base.base.0) l))))) (sym c.is_named.ensures)) c.in_err-number.ensures.gives (search rules))

pub judge_param-returns-in_err-laid-clause-gives : goal.judge_param-returns-in_err-laid-clause-gives
judge_param-returns-in_err-laid-clause-gives z c =
    runs (base_of c.args.whole.now c.args.fixed (walk.behind_maybe c.args.param.now.at (boxed_declarator c.args.param.now.declarator)) c.args.param.now.at (specs_of c.args.param.now.specs)) (λ b. ◌>>=◌ (walk.take_number (walk.is_named (boxed_declarator c.args.param.now.declarator)) (Some c.args.place)) (λ n. ◌>>=◌ (walk.judge_maybe c.args.whole.now c.args.fixed c.args.param.now.at (boxed_declarator c.args.param.now.declarator)) (λ l. (gathered (all_types c.args.world.now.table.terms c.args.types.now) (param_built c.args.alone n (walk.at_of_maybe c.args.param.now.at (boxed_declarator c.args.param.now.declarator)) b l))))) (gathered (all_types c.args.world.now.table.terms c.args.types.now) (param_of c.args.whole.now c.args.fixed c.args.alone c.args.place c.args.param.now.at (specs_of c.args.param.now.specs) (boxed_declarator c.args.param.now.declarator))) (type_at c.judge_base.new.world.table.terms c.in_ok-base.base.0) _ (seen c.judge_base.new.world) _ c.from_residual-in_err-laid.result (λ _. all_types c.judge_maybe.new.world.table.terms c.args.types.now) refl (c.in_ok-base.ensures.gives (walk.behind_maybe c.args.param.now.at (boxed_declarator c.args.param.now.declarator)))
    (runs (walk.take_number c.is_named.result (Some c.args.place)) (λ n. ◌>>=◌ (walk.judge_maybe c.args.whole.now c.args.fixed c.args.param.now.at (boxed_declarator c.args.param.now.declarator)) (λ l. (gathered (all_types c.args.world.now.table.terms c.args.types.now) (param_built c.args.alone n (walk.at_of_maybe c.args.param.now.at (boxed_declarator c.args.param.now.declarator)) (type_at c.judge_base.new.world.table.terms c.in_ok-base.base.0) l)))) (◌>>=◌ (walk.take_number (walk.is_named (boxed_declarator c.args.param.now.declarator)) (Some c.args.place)) (λ n. ◌>>=◌ (walk.judge_maybe c.args.whole.now c.args.fixed c.args.param.now.at (boxed_declarator c.args.param.now.declarator)) (λ l. (gathered (all_types c.args.world.now.table.terms c.args.types.now) (param_built c.args.alone n (walk.at_of_maybe c.args.param.now.at (boxed_declarator c.args.param.now.declarator)) (type_at c.judge_base.new.world.table.terms c.in_ok-base.base.0) l))))) c.in_ok-number.number _ (seen c.parameter_number.new.world) _ c.from_residual-in_err-laid.result (λ _. all_types c.judge_maybe.new.world.table.terms c.args.types.now) (ap (λ b. ◌>>=◌ (walk.take_number b (Some c.args.place)) (λ n. ◌>>=◌ (walk.judge_maybe c.args.whole.now c.args.fixed c.args.param.now.at (boxed_declarator c.args.param.now.declarator)) (λ l. (gathered (all_types c.args.world.now.table.terms c.args.types.now) (param_built c.args.alone n (walk.at_of_maybe c.args.param.now.at (boxed_declarator c.args.param.now.declarator)) (type_at c.judge_base.new.world.table.terms c.in_ok-base.base.0) l))))) (sym c.is_named.ensures)) c.in_ok-number.ensures.gives
    (stops (walk.judge_maybe c.args.whole.now c.args.fixed c.args.param.now.at (boxed_declarator c.args.param.now.declarator)) (λ l. (gathered (all_types c.args.world.now.table.terms c.args.types.now) (param_built c.args.alone c.in_ok-number.number (walk.at_of_maybe c.args.param.now.at (boxed_declarator c.args.param.now.declarator)) (type_at c.judge_base.new.world.table.terms c.in_ok-base.base.0) l))) _ _ (seen c.judge_maybe.new.world) _ c.in_err-laid.field-0.0 c.from_residual-in_err-laid.result (laid_of c.judge_maybe.new.world.table.terms) _ refl c.in_err-laid.ensures.gives (search rules)))

pub judge_param-gather_param-requires-clause-types : goal.judge_param-gather_param-requires-clause-types
judge_param-gather_param-requires-clause-types z c =
    below_up _ _ c.args.types.now (extends_on _ _ _ (extends_on _ _ _ c.in_ok-base.ensures.extends c.in_ok-number.ensures.extends) c.in_ok-laid.ensures.extends).grows.longer c.requires

pub judge_param-returns-clause-gives : goal.judge_param-returns-clause-gives
judge_param-returns-clause-gives z c =
    runs (base_of c.args.whole.now c.args.fixed (walk.behind_maybe c.args.param.now.at (boxed_declarator c.args.param.now.declarator)) c.args.param.now.at (specs_of c.args.param.now.specs)) (λ b. ◌>>=◌ (walk.take_number (walk.is_named (boxed_declarator c.args.param.now.declarator)) (Some c.args.place)) (λ n. ◌>>=◌ (walk.judge_maybe c.args.whole.now c.args.fixed c.args.param.now.at (boxed_declarator c.args.param.now.declarator)) (λ l. (gathered (all_types c.args.world.now.table.terms c.args.types.now) (param_built c.args.alone n (walk.at_of_maybe c.args.param.now.at (boxed_declarator c.args.param.now.declarator)) b l))))) (gathered (all_types c.args.world.now.table.terms c.args.types.now) (param_of c.args.whole.now c.args.fixed c.args.alone c.args.place c.args.param.now.at (specs_of c.args.param.now.specs) (boxed_declarator c.args.param.now.declarator))) (type_at c.judge_base.new.world.table.terms c.in_ok-base.base.0) _ (seen c.judge_base.new.world) _ c.gather_param.result (λ _. all_types c.gather_param.new.world.table.terms c.gather_param.new.types) refl (c.in_ok-base.ensures.gives (walk.behind_maybe c.args.param.now.at (boxed_declarator c.args.param.now.declarator)))
    (runs (walk.take_number c.is_named.result (Some c.args.place)) (λ n. ◌>>=◌ (walk.judge_maybe c.args.whole.now c.args.fixed c.args.param.now.at (boxed_declarator c.args.param.now.declarator)) (λ l. (gathered (all_types c.args.world.now.table.terms c.args.types.now) (param_built c.args.alone n (walk.at_of_maybe c.args.param.now.at (boxed_declarator c.args.param.now.declarator)) (type_at c.judge_base.new.world.table.terms c.in_ok-base.base.0) l)))) (◌>>=◌ (walk.take_number (walk.is_named (boxed_declarator c.args.param.now.declarator)) (Some c.args.place)) (λ n. ◌>>=◌ (walk.judge_maybe c.args.whole.now c.args.fixed c.args.param.now.at (boxed_declarator c.args.param.now.declarator)) (λ l. (gathered (all_types c.args.world.now.table.terms c.args.types.now) (param_built c.args.alone n (walk.at_of_maybe c.args.param.now.at (boxed_declarator c.args.param.now.declarator)) (type_at c.judge_base.new.world.table.terms c.in_ok-base.base.0) l))))) c.in_ok-number.number _ (seen c.parameter_number.new.world) _ c.gather_param.result (λ _. all_types c.gather_param.new.world.table.terms c.gather_param.new.types) (ap (λ b. ◌>>=◌ (walk.take_number b (Some c.args.place)) (λ n. ◌>>=◌ (walk.judge_maybe c.args.whole.now c.args.fixed c.args.param.now.at (boxed_declarator c.args.param.now.declarator)) (λ l. (gathered (all_types c.args.world.now.table.terms c.args.types.now) (param_built c.args.alone n (walk.at_of_maybe c.args.param.now.at (boxed_declarator c.args.param.now.declarator)) (type_at c.judge_base.new.world.table.terms c.in_ok-base.base.0) l))))) (sym c.is_named.ensures)) c.in_ok-number.ensures.gives
    (runs (walk.judge_maybe c.args.whole.now c.args.fixed c.args.param.now.at (boxed_declarator c.args.param.now.declarator)) (λ l. (gathered (all_types c.args.world.now.table.terms c.args.types.now) (param_built c.args.alone c.in_ok-number.number (walk.at_of_maybe c.args.param.now.at (boxed_declarator c.args.param.now.declarator)) (type_at c.judge_base.new.world.table.terms c.in_ok-base.base.0) l))) _ (laid_of c.judge_maybe.new.world.table.terms c.in_ok-laid.laid) _ (seen c.judge_maybe.new.world) _ c.gather_param.result (λ _. all_types c.gather_param.new.world.table.terms c.gather_param.new.types) refl c.in_ok-laid.ensures.gives
    (same (gathered (all_types c.judge_maybe.new.world.table.terms c.args.types.now) (param_built c.args.alone c.in_ok-number.number c.at_of_maybe-at.result (type_at c.judge_maybe.new.world.table.terms c.in_ok-base.base.0) (laid_of c.judge_maybe.new.world.table.terms c.in_ok-laid.laid))) (gathered (all_types c.args.world.now.table.terms c.args.types.now) (param_built c.args.alone c.in_ok-number.number (walk.at_of_maybe c.args.param.now.at (boxed_declarator c.args.param.now.declarator)) (type_at c.judge_base.new.world.table.terms c.in_ok-base.base.0) (laid_of c.judge_maybe.new.world.table.terms c.in_ok-laid.laid))) _ _ c.gather_param.result (λ _. all_types c.gather_param.new.world.table.terms c.gather_param.new.types)
    (ap (λ ts. (gathered ts (param_built c.args.alone c.in_ok-number.number (walk.at_of_maybe c.args.param.now.at (boxed_declarator c.args.param.now.declarator)) (type_at c.judge_base.new.world.table.terms c.in_ok-base.base.0) (laid_of c.judge_maybe.new.world.table.terms c.in_ok-laid.laid)))) (sym (types_same c.args.world.now.table c.judge_maybe.new.world.table (extends_on _ _ _ (extends_on _ _ _ c.in_ok-base.ensures.extends c.in_ok-number.ensures.extends) c.in_ok-laid.ensures.extends) c.args.types.now c.requires)) ∙ ap (λ b. (gathered (all_types c.judge_maybe.new.world.table.terms c.args.types.now) (param_built c.args.alone c.in_ok-number.number (walk.at_of_maybe c.args.param.now.at (boxed_declarator c.args.param.now.declarator)) b (laid_of c.judge_maybe.new.world.table.terms c.in_ok-laid.laid)))) (sym ((extends_on _ _ _ c.in_ok-number.ensures.extends c.in_ok-laid.ensures.extends).grows.same c.in_ok-base.base.0 c.in_ok-base.ensures.valid)) ∙ ap (λ a. (gathered (all_types c.judge_maybe.new.world.table.terms c.args.types.now) (param_built c.args.alone c.in_ok-number.number a (type_at c.judge_maybe.new.world.table.terms c.in_ok-base.base.0) (laid_of c.judge_maybe.new.world.table.terms c.in_ok-laid.laid)))) (sym c.at_of_maybe-at.ensures))
    c.gather_param.ensures.gives)))

pub judge_params-returns-in-Err-clause-gives : goal.judge_params-returns-in-Err-clause-gives
judge_params-returns-in-Err-clause-gives z c =
    gathering_ends (walk.judge_params c.args.whole.now c.args.fixed 0 (params_of c.args.params.now)) (walk.judge_params c.args.whole.now c.args.fixed 0 (params_of c.as_slice-param-items.result.now)) (walk.judge_params c.args.whole.now c.args.fixed c.loop-param.place (params_of (drop c.loop-param.param-index c.as_slice-param-items.result.now))) (param_of c.args.whole.now c.args.fixed c.stands_alone-alone.result c.loop-param.place c.param-item.result.at (specs_of c.param-item.result.specs) (boxed_declarator c.param-item.result.declarator)) (walk.judge_params c.args.whole.now c.args.fixed (suc c.loop-param.place) (params_of (drop (c.loop-param.param-index + 1) c.as_slice-param-items.result.now))) [] (all_types c.loop-param.world.table.terms c.loop-param.types) _ (seen c.loop-param.world) (seen c.judge_param.new.world) _ c.in-Err.end (λ _. (all_types c.judge_param.new.world.table.terms c.judge_param.new.types)) _ (ap (λ l. (walk.judge_params c.args.whole.now c.args.fixed 0 (params_of l))) (sym c.as_slice-param-items.ensures)) (params_left c.args.whole.now c.args.fixed c.loop-param.place (suc c.loop-param.place) c.loop-param.param-index c.as_slice-param-items.result.now c.param-item.result c.stands_alone-alone.result (left c.as_slice-param-items.result.now c.loop-param.param-index c.param-item.result c.loop-param-test.true c.param-item.is) (alone_is c.loop-param.place c.loop-param.param-index (boxed_declarator c.param-item.result.declarator) c.as_slice-param-items.result.now c.as_slice.result.now c.stands_alone-alone.result c.loop-param.invariant.place (c.as_slice-param-items.ensures ∙ sym c.as_slice.ensures) c.stands_alone-alone.ensures) refl) c.loop-param.invariant.gives c.in-Err.ensures.gives

pub judge_params-loop-param-preserved : goal.judge_params-loop-param-preserved
judge_params-loop-param-preserved z c =
    record {
      gives = gather_step (walk.judge_params c.args.whole.now c.args.fixed 0 (params_of c.as_slice-param-items.result.now)) (walk.judge_params c.args.whole.now c.args.fixed c.loop-param.place (params_of (drop c.loop-param.param-index c.as_slice-param-items.result.now))) (param_of c.args.whole.now c.args.fixed c.stands_alone-alone.result c.loop-param.place c.param-item.result.at (specs_of c.param-item.result.specs) (boxed_declarator c.param-item.result.declarator)) (walk.judge_params c.args.whole.now c.args.fixed c.in_ok-place.place (params_of (drop (c.loop-param.param-index + 1) c.as_slice-param-items.result.now))) [] (all_types c.loop-param.world.table.terms c.loop-param.types) (all_types c.judge_param.new.world.table.terms c.judge_param.new.types) (seen c.args.world.now) (seen c.loop-param.world) (seen c.judge_param.new.world) (params_left c.args.whole.now c.args.fixed c.loop-param.place c.in_ok-place.place c.loop-param.param-index c.as_slice-param-items.result.now c.param-item.result c.stands_alone-alone.result (left c.as_slice-param-items.result.now c.loop-param.param-index c.param-item.result c.loop-param-test.true c.param-item.is) (alone_is c.loop-param.place c.loop-param.param-index (boxed_declarator c.param-item.result.declarator) c.as_slice-param-items.result.now c.as_slice.result.now c.stands_alone-alone.result c.loop-param.invariant.place (c.as_slice-param-items.ensures ∙ sym c.as_slice.ensures) c.stands_alone-alone.ensures) c.in_ok-place.ensures) c.loop-param.invariant.gives c.in-Ok.ensures.gives;
      extends = extends_on _ _ _ c.loop-param.invariant.extends c.in-Ok.ensures.extends;
      valid = c.in-Ok.ensures.valid;
      place = (let e = c.in_ok-place.ensures in let p = c.loop-param.invariant.place in omega arith);
    }

pub judge_params-returns-clause-gives : goal.judge_params-returns-clause-gives
judge_params-returns-clause-gives z c =
    gathers_all (walk.judge_params c.args.whole.now c.args.fixed 0 (params_of c.args.params.now)) (walk.judge_params c.args.whole.now c.args.fixed 0 (params_of c.as_slice-param-items.result.now)) (walk.judge_params c.args.whole.now c.args.fixed c.loop-param.place (params_of (drop c.loop-param.param-index c.as_slice-param-items.result.now))) [] (all_types c.loop-param.world.table.terms c.loop-param.types) _ (seen c.loop-param.world) (ap (λ l. (walk.judge_params c.args.whole.now c.args.fixed 0 (params_of l))) (sym c.as_slice-param-items.ensures)) (at_drop_all (λ l. walk.judge_params c.args.whole.now c.args.fixed c.loop-param.place (params_of l)) c.as_slice-param-items.result.now c.loop-param.param-index c.loop-param-test.false) c.loop-param.invariant.gives

pub judge_record_spec-returns-in_err-number-clause-gives : goal.judge_record_spec-returns-in_err-number-clause-gives
judge_record_spec-returns-in_err-number-clause-gives z c =
    stops (walk.record_number (rr.out-Record c.args.r.now).is_union (rr.out-Record c.args.r.now).tag c.args.own.now) (λ n. walk.judge_fields_of c.args.whole.now c.args.fixed (rr.out-Record c.args.r.now).at (rr.out-Record c.args.r.now).is_union (rr.out-Record c.args.r.now).tag n (body_of (rr.out-Record c.args.r.now).fields)) (record_seen c.args.whole.now c.args.fixed c.args.own.now c.args.r.now) _ (seen c.tagged_record.new.world) _ c.in_err-number.field-0.0 c.from_residual.result (λ n. n) _ refl c.in_err-number.ensures.gives (search rules)

pub judge_record_spec-returns-in_err-members-in-Some-clause-gives : goal.judge_record_spec-returns-in_err-members-in-Some-clause-gives
judge_record_spec-returns-in_err-members-in-Some-clause-gives z c =
    runs (walk.record_number (rr.out-Record c.args.r.now).is_union (rr.out-Record c.args.r.now).tag c.args.own.now) (λ n. walk.judge_fields_of c.args.whole.now c.args.fixed (rr.out-Record c.args.r.now).at (rr.out-Record c.args.r.now).is_union (rr.out-Record c.args.r.now).tag n (body_of (rr.out-Record c.args.r.now).fields)) (record_seen c.args.whole.now c.args.fixed c.args.own.now c.args.r.now) c.in_ok-number.number _ (seen c.tagged_record.new.world) _ c.from_residual-in_err-members-in-Some.result (λ r. type_at c.judge_fields.new.world.table.terms r.0) refl c.in_ok-number.ensures.gives
    (stops (walk.judge_fields c.args.whole.now c.args.fixed (fields_of c.in-Some.fields)) (λ ms. walk.judge_record (rr.out-Record c.args.r.now).at (rr.out-Record c.args.r.now).is_union (rr.out-Record c.args.r.now).tag c.in_ok-number.number ms) (walk.judge_fields_of c.args.whole.now c.args.fixed (rr.out-Record c.args.r.now).at (rr.out-Record c.args.r.now).is_union (rr.out-Record c.args.r.now).tag c.in_ok-number.number (body_of (rr.out-Record c.args.r.now).fields)) _ (seen c.judge_fields.new.world) _ c.in_err-members-in-Some.field-0.0 c.from_residual-in_err-members-in-Some.result (λ ms. map (member_of c.judge_fields.new.world.table.terms) ms) _ (ap (λ b. walk.judge_fields_of c.args.whole.now c.args.fixed (rr.out-Record c.args.r.now).at (rr.out-Record c.args.r.now).is_union (rr.out-Record c.args.r.now).tag c.in_ok-number.number (body_of b)) c.in-Some.is) c.in_err-members-in-Some.ensures.gives (search rules))

pub judge_record_spec-returns-in-None-clause-gives : goal.judge_record_spec-returns-in-None-clause-gives
judge_record_spec-returns-in-None-clause-gives z c =
    runs (walk.record_number (rr.out-Record c.args.r.now).is_union (rr.out-Record c.args.r.now).tag c.args.own.now) (λ n. walk.judge_fields_of c.args.whole.now c.args.fixed (rr.out-Record c.args.r.now).at (rr.out-Record c.args.r.now).is_union (rr.out-Record c.args.r.now).tag n (body_of (rr.out-Record c.args.r.now).fields)) (record_seen c.args.whole.now c.args.fixed c.args.own.now c.args.r.now) c.in_ok-number.number _ (seen c.tagged_record.new.world) _ c.judge_record_tag.result (λ r. type_at c.tagged_record.new.world.table.terms r.0) refl c.in_ok-number.ensures.gives
    (same (walk.judge_record_tag (rr.out-Record c.args.r.now).at (rr.out-Record c.args.r.now).is_union (rr.out-Record c.args.r.now).tag c.in_ok-number.number) (walk.judge_fields_of c.args.whole.now c.args.fixed (rr.out-Record c.args.r.now).at (rr.out-Record c.args.r.now).is_union (rr.out-Record c.args.r.now).tag c.in_ok-number.number (body_of (rr.out-Record c.args.r.now).fields)) _ _ c.judge_record_tag.result (λ r. type_at c.tagged_record.new.world.table.terms r.0) (ap (λ b. walk.judge_fields_of c.args.whole.now c.args.fixed (rr.out-Record c.args.r.now).at (rr.out-Record c.args.r.now).is_union (rr.out-Record c.args.r.now).tag c.in_ok-number.number (body_of b)) c.in-None.is) c.judge_record_tag.ensures.gives)

pub judge_record_spec-returns-in_ok-members-in-Some-clause-gives : goal.judge_record_spec-returns-in_ok-members-in-Some-clause-gives
judge_record_spec-returns-in_ok-members-in-Some-clause-gives z c =
    runs (walk.record_number (rr.out-Record c.args.r.now).is_union (rr.out-Record c.args.r.now).tag c.args.own.now) (λ n. walk.judge_fields_of c.args.whole.now c.args.fixed (rr.out-Record c.args.r.now).at (rr.out-Record c.args.r.now).is_union (rr.out-Record c.args.r.now).tag n (body_of (rr.out-Record c.args.r.now).fields)) (record_seen c.args.whole.now c.args.fixed c.args.own.now c.args.r.now) c.in_ok-number.number _ (seen c.tagged_record.new.world) _ c.judge_record.result (λ r. type_at c.judge_record.new.world.table.terms r.0) refl c.in_ok-number.ensures.gives
    (runs (walk.judge_fields c.args.whole.now c.args.fixed (fields_of c.in-Some.fields)) (λ ms. walk.judge_record (rr.out-Record c.args.r.now).at (rr.out-Record c.args.r.now).is_union (rr.out-Record c.args.r.now).tag c.in_ok-number.number ms) (walk.judge_fields_of c.args.whole.now c.args.fixed (rr.out-Record c.args.r.now).at (rr.out-Record c.args.r.now).is_union (rr.out-Record c.args.r.now).tag c.in_ok-number.number (body_of (rr.out-Record c.args.r.now).fields)) (map (member_of c.judge_fields.new.world.table.terms) c.in_ok-members-in-Some.members) _ (seen c.judge_fields.new.world) _ c.judge_record.result (λ r. type_at c.judge_record.new.world.table.terms r.0) (ap (λ b. walk.judge_fields_of c.args.whole.now c.args.fixed (rr.out-Record c.args.r.now).at (rr.out-Record c.args.r.now).is_union (rr.out-Record c.args.r.now).tag c.in_ok-number.number (body_of b)) c.in-Some.is) c.in_ok-members-in-Some.ensures.gives c.judge_record.ensures.gives)

pub judge_spec-returns-in_err-ty-in-Record-clause-gives : goal.judge_spec-returns-in_err-ty-in-Record-clause-gives
judge_spec-returns-in_err-ty-in-Record-clause-gives z c =
    stops (record_seen c.args.whole.now c.args.fixed c.args.own.now c.in-Record.record) (λ ty. give (walk.with_tagged ty (specified_of c.args.world.now.table.terms c.args.specified.now))) (walk.judge_specs c.args.whole.now c.args.fixed c.args.own.now (view_spec c.args.spec.now t.no_specs) (specified_of c.args.world.now.table.terms c.args.specified.now)) _ (seen c.judge_record_spec.new.world) _ c.in_err-ty-in-Record.field-0.0 c.from_residual-in_err-ty-in-Record.result (λ r. type_at c.judge_record_spec.new.world.table.terms r.0) _ (ap (λ s. walk.judge_specs c.args.whole.now c.args.fixed c.args.own.now (view_spec s t.no_specs) (specified_of c.args.world.now.table.terms c.args.specified.now)) c.in-Record.is ∙ parts.record_is c.args.whole.now c.args.fixed c.args.own.now c.in-Record.record (specified_of c.args.world.now.table.terms c.args.specified.now)) c.in_err-ty-in-Record.ensures.gives (search rules)

pub judge_spec-returns-in_err-ty-in-Enum-clause-gives : goal.judge_spec-returns-in_err-ty-in-Enum-clause-gives
judge_spec-returns-in_err-ty-in-Enum-clause-gives z c =
    stops (enum_seen c.args.whole.now c.args.fixed c.args.own.now c.in-Enum.enumeration) (λ ty. give (walk.with_tagged ty (specified_of c.args.world.now.table.terms c.args.specified.now))) (walk.judge_specs c.args.whole.now c.args.fixed c.args.own.now (view_spec c.args.spec.now t.no_specs) (specified_of c.args.world.now.table.terms c.args.specified.now)) _ (seen c.judge_enum_spec.new.world) _ c.in_err-ty-in-Enum.field-0.0 c.from_residual-in_err-ty-in-Enum.result (λ r. type_at c.judge_enum_spec.new.world.table.terms r.0) _ (ap (λ s. walk.judge_specs c.args.whole.now c.args.fixed c.args.own.now (view_spec s t.no_specs) (specified_of c.args.world.now.table.terms c.args.specified.now)) c.in-Enum.is ∙ parts.enum_is c.args.whole.now c.args.fixed c.args.own.now c.in-Enum.enumeration (specified_of c.args.world.now.table.terms c.args.specified.now)) (c.in_err-ty-in-Enum.ensures.gives c.args.fixed) (search rules)

pub judge_spec-returns-in_ok-put_type-in-Typedef-clause-gives : goal.judge_spec-returns-in_ok-put_type-in-Typedef-clause-gives
judge_spec-returns-in_ok-put_type-in-Typedef-clause-gives z c =
    named_gives (walk.judge_specs c.args.whole.now c.args.fixed c.args.own.now (view_spec c.args.spec.now t.no_specs) (specified_of c.args.world.now.table.terms c.args.specified.now)) c.in-Typedef.name (specified_of c.args.world.now.table.terms c.args.specified.now) (seen c.args.world.now) (seen c.name_type.new.world) (specified_of c.name_type.new.world.table.terms c.put_type.new.self)
    (ap (λ s. walk.judge_specs c.args.whole.now c.args.fixed c.args.own.now (view_spec s t.no_specs) (specified_of c.args.world.now.table.terms c.args.specified.now)) c.in-Typedef.is) c.name_type.ensures.seen
    (typed_after c.args.world.now.table c.name_type.new.world.table c.name_type.ensures.extends c.args.specified.now c.requires (specified_of c.name_type.new.world.table.terms c.put_type.new.self) (type_at c.name_type.new.world.table.terms c.in_ok-ty-in-Typedef.ty.0) (c.in_ok-put_type-in-Typedef.ensures.is c.name_type.new.world.table.terms) ∙ ap (λ ty. specifiers.with_type ty (specified_of c.args.world.now.table.terms c.args.specified.now)) (c.in_ok-ty-in-Typedef.ensures.is ∙ ap (λ n. walk.entry_type (known.find_name n (seen c.args.world.now))) c.as_slice.ensures))

pub judge_spec-returns-in_ok-put_type-in-Typedef-clause-valid : goal.judge_spec-returns-in_ok-put_type-in-Typedef-clause-valid
judge_spec-returns-in_ok-put_type-in-Typedef-clause-valid z c =
    c.in_ok-put_type-in-Typedef.ensures.valid _ (below_up _ _ c.args.specified.now.types c.name_type.ensures.extends.grows.longer c.requires) c.in_ok-ty-in-Typedef.ensures.valid

pub judge_spec-returns-in-Attribute-clause-gives : goal.judge_spec-returns-in-Attribute-clause-gives
judge_spec-returns-in-Attribute-clause-gives z c =
    attribute_done c.judge_attribute.result (walk.judge_attribute (view_attribute c.in-Attribute.attribute)) (walk.judge_specs c.args.whole.now c.args.fixed c.args.own.now (view_spec c.args.spec.now t.no_specs) (specified_of c.args.world.now.table.terms c.args.specified.now)) (specified_of c.args.world.now.table.terms c.args.specified.now) (seen c.args.world.now) (ap (λ s. walk.judge_specs c.args.whole.now c.args.fixed c.args.own.now (view_spec s t.no_specs) (specified_of c.args.world.now.table.terms c.args.specified.now)) c.in-Attribute.is) (c.judge_attribute.ensures.gives (seen c.args.world.now))

pub judge_spec-returns-in_ok-put_tagged-in-Record-clause-gives : goal.judge_spec-returns-in_ok-put_tagged-in-Record-clause-gives
judge_spec-returns-in_ok-put_tagged-in-Record-clause-gives z c =
    runs (record_seen c.args.whole.now c.args.fixed c.args.own.now c.in-Record.record) (λ ty. give (walk.with_tagged ty (specified_of c.args.world.now.table.terms c.args.specified.now))) (walk.judge_specs c.args.whole.now c.args.fixed c.args.own.now (view_spec c.args.spec.now t.no_specs) (specified_of c.args.world.now.table.terms c.args.specified.now)) (type_at c.judge_record_spec.new.world.table.terms c.in_ok-ty-in-Record.ty.0) _ (seen c.judge_record_spec.new.world) _ (Ok c.in_ok-put_tagged-in-Record.field-0) (λ _. (specified_of c.judge_record_spec.new.world.table.terms c.put_tagged.new.self)) (ap (λ s. walk.judge_specs c.args.whole.now c.args.fixed c.args.own.now (view_spec s t.no_specs) (specified_of c.args.world.now.table.terms c.args.specified.now)) c.in-Record.is ∙ parts.record_is c.args.whole.now c.args.fixed c.args.own.now c.in-Record.record (specified_of c.args.world.now.table.terms c.args.specified.now)) c.in_ok-ty-in-Record.ensures.gives
    (λ next. ap (λ s. verdict (next s (seen c.judge_record_spec.new.world))) (tagged_after c.args.world.now.table c.judge_record_spec.new.world.table c.in_ok-ty-in-Record.ensures.extends c.args.specified.now c.requires (specified_of c.judge_record_spec.new.world.table.terms c.put_tagged.new.self) (type_at c.judge_record_spec.new.world.table.terms c.in_ok-ty-in-Record.ty.0) (c.in_ok-put_tagged-in-Record.ensures.is c.judge_record_spec.new.world.table.terms)))

pub judge_spec-returns-in_ok-put_tagged-in-Record-clause-valid : goal.judge_spec-returns-in_ok-put_tagged-in-Record-clause-valid
judge_spec-returns-in_ok-put_tagged-in-Record-clause-valid z c =
    c.in_ok-put_tagged-in-Record.ensures.valid _ (below_up _ _ c.args.specified.now.types c.in_ok-ty-in-Record.ensures.extends.grows.longer c.requires) c.in_ok-ty-in-Record.ensures.valid

pub judge_spec-returns-in_ok-put_tagged-in-Enum-clause-gives : goal.judge_spec-returns-in_ok-put_tagged-in-Enum-clause-gives
judge_spec-returns-in_ok-put_tagged-in-Enum-clause-gives z c =
    runs (enum_seen c.args.whole.now c.args.fixed c.args.own.now c.in-Enum.enumeration) (λ ty. give (walk.with_tagged ty (specified_of c.args.world.now.table.terms c.args.specified.now))) (walk.judge_specs c.args.whole.now c.args.fixed c.args.own.now (view_spec c.args.spec.now t.no_specs) (specified_of c.args.world.now.table.terms c.args.specified.now)) (type_at c.judge_enum_spec.new.world.table.terms c.in_ok-ty-in-Enum.ty.0) _ (seen c.judge_enum_spec.new.world) _ (Ok c.in_ok-put_tagged-in-Enum.field-0) (λ _. (specified_of c.judge_enum_spec.new.world.table.terms c.put_tagged-in-Enum.new.self)) (ap (λ s. walk.judge_specs c.args.whole.now c.args.fixed c.args.own.now (view_spec s t.no_specs) (specified_of c.args.world.now.table.terms c.args.specified.now)) c.in-Enum.is ∙ parts.enum_is c.args.whole.now c.args.fixed c.args.own.now c.in-Enum.enumeration (specified_of c.args.world.now.table.terms c.args.specified.now)) (c.in_ok-ty-in-Enum.ensures.gives c.args.fixed)
    (λ next. ap (λ s. verdict (next s (seen c.judge_enum_spec.new.world))) (tagged_after c.args.world.now.table c.judge_enum_spec.new.world.table c.in_ok-ty-in-Enum.ensures.extends c.args.specified.now c.requires (specified_of c.judge_enum_spec.new.world.table.terms c.put_tagged-in-Enum.new.self) (type_at c.judge_enum_spec.new.world.table.terms c.in_ok-ty-in-Enum.ty.0) (c.in_ok-put_tagged-in-Enum.ensures.is c.judge_enum_spec.new.world.table.terms)))

pub judge_spec-returns-in_ok-put_tagged-in-Enum-clause-valid : goal.judge_spec-returns-in_ok-put_tagged-in-Enum-clause-valid
judge_spec-returns-in_ok-put_tagged-in-Enum-clause-valid z c =
    c.in_ok-put_tagged-in-Enum.ensures.valid _ (below_up _ _ c.args.specified.now.types c.in_ok-ty-in-Enum.ensures.extends.grows.longer c.requires) c.in_ok-ty-in-Enum.ensures.valid

pub judge_specs-returns-in-Err-clause-gives : goal.judge_specs-returns-in-Err-clause-gives
judge_specs-returns-in-Err-clause-gives z c =
    handing_ends (walk.judge_specs c.args.whole.now c.args.fixed c.args.own.now (specs_of c.args.specs.now) specifiers.nothing_specified) (walk.judge_specs c.args.whole.now c.args.fixed c.args.own.now (specs_of c.as_slice-spec-items.result.now) specifiers.nothing_specified) (walk.judge_specs c.args.whole.now c.args.fixed c.args.own.now (specs_of (drop c.loop-spec.spec-index c.as_slice-spec-items.result.now)) (specified_of c.loop-spec.world.table.terms c.loop-spec.specified)) (walk.judge_specs c.args.whole.now c.args.fixed c.args.own.now (view_spec c.spec-item.result t.no_specs) (specified_of c.loop-spec.world.table.terms c.loop-spec.specified)) (walk.judge_specs c.args.whole.now c.args.fixed c.args.own.now (specs_of (drop (c.loop-spec.spec-index + 1) c.as_slice-spec-items.result.now))) _ (seen c.loop-spec.world) (seen c.judge_spec.new.world) _ c.in-Err.end (λ _. (specified_of c.judge_spec.new.world.table.terms c.judge_spec.new.specified)) _ (ap (λ l. (walk.judge_specs c.args.whole.now c.args.fixed c.args.own.now (specs_of l) specifiers.nothing_specified)) (sym c.as_slice-spec-items.ensures)) (ap (λ l. (walk.judge_specs c.args.whole.now c.args.fixed c.args.own.now (specs_of l) (specified_of c.loop-spec.world.table.terms c.loop-spec.specified))) (left c.as_slice-spec-items.result.now c.loop-spec.spec-index c.spec-item.result c.loop-spec-test.true c.spec-item.is) ∙ parts.specs_are c.args.whole.now c.args.fixed c.args.own.now c.spec-item.result (specs_of (drop (c.loop-spec.spec-index + 1) c.as_slice-spec-items.result.now)) (specified_of c.loop-spec.world.table.terms c.loop-spec.specified)) c.loop-spec.invariant.gives c.in-Err.ensures.gives

pub judge_specs-loop-spec-preserved : goal.judge_specs-loop-spec-preserved
judge_specs-loop-spec-preserved z c =
    record {
      gives = hand_step (walk.judge_specs c.args.whole.now c.args.fixed c.args.own.now (specs_of c.as_slice-spec-items.result.now) specifiers.nothing_specified) (walk.judge_specs c.args.whole.now c.args.fixed c.args.own.now (specs_of (drop c.loop-spec.spec-index c.as_slice-spec-items.result.now)) (specified_of c.loop-spec.world.table.terms c.loop-spec.specified)) (walk.judge_specs c.args.whole.now c.args.fixed c.args.own.now (view_spec c.spec-item.result t.no_specs) (specified_of c.loop-spec.world.table.terms c.loop-spec.specified)) (walk.judge_specs c.args.whole.now c.args.fixed c.args.own.now (specs_of (drop (c.loop-spec.spec-index + 1) c.as_slice-spec-items.result.now))) (specified_of c.judge_spec.new.world.table.terms c.judge_spec.new.specified) (seen c.args.world.now) (seen c.loop-spec.world) (seen c.judge_spec.new.world) (ap (λ l. (walk.judge_specs c.args.whole.now c.args.fixed c.args.own.now (specs_of l) (specified_of c.loop-spec.world.table.terms c.loop-spec.specified))) (left c.as_slice-spec-items.result.now c.loop-spec.spec-index c.spec-item.result c.loop-spec-test.true c.spec-item.is) ∙ parts.specs_are c.args.whole.now c.args.fixed c.args.own.now c.spec-item.result (specs_of (drop (c.loop-spec.spec-index + 1) c.as_slice-spec-items.result.now)) (specified_of c.loop-spec.world.table.terms c.loop-spec.specified)) c.loop-spec.invariant.gives c.in-Ok.ensures.gives;
      extends = extends_on _ _ _ c.loop-spec.invariant.extends c.in-Ok.ensures.extends;
      valid = c.in-Ok.ensures.valid;
    }
