-- Without places and numbers: declarators, fields, parameters and type names.
use Rattle.std.proofs.Common.{◌≡◌, ℕ, suc, false, List, [], ◌∷◌, ◌++◌, map, refl, ◌∙◌, ap}
use Rattle.tok_base.specs.declared.token.Span.{Span}
use Rattle.c_tree.specs.Tree as b
use Rattle.c_tree.specs.Tok.{Word}
use Rattle.c_tree.specs.Marked as u
use Rattle.c_tree.specs.Marked.{type_name, Specs, Declarator, MaybeDeclarator}
use Rattle.c_tree.specs.Bare.{bare_specs, bare_declarator, bare_maybe_declarator, bare_item}
use Rattle.c_tree.specs.Wf.{Env, is_qualifier}
use Rattle.c_reader.specs.Symbol as t
use Rattle.c_reader.specs.Symbol.{Symbol, keyword_word}
use Rattle.c_reader.specs.Inside as i
use Rattle.c_reader.specs.Begin.{is_empty, begins_specs}
use Rattle.c_reader.specs.Declarators as m
use Rattle.c_reader.specs.Declarators.{is_star}
use Rattle.c_reader.specs.MarkedParts.{Open, Had, mark, with_part, whole, closed}
use Rattle.c_reader.specs.MarkedInside.{InExpr, InDeclarator, InFields, InParams, InItems, TypePlace, cast_type, sizeof_type, in_array, in_pointer, in_group, in_item, in_field, in_param, in_type, of_param, in_fields, in_params}
use Rattle.c_reader.specs.MarkedDeclarators as r
use Rattle.c_reader.proofs.Erased.{erase_field, erase_param, erase_specs_read, erase_items, erase_type, erase_expr, erase_declarator, erase_specs, erase_fields, erase_params, erased, map-last, map-empty, declarators_erased, params_erased, same_test}
use Rattle.c_reader.proofs.ErasedDeclarations.{begin_specs_step, first_spec_step, want_step, items_step, close_item_step}

-- ---- tests

named_erased : (k : InDeclarator) → r.may_be_named k ≡ m.may_be_named (erase_declarator k)
named_erased (in_pointer o qs k) = named_erased k
named_erased (in_group o k) = named_erased k
named_erased (in_item q) = refl
named_erased (in_field o f ss ds) = refl
named_erased (in_param o x ss) = refl
named_erased (in_type o t c k ss) = refl

nameless_erased : (k : InDeclarator) → r.may_be_nameless k ≡ m.may_be_nameless (erase_declarator k)
nameless_erased (in_pointer o qs k) = nameless_erased k
nameless_erased (in_group o k) = nameless_erased k
nameless_erased (in_item q) = refl
nameless_erased (in_field o f ss ds) = refl
nameless_erased (in_param o x ss) = refl
nameless_erased (in_type o t c k ss) = refl

-- ---- the end of a declarator

field_added : (n : ℕ) (o : Open) (f : InFields) (ss : Specs) (ds : List Declarator) (s : Span) → erase_fields (r.add_field n o f ss ds s) ≡ m.add_field (erase_fields f) (bare_specs ss) (map bare_declarator ds)
field_added n o (in_fields f_o is_union tag fs so_far k) ss ds s =
    ap (λ xs. i.in_fields is_union tag xs (erase_specs_read so_far) (erase_specs k))
    (map-last erase_field fs _ ∙ ap (λ ys. map erase_field fs ++ record { specs = bare_specs ss; declarators = ys } ∷ []) (declarators_erased ds))

field_step : (n : ℕ) (env : Env) (o : Open) (f : InFields) (ss : Specs) (ds : List Declarator) (y : Symbol) (s : Span)
    → erased (r.field_next n env o f ss ds y s) ≡ m.field_next env (erase_fields f) (bare_specs ss) (map bare_declarator ds) y
field_step n env o f ss ds t.comma s = refl
field_step n env o f ss ds t.semi s = ap (λ x. i.at env (i.specs (i.want_field x))) (field_added n o f ss ds s)
field_step n env o f ss ds _ s = refl

param_added : (n e : ℕ) (o : Open) (z : ℕ) (k : InParams) (ss : Specs) (d : MaybeDeclarator) → erase_params (r.add_param n e o z k ss d) ≡ m.add_param (erase_params k) (bare_specs ss) (bare_maybe_declarator d)
param_added n e o z (in_params p_o d ps k) ss x = ap (λ xs. i.in_params (bare_declarator d) xs (erase_declarator k)) (map-last erase_param ps _)

params_step : (n : ℕ) (env : Env) (k : InParams) (s : Span) → erased (r.params_done n env k s) ≡ i.at env (m.params_done (erase_params k))
params_step n env (in_params o d ps k) s = ap (λ xs. i.at env (i.declarator (i.after_declarator (erase_declarator k) (b.FunctionOf (bare_declarator d) xs)))) (params_erased ps)

param_step : (n : ℕ) (env : Env) (k : InParams) (y : Symbol) (s : Span) → erased (r.param_next n env k y s) ≡ m.param_next env (erase_params k) y
param_step n env k t.comma s = refl
param_step n env k t.rparen s = params_step n env k s
param_step n env k _ s = refl

close_param_step : (n e : ℕ) (env : Env) (o : Open) (z : ℕ) (k : InParams) (ss : Specs) (d : MaybeDeclarator) (y : Symbol) (s : Span)
    → erased (r.close_param n e env o z k ss d y s) ≡ m.param_next env (m.add_param (erase_params k) (bare_specs ss) (bare_maybe_declarator d)) y
close_param_step n e env o z k ss d y s = param_step (suc n) env (r.add_param n e o z k ss d) y s ∙ ap (λ x. m.param_next env x y) (param_added n e o z k ss d)

type_done_step : (n : ℕ) (env : Env) (o : Open) (z t_from to : ℕ) (c : TypePlace) (k : InExpr) (ss : Specs) (d : MaybeDeclarator) (s : Span)
    → erased (r.type_done (suc n) env o z c k (type_name (mark t_from to n) ss d) s) ≡ i.at env (m.type_done (erase_type c) (erase_expr k) (bare_specs ss) (bare_maybe_declarator d))
type_done_step n env o z t_from to cast_type k ss d s = refl
type_done_step n env o z t_from to sizeof_type k ss d s = refl

close_type_step : (n e : ℕ) (env : Env) (o o_type : Open) (z : ℕ) (c : TypePlace) (k : InExpr) (ss : Specs) (d : MaybeDeclarator) (y : Symbol) (s : Span)
    → erased (r.close_type n e env o o_type z c k ss d y s) ≡ m.type_next env (erase_type c) (erase_expr k) (bare_specs ss) (bare_maybe_declarator d) y
close_type_step n e env o o_type z c k ss d t.rparen s = type_done_step n env o (whole o_type z) o_type.from e c k ss d s
close_type_step n e env o o_type z c k ss d _ s = refl

group_step : (n : ℕ) (env : Env) (o : Open) (z : ℕ) (k : InDeclarator) (d : Declarator) (y : Symbol) (s : Span)
    → erased (r.close_group n env o z k d y s) ≡ m.close_group env (erase_declarator k) (bare_declarator d) y
group_step n env o z k d t.rparen s = refl
group_step n env o z k d _ s = refl

end_step : (k : InDeclarator) (n e : ℕ) (env : Env) (h : Had) (d : Declarator) (y : Symbol) (s : Span)
    → erased (r.end_declarator n e env h k d y s) ≡ m.end_declarator env (erase_declarator k) (bare_declarator d) y
end_step (in_pointer o qs k) n e env h d y s = end_step k (suc n) e env (closed o h.deep) (u.PointerTo (mark o.from e n) qs d) y s
end_step (in_group o k) n e env h d y s = group_step n env o h.deep k d y s
end_step (in_item q) n e env h d y s = close_item_step n e env h q d y s
end_step (in_field o f ss ds) n e env h d y s =
    field_step n env (with_part o h.deep) f ss (ds ++ d ∷ []) y s ∙ ap (λ xs. m.field_next env (erase_fields f) (bare_specs ss) xs y) (map-last bare_declarator ds d)
end_step (in_param o k ss) n e env h d y s = close_param_step n e env o h.deep k ss (u.some_declarator d) y s
end_step (in_type o o_type c k ss) n e env h d y s = close_type_step n e env o o_type h.deep c k ss (u.some_declarator d) y s

no_items_step : (n : ℕ) (env : Env) (q : InItems) (y : Symbol) (s : Span) → erased (r.no_items_next n env q y s) ≡ m.no_items_next env (erase_items q) y
no_items_step n env q t.semi s = same_test (is_empty q.items) (is_empty (map bare_item q.items)) _ _ _ _ (map-empty bare_item q.items) (items_step n env q s) refl
no_items_step n env q _ s = refl

nameless_step : (k : InDeclarator) (n e : ℕ) (env : Env) (y : Symbol) (s : Span) → erased (r.nameless n e env k y s) ≡ m.nameless env (erase_declarator k) y
nameless_step (in_pointer o qs k) n e env y s =
    same_test (r.may_be_nameless k) (m.may_be_nameless (erase_declarator k)) _ _ _ _ (nameless_erased k)
    (end_step k (suc (suc n)) e env (closed o 0) (u.PointerTo (mark o.from e (suc n)) qs (r.absent_name n s.start)) y s)
    refl
nameless_step (in_group o k) n e env y s = refl
nameless_step (in_item q) n e env y s = no_items_step n env q y s
nameless_step (in_field o f ss ds) n e env y s = refl
nameless_step (in_param o k ss) n e env y s = close_param_step n e env o 0 k ss u.no_declarator y s
nameless_step (in_type o o_type c k ss) n e env y s = close_type_step n e env o o_type 0 c k ss u.no_declarator y s

-- ---- the beginning of a declarator

pub declarator_begin_step : (n e : ℕ) (env : Env) (k : InDeclarator) (y : Symbol) (s : Span) → erased (r.declarator_begin n e env k y s) ≡ m.declarator_begin env (erase_declarator k) y
declarator_begin_step n e env k (t.name x) s = same_test (r.may_be_named k) (m.may_be_named (erase_declarator k)) _ _ _ _ (named_erased k) refl refl
declarator_begin_step n e env k (t.operator o) s = same_test (is_star o) (is_star o) _ _ _ _ refl refl refl
declarator_begin_step n e env k t.lparen s = refl
declarator_begin_step n e env k t.lbracket s = same_test (r.may_be_nameless k) (m.may_be_nameless (erase_declarator k)) _ _ _ _ (nameless_erased k) refl refl
declarator_begin_step n e env k y s = nameless_step k n e env y s

pub star_step : (n e : ℕ) (env : Env) (o : Open) (qs : List Word) (k : InDeclarator) (y : Symbol) (s : Span)
    → erased (r.star_next n e env o qs k y s) ≡ m.star_next env qs (erase_declarator k) y
star_step n e env o qs k (t.keyword w) s = same_test (is_qualifier (keyword_word w)) (is_qualifier (keyword_word w)) _ _ _ _ refl refl refl
star_step n e env o qs k y s = declarator_begin_step n e env (in_pointer o qs k) y s

open_params_step : (n : ℕ) (env : Env) (o : Open) (k : InDeclarator) (y : Symbol) (s : Span) → erased (r.open_params n env o k y s) ≡ m.open_params env (erase_declarator k) y
open_params_step n env o k y s =
    same_test (r.may_be_nameless k) (m.may_be_nameless (erase_declarator k)) _ _ _ _ (nameless_erased k)
    (begin_specs_step (suc n) env (of_param (in_params o (r.absent_name n o.from) [] k)) y s)
    refl

pub opened_step : (n e : ℕ) (env : Env) (o : Open) (k : InDeclarator) (y : Symbol) (s : Span) → erased (r.opened_next n e env o k y s) ≡ m.opened_next env (erase_declarator k) y
opened_step n e env o k t.rparen s = same_test (r.may_be_nameless k) (m.may_be_nameless (erase_declarator k)) _ _ _ _ (nameless_erased k) refl refl
opened_step n e env o k y s =
    same_test (begins_specs env false y) (begins_specs env false y) (r.open_params n env o k y s) (r.declarator_begin n e env (in_group o k) y s) _ _ refl
    (open_params_step n env o k y s)
    (declarator_begin_step n e env (in_group o k) y s)

pub array_step : (n : ℕ) (env : Env) (o : Open) (d : Declarator) (k : InDeclarator) (y : Symbol) (s : Span)
    → erased (r.array_next n env o d k y s) ≡ m.array_next env (bare_declarator d) (erase_declarator k) y
array_step n env o d k t.rbracket s = refl
array_step n env o d k y s = want_step n env (in_array o d k) y s

pub params_next_step : (n : ℕ) (env : Env) (o : Open) (d : Declarator) (k : InDeclarator) (y : Symbol) (s : Span)
    → erased (r.params_next n env o d k y s) ≡ m.params_next env (bare_declarator d) (erase_declarator k) y
params_next_step n env o d k t.rparen s = refl
params_next_step n env o d k y s = first_spec_step n env (of_param (in_params o d [] k)) y s

pub declarator_step : (n e : ℕ) (env : Env) (h : Had) (k : InDeclarator) (d : Declarator) (y : Symbol) (s : Span)
    → erased (r.declarator_next n e env h k d y s) ≡ m.declarator_next env (erase_declarator k) (bare_declarator d) y
declarator_step n e env h k d t.lbracket s = refl
declarator_step n e env h k d t.lparen s = refl
declarator_step n e env h k d y s = end_step k n e env h d y s
