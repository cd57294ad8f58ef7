-- The steps keep the numbers of depth: declarators, fields, parameters and type names.
use Rattle.std.proofs.Common.{◌≡◌, ℕ, suc, max, false, List, [], ◌∷◌, ◌++◌, None, refl, sym, ◌∙◌, ap, arith}
use Rattle.tok_base.specs.declared.token.Span.{Span}
use Rattle.c_tree.specs.Tok.{Word}
use Rattle.c_tree.specs.Marked as u
use Rattle.c_tree.specs.Marked.{type_name, Specs, Declarator, MaybeDeclarator}
use Rattle.c_tree.specs.Bare.{bare_specs, bare_declarator, bare_maybe_declarator}
use Rattle.c_tree.specs.Wf.{Env, is_qualifier}
use Rattle.c_tree.specs.Depth.{specs_depth, declarators_depth, maybe_declarator_depth, declarator_depth, params_depth}
use Rattle.c_reader.specs.Symbol as t
use Rattle.c_reader.specs.Symbol.{Symbol, keyword_word}
use Rattle.c_reader.specs.Begin.{is_empty, begins_specs}
use Rattle.c_reader.specs.Declarators.{is_star}
use Rattle.c_reader.specs.MarkedParts.{Open, Had, mark, with_part, whole, closed, declarators_of}
use Rattle.c_reader.specs.MarkedInside.{InExpr, InDeclarator, InFields, InParams, InItems, TypePlace, cast_type, sizeof_type, in_array, in_pointer, in_group, in_item, in_field, in_param, in_type, of_param, in_fields, in_params, around_expr, around_declarator, around_fields, around_params}
use Rattle.c_reader.specs.MarkedDeclarators as r
use Rattle.c_reader.specs.MarkedDeclarations as rd
use Rattle.c_reader.proofs.Erased.{declarators_erased, params_erased}
use Rattle.c_reader.proofs.Counted.{Fits, fields_deep, declarators_deep, params_deep, CountedItems, CountedExpr, CountedDeclarator, CountedFields, CountedParams, Counts, either_way, fresh, empty_fits, empty_second, taken, grown, grown2, ends_with, as_it_is2, fields_more, declarators_more, params_more}
use Rattle.c_reader.proofs.CountedDeclarations.{begin_specs_counts, first_spec_counts, want_counts, items_counts, close_item_counts}

-- ---- the end of a declarator

abbrev FieldFits : Open → InFields → Specs → List Declarator → Type 0
FieldFits o f ss ds = Fits o (around_fields f).level (λ d. suc (max (specs_depth (bare_specs ss)) (max (declarators_deep ds) d)))

field_added : (n : ℕ) (o : Open) (f : InFields) (ss : Specs) (ds : List Declarator) (s : Span) → FieldFits o f ss ds → CountedFields f → CountedFields (r.add_field n o f ss ds s)
field_added n o (in_fields f_o is_union tag fs so_far k) ss ds s h g =
    let deep = as_it_is2 o f_o.level (specs_depth (bare_specs ss)) (declarators_deep ds) h ∙ ap (λ z. suc (max (specs_depth (bare_specs ss)) (declarators_depth z))) (sym (declarators_erased ds)) in
    (grown f_o so_far.node.level (fields_deep fs) _ (whole o 0) g.0 (fields_more fs (record { at = mark o.from s.end n; specs = ss; declarators = declarators_of ds }) (whole o 0) deep), g.1)

field_counts : (n : ℕ) (env : Env) (o : Open) (f : InFields) (ss : Specs) (ds : List Declarator) (y : Symbol) (s : Span)
    → FieldFits o f ss ds → CountedFields f → Counts (r.field_next n env o f ss ds y s)
field_counts n env o f ss ds t.comma s h g = (h, g)
field_counts n env o f ss ds t.semi s h g = field_added n o f ss ds s h g
field_counts n env o f ss ds _ s h g = tt

abbrev ParamFits : Open → InParams → Specs → Type 0
ParamFits o k ss = Fits o (around_params k).level (λ d. suc (max (specs_depth (bare_specs ss)) d))

param_added : (n e : ℕ) (o : Open) (d : ℕ) (k : InParams) (ss : Specs) (x : MaybeDeclarator)
    → d ≡ maybe_declarator_depth (bare_maybe_declarator x) → ParamFits o k ss → CountedParams k → CountedParams (r.add_param n e o d k ss x)
param_added n e o d (in_params p_o z ps k) ss x g h c =
    let deep = ends_with o p_o.level _ d (maybe_declarator_depth (bare_maybe_declarator x)) h g in
    (grown2 p_o (around_declarator k).level (declarator_depth (bare_declarator z)) (params_deep ps) _ (whole o d) c.0 (params_more ps (record { at = mark o.from e n; specs = ss; declarator = x }) (whole o d) deep), c.1)

params_done_counts : (n : ℕ) (env : Env) (k : InParams) (s : Span) → CountedParams k → Counts (r.params_done n env k s)
params_done_counts n env (in_params o x ps k) s h =
    (as_it_is2 o (around_declarator k).level (declarator_depth (bare_declarator x)) (params_deep ps) h.0 ∙ ap (λ z. suc (max (declarator_depth (bare_declarator x)) (params_depth z))) (sym (params_erased ps)), h.1)

param_counts : (n : ℕ) (env : Env) (k : InParams) (y : Symbol) (s : Span) → CountedParams k → Counts (r.param_next n env k y s)
param_counts n env k t.comma s h = h
param_counts n env k t.rparen s h = params_done_counts n env k s h
param_counts n env k _ s h = tt

close_param_counts : (n e : ℕ) (env : Env) (o : Open) (d : ℕ) (k : InParams) (ss : Specs) (x : MaybeDeclarator) (y : Symbol) (s : Span)
    → d ≡ maybe_declarator_depth (bare_maybe_declarator x) → ParamFits o k ss → CountedParams k → Counts (r.close_param n e env o d k ss x y s)
close_param_counts n e env o d k ss x y s g h c = param_counts (suc n) env (r.add_param n e o d k ss x) y s (param_added n e o d k ss x g h c)

type_done_counts : (n : ℕ) (env : Env) (o : Open) (d t_from to : ℕ) (c : TypePlace) (k : InExpr) (ss : Specs) (x : MaybeDeclarator) (s : Span)
    → d ≡ suc (max (specs_depth (bare_specs ss)) (maybe_declarator_depth (bare_maybe_declarator x))) → Fits o (around_expr k).level suc → CountedExpr k
    → Counts (r.type_done (suc n) env o d c k (type_name (mark t_from to n) ss x) s)
type_done_counts n env o d t_from to cast_type k ss x s e h g = ((h.0, λ z. let f = h.1 0 in omega (arith, e, f)), g)
type_done_counts n env o d t_from to sizeof_type k ss x s e h g = (h.1 d ∙ ap suc e, g)

close_type_counts : (n e : ℕ) (env : Env) (o o_type : Open) (d : ℕ) (c : TypePlace) (k : InExpr) (ss : Specs) (x : MaybeDeclarator) (y : Symbol) (s : Span)
    → d ≡ maybe_declarator_depth (bare_maybe_declarator x) → Fits o (around_expr k).level suc → Fits o_type o.level (λ z. suc (max (specs_depth (bare_specs ss)) z)) → CountedExpr k
    → Counts (r.close_type n e env o o_type d c k ss x y s)
close_type_counts n e env o o_type d c k ss x t.rparen s a h g z =
    type_done_counts n env o (whole o_type d) o_type.from e c k ss x s (ends_with o_type o.level _ d (maybe_declarator_depth (bare_maybe_declarator x)) g a) h z
close_type_counts n e env o o_type d c k ss x _ s a h g z = tt

group_counts : (n : ℕ) (env : Env) (o : Open) (d : ℕ) (k : InDeclarator) (x : Declarator) (y : Symbol) (s : Span)
    → d ≡ declarator_depth (bare_declarator x) → CountedDeclarator (in_group o k) → Counts (r.close_group n env o d k x y s)
group_counts n env o d k x t.rparen s e h = (h.0.1 d ∙ ap suc e, h.1)
group_counts n env o d k x _ s e h = tt

end_counts : (k : InDeclarator) (n e : ℕ) (env : Env) (h : Had) (x : Declarator) (y : Symbol) (s : Span)
    → h.deep ≡ declarator_depth (bare_declarator x) → CountedDeclarator k → Counts (r.end_declarator n e env h k x y s)
end_counts (in_pointer o qs k) n e env h x y s g c = end_counts k (suc n) e env (closed o h.deep) (u.PointerTo (mark o.from e n) qs x) y s (c.0.1 h.deep ∙ ap suc g) c.1
end_counts (in_group o k) n e env h x y s g c = group_counts n env o h.deep k x y s g c
end_counts (in_item q) n e env h x y s g c = close_item_counts n e env h q x y s g c
end_counts (in_field o f ss ds) n e env h x y s g c =
    field_counts n env (with_part o h.deep) f ss (ds ++ x ∷ []) y s
    (grown2 o (around_fields f).level (specs_depth (bare_specs ss)) (declarators_deep ds) _ h.deep c.0 (declarators_more ds x h.deep g)) c.1
end_counts (in_param o k ss) n e env h x y s g c = close_param_counts n e env o h.deep k ss (u.some_declarator x) y s g c.0 c.1
end_counts (in_type o o_type z k ss) n e env h x y s g c = close_type_counts n e env o o_type h.deep z k ss (u.some_declarator x) y s g c.0 c.1 c.2

no_items_counts : (n : ℕ) (env : Env) (q : InItems) (y : Symbol) (s : Span) → CountedItems q → Counts (r.no_items_next n env q y s)
no_items_counts n env q t.semi s h = either_way (is_empty q.items) (rd.items_done n env q s) None (items_counts n env q s h) tt
no_items_counts n env q _ s h = tt

nameless_counts : (k : InDeclarator) (n e : ℕ) (env : Env) (y : Symbol) (s : Span) → CountedDeclarator k → Counts (r.nameless n e env k y s)
nameless_counts (in_pointer o qs k) n e env y s c =
    let x = u.PointerTo (mark o.from e (suc n)) qs (r.absent_name n s.start) in
    either_way (r.may_be_nameless k) (r.end_declarator (suc (suc n)) e env (closed o 0) k x y s) None (end_counts k (suc (suc n)) e env (closed o 0) x y s (c.0.1 0) c.1) tt
nameless_counts (in_group o k) n e env y s c = tt
nameless_counts (in_item q) n e env y s c = no_items_counts n env q y s c
nameless_counts (in_field o f ss ds) n e env y s c = tt
nameless_counts (in_param o k ss) n e env y s c = close_param_counts n e env o 0 k ss u.no_declarator y s refl c.0 c.1
nameless_counts (in_type o o_type z k ss) n e env y s c = close_type_counts n e env o o_type 0 z k ss u.no_declarator y s refl c.0 c.1 c.2

-- ---- the beginning of a declarator

pub declarator_begin_counts : (n e : ℕ) (env : Env) (k : InDeclarator) (y : Symbol) (s : Span) → CountedDeclarator k → Counts (r.declarator_begin n e env k y s)
declarator_begin_counts n e env k (t.name x) s c = either_way (r.may_be_named k) _ None (refl, c) tt
declarator_begin_counts n e env k (t.operator o) s c = either_way (is_star o) _ None (fresh (around_declarator k).level s.start, c) tt
declarator_begin_counts n e env k t.lparen s c = (fresh (around_declarator k).level s.start, c)
declarator_begin_counts n e env k t.lbracket s c = either_way (r.may_be_nameless k) _ None ((refl, λ d. refl), c) tt
declarator_begin_counts n e env k y s c = nameless_counts k n e env y s c

pub star_counts : (n e : ℕ) (env : Env) (o : Open) (qs : List Word) (k : InDeclarator) (y : Symbol) (s : Span) → CountedDeclarator (in_pointer o qs k) → Counts (r.star_next n e env o qs k y s)
star_counts n e env o qs k (t.keyword w) s c = either_way (is_qualifier (keyword_word w)) _ None c tt
star_counts n e env o qs k y s c = declarator_begin_counts n e env (in_pointer o qs k) y s c

open_params_counts : (n : ℕ) (env : Env) (o : Open) (k : InDeclarator) (y : Symbol) (s : Span) → CountedDeclarator (in_group o k) → Counts (r.open_params n env o k y s)
open_params_counts n env o k y s c =
    either_way (r.may_be_nameless k) _ None
    (begin_specs_counts (suc n) env (of_param (in_params o (r.absent_name n o.from) [] k)) y s (empty_second o (around_declarator k).level 0 (empty_fits o (around_declarator k).level c.0), c.1)) tt

pub opened_counts : (n e : ℕ) (env : Env) (o : Open) (k : InDeclarator) (y : Symbol) (s : Span) → CountedDeclarator (in_group o k) → Counts (r.opened_next n e env o k y s)
opened_counts n e env o k t.rparen s c = either_way (r.may_be_nameless k) _ None (c.0.1 0, c.1) tt
opened_counts n e env o k y s c =
    either_way (begins_specs env false y) (r.open_params n env o k y s) (r.declarator_begin n e env (in_group o k) y s) (open_params_counts n env o k y s c) (declarator_begin_counts n e env (in_group o k) y s c)

abbrev pub TakenFits : Open → InDeclarator → Declarator → Type 0
TakenFits o k x = Fits o (around_declarator k).level (λ d. suc (max (declarator_depth (bare_declarator x)) d))

pub array_counts : (n : ℕ) (env : Env) (o : Open) (x : Declarator) (k : InDeclarator) (y : Symbol) (s : Span) → TakenFits o k x → CountedDeclarator k → Counts (r.array_next n env o x k y s)
array_counts n env o x k t.rbracket s h c = (h.1 0, c)
array_counts n env o x k y s h c = want_counts n env (in_array o x k) y s (h, c)

pub params_counts : (n : ℕ) (env : Env) (o : Open) (x : Declarator) (k : InDeclarator) (y : Symbol) (s : Span) → TakenFits o k x → CountedDeclarator k → Counts (r.params_next n env o x k y s)
params_counts n env o x k t.rparen s h c = (h.1 0, c)
params_counts n env o x k y s h c = first_spec_counts n env (of_param (in_params o x [] k)) y s (empty_second o (around_declarator k).level (declarator_depth (bare_declarator x)) h, c)

pub declarator_counts : (n e : ℕ) (env : Env) (h : Had) (k : InDeclarator) (x : Declarator) (y : Symbol) (s : Span)
    → h.deep ≡ declarator_depth (bare_declarator x) → CountedDeclarator k → Counts (r.declarator_next n e env h k x y s)
declarator_counts n e env h k x t.lbracket s g c = (taken (around_declarator k).level h (declarator_depth (bare_declarator x)) g, c)
declarator_counts n e env h k x t.lparen s g c = (taken (around_declarator k).level h (declarator_depth (bare_declarator x)) g, c)
declarator_counts n e env h k x y s g c = end_counts k n e env h x y s g c
