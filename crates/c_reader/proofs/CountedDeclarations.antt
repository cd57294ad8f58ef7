-- The steps keep the numbers of depth: the first token of specs, the first of an expression, declarations and initialisers.
use Rattle.std.proofs.Common.{◌≡◌, ℕ, suc, max, false, if◌then◌else◌, List, [], ◌∷◌, ◌++◌, Option, Some, None, refl, sym, ◌∙◌, ap, arith}
use Rattle.tok_base.specs.declared.token.Span.{Span}
use Rattle.c_tree.specs.Tree.{PrefixOp}
use Rattle.c_tree.specs.Marked as u
use Rattle.c_tree.specs.Marked.{Specs, Declarator, Init, MaybeInit, Item, Declaration}
use Rattle.c_tree.specs.Bare.{bare_declarator, bare_specs, bare_inits, bare_init, bare_maybe_init, bare_item, bare_declaration}
use Rattle.c_tree.specs.Wf.{Env, is_type, declared_name, with_name}
use Rattle.c_tree.specs.Depth.{specs_depth, declarator_depth, inits_depth, init_depth, maybe_init_depth, item_depth, declaration_depth}
use Rattle.c_reader.specs.Symbol as t
use Rattle.c_reader.specs.Symbol.{Symbol, keyword_word}
use Rattle.c_reader.specs.Begin.{is_empty, begins_specs, operator_prefix}
use Rattle.c_reader.specs.Declarations.{is_equals, is_function}
use Rattle.c_reader.specs.MarkedParts.{Open, Had, mark, opens, takes, with_part, whole, SpecsRead, keyword, typedef_name, no_specs, add_keyword, declared, inits_of}
use Rattle.c_reader.specs.MarkedInside.{InExpr, InSpecs, InDeclaration, of_external, of_block, of_for, InItems, ItemRead, InInit, of_item, in_braces, in_init, want_init, go_on, around_expr, around_stmt, around_init, declaration_level, specs_level}
use Rattle.c_reader.specs.MarkedBegin as rb
use Rattle.c_reader.specs.MarkedDeclarations as r
use Rattle.c_reader.proofs.Erased.{inits_erased}
use Rattle.c_reader.proofs.Counted.{Fits, body_level, inits_deep, items_deep, block_deep, CountedDeclaration, CountedItems, CountedItem, CountedInit, CountedExpr, CountedSpecs, CountedRead, Counts, either_way, fresh, grown, grown2, with_first, ends_with, as_it_is, as_it_is2, specs_more, inits_more, block_more, items_more, unit_more, type_counts}

-- ---- specs

keyword_counts : (ss : SpecsRead) (k : InSpecs) (w : t.Keyword) → CountedRead ss k → CountedRead (add_keyword ss (keyword_word w)) k
keyword_counts ss k w h =
    let more = specs_more ss.specs (keyword (keyword_word w)) 0 refl in
    ((h.0.0, λ d. let f = h.0.1 d in omega (arith, f, more)), h.1)

pub open_spec_counts : (n : ℕ) (env : Env) (ss : SpecsRead) (k : InSpecs) (y : Symbol) (s : Span) → CountedRead ss k → Counts (rb.open_spec n env ss k y s)
open_spec_counts n env ss k (t.name x) s h = type_counts ss k 0 (typedef_name x) refl h
open_spec_counts n env ss k (t.keyword w) s h = keyword_counts ss k w h
open_spec_counts n env ss k (t.tagged g) s h = (fresh ss.node.level s.start, h)
open_spec_counts n env ss k t.attribute s h = (refl, refl, h)
open_spec_counts n env ss k _ s h = tt

pub begin_specs_counts : (n : ℕ) (env : Env) (k : InSpecs) (y : Symbol) (s : Span) → CountedSpecs k → Counts (rb.begin_specs n env k y s)
begin_specs_counts n env k y s h = open_spec_counts n env (no_specs (opens (specs_level k) s.start)) k y s ((refl, λ d. refl), h)

pub first_spec_counts : (n : ℕ) (env : Env) (k : InSpecs) (y : Symbol) (s : Span) → CountedSpecs k → Counts (rb.first_spec n env k y s)
first_spec_counts n env k y s h = either_way (begins_specs env false y) (rb.begin_specs n env k y s) None (begin_specs_counts n env k y s h) tt

-- ---- the first token of an expression

operand_counts : (n : ℕ) (env : Env) (k : InExpr) (o : Option PrefixOp) (s : Span) → CountedExpr k → Counts (rb.want_operand n env k o s)
operand_counts n env k None s h = tt
operand_counts n env k (Some o) s h = (fresh (around_expr k).level s.start, h)

pub want_counts : (n : ℕ) (env : Env) (k : InExpr) (y : Symbol) (s : Span) → CountedExpr k → Counts (rb.want n env k y s)
want_counts n env k (t.name x) s h = either_way (is_type env x) None _ tt (refl, h)
want_counts n env k (t.number x) s h = (refl, h)
want_counts n env k (t.char x) s h = (refl, h)
want_counts n env k (t.text x) s h = h
want_counts n env k (t.operator o) s h = operand_counts n env k (operator_prefix o) s h
want_counts n env k t.lparen s h = (fresh (around_expr k).level s.start, h)
want_counts n env k t.sizeof s h = (fresh (around_expr k).level s.start, h)
want_counts n env k t.builtin s h = (fresh (around_expr k).level s.start, h)
want_counts n env k _ s h = tt

-- ---- items

declaration_counts : (n : ℕ) (env : Env) (d : ℕ) (q : InDeclaration) (x : Declaration) → d ≡ declaration_depth (bare_declaration x) → CountedDeclaration q → Counts (r.declaration_done n env d q x)
declaration_counts n env d (of_external deep done) x e h = let more = unit_more done (u.Declares x) d e in omega (arith, h, more)
declaration_counts n env d (of_block o is k) x e h = (grown o (body_level k) (block_deep is) (block_deep (is ++ declared x ∷ [])) d h.0 (block_more is (declared x) d e), h.1)
declaration_counts n env d (of_for o k) x e h = (with_first o (around_stmt k).level (declaration_depth (bare_declaration x)) d h.0 e, h.1)

pub items_counts : (n : ℕ) (env : Env) (q : InItems) (s : Span) → CountedItems q → Counts (r.items_done n env q s)
items_counts n env q s h =
    declaration_counts (suc n) env (whole q.node 0) q.place (record { at = mark q.node.from s.end n; specs = q.specs; items = q.items })
    (as_it_is2 q.node (declaration_level q.place) (specs_depth (bare_specs q.specs)) (items_deep q.items) h.0) h.1

added_item : (n e d : ℕ) (x : ItemRead) (v : MaybeInit) → d ≡ maybe_init_depth (bare_maybe_init v) → CountedItem x → CountedItems (r.add_item n e d x v)
added_item n e d x v g h =
    let f = h.0.1 d in
    let b = h.1 in
    let q = x.before in
    let i : Item = record { at = mark x.node.from e n; declarator = x.declarator; attributes = x.attributes; init = v } in
    let deep : whole x.node d ≡ item_depth (bare_item i) = ends_with x.node q.node.level _ d (maybe_init_depth (bare_maybe_init v)) h.0 g in
    (grown2 q.node (declaration_level q.place) (specs_depth (bare_specs q.specs)) (items_deep q.items) (items_deep (q.items ++ i ∷ [])) (whole x.node d) b.0 (items_more q.items i (whole x.node d) deep), b.1)

item_end_counts : (n : ℕ) (env : Env) (q : InItems) (y : Symbol) (s : Span) → CountedItems q → Counts (r.item_end n env q y s)
item_end_counts n env q t.comma s h = h
item_end_counts n env q t.semi s h = items_counts n env q s h
item_end_counts n env q _ s h = tt

pub item_counts : (n e : ℕ) (env : Env) (x : ItemRead) (y : Symbol) (s : Span) → CountedItem x → Counts (r.item_next n e env x y s)
item_counts n e env x t.attribute s h = (refl, refl, h)
item_counts n e env x (t.operator o) s h = either_way (is_equals o) (go_on n env (want_init (of_item x))) None h tt
item_counts n e env x y s h = item_end_counts (suc n) env (r.add_item n e 0 x u.no_init) y s (added_item n e 0 x u.no_init refl h)

body_counts : (n : ℕ) (env : Env) (o : Open) (q : InDeclaration) (ss : Specs) (x : Declarator) (s : Span)
    → Fits o (declaration_level q) (λ d. suc (max (specs_depth (bare_specs ss)) (max (declarator_depth (bare_declarator x)) d))) → CountedDeclaration q
    → Counts (r.open_body n env o q ss x s)
body_counts n env o (of_external deep done) ss x s h g = either_way (is_function (bare_declarator x)) _ None ((refl, λ d. refl), (g, h)) tt
body_counts n env o (of_block b_o is k) ss x s h g = tt
body_counts n env o (of_for f_o k) ss x s h g = tt

-- the specs and the first declarator
first_fits : (o : Open) (level a d x : ℕ) → Fits o level (λ e. suc (max a (max 0 e))) → d ≡ x → Fits (with_part o d) level (λ e. suc (max a (max x e)))
first_fits o level a d x h g = (h.0, λ e. let f = h.1 0 in omega (arith, f, g))

lbrace_counts : (is : List Item) (n : ℕ) (env : Env) (o : Open) (q : InDeclaration) (ss : Specs) (d : ℕ) (x : Declarator) (s : Span)
    → Fits o (declaration_level q) (λ e. suc (max (specs_depth (bare_specs ss)) (max (items_deep is) e))) → CountedDeclaration q → d ≡ declarator_depth (bare_declarator x)
    → Counts (if is_empty is then r.open_body n env (with_part o d) q ss x s else None)
lbrace_counts [] n env o q ss d x s h g e =
    body_counts n env (with_part o d) q ss x s (first_fits o (declaration_level q) (specs_depth (bare_specs ss)) d (declarator_depth (bare_declarator x)) h e) g
lbrace_counts (i ∷ is) n env o q ss d x s h g e = tt

item_declarator_counts : (n e : ℕ) (env : Env) (h : Had) (q : InItems) (x : Declarator) (y : Symbol) (s : Span)
    → h.deep ≡ declarator_depth (bare_declarator x) → CountedItems q → Counts (r.item_declarator_next n e env h q x y s)
item_declarator_counts n e env h q x t.lbrace s g c = lbrace_counts q.items n env q.node q.place q.specs h.deep x s c.0 c.1 g
item_declarator_counts n e env h q x y s g c =
    item_counts n e env (record { node = takes q.node.level h; before = q; declarator = x; attributes = [] }) y s ((refl, λ d. omega (arith, g)), c)

pub close_item_counts : (n e : ℕ) (env : Env) (h : Had) (q : InItems) (x : Declarator) (y : Symbol) (s : Span)
    → h.deep ≡ declarator_depth (bare_declarator x) → CountedItems q → Counts (r.close_item n e env h q x y s)
close_item_counts n e env h q x y s g c = item_declarator_counts n e (with_name q.typedef (declared_name (bare_declarator x)) env) h q x y s g c

-- ---- initialisers

braces_deep : (o : Open) (level : ℕ) (is : List Init) → Fits o level (λ d. suc (max (inits_deep is) d)) → whole o 0 ≡ suc (inits_depth (bare_inits (inits_of is)))
braces_deep o level is h = as_it_is o level (inits_deep is) h ∙ ap (λ z. suc (inits_depth z)) (sym (inits_erased is))

braces_counts : (n : ℕ) (env : Env) (o : Open) (is : List Init) (k : InInit) (y : Symbol) (s : Span) → CountedInit (in_braces o is k) → Counts (r.braces_next n env o is k y s)
braces_counts n env o is k t.comma s h = h
braces_counts n env o is k t.rbrace s h = (braces_deep o (around_init k).level is h.0, h.1)
braces_counts n env o is k _ s h = tt

pub init_counts : (n e : ℕ) (env : Env) (d : ℕ) (k : InInit) (v : Init) (y : Symbol) (s : Span) → d ≡ init_depth (bare_init v) → CountedInit k → Counts (r.init_next n e env d k v y s)
init_counts n e env d (of_item x) v y s g h = item_end_counts (suc n) env (r.add_item n e d x (u.some_init v)) y s (added_item n e d x (u.some_init v) g h)
init_counts n e env d (in_braces o is k) v y s g h =
    braces_counts n env (with_part o d) (is ++ v ∷ []) k y s (grown o (around_init k).level (inits_deep is) (inits_deep (is ++ v ∷ [])) d h.0 (inits_more is v d g), h.1)

close_braces_counts : (n : ℕ) (env : Env) (k : InInit) (s : Span) → CountedInit k → Counts (r.close_braces n env k s)
close_braces_counts n env (of_item x) s h = tt
close_braces_counts n env (in_braces o is k) s h = either_way (is_empty is) None _ tt (braces_deep o (around_init k).level is h.0, h.1)

pub init_begin_counts : (n : ℕ) (env : Env) (k : InInit) (y : Symbol) (s : Span) → CountedInit k → Counts (r.init_begin n env k y s)
init_begin_counts n env k t.lbrace s h = ((refl, λ d. refl), h)
init_begin_counts n env k t.rbrace s h = close_braces_counts n env k s h
init_begin_counts n env k y s h = want_counts n env (in_init k) y s h
