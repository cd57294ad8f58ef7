-- Without places and numbers: first tokens, items and initialisers.
use Rattle.std.proofs.Common.{◌≡◌, ℕ, suc, true, false, List, [], ◌∷◌, ◌++◌, map, Option, Some, None, refl, ◌∙◌, ap}
use Rattle.tok_base.specs.declared.token.Span.{Span}
use Rattle.c_tree.specs.Tree as b
use Rattle.c_tree.specs.Tree.{PrefixOp}
use Rattle.c_tree.specs.Tok.{Word}
use Rattle.c_tree.specs.Marked as u
use Rattle.c_tree.specs.Marked.{Specs, Declarator, Init, MaybeInit, Declaration, Attribute}
use Rattle.c_tree.specs.Bare.{bare_attribute, bare_specs, bare_declarator, bare_init, bare_maybe_init, bare_item, bare_declaration, bare_external}
use Rattle.c_tree.specs.Wf.{Env, is_type, declared_name, with_name}
use Rattle.c_reader.specs.Symbol as t
use Rattle.c_reader.specs.Symbol.{Symbol, keyword_word}
use Rattle.c_reader.specs.Parts as p
use Rattle.c_reader.specs.Inside as i
use Rattle.c_reader.specs.Begin as mb
use Rattle.c_reader.specs.Begin.{is_empty, begins_specs, operator_prefix}
use Rattle.c_reader.specs.Declarations as m
use Rattle.c_reader.specs.Declarations.{is_equals, is_function}
use Rattle.c_reader.specs.MarkedParts.{Open, Had, mark, opens, takes, with_part, whole, Spec, SpecsRead, typedef_name, no_specs, add_keyword, add_type, add_attribute}
use Rattle.c_reader.specs.MarkedInside.{InExpr, InSpecs, InDeclaration, of_external, of_block, of_for, InItems, ItemRead, InInit, of_item, in_braces, in_init, specs_level}
use Rattle.c_reader.specs.MarkedBegin as rb
use Rattle.c_reader.specs.MarkedDeclarations as r
use Rattle.c_reader.proofs.Erased.{erase_spec, erase_block_item, erase_specs_read, erase_body, erase_declaration, erase_items, erase_item_read, erase_init, erase_expr, erase_specs, erased, map-last, map-empty, inits_erased, same_test}

-- ---- specs

abbrev specs_read : SpecsRead → List p.Spec → p.SpecsRead
specs_read ss xs = record { specs = xs; seen = ss.seen; typedef = ss.typedef }

pub keyword_added : (ss : SpecsRead) (w : Word) → erase_specs_read (add_keyword ss w) ≡ p.add_keyword (erase_specs_read ss) w
keyword_added ss w = ap (specs_read (add_keyword ss w)) (map-last erase_spec ss.specs _)

pub type_added : (ss : SpecsRead) (d : ℕ) (x : Spec) → erase_specs_read (add_type ss d x) ≡ p.add_type (erase_specs_read ss) (erase_spec x)
type_added ss d x = ap (specs_read (add_type ss d x)) (map-last erase_spec ss.specs x)

pub attribute_added : (ss : SpecsRead) (d : ℕ) (a : Attribute) → erase_specs_read (add_attribute ss d a) ≡ p.add_attribute (erase_specs_read ss) (bare_attribute a)
attribute_added ss d a = ap (specs_read (add_attribute ss d a)) (map-last erase_spec ss.specs _)

pub open_spec_step : (n : ℕ) (env : Env) (ss : SpecsRead) (k : InSpecs) (y : Symbol) (s : Span) → erased (rb.open_spec n env ss k y s) ≡ mb.open_spec env (erase_specs_read ss) (erase_specs k) y
open_spec_step n env ss k (t.name x) s = ap (λ z. i.at env (i.specs (i.in_specs z (erase_specs k)))) (type_added ss 0 (typedef_name x))
open_spec_step n env ss k (t.keyword w) s = ap (λ z. i.at env (i.specs (i.in_specs z (erase_specs k)))) (keyword_added ss (keyword_word w))
open_spec_step n env ss k (t.tagged g) s = refl
open_spec_step n env ss k t.attribute s = refl
open_spec_step n env ss k _ s = refl

pub begin_specs_step : (n : ℕ) (env : Env) (k : InSpecs) (y : Symbol) (s : Span) → erased (rb.begin_specs n env k y s) ≡ mb.open_spec env p.no_specs (erase_specs k) y
begin_specs_step n env k y s = open_spec_step n env (no_specs (opens (specs_level k) s.start)) k y s

pub first_spec_step : (n : ℕ) (env : Env) (k : InSpecs) (y : Symbol) (s : Span) → erased (rb.first_spec n env k y s) ≡ mb.first_spec env (erase_specs k) y
first_spec_step n env k y s = same_test (begins_specs env false y) (begins_specs env false y) _ _ _ _ refl (begin_specs_step n env k y s) refl

-- ---- the first token of an expression

operand_step : (n : ℕ) (env : Env) (k : InExpr) (o : Option PrefixOp) (s : Span) → erased (rb.want_operand n env k o s) ≡ mb.want_operand env (erase_expr k) o
operand_step n env k None s = refl
operand_step n env k (Some o) s = refl

pub want_step : (n : ℕ) (env : Env) (k : InExpr) (y : Symbol) (s : Span) → erased (rb.want n env k y s) ≡ mb.want env (erase_expr k) y
want_step n env k (t.name x) s = same_test (is_type env x) (is_type env x) _ _ _ _ refl refl refl
want_step n env k (t.operator o) s = operand_step n env k (operator_prefix o) s
want_step n env k (t.number x) s = refl
want_step n env k _ s = refl

-- ---- items

declaration_step : (n : ℕ) (env : Env) (d : ℕ) (q : InDeclaration) (x : Declaration) → erased (r.declaration_done n env d q x) ≡ i.at env (m.declaration_done (erase_declaration q) (bare_declaration x))
declaration_step n env d (of_external deep done) x = ap (λ xs. i.at env (i.want_external xs)) (map-last bare_external done _)
declaration_step n env d (of_block o is k) x = ap (λ xs. i.at env (i.stmt (i.want_stmt (i.in_block xs (erase_body k))))) (map-last erase_block_item is _)
declaration_step n env d (of_for o k) x = refl

pub items_step : (n : ℕ) (env : Env) (q : InItems) (s : Span) → erased (r.items_done n env q s) ≡ i.at env (m.items_done (erase_items q))
items_step n env q s = declaration_step (suc n) env (whole q.node 0) q.place (record { at = mark q.node.from s.end n; specs = q.specs; items = q.items })

item_added : (n e d : ℕ) (x : ItemRead) (v : MaybeInit) → erase_items (r.add_item n e d x v) ≡ m.add_item (erase_item_read x) (bare_maybe_init v)
item_added n e d x v = ap (λ is. record { specs = bare_specs x.before.specs; typedef = x.before.typedef; items = is; place = erase_declaration x.before.place }) (map-last bare_item x.before.items _)

item_end_step : (n : ℕ) (env : Env) (q : InItems) (y : Symbol) (s : Span) → erased (r.item_end n env q y s) ≡ m.item_end env (erase_items q) y
item_end_step n env q t.comma s = refl
item_end_step n env q t.semi s = items_step n env q s
item_end_step n env q _ s = refl

added_step : (n e : ℕ) (env : Env) (d : ℕ) (x : ItemRead) (v : MaybeInit) (y : Symbol) (s : Span)
    → erased (r.item_end (suc n) env (r.add_item n e d x v) y s) ≡ m.item_end env (m.add_item (erase_item_read x) (bare_maybe_init v)) y
added_step n e env d x v y s = item_end_step (suc n) env (r.add_item n e d x v) y s ∙ ap (λ q. m.item_end env q y) (item_added n e d x v)

pub item_step : (n e : ℕ) (env : Env) (x : ItemRead) (y : Symbol) (s : Span) → erased (r.item_next n e env x y s) ≡ m.item_next env (erase_item_read x) y
item_step n e env x t.attribute s = refl
item_step n e env x (t.operator o) s = same_test (is_equals o) (is_equals o) _ _ _ _ refl refl refl
item_step n e env x y s = added_step n e env 0 x u.no_init y s

body_step : (n : ℕ) (env : Env) (o : Open) (q : InDeclaration) (ss : Specs) (d : Declarator) (s : Span)
    → erased (r.open_body n env o q ss d s) ≡ m.open_body env (erase_declaration q) (bare_specs ss) (bare_declarator d)
body_step n env o (of_external deep done) ss d s = same_test (is_function (bare_declarator d)) (is_function (bare_declarator d)) _ _ _ _ refl refl refl
body_step n env o (of_block b_o is k) ss d s = refl
body_step n env o (of_for f_o k) ss d s = refl

item_declarator_step : (n e : ℕ) (env : Env) (h : Had) (q : InItems) (d : Declarator) (y : Symbol) (s : Span)
    → erased (r.item_declarator_next n e env h q d y s) ≡ m.item_declarator_next env (erase_items q) (bare_declarator d) y
item_declarator_step n e env h q d t.lbrace s =
    same_test (is_empty q.items) (is_empty (map bare_item q.items)) _ _ _ _ (map-empty bare_item q.items) (body_step n env (with_part q.node h.deep) q.place q.specs d s) refl
item_declarator_step n e env h q d y s = item_step n e env (record { node = takes q.node.level h; before = q; declarator = d; attributes = [] }) y s

pub close_item_step : (n e : ℕ) (env : Env) (h : Had) (q : InItems) (d : Declarator) (y : Symbol) (s : Span)
    → erased (r.close_item n e env h q d y s) ≡ m.close_item env (erase_items q) (bare_declarator d) y
close_item_step n e env h q d y s = item_declarator_step n e (with_name q.typedef (declared_name (bare_declarator d)) env) h q d y s

-- ---- initialisers

braces_step : (n : ℕ) (env : Env) (o : Open) (is : List Init) (k : InInit) (y : Symbol) (s : Span)
    → erased (r.braces_next n env o is k y s) ≡ m.braces_next env (map bare_init is) (erase_init k) y
braces_step n env o is k t.comma s = refl
braces_step n env o is k t.rbrace s = ap (λ xs. i.at env (i.after_init (erase_init k) (b.Braces xs false))) (inits_erased is)
braces_step n env o is k _ s = refl

pub init_step : (n e : ℕ) (env : Env) (d : ℕ) (k : InInit) (v : Init) (y : Symbol) (s : Span) → erased (r.init_next n e env d k v y s) ≡ m.init_next env (erase_init k) (bare_init v) y
init_step n e env d (of_item x) v y s = added_step n e env d x (u.some_init v) y s
init_step n e env d (in_braces o is k) v y s = braces_step n env (with_part o d) (is ++ v ∷ []) k y s ∙ ap (λ xs. m.braces_next env xs (erase_init k) y) (map-last bare_init is v)

close_braces_step : (n : ℕ) (env : Env) (k : InInit) (s : Span) → erased (r.close_braces n env k s) ≡ m.close_braces env (erase_init k)
close_braces_step n env (of_item x) s = refl
close_braces_step n env (in_braces o is k) s =
    same_test (is_empty is) (is_empty (map bare_init is)) _ _ _ _ (map-empty bare_init is) refl
    (ap (λ xs. i.at env (i.after_init (erase_init k) (b.Braces xs true))) (inits_erased is))

pub init_begin_step : (n : ℕ) (env : Env) (k : InInit) (y : Symbol) (s : Span) → erased (r.init_begin n env k y s) ≡ m.init_begin env (erase_init k) y
init_begin_step n env k t.lbrace s = refl
init_begin_step n env k t.rbrace s = close_braces_step n env k s
init_begin_step n env k y s = want_step n env (in_init k) y s
