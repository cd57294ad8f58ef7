-- Numbers and places are kept: first tokens, items and initialisers.
use Rattle.std.proofs.Common.{ℕ, suc, false, List, [], ◌∷◌, ◌++◌, Option, Some, None, sym, ◌∙◌, ap}
use Rattle.tok_base.specs.declared.token.Span.{Span}
use Rattle.c_tree.specs.Tok as g
use Rattle.c_tree.specs.Tree.{PrefixOp}
use Rattle.c_tree.specs.Marks.{prefix_mark}
use Rattle.c_tree.specs.Marked as u
use Rattle.c_tree.specs.Marked.{Specs, Declarator, Init, MaybeInit, Item, Declaration}
use Rattle.c_tree.specs.Bare.{bare_declarator}
use Rattle.c_tree.specs.Pieces.{token, pieces_all, pieces_commas, pieces_attribute, pieces_specs, pieces_declarator, pieces_init, pieces_maybe_init, pieces_item, pieces_declaration, pieces_external}
use Rattle.c_tree.specs.Wf.{Env, is_type, declared_name, with_name}
use Rattle.c_reader.specs.Symbol as t
use Rattle.c_reader.specs.Symbol.{Symbol, keyword_word, tagged_word}
use Rattle.c_reader.specs.Begin.{is_empty, begins_specs, operator_prefix}
use Rattle.c_reader.specs.Declarations.{is_equals, is_function}
use Rattle.c_reader.specs.MarkedParts.{Open, Had, mark, opens, takes, with_part, whole, SpecsRead, keyword, typedef_name, no_specs, declared}
use Rattle.c_reader.specs.MarkedInside.{InExpr, InSpecs, InDeclaration, of_external, of_block, of_for, of_definition, InItems, ItemRead, InInit, of_item, in_braces, in_init, of_specs, specs_level}
use Rattle.c_reader.specs.MarkedBegin as rb
use Rattle.c_reader.specs.MarkedDeclarations as r
use Rattle.c_reader.proofs.Marks.{Spot, spot, Opened, Then, then_did, same_did, same_opened, with_token, joined, joined_then, all_of, fresh, begun, leaf, closed, pieces_done, all-last, done-last, commas-last, commas-done, all_empty, specs-last, block-last, inits-commas, by_test, by_cases}
use Rattle.c_reader.proofs.MarksAt.{AtBody, AtDeclaration, AtItems, AtItemRead, AtInit, AtExpr, AtSpecs, AtSpecsRead, AtAttribute, Good}

-- ---- specs

pub open_spec_at : (z : Spot) (n e : ℕ) (env : Env) (ss : SpecsRead) (k : InSpecs) (y : Symbol) (s : Span) (left : List Span)
    → AtSpecsRead z ss k (spot n e (s ∷ left)) → Good z s.end left (rb.open_spec n env ss k y s)
open_spec_at z n e env ss k (t.name x) s left o = same_opened (specs-last ss.specs (typedef_name x)) (with_token (g.name x) n e s left o)
open_spec_at z n e env ss k (t.keyword w) s left o = same_opened (specs-last ss.specs (keyword (keyword_word w))) (with_token (g.word (keyword_word w)) n e s left o)
open_spec_at z n e env ss k (t.tagged c) s left o = begun (AtSpecsRead z ss k) (g.word (tagged_word c)) n e s left o
open_spec_at z n e env ss k t.attribute s left o = begun (AtAttribute z (of_specs ss k)) (g.word g.KAttribute) n e s left o
open_spec_at z n e env ss k _ s left o = tt

pub begin_specs_at : (z : Spot) (n e : ℕ) (env : Env) (k : InSpecs) (y : Symbol) (s : Span) (left : List Span)
    → AtSpecs z k (spot n e (s ∷ left)) → Good z s.end left (rb.begin_specs n env k y s)
begin_specs_at z n e env k y s left i = open_spec_at z n e env (no_specs (opens (specs_level k) s.start)) k y s left (fresh (AtSpecs z k) n e s left i)

pub first_spec_at : (z : Spot) (n e : ℕ) (env : Env) (k : InSpecs) (y : Symbol) (s : Span) (left : List Span)
    → AtSpecs z k (spot n e (s ∷ left)) → Good z s.end left (rb.first_spec n env k y s)
first_spec_at z n e env k y s left i =
    by_test (Good z s.end left) (begins_specs env false y) (rb.begin_specs n env k y s) None (begin_specs_at z n e env k y s left i) tt

-- ---- the first token of an expression

operand_at : (z : Spot) (n e : ℕ) (env : Env) (k : InExpr) (o : Option PrefixOp) (s : Span) (left : List Span)
    → AtExpr z k (spot n e (s ∷ left)) → Good z s.end left (rb.want_operand n env k o s)
operand_at z n e env k None s left i = tt
operand_at z n e env k (Some o) s left i = begun (AtExpr z k) (g.mark (prefix_mark o)) n e s left i

pub want_at : (z : Spot) (n e : ℕ) (env : Env) (k : InExpr) (y : Symbol) (s : Span) (left : List Span)
    → AtExpr z k (spot n e (s ∷ left)) → Good z s.end left (rb.want n env k y s)
want_at z n e env k (t.name x) s left i = by_test (Good z s.end left) (is_type env x) _ _ tt (leaf (AtExpr z k) (g.name x) n e s left i)
want_at z n e env k (t.number x) s left i = leaf (AtExpr z k) (g.number x) n e s left i
want_at z n e env k (t.char x) s left i = leaf (AtExpr z k) (g.char x) n e s left i
want_at z n e env k (t.text x) s left i = begun (AtExpr z k) (g.text x) n e s left i
want_at z n e env k (t.operator o) s left i = operand_at z n e env k (operator_prefix o) s left i
want_at z n e env k t.lparen s left i = begun (AtExpr z k) (g.mark g.LParen) n e s left i
want_at z n e env k t.sizeof s left i = begun (AtExpr z k) (g.word g.KSizeof) n e s left i
want_at z n e env k t.builtin s left i = begun (AtExpr z k) (g.word g.KBuiltin) n e s left i
want_at z n e env k _ s left i = tt

-- ---- the end of a declaration

declaration_at : (z : Spot) (n e : ℕ) (env : Env) (deep : ℕ) (q : InDeclaration) (d : Declaration) (left : List Span)
    → Then (AtDeclaration z q) (pieces_declaration d) (spot n e left) → Good z e left (r.declaration_done n env deep q d)
declaration_at z n e env deep (of_external before done) d left o = same_did (all-last pieces_external done (u.Declares d)) (then_did o.prior o.did)
declaration_at z n e env deep (of_block node is k) d left o = same_opened (λ ps. ap (λ qs. token (g.mark g.LBrace) ∷ qs) (block-last is (declared d) ps)) (joined_then o)
declaration_at z n e env deep (of_for node k) d left o = joined_then o

-- all its items are read
pub items_at : (z : Spot) (n e : ℕ) (env : Env) (q : InItems) (s : Span) (left : List Span)
    → Opened (AtDeclaration z q.place) q.node.from (λ ps. pieces_specs q.specs (pieces_commas pieces_item q.items ps)) (spot n e (s ∷ left))
    → Good z s.end left (r.items_done n env q s)
items_at z n e env q s left o =
    declaration_at z (suc n) s.end env (whole q.node 0) q.place (record { at = mark q.node.from s.end n; specs = q.specs; items = q.items }) left
    (all_of (closed n s.end left (with_token (g.mark g.Semi) n e s left o)))

-- ---- items

-- the item that an item so far and an initialiser are
abbrev item_of : ℕ → ℕ → ItemRead → MaybeInit → Item
item_of n e v i = record { at = mark v.node.from e n; declarator = v.declarator; attributes = v.attributes; init = i }

added_at : (z : Spot) (n e : ℕ) (env : Env) (deep : ℕ) (v : ItemRead) (i : MaybeInit) (y : Symbol) (s : Span) (left : List Span)
    → Opened (AtItems z v.before) v.node.from (λ ps. pieces_declarator v.declarator (pieces_all pieces_attribute v.attributes (pieces_maybe_init i ps))) (spot n e (s ∷ left))
    → Good z s.end left (r.item_end (suc n) env (r.add_item n e deep v i) y s)
added_at z n e env deep v i t.comma s left o =
    same_opened (λ ps. ap (pieces_specs v.before.specs) (done-last pieces_item v.before.items (item_of n e v i) ps))
    (with_token (g.mark g.Com) (suc n) e s left (joined (closed n e (s ∷ left) o)))
added_at z n e env deep v i t.semi s left o =
    items_at z (suc n) e env (r.add_item n e deep v i) s left
    (same_opened (λ ps. ap (pieces_specs v.before.specs) (commas-last pieces_item v.before.items (item_of n e v i) ps)) (joined (closed n e (s ∷ left) o)))
added_at z n e env deep v i _ s left o = tt

pub item_at : (z : Spot) (n e : ℕ) (env : Env) (v : ItemRead) (y : Symbol) (s : Span) (left : List Span)
    → AtItemRead z v (spot n e (s ∷ left)) → Good z s.end left (r.item_next n e env v y s)
item_at z n e env v t.attribute s left o = begun (AtItemRead z v) (g.word g.KAttribute) n e s left o
item_at z n e env v (t.operator p) s left o = by_test (Good z s.end left) (is_equals p) _ _ (with_token (g.mark g.Assign) n e s left o) tt
item_at z n e env v y s left o = added_at z n e env 0 v u.no_init y s left o

body_at : (z : Spot) (n e : ℕ) (env : Env) (node : Open) (q : InDeclaration) (ss : Specs) (d : Declarator) (s : Span) (left : List Span)
    → Opened (AtDeclaration z q) node.from (λ ps. pieces_specs ss (pieces_declarator d ps)) (spot n e (s ∷ left)) → Good z s.end left (r.open_body n env node q ss d s)
body_at z n e env node (of_external deep done) ss d s left o =
    by_test (Good z s.end left) (is_function (bare_declarator d)) _ _ (begun (AtBody z (of_definition deep node done ss d)) (g.mark g.LBrace) n e s left o) tt
body_at z n e env node (of_block b_node is k) ss d s left o = tt
body_at z n e env node (of_for f_node k) ss d s left o = tt

item_declarator_at : (z : Spot) (n e : ℕ) (env : Env) (had : Had) (q : InItems) (d : Declarator) (y : Symbol) (s : Span) (left : List Span)
    → Opened (AtItems z q) had.from (pieces_declarator d) (spot n e (s ∷ left)) → Good z s.end left (r.item_declarator_next n e env had q d y s)
item_declarator_at z n e env had q d t.lbrace s left o =
    by_cases (Good z s.end left) (is_empty q.items) (r.open_body n env (with_part q.node had.deep) q.place q.specs d s) None
    (λ h. body_at z n e env (with_part q.node had.deep) q.place q.specs d s left
    (same_opened (λ ps. ap (λ is. pieces_specs q.specs (pieces_done pieces_item is (pieces_declarator d ps))) (sym (all_empty q.items h))) (joined o)))
    (λ h. tt)
item_declarator_at z n e env had q d y s left o = item_at z n e env (record { node = takes q.node.level had; before = q; declarator = d; attributes = [] }) y s left o

pub close_item_at : (z : Spot) (n e : ℕ) (env : Env) (had : Had) (q : InItems) (d : Declarator) (y : Symbol) (s : Span) (left : List Span)
    → Opened (AtItems z q) had.from (pieces_declarator d) (spot n e (s ∷ left)) → Good z s.end left (r.close_item n e env had q d y s)
close_item_at z n e env had q d y s left o = item_declarator_at z n e (with_name q.typedef (declared_name (bare_declarator d)) env) had q d y s left o

-- ---- initialisers

braces_at : (z : Spot) (n e : ℕ) (env : Env) (node : Open) (is : List Init) (v : Init) (k : InInit) (y : Symbol) (s : Span) (left : List Span)
    → Then (AtInit z (in_braces node is k)) (pieces_init v) (spot n e (s ∷ left)) → Good z s.end left (r.braces_next n env node (is ++ v ∷ []) k y s)
braces_at z n e env node is v k t.comma s left o =
    same_opened (λ ps. ap (λ qs. token (g.mark g.LBrace) ∷ qs) (done-last pieces_init is v ps)) (with_token (g.mark g.Com) n e s left (joined_then o))
braces_at z n e env node is v k t.rbrace s left o =
    all_of (closed n s.end left
    (same_opened (λ ps. ap (λ qs. token (g.mark g.LBrace) ∷ qs)
    (inits-commas (is ++ v ∷ []) (token (g.mark g.RBrace) ∷ ps) ∙ commas-last pieces_init is v (token (g.mark g.RBrace) ∷ ps)))
    (with_token (g.mark g.RBrace) n e s left (joined_then o))))
braces_at z n e env node is v k _ s left o = tt

pub init_at : (z : Spot) (n e : ℕ) (env : Env) (deep : ℕ) (k : InInit) (v : Init) (y : Symbol) (s : Span) (left : List Span)
    → Then (AtInit z k) (pieces_init v) (spot n e (s ∷ left)) → Good z s.end left (r.init_next n e env deep k v y s)
init_at z n e env deep (of_item w) v y s left o = added_at z n e env deep w (u.some_init v) y s left (joined_then o)
init_at z n e env deep (in_braces node is k) v y s left o = braces_at z n e env (with_part node deep) is v k y s left o

close_braces_at : (z : Spot) (n e : ℕ) (env : Env) (k : InInit) (s : Span) (left : List Span) → AtInit z k (spot n e (s ∷ left)) → Good z s.end left (r.close_braces n env k s)
close_braces_at z n e env (of_item v) s left o = tt
close_braces_at z n e env (in_braces node is k) s left o =
    by_cases (Good z s.end left) (is_empty is) _ _
    (λ h. tt)
    (λ h. all_of (closed n s.end left
    (same_opened (λ ps. ap (λ qs. token (g.mark g.LBrace) ∷ qs)
    (inits-commas is (token (g.mark g.Com) ∷ token (g.mark g.RBrace) ∷ ps) ∙ commas-done pieces_init is (token (g.mark g.RBrace) ∷ ps) h))
    (with_token (g.mark g.RBrace) n e s left o))))

pub init_begin_at : (z : Spot) (n e : ℕ) (env : Env) (k : InInit) (y : Symbol) (s : Span) (left : List Span)
    → AtInit z k (spot n e (s ∷ left)) → Good z s.end left (r.init_begin n env k y s)
init_begin_at z n e env k t.lbrace s left o = begun (AtInit z k) (g.mark g.LBrace) n e s left o
init_begin_at z n e env k t.rbrace s left o = close_braces_at z n e env k s left o
init_begin_at z n e env k y s left o = want_at z n e env (in_init k) y s left o
