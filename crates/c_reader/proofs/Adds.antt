-- A step keeps what holds of a state and adds its token: specs and expressions begin, items and initialisers end.
use Rattle.std.proofs.Common.{◌≡◌, ◌⊎◌, inl, inr, Bool, true, false, ◌||◌, if◌then◌else◌, List, [], ◌∷◌, ◌++◌, Option, Some, None, IsSome, refl, sym, ◌∙◌, ap, subst, arith}
use Rattle.c_tree.specs.Tok as g
use Rattle.c_tree.specs.Tok.{Tok, mark, word}
use Rattle.c_tree.specs.Marks.{prefix_mark}
use Rattle.c_tree.specs.Tree as u
use Rattle.c_tree.specs.Tree.{BinaryOp, PrefixOp, Specs, Declarator, Init, MaybeInit, Item, Declaration}
use Rattle.c_tree.specs.Put.{put_specs, put_declarator, put_init, put_maybe_init, put_item, put_declaration, put_external}
use Rattle.c_tree.specs.Wf.{Env, is_type, is_specifier, is_qualifier, is_storage, specified, has_typedef, declared_name, leading_name, IsApart, IsPlain, IsFunction, WfSpecs, WfDeclarator, WfInit, WfMoreInits, WfMaybeInit, with_name, after_declarator, after_declaration, WfDeclaration}
use Rattle.c_reader.specs.Symbol as t
use Rattle.c_reader.specs.Symbol.{Keyword, Operator, Symbol, keyword_word, tagged_word, tok}
use Rattle.c_reader.specs.Parts as p
use Rattle.c_reader.specs.Parts.{specs_of, inits_of, no_specs}
use Rattle.c_reader.specs.Inside.{InDeclaration, InInit, InExpr, InSpecs, InItems, ItemRead, State, of_external, of_block, of_for, of_item, in_braces, in_init}
use Rattle.c_reader.specs.Begin.{is_empty, begins_specs, open_spec, binary_prefix, operator_prefix, want_operand, want}
use Rattle.c_reader.specs.Declarations.{is_equals, declaration_done, items_done, add_item, item_end, item_next, is_plain, is_function, open_body, close_item, braces_next, init_next, close_braces, init_begin}
use Rattle.c_reader.specs.Declarators.{is_star}
use Rattle.c_reader.specs.Exprs.{place}
use Rattle.c_reader.specs.Begin as begin
use Rattle.c_reader.proofs.Go.{by_test}
use Rattle.c_reader.proofs.Before.{put_done, before_body, before_declaration, before_items, before_read, before_init, before_expr, before_specs, before}
use Rattle.c_reader.proofs.Ok.{Valid, InDeclarationOk, seen_before, InItemsOk, ReadOk, InInitOk, SpecsReadOk, InExprOk, InSpecsOk, ModeOk}
use Rattle.c_reader.proofs.First.{BeginsSpecs}
use Rattle.c_reader.proofs.Levels.{place_small}
use Rattle.c_reader.proofs.Complete.{not_empty}
use Rattle.c_reader.proofs.Grown.{put_all_last, put_done_last, put_commas_last, commas_done, put_inits_of, put_specs_last, put_block_last, inits_last, some_inits, block_last, after_block_last, after_items_last, items_last, unit_last, after_unit_last, add_type_ok, add_keyword_ok, list_some}

-- f has the tokens before, and then these
pub record Adds (f : List Tok → List Tok) (y : Symbol) (s : State) : Type 0 where
  pub ok : ModeOk s.env s.mode
  pub spells : (r : List Tok) → before s.mode r ≡ f (tok y ∷ r)

abbrev pub Good : (State → Type 0) → Option State → Type 0
Good P None = Unit {0}
Good P (Some s) = P s

-- ---- tokens

pub equals_tok : (o : Operator) → is_equals o ≡ true → tok (t.operator o) ≡ mark g.Assign
equals_tok (t.assign u.Set) h = refl
equals_tok (t.assign _) h = cc
equals_tok (t.binary o) h = cc
equals_tok _ h = cc

pub star_tok : (o : Operator) → is_star o ≡ true → tok (t.operator o) ≡ mark g.Star
star_tok (t.binary u.Mul) h = refl
star_tok (t.binary _) h = cc
star_tok (t.assign o) h = cc
star_tok _ h = cc

pub keyword_ok : (w : Keyword) → (is_specifier (keyword_word w) || is_qualifier (keyword_word w) || is_storage (keyword_word w) ≡ true)
keyword_ok t.Typedef = refl
keyword_ok _ = refl

-- ---- the first token of an expression

abbrev pub IsPrefix : Operator → Option PrefixOp → Type 0
IsPrefix o None = Unit {0}
IsPrefix o (Some x) = mark (prefix_mark x) ≡ tok (t.operator o)

pub binary_is_prefix : (o : BinaryOp) → IsPrefix (t.binary o) (binary_prefix o)
binary_is_prefix u.BitAnd = refl
binary_is_prefix u.Mul = refl
binary_is_prefix u.Add = refl
binary_is_prefix u.Sub = refl
binary_is_prefix _ = tt

pub is_prefix : (o : Operator) → IsPrefix o (operator_prefix o)
is_prefix (t.binary o) = binary_is_prefix o
is_prefix (t.assign o) = tt
is_prefix (t.step u.PostIncrement) = refl
is_prefix (t.step u.PostDecrement) = refl
is_prefix (t.negation t.Complement) = refl
is_prefix (t.negation t.Not) = refl
is_prefix t.question = tt
is_prefix (t.member m) = tt

pub operand_good : (env : Env) (k : InExpr) (o : Operator) (x : Option PrefixOp) (f : List Tok → List Tok) → IsPrefix o x → InExprOk env k → ((z : List Tok) → before_expr k z ≡ f z)
    → Good (Adds f (t.operator o)) (want_operand env k x)
operand_good env k o None f h i s = tt
operand_good env k o (Some x) f h i s = record { ok = (tt, (place_small k).1, i); spells = λ r. ap (λ z. before_expr k (z ∷ r)) h ∙ s (tok (t.operator o) ∷ r) }

pub want_good : (env : Env) (k : InExpr) (y : Symbol) (f : List Tok → List Tok) → Valid y → InExprOk env k → ((z : List Tok) → before_expr k z ≡ f z) → Good (Adds f y) (want env k y)
want_good env k (t.name n) f v i s =
    by_test (Good (Adds f (t.name n))) (is_type env n) _ _ (λ y. tt)
    (λ no. record { ok = ((let q = (place_small k).1 in omega arith), (v, no), i); spells = λ r. s (g.name n ∷ r) })
want_good env k (t.number n) f v i s = record { ok = ((let q = (place_small k).1 in omega arith), v, i); spells = λ r. s (g.number n ∷ r) }
want_good env k (t.char n) f v i s = record { ok = ((let q = (place_small k).1 in omega arith), v, i); spells = λ r. s (g.char n ∷ r) }
want_good env k (t.text n) f v i s = record { ok = (((λ e. cc), (v, tt)), i); spells = λ r. s (g.text n ∷ r) }
want_good env k (t.operator o) f v i s = operand_good env k o (operator_prefix o) f (is_prefix o) i s
want_good env k t.lparen f v i s = record { ok = i; spells = λ r. s (mark g.LParen ∷ r) }
want_good env k t.sizeof f v i s = record { ok = i; spells = λ r. s (word g.KSizeof ∷ r) }
want_good env k t.builtin f v i s = record { ok = i; spells = λ r. s (word g.KBuiltin ∷ r) }
want_good env k _ f v i s = tt

-- ---- specs

pub name_begins : (seen b : Bool) → (if seen then false else b) ≡ true → (seen ≡ false) × (b ≡ true)
name_begins true b h = cc
name_begins false b h = (refl, h)

pub open_good : (env : Env) (s : p.SpecsRead) (k : InSpecs) (y : Symbol) (f : List Tok → List Tok) → Valid y → BeginsSpecs env s.seen y → SpecsReadOk env s → InSpecsOk env k
    → ((z : List Tok) → before_specs k (put_specs (specs_of s.specs) z) ≡ f z) → Good (Adds f y) (open_spec env s k y)
open_good env s k (t.name n) f v b h i e =
    let c = name_begins s.seen (is_type env n) b in
    record {
      ok = (list_some s.specs (p.typedef_name n), add_type_ok env s (p.typedef_name n) h (v, c.1, sym h.seen_is ∙ c.0, tt) (λ seen. refl) refl, i);
      spells = λ r. ap (before_specs k) (put_specs_last s.specs (p.typedef_name n) r) ∙ e (g.name n ∷ r);
    }
open_good env s k (t.keyword w) f v b h i e = record {
  ok = (list_some s.specs (p.keyword (keyword_word w)), add_keyword_ok env s (keyword_word w) h (keyword_ok w), i);
  spells = λ r. ap (before_specs k) (put_specs_last s.specs (p.keyword (keyword_word w)) r) ∙ e (word (keyword_word w) ∷ r);
}
open_good env s k (t.tagged x) f v b h i e = record { ok = (h, i); spells = λ r. e (word (tagged_word x) ∷ r) }
open_good env s k t.attribute f v b h i e = record { ok = (tt, (h, i)); spells = λ r. e (word g.KAttribute ∷ r) }
open_good env s k _ f v b h i e = tt

pub no_specs_ok : (env : Env) → SpecsReadOk env no_specs
no_specs_ok env = record { wf = tt; seen_is = refl; typedef_is = refl }

pub first_spec_good : (env : Env) (k : InSpecs) (y : Symbol) (f : List Tok → List Tok) → Valid y → InSpecsOk env k → ((z : List Tok) → before_specs k z ≡ f z) → Good (Adds f y) (begin.first_spec env k y)
first_spec_good env k y f v i e = by_test (Good (Adds f y)) (begins_specs env false y) _ _ (λ b. open_good env no_specs k y f v b (no_specs_ok env) i e) (λ n. tt)

-- ---- the end of a declaration

pub declaration_ok : (q : InDeclaration) (d : Declaration) (e env : Env) → InDeclarationOk e q → WfDeclaration e d → env ≡ after_declaration d e → ModeOk env (declaration_done q d)
declaration_ok (of_external done) d e env i w h = (unit_last done (u.Declares d) [] e i.0 i.1 w, h ∙ after_unit_last done (u.Declares d) [] e i.1)
declaration_ok (of_block is b) d e env i w h = (i.0, i.1, block_last is (p.declared d) i.0 e i.2 i.3 w, h ∙ after_block_last is (p.declared d) i.0 e i.3)
declaration_ok (of_for k) d e env i w h = (e, i, w, h)

pub declaration_spells : (q : InDeclaration) (d : Declaration) (r : List Tok) → before (declaration_done q d) r ≡ before_declaration q (put_declaration d r)
declaration_spells (of_external done) d r = put_all_last put_external done (u.Declares d) r
declaration_spells (of_block is b) d r = ap (λ z. before_body b (mark g.LBrace ∷ z)) (put_block_last is (p.declared d) r)
declaration_spells (of_for k) d r = refl

pub items_done_ok : (q : InItems) (env : Env) → InItemsOk env q → ModeOk env (items_done q)
items_done_ok q env h = declaration_ok q.place (record { specs = q.specs; items = q.items }) h.e env h.place_ok (h.some, h.specs_ok, h.items_ok) h.env_is

-- ---- items

pub item_ok : (r : ItemRead) (m : MaybeInit) (env : Env) → ReadOk env r → WfMaybeInit env m → InItemsOk env (add_item r m)
item_ok r m env h w = record {
  e = h.before_ok.e;
  place_ok = h.before_ok.place_ok;
  some = h.before_ok.some;
  specs_ok = h.before_ok.specs_ok;
  typedef_is = h.before_ok.typedef_is;
  items_ok =
      items_last r.before.items (record { declarator = r.declarator; attributes = r.attributes; init = m }) h.before_ok.e h.v r.before.specs h.before_ok.items_ok h.before_ok.env_is
      (h.named, h.apart, h.wf, h.attributes_ok, subst (λ x. WfMaybeInit x m) h.env_is w);
  env_is = h.env_is ∙ after_items_last r.before.items (record { declarator = r.declarator; attributes = r.attributes; init = m }) h.before_ok.e h.v r.before.specs h.before_ok.env_is;
}

pub seen_last : (ss : Specs) (is : List Item) (x : Item) → seen_before ss (is ++ x ∷ []) ≡ true
seen_last ss [] x = refl
seen_last ss (z ∷ is) x = refl

pub item_end_good : (env : Env) (r : ItemRead) (m : MaybeInit) (y : Symbol) (f : List Tok → List Tok) → ReadOk env r → WfMaybeInit env m → ((z : List Tok) → before_read r (put_maybe_init m z) ≡ f z)
    → Good (Adds f y) (item_end env (add_item r m) y)
item_end_good env r m t.comma f h w s =
    let x : Item = record { declarator = r.declarator; attributes = r.attributes; init = m } in
    record {
      ok = ((λ n e. seen_last r.before.specs r.before.items x), item_ok r m env h w);
      spells = λ z. ap (λ a. before_declaration r.before.place (put_specs r.before.specs a)) (put_done_last put_item r.before.items x z) ∙ s (mark g.Com ∷ z);
    }
item_end_good env r m t.semi f h w s =
    let x : Item = record { declarator = r.declarator; attributes = r.attributes; init = m } in
    record {
      ok = items_done_ok (add_item r m) env (item_ok r m env h w);
      spells = λ z.
          declaration_spells r.before.place (record { specs = r.before.specs; items = r.before.items ++ x ∷ [] }) z
          ∙ ap (λ a. before_declaration r.before.place (put_specs r.before.specs a)) (put_commas_last put_item r.before.items x (mark g.Semi ∷ z)) ∙ s (mark g.Semi ∷ z);
    }
item_end_good env r m _ f h w s = tt

pub item_next_good : (env : Env) (r : ItemRead) (y : Symbol) (f : List Tok → List Tok) → ReadOk env r → ((z : List Tok) → before_read r z ≡ f z) → Good (Adds f y) (item_next env r y)
item_next_good env r t.attribute f h s = record { ok = (tt, h); spells = λ z. s (word g.KAttribute ∷ z) }
item_next_good env r (t.operator o) f h s =
    by_test (Good (Adds f (t.operator o))) (is_equals o) _ _
    (λ e. record { ok = h; spells = λ z. s (mark g.Assign ∷ z) ∙ ap (λ x. f (x ∷ z)) (sym (equals_tok o e)) }) (λ n. tt)
item_next_good env r t.comma f h s = item_end_good env r u.no_init t.comma f h tt s
item_next_good env r t.semi f h s = item_end_good env r u.no_init t.semi f h tt s
item_next_good env r (t.name n) f h s = tt
item_next_good env r _ f h s = tt

pub plain_no : (d : Declarator) → is_plain d ≡ true → IsPlain d
plain_no (u.PointerTo qs d) h = cc
plain_no (u.Declared n) h = tt
plain_no (u.Group d) h = plain_no d h
plain_no (u.ArrayOf d n) h = cc
plain_no (u.FunctionOf d ps) h = cc

pub either_yes : (a b : Bool) → (a || b) ≡ true → (a ≡ true) ⊎ (b ≡ true)
either_yes true b h = inl refl
either_yes false b h = inr h

pub function_of : (d : Declarator) → (is_plain d ≡ true) ⊎ (is_function d ≡ true) → (is_function d ≡ true → IsFunction d) → IsPlain d ⊎ IsFunction d
function_of d (inl h) f = inl (plain_no d h)
function_of d (inr h) f = inr (f h)

pub function_is : (d : Declarator) → is_function d ≡ true → IsFunction d
function_is (u.PointerTo qs d) h = function_is d h
function_is (u.Declared n) h = cc
function_is (u.Group d) h = function_is d h
function_is (u.ArrayOf d n) h = function_is d h
function_is (u.FunctionOf d ps) h = function_of d (either_yes (is_plain d) (is_function d) h) (function_is d)

-- where the body of a definition opens
pub body_good : (q : InDeclaration) (ss : Specs) (d : Declarator) (e env : Env) (f : List Tok → List Tok) → InDeclarationOk e q → (ss ≡ u.no_specs → ⊥) → WfSpecs e false ss → IsSome (declared_name d) → IsApart e (specified false ss) (leading_name d)
    → WfDeclarator e d → env ≡ after_declarator ss d e → ((z : List Tok) → before_declaration q (put_specs ss (put_declarator d z)) ≡ f z) → Good (Adds f t.lbrace) (open_body env q ss d)
body_good (of_external done) ss d e env f i n w m a wd h s =
    by_test (Good (Adds f t.lbrace)) (is_function d) _ _
    (λ y. record { ok = (env, (e, i, (n, w, m, a, wd, function_is d y), h), tt, refl); spells = λ z. s (mark g.LBrace ∷ z) }) (λ x. tt)
body_good (of_block is b) ss d e env f i n w m a wd h s = tt
body_good (of_for k) ss d e env f i n w m a wd h s = tt

pub with_typedef : (q : InItems) (d : Declarator) (env : Env) → q.typedef ≡ has_typedef q.specs → with_name q.typedef (declared_name d) env ≡ after_declarator q.specs d env
with_typedef q d env h = ap (λ b. with_name b (declared_name d) env) h

pub declared_good : (items : List Item) (ss : Specs) (td : Bool) (place : InDeclaration) (env : Env) (d : Declarator) (f : List Tok → List Tok)
    → InItemsOk env (record { specs = ss; typedef = td; items = items; place = place }) → IsSome (declared_name d) → IsApart env (seen_before ss items) (leading_name d) → WfDeclarator env d
    → ((z : List Tok) → before_items (record { specs = ss; typedef = td; items = items; place = place }) (put_declarator d z) ≡ f z)
    → Good (Adds f t.lbrace) (if is_empty items then open_body (with_name td (declared_name d) env) place ss d else None)
declared_good [] ss td place env d f h n a w s =
    let same : env ≡ h.e = h.env_is in
    body_good place ss d h.e (with_name td (declared_name d) env) f h.place_ok h.some h.specs_ok n (subst (λ v. IsApart v (specified false ss) (leading_name d)) same a) (subst (λ v. WfDeclarator v d) same w)
    (ap (λ b. with_name b (declared_name d) env) h.typedef_is ∙ ap (after_declarator ss d) same) s
declared_good (x ∷ items) ss td place env d f h n a w s = tt

pub read_ok : (env : Env) (q : InItems) (d : Declarator) → InItemsOk env q → IsSome (declared_name d) → IsApart env (seen_before q.specs q.items) (leading_name d) → WfDeclarator env d
    → ReadOk (with_name q.typedef (declared_name d) env) (record { before = q; declarator = d; attributes = [] })
read_ok env q d h n a w = record { v = env; before_ok = h; named = n; apart = a; wf = w; attributes_ok = tt; env_is = with_typedef q d env h.typedef_is }

pub close_item_good : (env : Env) (q : InItems) (d : Declarator) (y : Symbol) (f : List Tok → List Tok) → InItemsOk env q → IsSome (declared_name d) → IsApart env (seen_before q.specs q.items) (leading_name d) → WfDeclarator env d
    → ((z : List Tok) → before_items q (put_declarator d z) ≡ f z) → Good (Adds f y) (close_item env q d y)
close_item_good env q d t.lbrace f h n a w s = declared_good q.items q.specs q.typedef q.place env d f h n a w s
close_item_good env q d t.attribute f h n a w s = item_next_good (with_name q.typedef (declared_name d) env) (record { before = q; declarator = d; attributes = [] }) t.attribute f (read_ok env q d h n a w) s
close_item_good env q d (t.operator o) f h n a w s = item_next_good (with_name q.typedef (declared_name d) env) (record { before = q; declarator = d; attributes = [] }) (t.operator o) f (read_ok env q d h n a w) s
close_item_good env q d t.comma f h n a w s = item_next_good (with_name q.typedef (declared_name d) env) (record { before = q; declarator = d; attributes = [] }) t.comma f (read_ok env q d h n a w) s
close_item_good env q d t.semi f h n a w s = item_next_good (with_name q.typedef (declared_name d) env) (record { before = q; declarator = d; attributes = [] }) t.semi f (read_ok env q d h n a w) s
close_item_good env q d (t.name m) f h n a w s = tt
close_item_good env q d _ f h n a w s = tt

-- ---- initialisers

pub braces_good : (env : Env) (is : List Init) (x : Init) (k : InInit) (y : Symbol) (f : List Tok → List Tok) → WfMoreInits env (inits_of is) → WfInit env x → InInitOk env k
    → ((z : List Tok) → before_init k (mark g.LBrace ∷ put_done put_init is (put_init x z)) ≡ f z) → Good (Adds f y) (braces_next env (is ++ x ∷ []) k y)
braces_good env is x k t.comma f h w i s = record {
  ok = (inits_last env is x h w, i);
  spells = λ z. ap (λ a. before_init k (mark g.LBrace ∷ a)) (put_done_last put_init is x z) ∙ s (mark g.Com ∷ z);
}
braces_good env is x k t.rbrace f h w i s = record {
  ok = (some_inits env (is ++ x ∷ []) (not_empty is x) (inits_last env is x h w), i);
  spells = λ z. ap (λ a. before_init k (mark g.LBrace ∷ a)) (put_inits_of (is ++ x ∷ []) (mark g.RBrace ∷ z) ∙ put_commas_last put_init is x (mark g.RBrace ∷ z)) ∙ s (mark g.RBrace ∷ z);
}
braces_good env is x k _ f h w i s = tt

pub init_next_good : (k : InInit) (env : Env) (x : Init) (y : Symbol) (f : List Tok → List Tok) → InInitOk env k → WfInit env x → ((z : List Tok) → before_init k (put_init x z) ≡ f z) → Good (Adds f y) (init_next env k x y)
init_next_good (of_item r) env x y f h w s = item_end_good env r (u.some_init x) y f h w s
init_next_good (in_braces is k) env x y f h w s = braces_good env is x k y f h.0 w h.1 s

pub close_braces_good : (k : InInit) (env : Env) (f : List Tok → List Tok) → InInitOk env k → ((z : List Tok) → before_init k z ≡ f z) → Good (Adds f t.rbrace) (close_braces env k)
close_braces_good (of_item r) env f h s = tt
close_braces_good (in_braces is k) env f h s =
    by_test (Good (Adds f t.rbrace)) (is_empty is) _ _ (λ y. tt)
    (λ n. record {
      ok = (some_inits env is n h.0, h.1);
      spells = λ z. ap (λ a. before_init k (mark g.LBrace ∷ a)) (put_inits_of is (mark g.Com ∷ mark g.RBrace ∷ z) ∙ commas_done put_init is (mark g.RBrace ∷ z) n) ∙ s (mark g.RBrace ∷ z);
    })

pub init_begin_good : (env : Env) (k : InInit) (y : Symbol) (f : List Tok → List Tok) → Valid y → InInitOk env k → ((z : List Tok) → before_init k z ≡ f z) → Good (Adds f y) (init_begin env k y)
init_begin_good env k t.lbrace f v h s = record { ok = (tt, h); spells = λ z. s (mark g.LBrace ∷ z) }
init_begin_good env k t.rbrace f v h s = close_braces_good k env f h s
init_begin_good env k (t.name n) f v h s = want_good env (in_init k) (t.name n) f v h s
init_begin_good env k y f v h s = want_good env (in_init k) y f v h s
