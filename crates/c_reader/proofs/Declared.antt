-- Lemmas on the reading of specs and declarators, each with what is read inside as a premise.
use Rattle.std.proofs.Common.{◌≡◌, ℕ, ◌⊎◌, inl, inr, Bool, true, false, List, [], ◌∷◌, ◌++◌, Option, Some, None, IsSome, IsNone, refl, sym, ◌∙◌, ap, subst, append_assoc, append-nil}
use Rattle.c_tree.specs.Tok as g
use Rattle.c_tree.specs.Tok.{Tok, Word, mark, word}
use Rattle.c_tree.specs.Tree as u
use Rattle.c_tree.specs.Tree.{Specs, MaybeDeclarator, Declarator, Params}
use Rattle.std.specs.List.{AllByRecursion}
use Rattle.c_tree.specs.Put.{put_all, put_name, put_word, put_specs, put_maybe_declarator, put_declarator, put_params, put_more_params}
use Rattle.c_tree.specs.Wf.{Env, is_type, is_qualifier, specified, has_typedef, declared_name, leading_name, IsDirect, IsSpelled, IsApart, WfSpecs, WfAbstract, WfEither, WfDeclarator, WfParams}
use Rattle.c_reader.specs.Symbol as t
use Rattle.c_reader.specs.Symbol.{Tagged, Symbol, keyword_word, tagged_word, tok}
use Rattle.c_reader.specs.Parts as p
use Rattle.c_reader.specs.Parts.{no_specs, add_keyword, add_type}
use Rattle.c_reader.specs.Inside as i
use Rattle.c_reader.specs.Inside.{InDeclaration, TypePlace, InExpr, InDeclarator, InSpecs, InParams, DeclaratorMode, State, in_pointer, in_group, in_item, in_field, in_param, in_type, of_declaration, of_field, of_param, of_type, in_specs, after_tagged, after_tag, want_declarator, after_star, declarator_opened, array_opened, params_opened, specs, declarator}
use Rattle.c_reader.specs.Begin.{begins_specs}
use Rattle.c_reader.specs.Declarators.{may_be_named, may_be_nameless, add_param, param_next, type_done, declarator_begin, star_next, opened_next, params_next, declarator_next}
use Rattle.c_reader.specs.Specs.{behind, specs_next, tagged_opened, tag_spec, tag_next}
use Rattle.c_reader.specs.Machine.{step, run}
use Rattle.c_reader.proofs.Go.{at, pick, skip, goes, Starts, same_start}
use Rattle.c_reader.proofs.Lists.{added, whole, whole_specs, whole_seen, whole_typedef}
use Rattle.c_reader.proofs.First.{BeginsSpecs, NoSpecs, IsKeyword, is_keyword, first_spec, passes_end, BeginsDeclarator, no_spec_declarator, first_declarator}
use Rattle.c_reader.proofs.Levels.{restart}
use Rattle.c_reader.proofs.Ok.{NameFits}

-- ---- behind specs

abbrev pub behind_specs : Specs → InSpecs → InDeclarator
behind_specs ss (of_declaration q) = in_item (record { specs = ss; typedef = has_typedef ss; items = []; place = q })
behind_specs ss (of_field f) = in_field f ss []
behind_specs ss (of_param k) = in_param k ss
behind_specs ss (of_type x k) = in_type x k ss

items_at : InDeclaration → Specs → Bool → InDeclarator
items_at q ss b = in_item (record { specs = ss; typedef = b; items = []; place = q })

behind_whole : (ss : Specs) (k : InSpecs) → behind (whole ss) k ≡ behind_specs ss k
unfolding items_at
behind_whole ss (of_declaration q) = ap (λ x. items_at q x (whole ss).typedef) (whole_specs ss) ∙ ap (items_at q ss) (whole_typedef ss)
behind_whole ss (of_field f) = ap (λ x. in_field f x []) (whole_specs ss)
behind_whole ss (of_param k) = ap (in_param k) (whole_specs ss)
behind_whole ss (of_type x k) = ap (in_type x k) (whole_specs ss)

-- a list that begins with no {
abbrev pub is_lbrace : Symbol → Bool
is_lbrace t.lbrace = true
is_lbrace _ = false

abbrev pub NoBrace : Symbol → Type 0
NoBrace y = is_lbrace y ≡ false

abbrev pub SpecsRead : Specs → Type 0
SpecsRead ss = (env : Env) (s : p.SpecsRead) (k : InSpecs) (ts : List Tok) → WfSpecs env s.seen ss → Starts NoBrace ts
    → run (at env (specs (in_specs s k))) (put_specs ss ts) ≡ run (at env (specs (in_specs (added s ss) k))) ts

-- the specs, and the declarator behind them begins
pub specs_read : (ss : Specs) → SpecsRead ss → (env : Env) (k : InSpecs) (ts : List Tok) → WfSpecs env false ss → Starts (λ y. NoSpecs env (specified false ss) y × NoBrace y) ts
    → run (at env (specs (in_specs no_specs k))) (put_specs ss ts) ≡ run (at env (declarator (want_declarator (behind_specs ss k)))) ts
specs_read ss r env k ts h f =
    r env no_specs k ts h (restart (λ y. NoSpecs env (specified false ss) y × NoBrace y) NoBrace ts (λ y x. x.1) f)
    ∙ passes_end env (whole ss) k ts (restart (λ y. NoSpecs env (specified false ss) y × NoBrace y) (NoSpecs env (whole ss).seen) ts (λ y x. ap (λ b. begins_specs env b y) (whole_seen ss) ∙ x.0) f)
    ∙ ap (λ x. run (at env (declarator (want_declarator x))) ts) (behind_whole ss k)

pub no_brace_specs : (ss : Specs) (env : Env) (seen : Bool) (ts : List Tok) → WfSpecs env seen ss → Starts NoBrace ts → Starts NoBrace (put_specs ss ts)
no_brace_specs u.no_specs env seen ts h f = f
no_brace_specs (u.Keyword w ss) env seen ts h f = keyword_first (is_keyword w h.0)
  where
    keyword_first : IsKeyword w → Starts NoBrace (word w ∷ put_specs ss ts)
    keyword_first k = record { y = t.keyword k.k; more = put_specs ss ts; is = ap (λ x. word x ∷ put_specs ss ts) (sym k.is); holds = refl }
no_brace_specs (u.Typedef n ss) env seen ts h f = record { y = t.name n; more = _; is = refl; holds = refl }
no_brace_specs (u.Attribute es ss) env seen ts h f = record { y = t.attribute; more = _; is = refl; holds = refl }
no_brace_specs (u.Record b tag fs ss) env seen ts h f = record { y = t.tagged (t.records b); more = _; is = refl; holds = refl }
no_brace_specs (u.Enum tag es ss) env seen ts h f = record { y = t.tagged t.enums; more = _; is = refl; holds = refl }

pub keyword_read : (w : Word) (env : Env) (s : p.SpecsRead) (k : InSpecs) (ts : List Tok) → IsKeyword w
    → run (at env (specs (in_specs s k))) (word w ∷ ts) ≡ run (at env (specs (in_specs (add_keyword s w) k))) ts
keyword_read w env s k ts h =
    subst (λ x. run (at env (specs (in_specs s k))) (word x ∷ ts) ≡ run (at env (specs (in_specs (add_keyword s x) k))) ts) h.is
    (goes (at env (specs (in_specs s k))) (at env (specs (in_specs (add_keyword s (keyword_word h.k)) k))) (t.keyword h.k) ts refl)

seen_name : (env : Env) (s : p.SpecsRead) (n : List ℕ) → s.seen ≡ false → is_type env n ≡ true → begins_specs env s.seen (t.name n) ≡ true
seen_name env s n h i = skip _ _ _ h ∙ i

pub typedef_read : (n : List ℕ) (env : Env) (s : p.SpecsRead) (k : InSpecs) (ts : List Tok) → s.seen ≡ false → is_type env n ≡ true
    → run (at env (specs (in_specs s k))) (g.name n ∷ ts) ≡ run (at env (specs (in_specs (add_type s (p.typedef_name n)) k))) ts
typedef_read n env s k ts h i = goes (at env (specs (in_specs s k))) (at env (specs (in_specs (add_type s (p.typedef_name n)) k))) (t.name n) ts (pick _ _ _ (seen_name env s n h i))

-- a tag without a body
tag_over : (env : Env) (x : Tagged) (n : List ℕ) (s : p.SpecsRead) (k : InSpecs) (y : Symbol) → NoBrace y → tag_next env x n s k y ≡ specs_next env (add_type s (tag_spec x n)) k y
tag_over env x n s k t.lbrace h = cc
tag_over env x n s k (t.name m) h = refl
tag_over env x n s k _ h = refl

pub tag_read : (env : Env) (x : Tagged) (n : List ℕ) (s : p.SpecsRead) (k : InSpecs) (ts : List Tok) → Starts NoBrace ts
    → run (at env (specs (after_tag x n s k))) ts ≡ run (at env (specs (in_specs (add_type s (tag_spec x n)) k))) ts
tag_read env x n s k ts f = same_start NoBrace (at env (specs (after_tag x n s k))) (at env (specs (in_specs (add_type s (tag_spec x n)) k))) ts f (tag_over env x n s k)

pub tagged_read : (env : Env) (x : Tagged) (s : p.SpecsRead) (k : InSpecs) (ts : List Tok) → run (at env (specs (in_specs s k))) (word (tagged_word x) ∷ ts) ≡ run (at env (specs (after_tagged x s k))) ts
tagged_read env x s k ts = goes (at env (specs (in_specs s k))) (at env (specs (after_tagged x s k))) (t.tagged x) ts refl

-- the { behind struct, union or enum, with a tag or without
pub body_opens : (env : Env) (x : Tagged) (tag : Option (List ℕ)) (s : p.SpecsRead) (k : InSpecs) (ts : List Tok)
    → run (at env (specs (in_specs s k))) (word (tagged_word x) ∷ put_name tag (mark g.LBrace ∷ ts)) ≡ run (at env (tagged_opened x tag s k)) ts
body_opens env x None s k ts = tagged_read env x s k (mark g.LBrace ∷ ts)
body_opens env x (Some n) s k ts = tagged_read env x s k (g.name n ∷ mark g.LBrace ∷ ts)

-- ---- declarators

-- where the reader is before the token behind a declarator
abbrev pub arrived : InDeclarator → Declarator → DeclaratorMode
arrived k (u.Declared None) = want_declarator k
arrived k d = i.after_declarator k d

pub arrived_spelled : (k : InDeclarator) (d : Declarator) → IsSpelled d → arrived k d ≡ i.after_declarator k d
arrived_spelled k (u.Declared None) h = cc
arrived_spelled k (u.Declared (Some n)) h = refl
arrived_spelled k (u.PointerTo qs d) h = refl
arrived_spelled k (u.Group d) h = refl
arrived_spelled k (u.ArrayOf d n) h = refl
arrived_spelled k (u.FunctionOf d ps) h = refl

-- what may stand behind a declarator: no bracket of its own, and behind one without a name only ) or a comma
abbrev pub Free : Declarator → Symbol → Type 0
Free d t.lbracket = IsDirect d
Free d t.lparen = IsDirect d
Free d t.rparen = Unit {0}
Free d t.comma = Unit {0}
Free d _ = IsSome (declared_name d)

abbrev pub DeclaratorRead : Declarator → Type 0
DeclaratorRead d = (env : Env) (k : InDeclarator) (ts : List Tok) → WfDeclarator env d → NameFits k (declared_name d) → Starts (Free d) ts
    → run (at env (declarator (want_declarator k))) (put_declarator d ts) ≡ run (at env (declarator (arrived k d))) ts

pub name_read : (env : Env) (k : InDeclarator) (n : List ℕ) (ts : List Tok) → may_be_named k ≡ true
    → run (at env (declarator (want_declarator k))) (g.name n ∷ ts) ≡ run (at env (declarator (i.after_declarator k (u.Declared (Some n))))) ts
name_read env k n ts h = goes (at env (declarator (want_declarator k))) (at env (declarator (i.after_declarator k (u.Declared (Some n))))) (t.name n) ts (pick _ _ _ h)

-- ---- pointers

is_qualifier_keyword : (w : Word) → is_qualifier w ≡ true → IsKeyword w
is_qualifier_keyword g.KConst h = record { k = t.Const; is = refl }
is_qualifier_keyword g.KVolatile h = record { k = t.Volatile; is = refl }
is_qualifier_keyword g.KRestrict h = record { k = t.Restrict; is = refl }
is_qualifier_keyword _ h = cc

qualifier_read : (w : Word) (done : List Word) (env : Env) (k : InDeclarator) (ts : List Tok) → is_qualifier w ≡ true → IsKeyword w
    → run (at env (declarator (after_star done k))) (word w ∷ ts) ≡ run (at env (declarator (after_star (done ++ w ∷ []) k))) ts
qualifier_read w done env k ts q h =
    subst (λ x. is_qualifier x ≡ true → run (at env (declarator (after_star done k))) (word x ∷ ts) ≡ run (at env (declarator (after_star (done ++ x ∷ []) k))) ts) h.is
    (λ z. goes (at env (declarator (after_star done k))) (at env (declarator (after_star (done ++ keyword_word h.k ∷ []) k))) (t.keyword h.k) ts (pick _ _ _ z)) q

pub qualifiers_read : (qs done : List Word) (env : Env) (k : InDeclarator) (ts : List Tok) → AllByRecursion (λ w. is_qualifier w ≡ true) qs
    → run (at env (declarator (after_star done k))) (put_all put_word qs ts) ≡ run (at env (declarator (after_star (done ++ qs) k))) ts
qualifiers_read [] done env k ts h = ap (λ xs. run (at env (declarator (after_star xs k))) ts) (sym (append-nil done))
qualifiers_read (w ∷ qs) done env k ts h =
    qualifier_read w done env k (put_all put_word qs ts) h.0 (is_qualifier_keyword w h.0)
    ∙ qualifiers_read qs (done ++ w ∷ []) env k ts h.1
    ∙ ap (λ xs. run (at env (declarator (after_star xs k))) ts) (append_assoc done (w ∷ []) qs)

abbrev is_keyword_symbol : Symbol → Bool
is_keyword_symbol (t.keyword w) = true
is_keyword_symbol _ = false

abbrev NoKeyword : Symbol → Type 0
NoKeyword y = is_keyword_symbol y ≡ false

free_none : (y : Symbol) → Free (u.Declared None) y → NoKeyword y
free_none (t.keyword w) h = cc
free_none (t.name n) h = refl
free_none _ h = refl

first_bracket : (d : Declarator) (y : Symbol) (ts : List Tok) → NoKeyword y → Starts NoKeyword (put_declarator d (tok y ∷ ts))
first_bracket (u.Declared None) y ts h = record { y = y; more = ts; is = refl; holds = h }
first_bracket (u.Declared (Some n)) y ts h = record { y = t.name n; more = _; is = refl; holds = refl }
first_bracket (u.PointerTo qs d) y ts h = record { y = t.operator (t.binary u.Mul); more = _; is = refl; holds = refl }
first_bracket (u.Group d) y ts h = record { y = t.lparen; more = _; is = refl; holds = refl }
first_bracket (u.ArrayOf d n) y ts h = first_bracket d t.lbracket _ refl
first_bracket (u.FunctionOf d ps) y ts h = first_bracket d t.lparen _ refl

first_none : (d : Declarator) (ts : List Tok) → Starts (Free d) ts → Starts NoKeyword (put_declarator d ts)
first_none (u.Declared None) ts f = restart (Free (u.Declared None)) NoKeyword ts free_none f
first_none (u.Declared (Some n)) ts f = record { y = t.name n; more = _; is = refl; holds = refl }
first_none (u.PointerTo qs d) ts f = record { y = t.operator (t.binary u.Mul); more = _; is = refl; holds = refl }
first_none (u.Group d) ts f = record { y = t.lparen; more = _; is = refl; holds = refl }
first_none (u.ArrayOf d n) ts f = first_bracket d t.lbracket _ refl
first_none (u.FunctionOf d ps) ts f = first_bracket d t.lparen _ refl

star_over : (env : Env) (qs : List Word) (k : InDeclarator) (y : Symbol) → NoKeyword y → star_next env qs k y ≡ declarator_begin env (in_pointer qs k) y
star_over env qs k (t.keyword w) h = cc
star_over env qs k (t.name n) h = refl
star_over env qs k _ h = refl

pub star_read : (env : Env) (qs : List Word) (k : InDeclarator) (d : Declarator) (ts : List Tok) → Starts (Free d) ts
    → run (at env (declarator (after_star qs k))) (put_declarator d ts) ≡ run (at env (declarator (want_declarator (in_pointer qs k)))) (put_declarator d ts)
star_read env qs k d ts f = same_start NoKeyword (at env (declarator (after_star qs k))) (at env (declarator (want_declarator (in_pointer qs k)))) (put_declarator d ts) (first_none d ts f) (star_over env qs k)

nameless_over : (env : Env) (qs : List Word) (k : InDeclarator) (y : Symbol) → may_be_nameless k ≡ true → Free (u.PointerTo qs (u.Declared None)) y
    → declarator_begin env (in_pointer qs k) y ≡ declarator_next env k (u.PointerTo qs (u.Declared None)) y
nameless_over env qs k t.rparen h f = pick _ _ _ h
nameless_over env qs k t.comma h f = pick _ _ _ h
nameless_over env qs k t.lbracket h f = absurd f
nameless_over env qs k t.lparen h f = absurd f
nameless_over env qs k (t.name n) h f = cc
nameless_over env qs k _ h f = cc

named_over : (env : Env) (qs : List Word) (k : InDeclarator) (d : Declarator) (y : Symbol) → Free (u.PointerTo qs d) y → declarator_next env (in_pointer qs k) d y ≡ declarator_next env k (u.PointerTo qs d) y
named_over env qs k d t.lbracket f = absurd f
named_over env qs k d t.lparen f = absurd f
named_over env qs k d (t.name n) f = refl
named_over env qs k d _ f = refl

pub pointer_over : (d : Declarator) (env : Env) (qs : List Word) (k : InDeclarator) (ts : List Tok) → NameFits k (declared_name d) → Starts (Free (u.PointerTo qs d)) ts
    → run (at env (declarator (arrived (in_pointer qs k) d))) ts ≡ run (at env (declarator (i.after_declarator k (u.PointerTo qs d)))) ts
pointer_over (u.Declared None) env qs k ts n f =
    same_start (Free (u.PointerTo qs (u.Declared None))) (at env (declarator (want_declarator (in_pointer qs k)))) (at env (declarator (i.after_declarator k (u.PointerTo qs (u.Declared None))))) ts f
    (λ y h. nameless_over env qs k y n h)
pointer_over (u.Declared (Some m)) env qs k ts n f =
    same_start (Free (u.PointerTo qs (u.Declared (Some m)))) (at env (declarator (i.after_declarator (in_pointer qs k) (u.Declared (Some m))))) (at env (declarator (i.after_declarator k (u.PointerTo qs (u.Declared (Some m)))))) ts f
    (named_over env qs k (u.Declared (Some m)))
pointer_over (u.PointerTo rs d) env qs k ts n f =
    same_start (Free (u.PointerTo qs (u.PointerTo rs d))) (at env (declarator (i.after_declarator (in_pointer qs k) (u.PointerTo rs d)))) (at env (declarator (i.after_declarator k (u.PointerTo qs (u.PointerTo rs d))))) ts f
    (named_over env qs k (u.PointerTo rs d))
pointer_over (u.Group d) env qs k ts n f =
    same_start (Free (u.PointerTo qs (u.Group d))) (at env (declarator (i.after_declarator (in_pointer qs k) (u.Group d)))) (at env (declarator (i.after_declarator k (u.PointerTo qs (u.Group d))))) ts f
    (named_over env qs k (u.Group d))
pointer_over (u.ArrayOf d m) env qs k ts n f =
    same_start (Free (u.PointerTo qs (u.ArrayOf d m))) (at env (declarator (i.after_declarator (in_pointer qs k) (u.ArrayOf d m)))) (at env (declarator (i.after_declarator k (u.PointerTo qs (u.ArrayOf d m))))) ts f
    (named_over env qs k (u.ArrayOf d m))
pointer_over (u.FunctionOf d ps) env qs k ts n f =
    same_start (Free (u.PointerTo qs (u.FunctionOf d ps))) (at env (declarator (i.after_declarator (in_pointer qs k) (u.FunctionOf d ps)))) (at env (declarator (i.after_declarator k (u.PointerTo qs (u.FunctionOf d ps))))) ts f
    (named_over env qs k (u.FunctionOf d ps))

free_pointer : (qs : List Word) (d : Declarator) (y : Symbol) → Free (u.PointerTo qs d) y → Free d y
free_pointer qs d t.lbracket f = absurd f
free_pointer qs d t.lparen f = absurd f
free_pointer qs d t.rparen f = tt
free_pointer qs d t.comma f = tt
free_pointer qs d (t.name n) f = f
free_pointer qs d _ f = f

pub unpointed : (qs : List Word) (d : Declarator) (ts : List Tok) → Starts (Free (u.PointerTo qs d)) ts → Starts (Free d) ts
unpointed qs d ts f = restart (Free (u.PointerTo qs d)) (Free d) ts (free_pointer qs d) f

-- ---- brackets

group_over : (env : Env) (k : InDeclarator) (y : Symbol) → BeginsDeclarator env false y → opened_next env k y ≡ declarator_begin env (in_group k) y
group_over env k t.rparen h = cc
group_over env k (t.name n) h = skip _ _ _ (no_spec_declarator env false (t.name n) h)
group_over env k (t.operator o) h = refl
group_over env k t.lparen h = refl
group_over env k t.lbracket h = refl
group_over env k _ h = cc

pub group_read : (env : Env) (k : InDeclarator) (d : Declarator) (ts : List Tok) → IsSpelled d → IsApart env false (leading_name d) → WfDeclarator env d
    → run (at env (declarator (declarator_opened k))) (put_declarator d ts) ≡ run (at env (declarator (want_declarator (in_group k)))) (put_declarator d ts)
group_read env k d ts s a h =
    same_start (BeginsDeclarator env false) (at env (declarator (declarator_opened k))) (at env (declarator (want_declarator (in_group k)))) (put_declarator d ts)
    (first_declarator env false d ts s a h) (group_over env k)

pub group_close : (env : Env) (k : InDeclarator) (d : Declarator) (ts : List Tok) → IsSpelled d
    → run (at env (declarator (arrived (in_group k) d))) (mark g.RParen ∷ ts) ≡ run (at env (declarator (i.after_declarator k (u.Group d)))) ts
group_close env k d ts s = ap (λ x. run (at env (declarator x)) (mark g.RParen ∷ ts)) (arrived_spelled (in_group k) d s)

pub array_opens : (d : Declarator) (env : Env) (k : InDeclarator) (ts : List Tok) → NameFits k (declared_name d)
    → run (at env (declarator (arrived k d))) (mark g.LBracket ∷ ts) ≡ run (at env (declarator (array_opened d k))) ts
array_opens (u.Declared None) env k ts n = goes (at env (declarator (want_declarator k))) (at env (declarator (array_opened (u.Declared None) k))) t.lbracket ts (pick _ _ _ n)
array_opens (u.Declared (Some m)) env k ts n = refl
array_opens (u.PointerTo qs d) env k ts n = refl
array_opens (u.Group d) env k ts n = refl
array_opens (u.ArrayOf d m) env k ts n = refl
array_opens (u.FunctionOf d ps) env k ts n = refl

opened_params : (env : Env) (k : InDeclarator) (y : Symbol) → may_be_nameless k ≡ true → BeginsSpecs env false y → opened_next env k y ≡ params_next env (u.Declared None) k y
opened_params env k (t.name n) h b = pick _ _ _ b ∙ pick _ _ _ h ∙ sym (pick _ _ _ b)
opened_params env k (t.keyword w) h b = pick _ _ _ h
opened_params env k (t.tagged x) h b = pick _ _ _ h
opened_params env k t.attribute h b = pick _ _ _ h
opened_params env k _ h b = cc

nameless_params : (ps : Params) (env : Env) (k : InDeclarator) (ts : List Tok) → may_be_nameless k ≡ true → WfParams env ps
    → run (at env (declarator (declarator_opened k))) (put_params ps (mark g.RParen ∷ ts)) ≡ run (at env (declarator (params_opened (u.Declared None) k))) (put_params ps (mark g.RParen ∷ ts))
nameless_params u.no_params env k ts n h = goes (at env (declarator (declarator_opened k))) (at env (declarator (i.after_declarator k (u.FunctionOf (u.Declared None) u.no_params)))) t.rparen ts (pick _ _ _ n)
nameless_params (u.Param ss m ps) env k ts n h =
    same_start (BeginsSpecs env false) (at env (declarator (declarator_opened k))) (at env (declarator (params_opened (u.Declared None) k))) (put_params (u.Param ss m ps) (mark g.RParen ∷ ts))
    (begins_first h) (λ y b. opened_params env k y n b)
  where
    begins_first : WfParams env (u.Param ss m ps) → Starts (BeginsSpecs env false) (put_params (u.Param ss m ps) (mark g.RParen ∷ ts))
    begins_first h = first_spec env ss (put_maybe_declarator m (put_more_params ps (mark g.RParen ∷ ts))) h.0 h.1

pub params_open : (d : Declarator) (ps : Params) (env : Env) (k : InDeclarator) (ts : List Tok) → NameFits k (declared_name d) → WfParams env ps
    → run (at env (declarator (arrived k d))) (mark g.LParen ∷ put_params ps (mark g.RParen ∷ ts)) ≡ run (at env (declarator (params_opened d k))) (put_params ps (mark g.RParen ∷ ts))
params_open (u.Declared None) ps env k ts n h = nameless_params ps env k ts n h
params_open (u.Declared (Some m)) ps env k ts n h = refl
params_open (u.PointerTo qs d) ps env k ts n h = refl
params_open (u.Group d) ps env k ts n h = refl
params_open (u.ArrayOf d m) ps env k ts n h = refl
params_open (u.FunctionOf d qs) ps env k ts n h = refl

-- ---- a declarator that may be absent

abbrev pub MaybeRead : MaybeDeclarator → Type 0
MaybeRead u.no_declarator = Unit {0}
MaybeRead (u.some_declarator d) = DeclaratorRead d

-- the state before the token y behind a parameter or a type name
abbrev pub Ends : Symbol → Type 0
Ends t.rparen = Unit {0}
Ends t.comma = Unit {0}
Ends _ = ⊥

ends_free : (d : Declarator) (y : Symbol) → Ends y → Free d y
ends_free d t.rparen h = tt
ends_free d t.comma h = tt
ends_free d (t.name n) h = absurd h
ends_free d _ h = absurd h

ends_after : (env : Env) (seen : Bool) (y : Symbol) → Ends y → NoSpecs env seen y × NoBrace y
ends_after env seen t.rparen h = (refl, refl)
ends_after env seen t.comma h = (refl, refl)
ends_after env seen (t.name n) h = absurd h
ends_after env seen _ h = absurd h

declarator_after : (env : Env) (seen : Bool) (y : Symbol) → BeginsDeclarator env seen y → NoSpecs env seen y × NoBrace y
declarator_after env seen y h = (no_spec_declarator env seen y h, no_brace y h)
  where
    no_brace : (y : Symbol) → BeginsDeclarator env seen y → NoBrace y
    no_brace t.lbrace h = cc
    no_brace (t.name n) h = refl
    no_brace _ h = refl

pub spelled_after : (env : Env) (seen : Bool) (d : Declarator) (ts : List Tok) → IsSpelled d → IsApart env seen (leading_name d) → WfDeclarator env d
    → Starts (λ y. NoSpecs env seen y × NoBrace y) (put_declarator d ts)
spelled_after env seen d ts s a h = restart (BeginsDeclarator env seen) (λ y. NoSpecs env seen y × NoBrace y) (put_declarator d ts) (declarator_after env seen) (first_declarator env seen d ts s a h)

maybe_after : (m : MaybeDeclarator) (env : Env) (seen : Bool) (ts : List Tok) → WfEither env seen m → Starts Ends ts → Starts (λ y. NoSpecs env seen y × NoBrace y) (put_maybe_declarator m ts)
maybe_after u.no_declarator env seen ts h f = restart Ends (λ y. NoSpecs env seen y × NoBrace y) ts (ends_after env seen) f
maybe_after (u.some_declarator d) env seen ts h f = spelled_after env seen d ts h.0 h.1 h.2

-- the state before the token behind a parameter
abbrev pub param_state : Env → InParams → Specs → MaybeDeclarator → State
param_state env q ss u.no_declarator = at env (declarator (want_declarator (in_param q ss)))
param_state env q ss (u.some_declarator d) = at env (declarator (i.after_declarator (in_param q ss) d))

pub param_steps : (m : MaybeDeclarator) (env : Env) (q : InParams) (ss : Specs) (y : Symbol) → Ends y → step (param_state env q ss m) y ≡ param_next env (add_param q ss m) y
param_steps u.no_declarator env q ss t.rparen h = refl
param_steps u.no_declarator env q ss t.comma h = refl
param_steps u.no_declarator env q ss (t.name n) h = absurd h
param_steps u.no_declarator env q ss _ h = absurd h
param_steps (u.some_declarator d) env q ss t.rparen h = refl
param_steps (u.some_declarator d) env q ss t.comma h = refl
param_steps (u.some_declarator d) env q ss (t.name n) h = absurd h
param_steps (u.some_declarator d) env q ss _ h = absurd h

name_either : (q : InParams) (ss : Specs) (n : Option (List ℕ)) → NameFits (in_param q ss) n
name_either q ss None = refl
name_either q ss (Some n) = refl

maybe_read : (m : MaybeDeclarator) → MaybeRead m → (env : Env) (q : InParams) (ss : Specs) (seen : Bool) (ts : List Tok) → WfEither env seen m → Starts Ends ts
    → run (at env (declarator (want_declarator (in_param q ss)))) (put_maybe_declarator m ts) ≡ run (param_state env q ss m) ts
maybe_read u.no_declarator r env q ss seen ts h f = refl
maybe_read (u.some_declarator d) r env q ss seen ts h f =
    r env (in_param q ss) ts h.2 (name_either q ss (declared_name d)) (restart Ends (Free d) ts (ends_free d) f)
    ∙ ap (λ x. run (at env (declarator x)) ts) (arrived_spelled (in_param q ss) d h.0)

pub param_read : (ss : Specs) (m : MaybeDeclarator) → SpecsRead ss → MaybeRead m → (env : Env) (q : InParams) (ts : List Tok) → WfSpecs env false ss → WfEither env (specified false ss) m → Starts Ends ts
    → run (at env (specs (in_specs no_specs (of_param q)))) (put_specs ss (put_maybe_declarator m ts)) ≡ run (param_state env q ss m) ts
param_read ss m rs rm env q ts hs hm f =
    specs_read ss rs env (of_param q) (put_maybe_declarator m ts) hs (maybe_after m env (specified false ss) ts hm f)
    ∙ maybe_read m rm env q ss (specified false ss) ts hm f

-- ---- type names

abstract_either : (m : MaybeDeclarator) (env : Env) (seen : Bool) → WfAbstract env m → WfEither env seen m
abstract_either u.no_declarator env seen h = tt
abstract_either (u.some_declarator d) env seen h = (h.1, apart d h.0, h.2)
  where
    apart_none : (n m : Option (List ℕ)) → n ≡ None → m ≡ n ⊎ (m ≡ None) → IsApart env seen m
    apart_none n None h o = tt
    apart_none n (Some x) h (inl e) = cc
    apart_none n (Some x) h (inr e) = cc

    lead : (d : Declarator) → leading_name d ≡ declared_name d ⊎ (leading_name d ≡ None)
    lead (u.PointerTo qs d) = inr refl
    lead (u.Declared n) = inl refl
    lead (u.Group d) = inr refl
    lead (u.ArrayOf d n) = lead d
    lead (u.FunctionOf d ps) = lead d

    none : (n : Option (List ℕ)) → IsNone n → n ≡ None
    none None h = refl
    none (Some x) h = cc

    apart : (d : Declarator) → IsNone (declared_name d) → IsApart env seen (leading_name d)
    apart d h = apart_none (declared_name d) (leading_name d) (none (declared_name d) h) (lead d)

name_absent : (x : TypePlace) (k : InExpr) (ss : Specs) (n : Option (List ℕ)) → IsNone n → NameFits (in_type x k ss) n
name_absent x k ss None h = refl
name_absent x k ss (Some n) h = cc

type_maybe : (m : MaybeDeclarator) → MaybeRead m → (env : Env) (x : TypePlace) (k : InExpr) (ss : Specs) (ts : List Tok) → WfAbstract env m
    → run (at env (declarator (want_declarator (in_type x k ss)))) (put_maybe_declarator m (mark g.RParen ∷ ts)) ≡ run (at env (type_done x k ss m)) ts
type_maybe u.no_declarator r env x k ss ts h = refl
type_maybe (u.some_declarator d) r env x k ss ts h =
    r env (in_type x k ss) (mark g.RParen ∷ ts) h.2 (name_absent x k ss (declared_name d) h.0) (record { y = t.rparen; more = ts; is = refl; holds = tt })
    ∙ ap (λ z. run (at env (declarator z)) (mark g.RParen ∷ ts)) (arrived_spelled (in_type x k ss) d h.1)

pub type_read : (ss : Specs) (m : MaybeDeclarator) → SpecsRead ss → MaybeRead m → (env : Env) (x : TypePlace) (k : InExpr) (ts : List Tok) → WfSpecs env false ss → WfAbstract env m
    → run (at env (specs (in_specs no_specs (of_type x k)))) (put_specs ss (put_maybe_declarator m (mark g.RParen ∷ ts))) ≡ run (at env (type_done x k ss m)) ts
type_read ss m rs rm env x k ts hs hm =
    specs_read ss rs env (of_type x k) (put_maybe_declarator m (mark g.RParen ∷ ts)) hs (maybe_after m env (specified false ss) (mark g.RParen ∷ ts) (abstract_either m env (specified false ss) hm) (record { y = t.rparen; more = ts; is = refl; holds = tt }))
    ∙ type_maybe m rm env x k ss ts hm
