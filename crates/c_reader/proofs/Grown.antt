-- Lists that have one part more at their end: what they spell, and that they are well formed.
use Rattle.std.proofs.Common.{◌≡◌, ◌≤◌, Bool, true, false, ◌||◌, List, [], ◌∷◌, ◌++◌, IsSome, refl, sym, ◌∙◌, ap, subst}
use Rattle.c_tree.specs.Tok as g
use Rattle.c_tree.specs.Tok.{Tok, Word, mark}
use Rattle.c_tree.specs.Tree as u
use Rattle.c_tree.specs.Tree.{Entry, Expr, Specs, Declarator, Init, Item, BlockItems, External}
use Rattle.std.specs.List.{AllByRecursion}
use Rattle.c_tree.specs.Text.{IsName}
use Rattle.c_tree.specs.Put.{put_all, put_more, put_commas, put, put_exprs, put_more_exprs, put_specs, put_fields, put_declarators, put_more_declarators, put_enumerators, put_more_enumerators, put_declarator, put_params, put_more_params, put_init, put_inits, put_more_inits, put_declaration, put_stmt, put_block}
use Rattle.c_tree.specs.Wf.{Env, level, is_specifier, is_qualifier, is_storage, specified, has_typedef, WfAttribute, declared_name, leading_name, IsApart, Wf, WfAll, WfSome, WfMaybe, WfSpecs, WfFields, WfMoreFields, WfDeclarators, WfMoreDeclarators, WfEnumerators, WfMoreEnumerators, WfEither, WfDeclarator, WfParams, WfInit, WfInits, WfMoreInits, WfMaybeInit, after_declarator, after_items, after_declaration, WfItems, WfDeclaration, after_stmt, after_block, WfStmt, WfBlock, after_external, WfExternal, WfUnit}
use Rattle.c_reader.specs.Parts as p
use Rattle.c_reader.specs.Parts.{Spec, Field, Enumerator, Param, BlockItem, exprs_of, with_spec, specs_of, fields_of, declarators_of, enumerators_of, params_of, inits_of, with_item, items_of, is_typedef, add_keyword, add_type, add_attribute}
use Rattle.c_reader.specs.Begin.{is_empty}
use Rattle.c_reader.proofs.Lists.{specified_true, has_typedef_keyword, or_assoc, or_false}
use Rattle.c_reader.proofs.Before.{put_done, put_enumerator, put_param}
use Rattle.c_reader.proofs.Ok.{after_unit, seen_before, SpecsReadOk}

-- ---- what they spell

pub put_all_last : {A : Type 0} (f : A → List Tok → List Tok) (xs : List A) (x : A) (r : List Tok) → put_all f (xs ++ x ∷ []) r ≡ put_all f xs (f x r)
put_all_last f [] x r = refl
put_all_last f (z ∷ xs) x r = ap (f z) (put_all_last f xs x r)

pub put_done_last : {A : Type 0} (f : A → List Tok → List Tok) (xs : List A) (x : A) (r : List Tok) → put_done f (xs ++ x ∷ []) r ≡ put_done f xs (f x (mark g.Com ∷ r))
put_done_last f [] x r = refl
put_done_last f (z ∷ xs) x r = ap (λ ts. f z (mark g.Com ∷ ts)) (put_done_last f xs x r)

put_more_last : {A : Type 0} (f : A → List Tok → List Tok) (z : A) (xs : List A) (x : A) (r : List Tok) → f z (put_more f (xs ++ x ∷ []) r) ≡ f z (mark g.Com ∷ put_done f xs (f x r))
put_more_last f z [] x r = refl
put_more_last f z (w ∷ xs) x r = ap (λ ts. f z (mark g.Com ∷ ts)) (put_more_last f w xs x r)

pub put_commas_last : {A : Type 0} (f : A → List Tok → List Tok) (xs : List A) (x : A) (r : List Tok) → put_commas f (xs ++ x ∷ []) r ≡ put_done f xs (f x r)
put_commas_last f [] x r = refl
put_commas_last f (z ∷ xs) x r = put_more_last f z xs x r

more_done : {A : Type 0} (f : A → List Tok → List Tok) (xs : List A) (r : List Tok) → put_more f xs (mark g.Com ∷ r) ≡ mark g.Com ∷ put_done f xs r
more_done f [] r = refl
more_done f (x ∷ xs) r = ap (λ ts. mark g.Com ∷ f x ts) (more_done f xs r)

-- with a comma behind them
pub commas_done : {A : Type 0} (f : A → List Tok → List Tok) (xs : List A) (r : List Tok) → is_empty xs ≡ false → put_commas f xs (mark g.Com ∷ r) ≡ put_done f xs r
commas_done f [] r h = cc
commas_done f (x ∷ xs) r h = ap (f x) (more_done f xs r)

more_exprs_of : (xs : List Expr) (r : List Tok) → put_more_exprs (exprs_of xs) r ≡ put_more put xs r
more_exprs_of [] r = refl
more_exprs_of (a ∷ xs) r = ap (λ ts. mark g.Com ∷ put a ts) (more_exprs_of xs r)

pub put_exprs_of : (xs : List Expr) (r : List Tok) → put_exprs (exprs_of xs) r ≡ put_commas put xs r
put_exprs_of [] r = refl
put_exprs_of (a ∷ xs) r = ap (put a) (more_exprs_of xs r)

more_declarators_of : (ds : List Declarator) (r : List Tok) → put_more_declarators (declarators_of ds) r ≡ put_more put_declarator ds r
more_declarators_of [] r = refl
more_declarators_of (d ∷ ds) r = ap (λ ts. mark g.Com ∷ put_declarator d ts) (more_declarators_of ds r)

pub put_declarators_of : (ds : List Declarator) (r : List Tok) → put_declarators (declarators_of ds) r ≡ put_commas put_declarator ds r
put_declarators_of [] r = refl
put_declarators_of (d ∷ ds) r = ap (put_declarator d) (more_declarators_of ds r)

more_enumerators_of : (es : List Enumerator) (r : List Tok) → put_more_enumerators (enumerators_of es) r ≡ put_more put_enumerator es r
more_enumerators_of [] r = refl
more_enumerators_of (e ∷ es) r = ap (λ ts. mark g.Com ∷ put_enumerator e ts) (more_enumerators_of es r)

pub put_enumerators_of : (es : List Enumerator) (r : List Tok) → put_enumerators (enumerators_of es) r ≡ put_commas put_enumerator es r
put_enumerators_of [] r = refl
put_enumerators_of (e ∷ es) r = ap (put_enumerator e) (more_enumerators_of es r)

more_params_of : (ps : List Param) (r : List Tok) → put_more_params (params_of ps) r ≡ put_more put_param ps r
more_params_of [] r = refl
more_params_of (q ∷ ps) r = ap (λ ts. mark g.Com ∷ put_param q ts) (more_params_of ps r)

pub put_params_of : (ps : List Param) (r : List Tok) → put_params (params_of ps) r ≡ put_commas put_param ps r
put_params_of [] r = refl
put_params_of (q ∷ ps) r = ap (put_param q) (more_params_of ps r)

more_inits_of : (is : List Init) (r : List Tok) → put_more_inits (inits_of is) r ≡ put_more put_init is r
more_inits_of [] r = refl
more_inits_of (x ∷ is) r = ap (λ ts. mark g.Com ∷ put_init x ts) (more_inits_of is r)

pub put_inits_of : (is : List Init) (r : List Tok) → put_inits (inits_of is) r ≡ put_commas put_init is r
put_inits_of [] r = refl
put_inits_of (x ∷ is) r = ap (put_init x) (more_inits_of is r)

abbrev pub put_spec : Spec → List Tok → List Tok
put_spec x r = put_specs (with_spec x u.no_specs) r

put_with : (x : Spec) (ss : Specs) (r : List Tok) → put_specs (with_spec x ss) r ≡ put_spec x (put_specs ss r)
put_with (p.keyword w) ss r = refl
put_with (p.typedef_name n) ss r = refl
put_with (p.attribute es) ss r = refl
put_with (p.records b tag fs) ss r = refl
put_with (p.enums tag es) ss r = refl

pub put_specs_last : (xs : List Spec) (x : Spec) (r : List Tok) → put_specs (specs_of (xs ++ x ∷ [])) r ≡ put_specs (specs_of xs) (put_spec x r)
put_specs_last [] x r = refl
put_specs_last (z ∷ xs) x r = put_with z (specs_of (xs ++ x ∷ [])) r ∙ ap (put_spec z) (put_specs_last xs x r) ∙ sym (put_with z (specs_of xs) (put_spec x r))

abbrev pub put_field : Field → List Tok → List Tok
put_field f r = put_specs f.specs (put_declarators f.declarators (mark g.Semi ∷ r))

pub put_fields_last : (fs : List Field) (f : Field) (r : List Tok) → put_fields (fields_of (fs ++ f ∷ [])) r ≡ put_fields (fields_of fs) (put_field f r)
put_fields_last [] f r = refl
put_fields_last (z ∷ fs) f r = ap (put_field z) (put_fields_last fs f r)

abbrev pub put_block_item : BlockItem → List Tok → List Tok
put_block_item (p.declared d) r = put_declaration d r
put_block_item (p.statement s) r = put_stmt s r

put_with_item : (x : BlockItem) (is : BlockItems) (r : List Tok) → put_block (with_item x is) r ≡ put_block_item x (put_block is r)
put_with_item (p.declared d) is r = refl
put_with_item (p.statement s) is r = refl

pub put_block_last : (is : List BlockItem) (x : BlockItem) (r : List Tok) → put_block (items_of (is ++ x ∷ [])) r ≡ put_block (items_of is) (put_block_item x r)
put_block_last [] x r = put_with_item x u.no_items r
put_block_last (z ∷ is) x r = put_with_item z (items_of (is ++ x ∷ [])) r ∙ ap (put_block_item z) (put_block_last is x r) ∙ sym (put_with_item z (items_of is) (put_block_item x r))

-- ---- that they are well formed

pub all_last : {A : Type 0} (P : A → Type 0) (xs : List A) (x : A) → AllByRecursion P xs → P x → AllByRecursion P (xs ++ x ∷ [])
all_last P [] x h w = (w, tt)
all_last P (z ∷ xs) x h w = (h.0, all_last P xs x h.1 w)

pub exprs_last : (env : Env) (xs : List Expr) (a : Expr) → WfAll env (exprs_of xs) → 2 ≤ level a → Wf env a → WfAll env (exprs_of (xs ++ a ∷ []))
exprs_last env [] a h l w = (l, w, tt)
exprs_last env (x ∷ xs) a h l w = (h.0, h.1, exprs_last env xs a h.2 l w)

pub some_exprs : (env : Env) (xs : List Expr) (a : Expr) → WfAll env (exprs_of (xs ++ a ∷ [])) → WfSome env (exprs_of (xs ++ a ∷ []))
some_exprs env [] a h = h
some_exprs env (x ∷ xs) a h = h

pub declarators_last : (env : Env) (ds : List Declarator) (d : Declarator) → WfMoreDeclarators env (declarators_of ds) → IsSome (declared_name d) → WfDeclarator env d → WfMoreDeclarators env (declarators_of (ds ++ d ∷ []))
declarators_last env [] d h n w = (n, w, tt)
declarators_last env (x ∷ ds) d h n w = (h.0, h.1, declarators_last env ds d h.2 n w)

pub enumerators_last : (env : Env) (es : List Enumerator) (e : Enumerator) → WfMoreEnumerators env (enumerators_of es) → IsName e.name → WfMaybe env e.value 3 → WfMoreEnumerators env (enumerators_of (es ++ e ∷ []))
enumerators_last env [] e h n w = (n, w, tt)
enumerators_last env (x ∷ es) e h n w = (h.0, h.1, enumerators_last env es e h.2 n w)

pub some_enumerators : (env : Env) (es : List Enumerator) → is_empty es ≡ false → WfMoreEnumerators env (enumerators_of es) → WfEnumerators env (enumerators_of es)
some_enumerators env [] n h = cc
some_enumerators env (e ∷ es) n h = h

pub fields_last : (env : Env) (fs : List Field) (f : Field) → WfMoreFields env (fields_of fs) → (f.specs ≡ u.no_specs → ⊥) → WfSpecs env false f.specs → WfDeclarators env (specified false f.specs) f.declarators
    → WfMoreFields env (fields_of (fs ++ f ∷ []))
fields_last env [] f h n s d = (n, s, d, tt)
fields_last env (x ∷ fs) f h n s d = (h.0, h.1, h.2, fields_last env fs f h.3 n s d)

pub some_fields : (env : Env) (fs : List Field) → is_empty fs ≡ false → WfMoreFields env (fields_of fs) → WfFields env (fields_of fs)
some_fields env [] n h = cc
some_fields env (f ∷ fs) n h = h

pub params_last : (env : Env) (ps : List Param) (q : Param) → WfParams env (params_of ps) → (q.specs ≡ u.no_specs → ⊥) → WfSpecs env false q.specs → WfEither env (specified false q.specs) q.declarator
    → WfParams env (params_of (ps ++ q ∷ []))
params_last env [] q h n s d = (n, s, d, tt)
params_last env (x ∷ ps) q h n s d = (h.0, h.1, h.2, params_last env ps q h.3 n s d)

pub inits_last : (env : Env) (is : List Init) (x : Init) → WfMoreInits env (inits_of is) → WfInit env x → WfMoreInits env (inits_of (is ++ x ∷ []))
inits_last env [] x h w = (w, tt)
inits_last env (z ∷ is) x h w = (h.0, inits_last env is x h.1 w)

pub some_inits : (env : Env) (is : List Init) → is_empty is ≡ false → WfMoreInits env (inits_of is) → WfInits env (inits_of is)
some_inits env [] n h = cc
some_inits env (x ∷ is) n h = h

abbrev pub WfBlockItem : Env → BlockItem → Type 0
WfBlockItem env (p.declared d) = WfDeclaration env d
WfBlockItem env (p.statement s) = WfStmt env s

abbrev pub after_block_item : BlockItem → Env → Env
after_block_item (p.declared d) env = after_declaration d env
after_block_item (p.statement s) env = after_stmt s env

pub block_last : (is : List BlockItem) (x : BlockItem) (e env : Env) → WfBlock e (items_of is) → env ≡ after_block (items_of is) e → WfBlockItem env x → WfBlock e (items_of (is ++ x ∷ []))
block_last [] (p.declared d) e env h i w = (subst (λ v. WfDeclaration v d) i w, tt)
block_last [] (p.statement s) e env h i w = (subst (λ v. WfStmt v s) i w, tt)
block_last (p.declared d ∷ is) x e env h i w = (h.0, block_last is x (after_declaration d e) env h.1 i w)
block_last (p.statement s ∷ is) x e env h i w = (h.0, block_last is x (after_stmt s e) env h.1 i w)

pub after_block_last : (is : List BlockItem) (x : BlockItem) (e env : Env) → env ≡ after_block (items_of is) e → after_block_item x env ≡ after_block (items_of (is ++ x ∷ [])) e
after_block_last [] (p.declared d) e env i = ap (after_declaration d) i
after_block_last [] (p.statement s) e env i = ap (after_stmt s) i
after_block_last (p.declared d ∷ is) x e env i = after_block_last is x (after_declaration d e) env i
after_block_last (p.statement s ∷ is) x e env i = after_block_last is x (after_stmt s e) env i

-- the item fits behind the others
abbrev pub WfItemAt : Env → Specs → Bool → Item → Type 0
WfItemAt env ss seen x =
    IsSome (declared_name x.declarator) × IsApart env seen (leading_name x.declarator) × WfDeclarator env x.declarator × AllByRecursion WfAttribute x.attributes
    × WfMaybeInit (after_declarator ss x.declarator env) x.init

abbrev pub seen_behind : Bool → List Item → Bool
seen_behind seen [] = seen
seen_behind seen (x ∷ xs) = true

behind_true : (is : List Item) → seen_behind true is ≡ true
behind_true [] = refl
behind_true (x ∷ is) = refl

wf_items_last : (is : List Item) (x : Item) (e env : Env) (ss : Specs) (seen : Bool) → WfItems e ss seen is → env ≡ after_items ss is e → WfItemAt env ss (seen_behind seen is) x → WfItems e ss seen (is ++ x ∷ [])
wf_items_last [] x e env ss seen h i w = let v : WfItemAt e ss seen x = subst (λ z. WfItemAt z ss seen x) i w in (v.0, v.1, v.2, v.3, v.4, tt)
wf_items_last (z ∷ is) x e env ss seen h i w =
    (h.0, h.1, h.2, h.3, h.4, wf_items_last is x (after_declarator ss z.declarator e) env ss true h.5 i (subst (λ b. WfItemAt env ss b x) (sym (behind_true is)) w))

pub after_items_last : (is : List Item) (x : Item) (e env : Env) (ss : Specs) → env ≡ after_items ss is e → after_declarator ss x.declarator env ≡ after_items ss (is ++ x ∷ []) e
after_items_last [] x e env ss i = ap (after_declarator ss x.declarator) i
after_items_last (z ∷ is) x e env ss i = after_items_last is x (after_declarator ss z.declarator e) env ss i

behind_before : (ss : Specs) (is : List Item) → seen_before ss is ≡ seen_behind (specified false ss) is
behind_before ss [] = refl
behind_before ss (x ∷ is) = refl

pub items_last : (is : List Item) (x : Item) (e env : Env) (ss : Specs) → WfItems e ss (specified false ss) is → env ≡ after_items ss is e → WfItemAt env ss (seen_before ss is) x → WfItems e ss (specified false ss) (is ++ x ∷ [])
items_last is x e env ss h i w = wf_items_last is x e env ss (specified false ss) h i (subst (λ b. WfItemAt env ss b x) (behind_before ss is) w)

pub unit_last : (done : List External) (x : External) (e env : Env) → WfUnit e done → env ≡ after_unit done e → WfExternal env x → WfUnit e (done ++ x ∷ [])
unit_last [] x e env h i w = (subst (λ v. WfExternal v x) i w, tt)
unit_last (z ∷ done) x e env h i w = (h.0, unit_last done x (after_external z e) env h.1 i w)

pub after_unit_last : (done : List External) (x : External) (e env : Env) → env ≡ after_unit done e → after_external x env ≡ after_unit (done ++ x ∷ []) e
after_unit_last [] x e env i = ap (after_external x) i
after_unit_last (z ∷ done) x e env i = after_unit_last done x (after_external z e) env i

-- ---- specs

wf_specs_last : (xs : List Spec) (x : Spec) (env : Env) (seen : Bool) → WfSpecs env seen (specs_of xs) → WfSpecs env (specified seen (specs_of xs)) (with_spec x u.no_specs) → WfSpecs env seen (specs_of (xs ++ x ∷ []))
wf_specs_last [] x env seen h w = w
wf_specs_last (p.keyword v ∷ xs) x env seen h w = (h.0, wf_specs_last xs x env (seen || is_specifier v) h.1 w)
wf_specs_last (p.typedef_name n ∷ xs) x env seen h w = (h.0, h.1, h.2, wf_specs_last xs x env true h.3 (subst (λ b. WfSpecs env b (with_spec x u.no_specs)) (sym (specified_true (specs_of xs))) w))
wf_specs_last (p.attribute es ∷ xs) x env seen h w = (h.0, wf_specs_last xs x env seen h.1 w)
wf_specs_last (p.records b tag fs ∷ xs) x env seen h w = (h.0, h.1, wf_specs_last xs x env true h.2 (subst (λ b. WfSpecs env b (with_spec x u.no_specs)) (sym (specified_true (specs_of xs))) w))
wf_specs_last (p.enums tag es ∷ xs) x env seen h w = (h.0, h.1, wf_specs_last xs x env true h.2 (subst (λ b. WfSpecs env b (with_spec x u.no_specs)) (sym (specified_true (specs_of xs))) w))

specified_with : (x : Spec) → specified true (with_spec x u.no_specs) ≡ true
specified_with x = specified_true (with_spec x u.no_specs)

specified_last : (xs : List Spec) (x : Spec) (seen : Bool) → specified (specified seen (specs_of xs)) (with_spec x u.no_specs) ≡ specified seen (specs_of (xs ++ x ∷ []))
specified_last [] x seen = refl
specified_last (p.keyword v ∷ xs) x seen = specified_last xs x (seen || is_specifier v)
specified_last (p.typedef_name n ∷ xs) x seen = specified_with x
specified_last (p.attribute es ∷ xs) x seen = specified_last xs x seen
specified_last (p.records b tag fs ∷ xs) x seen = specified_with x
specified_last (p.enums tag es ∷ xs) x seen = specified_with x

typedef_last : (xs : List Spec) (x : Spec) → (has_typedef (specs_of xs) || has_typedef (with_spec x u.no_specs)) ≡ has_typedef (specs_of (xs ++ x ∷ []))
typedef_last [] x = refl
typedef_last (p.keyword v ∷ xs) x =
    ap (λ b. b || has_typedef (with_spec x u.no_specs)) (has_typedef_keyword v (specs_of xs))
    ∙ or_assoc (is_typedef v) (has_typedef (specs_of xs)) (has_typedef (with_spec x u.no_specs))
    ∙ ap (λ b. is_typedef v || b) (typedef_last xs x)
    ∙ sym (has_typedef_keyword v (specs_of (xs ++ x ∷ [])))
typedef_last (p.typedef_name n ∷ xs) x = typedef_last xs x
typedef_last (p.attribute es ∷ xs) x = typedef_last xs x
typedef_last (p.records b tag fs ∷ xs) x = typedef_last xs x
typedef_last (p.enums tag es ∷ xs) x = typedef_last xs x

pub add_type_ok : (env : Env) (s : p.SpecsRead) (x : Spec) → SpecsReadOk env s → WfSpecs env (specified false (specs_of s.specs)) (with_spec x u.no_specs)
    → ((seen : Bool) → specified seen (with_spec x u.no_specs) ≡ true) → has_typedef (with_spec x u.no_specs) ≡ false → SpecsReadOk env (add_type s x)
add_type_ok env s x h w t n = record {
  wf = wf_specs_last s.specs x env false h.wf w;
  seen_is = sym (t (specified false (specs_of s.specs))) ∙ specified_last s.specs x false;
  typedef_is = h.typedef_is ∙ sym (or_false (has_typedef (specs_of s.specs))) ∙ ap (λ b. has_typedef (specs_of s.specs) || b) (sym n) ∙ typedef_last s.specs x;
}

pub add_keyword_ok : (env : Env) (s : p.SpecsRead) (w : Word) → SpecsReadOk env s → (is_specifier w || is_qualifier w || is_storage w ≡ true) → SpecsReadOk env (add_keyword s w)
add_keyword_ok env s w h k = record {
  wf = wf_specs_last s.specs (p.keyword w) env false h.wf (k, tt);
  seen_is = ap (λ b. b || is_specifier w) h.seen_is ∙ specified_last s.specs (p.keyword w) false;
  typedef_is = ap (λ b. b || is_typedef w) h.typedef_is ∙ ap (λ b. has_typedef (specs_of s.specs) || b) (sym (or_false (is_typedef w)) ∙ sym (has_typedef_keyword w u.no_specs)) ∙ typedef_last s.specs (p.keyword w);
}

pub add_attribute_ok : (env : Env) (s : p.SpecsRead) (es : List Entry) → SpecsReadOk env s → WfAttribute es → SpecsReadOk env (add_attribute s es)
add_attribute_ok env s es h a = record {
  wf = wf_specs_last s.specs (p.attribute es) env false h.wf (a, tt);
  seen_is = h.seen_is ∙ specified_last s.specs (p.attribute es) false;
  typedef_is = h.typedef_is ∙ sym (or_false (has_typedef (specs_of s.specs))) ∙ typedef_last s.specs (p.attribute es);
}

pub list_some : {A : Type 0} (xs : List A) (x : A) → xs ++ x ∷ [] ≡ [] → ⊥
list_some [] x e = cc
list_some (z ∷ xs) x e = cc

with_some : (x : Spec) (ss : Specs) → with_spec x ss ≡ u.no_specs → ⊥
with_some (p.keyword w) ss e = cc
with_some (p.typedef_name n) ss e = cc
with_some (p.attribute es) ss e = cc
with_some (p.records b tag fs) ss e = cc
with_some (p.enums tag es) ss e = cc

pub specs_some : (xs : List Spec) → (xs ≡ [] → ⊥) → specs_of xs ≡ u.no_specs → ⊥
specs_some [] n e = n refl
specs_some (x ∷ xs) n e = with_some x (specs_of xs) e
