-- The steps of declarators, specs, records, enums and attributes keep what holds, and add their token.
use Rattle.std.proofs.Common.{◌≡◌, ℕ, ◌≤◌, Bool, true, false, if◌then◌else◌, List, [], ◌∷◌, ◌++◌, Option, Some, None, IsSome, IsNone, refl, sym, ◌∙◌, ap}
use Rattle.c_tree.specs.Tok as g
use Rattle.c_tree.specs.Tok.{Tok, Word, mark, word}
use Rattle.c_tree.specs.Marks.{record_word}
use Rattle.c_tree.specs.Tree as u
use Rattle.c_tree.specs.Tree.{Argument, Entry, MaybeExpr, Specs, Declarators, MaybeDeclarator, Declarator, Item}
use Rattle.std.specs.List.{AllByRecursion}
use Rattle.c_tree.specs.Text.{IsName, IsText}
use Rattle.c_tree.specs.Put.{put_all, put_commas, put_name, put_comma_if, put_text, put_word, put_argument, put_entry, put_attribute, put_specs, put_declarators, put_value, put_maybe_declarator, put_declarator}
use Rattle.c_tree.specs.Wf.{Env, is_type, is_qualifier, specified, IsOptName, WfArgument, WfArguments, WfAttribute, declared_name, leading_name, IsSpelled, IsApart, WfMaybe, WfSpecs, WfDeclarators, WfAbstract, WfEither, WfDeclarator}
use Rattle.c_reader.specs.Symbol as t
use Rattle.c_reader.specs.Symbol.{Tagged, Symbol, keyword_word, tagged_word}
use Rattle.c_reader.specs.Parts as p
use Rattle.c_reader.specs.Parts.{Enumerator, specs_of, fields_of, declarators_of, enumerators_of, no_specs, add_type}
use Rattle.c_reader.specs.Inside.{InDeclaration, TypePlace, InExpr, InDeclarator, InSpecs, InFields, InEnum, InParams, InAttribute, AttributeMode, InItems, cast_type, sizeof_type, in_array, in_pointer, in_group, in_item, in_field, in_param, in_type, of_declaration, of_field, of_param, of_type, in_fields, in_enum, in_params, of_specs, of_read, attribute_word, attribute_opened, entries_opened, want_entry, after_entry_name, arguments_opened, want_argument, after_argument, after_entry, attribute_closing, in_specs, specs}
use Rattle.c_reader.specs.Begin.{is_empty, begins_specs}
use Rattle.c_reader.specs.Declarations.{is_equals, items_done}
use Rattle.c_reader.specs.Declarators.{may_be_named, may_be_nameless, is_star, add_field, field_next, add_param, param_next, type_next, close_group, end_declarator, no_items_next, nameless, declarator_begin, star_next, open_params, opened_next, array_next, params_next, declarator_next}
use Rattle.c_reader.specs.Specs.{behind, specs_next, tagged_opened, tagged_next, tag_spec, tag_next, close_fields, field_begin, add_enumerator, close_enum, enumerator_begin, enumerator_end, enumerator_next, attribute_done, add_entry, want_lparen, entry_begin, entries_begin, entry_end, entry_next, argument_begin, arguments_begin, text_more, argument_next, close_attribute, attribute_next}
use Rattle.c_reader.specs.Exprs.{place}
use Rattle.c_reader.proofs.Go.{at, by_test}
use Rattle.c_reader.proofs.Before.{put_done, put_enumerator, put_param, before_items, put_type, before_expr, before_declarator, before_specs, before_fields, before_enum, before_params, before_attribute, put_entries, put_attribute_mode, before}
use Rattle.c_reader.proofs.Ok.{Valid, InItemsOk, type_level, SpecsReadOk, NameFits, seen_before_field, ApartAt, DeclaratorsOk, InExprOk, InDeclaratorOk, InSpecsOk, InFieldsOk, InEnumOk, InParamsOk, DirectAt, InAttributeOk, AttributeModeOk, ModeOk}
use Rattle.c_reader.proofs.First.{BeginsSpecs}
use Rattle.c_reader.proofs.Grown.{put_all_last, put_done_last, put_commas_last, commas_done, put_declarators_of, put_enumerators_of, put_params_of, put_specs_last, put_fields_last, all_last, declarators_last, enumerators_last, some_enumerators, fields_last, some_fields, params_last, add_type_ok, add_attribute_ok, list_some, specs_some}
use Rattle.c_reader.proofs.Adds.{Adds, Good, equals_tok, star_tok, want_good, open_good, no_specs_ok, first_spec_good, declaration_spells, items_done_ok, close_item_good}

-- ---- names

pub name_through : (k : InDeclarator) (qs : List Word) (n : Option (List ℕ)) → NameFits (in_pointer qs k) n → NameFits k n
name_through k qs None h = h
name_through k qs (Some x) h = h

pub name_group : (k : InDeclarator) (n : Option (List ℕ)) → NameFits (in_group k) n → NameFits k n
name_group k None h = h
name_group k (Some x) h = h

pub apart_none : (env : Env) (k : InDeclarator) → ApartAt env k None
apart_none env (in_pointer qs k) = tt
apart_none env (in_group k) = tt
apart_none env (in_item q) = tt
apart_none env (in_field x ss ds) = tt
apart_none env (in_param q ss) = tt
apart_none env (in_type x k ss) = tt

-- a name stands there surely
pub must_name : (k : InDeclarator) (n : Option (List ℕ)) → may_be_nameless k ≡ false → NameFits k n → IsSome n
must_name k None m h = cc
must_name k (Some x) m h = refl

pub must_not : (k : InDeclarator) (n : Option (List ℕ)) → may_be_named k ≡ false → NameFits k n → IsNone n
must_not k None m h = refl
must_not k (Some x) m h = cc

-- ---- the end of a declarator

pub group_good : (env : Env) (k : InDeclarator) (d : Declarator) (y : Symbol) (f : List Tok → List Tok) → WfDeclarator env d → IsSpelled d → NameFits k (declared_name d) → IsApart env false (leading_name d) → InDeclaratorOk env k
    → ((z : List Tok) → before_declarator k (mark g.LParen ∷ put_declarator d z) ≡ f z) → Good (Adds f y) (close_group env k d y)
group_good env k d t.rparen f w sp n a i s = record { ok = (tt, (tt, (sp, a, w), n, apart_none env k, i)); spells = λ z. s (mark g.RParen ∷ z) }
group_good env k d _ f w sp n a i s = tt

pub seen_last_field : (ss : Specs) (ds : List Declarator) (d : Declarator) → seen_before_field ss (ds ++ d ∷ []) ≡ true
seen_last_field ss [] d = refl
seen_last_field ss (x ∷ ds) d = refl

pub declarators_ok : (env : Env) (ss : Specs) (ds : List Declarator) (d : Declarator) → DeclaratorsOk env ss ds → IsSome (declared_name d) → IsApart env (seen_before_field ss ds) (leading_name d) → WfDeclarator env d → DeclaratorsOk env ss (ds ++ d ∷ [])
declarators_ok env ss [] d h n a w = (n, a, w, tt)
declarators_ok env ss (x ∷ ds) d h n a w = (h.0, h.1, h.2, declarators_last env ds d h.3 n w)

pub all_declarators : (env : Env) (ss : Specs) (ds : List Declarator) (d : Declarator) → DeclaratorsOk env ss (ds ++ d ∷ []) → WfDeclarators env (specified false ss) (declarators_of (ds ++ d ∷ []))
all_declarators env ss [] d h = h
all_declarators env ss (x ∷ ds) d h = h

pub field_done : (x : InFields) (env : Env) (ss : Specs) (ds : Declarators) (list : List Declarator) → declarators_of list ≡ ds → InFieldsOk env x → (ss ≡ u.no_specs → ⊥) → WfSpecs env false ss → WfDeclarators env (specified false ss) (declarators_of list)
    → InFieldsOk env (add_field x ss list)
field_done (in_fields b tag fs s k) env ss ds list e i n w h = (i.0, fields_last env fs (record { specs = ss; declarators = declarators_of list }) i.1 n w h, i.2, i.3)

pub field_spells : (x : InFields) (ss : Specs) (list : List Declarator) (r : List Tok) → before_fields (add_field x ss list) r ≡ before_fields x (put_specs ss (put_declarators (declarators_of list) (mark g.Semi ∷ r)))
field_spells (in_fields b tag fs s k) ss list r = ap (λ z. before_specs k (put_specs (specs_of s.specs) (word (record_word b) ∷ put_name tag (mark g.LBrace ∷ z)))) (put_fields_last fs (record { specs = ss; declarators = declarators_of list }) r)

pub field_good : (env : Env) (x : InFields) (ss : Specs) (ds : List Declarator) (d : Declarator) (y : Symbol) (f : List Tok → List Tok) → InFieldsOk env x → (ss ≡ u.no_specs → ⊥) → WfSpecs env false ss → DeclaratorsOk env ss (ds ++ d ∷ [])
    → ((z : List Tok) → before_fields x (put_specs ss (put_done put_declarator ds (put_declarator d z))) ≡ f z) → Good (Adds f y) (field_next env x ss (ds ++ d ∷ []) y)
field_good env x ss ds d t.comma f i n w h s = record {
  ok = ((λ m e. seen_last_field ss ds d), (n, w, h, i));
  spells = λ z. ap (λ a. before_fields x (put_specs ss a)) (put_done_last put_declarator ds d z) ∙ s (mark g.Com ∷ z);
}
field_good env x ss ds d t.semi f i n w h s = record {
  ok = field_done x env ss (declarators_of (ds ++ d ∷ [])) (ds ++ d ∷ []) refl i n w (all_declarators env ss ds d h);
  spells = λ z.
      field_spells x ss (ds ++ d ∷ []) z
      ∙ ap (λ a. before_fields x (put_specs ss a)) (put_declarators_of (ds ++ d ∷ []) (mark g.Semi ∷ z) ∙ put_commas_last put_declarator ds d (mark g.Semi ∷ z)) ∙ s (mark g.Semi ∷ z);
}
field_good env x ss ds d _ f i n w h s = tt

pub param_ok : (q : InParams) (env : Env) (ss : Specs) (m : MaybeDeclarator) → InParamsOk env q → (ss ≡ u.no_specs → ⊥) → WfSpecs env false ss → WfEither env (specified false ss) m → InParamsOk env (add_param q ss m)
param_ok (in_params d ps k) env ss m i n w h = (i.0, i.1, i.2, i.3, params_last env ps (record { specs = ss; declarator = m }) i.4 n w h, i.5)

pub param_good : (q : InParams) (env : Env) (ss : Specs) (m : MaybeDeclarator) (y : Symbol) (f : List Tok → List Tok) → InParamsOk env q → (ss ≡ u.no_specs → ⊥) → WfSpecs env false ss → WfEither env (specified false ss) m
    → ((z : List Tok) → before_params q (put_specs ss (put_maybe_declarator m z)) ≡ f z) → Good (Adds f y) (param_next env (add_param q ss m) y)
param_good (in_params d ps k) env ss m t.comma f i n w h s = record {
  ok = param_ok (in_params d ps k) env ss m i n w h;
  spells = λ z. ap (λ a. before_declarator k (put_declarator d (mark g.LParen ∷ a))) (put_done_last put_param ps (record { specs = ss; declarator = m }) z) ∙ s (mark g.Com ∷ z);
}
param_good (in_params d ps k) env ss m t.rparen f i n w h s =
    let o = param_ok (in_params d ps k) env ss m i n w h in
    record {
      ok = (tt, (tt, (o.0, o.1, o.4), o.2, o.3, o.5));
      spells = λ z.
          ap (λ a. before_declarator k (put_declarator d (mark g.LParen ∷ a)))
          (put_params_of (ps ++ record { specs = ss; declarator = m } ∷ []) (mark g.RParen ∷ z) ∙ put_commas_last put_param ps (record { specs = ss; declarator = m }) (mark g.RParen ∷ z))
          ∙ s (mark g.RParen ∷ z);
    }
param_good q env ss m _ f i n w h s = tt

pub type_good : (x : TypePlace) (env : Env) (k : InExpr) (ss : Specs) (m : MaybeDeclarator) (y : Symbol) (f : List Tok → List Tok) → place k ≤ type_level x → InExprOk env k → (ss ≡ u.no_specs → ⊥) → WfSpecs env false ss → WfAbstract env m
    → ((z : List Tok) → before_expr k (put_type x (put_specs ss (put_maybe_declarator m z))) ≡ f z) → Good (Adds f y) (type_next env x k ss m y)
type_good cast_type env k ss m t.rparen f l i n w h s = record { ok = ((n, w, h), l, i); spells = λ z. s (mark g.RParen ∷ z) }
type_good sizeof_type env k ss m t.rparen f l i n w h s = record { ok = (l, (n, w, h), i); spells = λ z. s (mark g.RParen ∷ z) }
type_good x env k ss m _ f l i n w h s = tt

pub end_good : (k : InDeclarator) (env : Env) (d : Declarator) (y : Symbol) (f : List Tok → List Tok) → WfDeclarator env d → IsSpelled d → NameFits k (declared_name d) → ApartAt env k (leading_name d) → InDeclaratorOk env k
    → ((z : List Tok) → before_declarator k (put_declarator d z) ≡ f z) → Good (Adds f y) (end_declarator env k d y)
end_good (in_pointer qs k) env d y f w sp n a i s = end_good k env (u.PointerTo qs d) y f (i.0, w) tt (name_through k qs (declared_name d) n) (apart_none env k) i.1 (λ z. pointer_spells z ∙ s z)
  where
    pointer_spells : (z : List Tok) → before_declarator k (put_declarator (u.PointerTo qs d) z) ≡ before_declarator (in_pointer qs k) (put_declarator d z)
    pointer_spells z = refl
end_good (in_group k) env d y f w sp n a i s = group_good env k d y f w sp (name_group k (declared_name d) n) a i s
end_good (in_item q) env d y f w sp n a i s = close_item_good env q d y f i (must_name (in_item q) (declared_name d) refl n) a w s
end_good (in_field x ss ds) env d y f w sp n a i s = field_good env x ss ds d y f i.3 i.0 i.1 (declarators_ok env ss ds d i.2 (must_name (in_field x ss ds) (declared_name d) refl n) a w) s
end_good (in_param q ss) env d y f w sp n a i s = param_good q env ss (u.some_declarator d) y f i.2 i.0 i.1 (sp, a, w) s
end_good (in_type x k ss) env d y f w sp n a i s = type_good x env k ss (u.some_declarator d) y f i.2 i.3 i.0 i.1 (must_not (in_type x k ss) (declared_name d) refl n, sp, w) s

pub no_items_good : (items : List Item) (ss : Specs) (td : Bool) (q : InDeclaration) (env : Env) (f : List Tok → List Tok) → InItemsOk env (record { specs = ss; typedef = td; items = items; place = q })
    → ((z : List Tok) → before_items (record { specs = ss; typedef = td; items = items; place = q }) z ≡ f z)
    → Good (Adds f t.semi) (if is_empty items then Some (at env (items_done (record { specs = ss; typedef = td; items = items; place = q }))) else None)
no_items_good [] ss td q env f h s = record { ok = items_done_ok (record { specs = ss; typedef = td; items = []; place = q }) env h; spells = λ z. declaration_spells q (record { specs = ss; items = [] }) z ∙ s (mark g.Semi ∷ z) }
no_items_good (x ∷ items) ss td q env f h s = tt

pub no_items_next_good : (env : Env) (q : InItems) (y : Symbol) (f : List Tok → List Tok) → InItemsOk env q → ((z : List Tok) → before_items q z ≡ f z) → Good (Adds f y) (no_items_next env q y)
no_items_next_good env q t.semi f h s = no_items_good q.items q.specs q.typedef q.place env f h s
no_items_next_good env q _ f h s = tt

pub nameless_good : (k : InDeclarator) (env : Env) (y : Symbol) (f : List Tok → List Tok) → InDeclaratorOk env k → ((z : List Tok) → before_declarator k z ≡ f z) → Good (Adds f y) (nameless env k y)
nameless_good (in_pointer qs k) env y f i s =
    by_test (Good (Adds f y)) (may_be_nameless k) _ _ (λ n. end_good k env (u.PointerTo qs (u.Declared None)) y f (i.0, tt) tt n (apart_none env k) i.1 s) (λ n. tt)
nameless_good (in_group k) env y f i s = tt
nameless_good (in_item q) env y f i s = no_items_next_good env q y f i s
nameless_good (in_field x ss ds) env y f i s = tt
nameless_good (in_param q ss) env y f i s = param_good q env ss u.no_declarator y f i.2 i.0 i.1 tt s
nameless_good (in_type x k ss) env y f i s = type_good x env k ss u.no_declarator y f i.2 i.3 i.0 i.1 tt s

-- ---- the beginning of a declarator

-- the name that is read there may be a typedef name
abbrev pub NameApart : Env → InDeclarator → Symbol → Type 0
NameApart env k (t.name n) = ApartAt env k (Some n)
NameApart env k _ = Unit {0}

pub declarator_begin_good : (env : Env) (k : InDeclarator) (y : Symbol) (f : List Tok → List Tok) → Valid y → NameApart env k y → InDeclaratorOk env k → ((z : List Tok) → before_declarator k z ≡ f z) → Good (Adds f y) (declarator_begin env k y)
declarator_begin_good env k (t.name n) f v a i s =
    by_test (Good (Adds f (t.name n))) (may_be_named k) _ _ (λ m. record { ok = (refl, (tt, v, m, a, i)); spells = λ z. s (g.name n ∷ z) }) (λ m. tt)
declarator_begin_good env k (t.operator o) f v a i s =
    by_test (Good (Adds f (t.operator o))) (is_star o) _ _ (λ m. record { ok = (tt, i); spells = λ z. s (mark g.Star ∷ z) ∙ ap (λ x. f (x ∷ z)) (sym (star_tok o m)) }) (λ m. tt)
declarator_begin_good env k t.lparen f v a i s = record { ok = i; spells = λ z. s (mark g.LParen ∷ z) }
declarator_begin_good env k t.lbracket f v a i s =
    by_test (Good (Adds f t.lbracket)) (may_be_nameless k) _ _ (λ m. record { ok = (tt, tt, m, apart_none env k, i); spells = λ z. s (mark g.LBracket ∷ z) }) (λ m. tt)
declarator_begin_good env k (t.number n) f v a i s = nameless_good k env (t.number n) f i s
declarator_begin_good env k y f v a i s = nameless_good k env y f i s

pub star_good : (env : Env) (qs : List Word) (k : InDeclarator) (y : Symbol) (f : List Tok → List Tok) → Valid y → AllByRecursion (λ w. is_qualifier w ≡ true) qs → InDeclaratorOk env k
    → ((z : List Tok) → before_declarator k (mark g.Star ∷ put_all put_word qs z) ≡ f z) → Good (Adds f y) (star_next env qs k y)
star_good env qs k (t.keyword w) f v h i s =
    by_test (Good (Adds f (t.keyword w))) (is_qualifier (keyword_word w)) _ _
    (λ m. record { ok = (all_last (λ x. is_qualifier x ≡ true) qs (keyword_word w) h m, i); spells = λ z. ap (λ a. before_declarator k (mark g.Star ∷ a)) (put_all_last put_word qs (keyword_word w) z) ∙ s (word (keyword_word w) ∷ z) }) (λ m. tt)
star_good env qs k (t.name n) f v h i s = declarator_begin_good env (in_pointer qs k) (t.name n) f v tt (h, i) s
star_good env qs k y f v h i s = declarator_begin_good env (in_pointer qs k) y f v tt (h, i) s

pub spec_or : (env : Env) (n : List ℕ) → begins_specs env false (t.name n) ≡ false → is_type env n ≡ true → false ≡ true
spec_or env n h e = sym h ∙ e

pub group_apart : (env : Env) (k : InDeclarator) (y : Symbol) → begins_specs env false y ≡ false → NameApart env (in_group k) y
group_apart env k (t.name n) h = λ e. spec_or env n h e
group_apart env k _ h = tt

pub params_good : (env : Env) (k : InDeclarator) (y : Symbol) (f : List Tok → List Tok) → Valid y → BeginsSpecs env false y → InDeclaratorOk env k → ((z : List Tok) → before_declarator k (mark g.LParen ∷ z) ≡ f z) → Good (Adds f y) (open_params env k y)
params_good env k y f v b i s =
    by_test (Good (Adds f y)) (may_be_nameless k) _ _ (λ m. open_good env no_specs (of_param (in_params (u.Declared None) [] k)) y f v b (no_specs_ok env) (tt, tt, m, apart_none env k, tt, i) s) (λ m. tt)

pub opened_else : (env : Env) (k : InDeclarator) (y : Symbol) (f : List Tok → List Tok) → Valid y → InDeclaratorOk env k → ((z : List Tok) → before_declarator k (mark g.LParen ∷ z) ≡ f z)
    → Good (Adds f y) (if begins_specs env false y then open_params env k y else declarator_begin env (in_group k) y)
opened_else env k y f v i s =
    by_test (Good (Adds f y)) (begins_specs env false y) _ _ (λ b. params_good env k y f v b i s) (λ n. declarator_begin_good env (in_group k) y f v (group_apart env k y n) i s)

pub opened_good : (env : Env) (k : InDeclarator) (y : Symbol) (f : List Tok → List Tok) → Valid y → InDeclaratorOk env k → ((z : List Tok) → before_declarator k (mark g.LParen ∷ z) ≡ f z) → Good (Adds f y) (opened_next env k y)
opened_good env k t.rparen f v i s =
    by_test (Good (Adds f t.rparen)) (may_be_nameless k) _ _ (λ m. record { ok = (tt, (tt, (tt, tt, tt), m, apart_none env k, i)); spells = λ z. s (mark g.RParen ∷ z) }) (λ m. tt)
opened_good env k (t.name n) f v i s = opened_else env k (t.name n) f v i s
opened_good env k y f v i s = opened_else env k y f v i s

pub array_good : (env : Env) (d : Declarator) (k : InDeclarator) (y : Symbol) (f : List Tok → List Tok) → Valid y → DirectAt env k d → ((z : List Tok) → before_declarator k (put_declarator d (mark g.LBracket ∷ z)) ≡ f z) → Good (Adds f y) (array_next env d k y)
array_good env d k t.rbracket f v h s = record { ok = (tt, (tt, (h.0, h.1, tt), h.2, h.3, h.4)); spells = λ z. s (mark g.RBracket ∷ z) }
array_good env d k (t.name n) f v h s = want_good env (in_array d k) (t.name n) f v h s
array_good env d k y f v h s = want_good env (in_array d k) y f v h s

pub params_next_good : (env : Env) (d : Declarator) (k : InDeclarator) (y : Symbol) (f : List Tok → List Tok) → Valid y → DirectAt env k d → ((z : List Tok) → before_declarator k (put_declarator d (mark g.LParen ∷ z)) ≡ f z)
    → Good (Adds f y) (params_next env d k y)
params_next_good env d k t.rparen f v h s = record { ok = (tt, (tt, (h.0, h.1, tt), h.2, h.3, h.4)); spells = λ z. s (mark g.RParen ∷ z) }
params_next_good env d k (t.name n) f v h s = first_spec_good env (of_param (in_params d [] k)) (t.name n) f v (h.0, h.1, h.2, h.3, tt, h.4) s
params_next_good env d k y f v h s = first_spec_good env (of_param (in_params d [] k)) y f v (h.0, h.1, h.2, h.3, tt, h.4) s

pub declarator_next_good : (env : Env) (k : InDeclarator) (d : Declarator) (y : Symbol) (f : List Tok → List Tok) → IsSpelled d → DirectAt env k d → ((z : List Tok) → before_declarator k (put_declarator d z) ≡ f z)
    → Good (Adds f y) (declarator_next env k d y)
declarator_next_good env k d t.lbracket f sp h s = record { ok = h; spells = λ z. s (mark g.LBracket ∷ z) }
declarator_next_good env k d t.lparen f sp h s = record { ok = h; spells = λ z. s (mark g.LParen ∷ z) }
declarator_next_good env k d (t.name n) f sp h s = end_good k env d (t.name n) f h.1 sp h.2 h.3 h.4 s
declarator_next_good env k d y f sp h s = end_good k env d y f h.1 sp h.2 h.3 h.4 s

-- ---- specs

pub behind_ok : (s : p.SpecsRead) (k : InSpecs) (env : Env) → (s.specs ≡ [] → ⊥) → SpecsReadOk env s → InSpecsOk env k → InDeclaratorOk env (behind s k)
behind_ok s (of_declaration q) env n h i = record { e = env; place_ok = i; some = specs_some s.specs n; specs_ok = h.wf; typedef_is = h.typedef_is; items_ok = tt; env_is = refl }
behind_ok s (of_field x) env n h i = (specs_some s.specs n, h.wf, tt, i)
behind_ok s (of_param q) env n h i = (specs_some s.specs n, h.wf, i)
behind_ok s (of_type x k) env n h i = (specs_some s.specs n, h.wf, i.0, i.1)

pub behind_spells : (s : p.SpecsRead) (k : InSpecs) (z : List Tok) → before_declarator (behind s k) z ≡ before_specs k (put_specs (specs_of s.specs) z)
behind_spells s (of_declaration q) z = refl
behind_spells s (of_field x) z = refl
behind_spells s (of_param q) z = refl
behind_spells s (of_type x k) z = refl

pub seen_name : (seen b : Bool) → (if seen then false else b) ≡ false → b ≡ true → seen ≡ true
seen_name true b h e = refl
seen_name false b h e = sym h ∙ e

pub behind_apart : (s : p.SpecsRead) (k : InSpecs) (env : Env) (y : Symbol) → SpecsReadOk env s → begins_specs env s.seen y ≡ false → NameApart env (behind s k) y
behind_apart s (of_declaration q) env (t.name n) h b = λ e. sym h.seen_is ∙ seen_name s.seen (is_type env n) b e
behind_apart s (of_field x) env (t.name n) h b = λ e. sym h.seen_is ∙ seen_name s.seen (is_type env n) b e
behind_apart s (of_param q) env (t.name n) h b = λ e. sym h.seen_is ∙ seen_name s.seen (is_type env n) b e
behind_apart s (of_type x k) env (t.name n) h b = tt
behind_apart s k env _ h b = tt

pub specs_next_good : (env : Env) (s : p.SpecsRead) (k : InSpecs) (y : Symbol) (f : List Tok → List Tok) → Valid y → (s.specs ≡ [] → ⊥) → SpecsReadOk env s → InSpecsOk env k
    → ((z : List Tok) → before_specs k (put_specs (specs_of s.specs) z) ≡ f z) → Good (Adds f y) (specs_next env s k y)
specs_next_good env s k y f v n h i e =
    by_test (Good (Adds f y)) (begins_specs env s.seen y) _ _ (λ b. open_good env s k y f v b h i e)
    (λ b. declarator_begin_good env (behind s k) y f v (behind_apart s k env y h b) (behind_ok s k env n h i) (λ z. behind_spells s k z ∙ e z))

-- ---- records and enums

abbrev pub OptTag : Option (List ℕ) → Tagged → p.SpecsRead → InSpecs → List Tok → List Tok
OptTag tag x s k r = before_specs k (put_specs (specs_of s.specs) (word (tagged_word x) ∷ put_name tag r))

pub tagged_ok : (x : Tagged) (env : Env) (tag : Option (List ℕ)) (s : p.SpecsRead) (k : InSpecs) → IsOptName tag → SpecsReadOk env s → InSpecsOk env k → ModeOk env (tagged_opened x tag s k)
tagged_ok (t.records b) env tag s k n h i = (n, tt, h, i)
tagged_ok t.enums env tag s k n h i = (n, tt, h, i)

pub tagged_spells : (x : Tagged) (tag : Option (List ℕ)) (s : p.SpecsRead) (k : InSpecs) (r : List Tok) → before (tagged_opened x tag s k) r ≡ OptTag tag x s k (mark g.LBrace ∷ r)
tagged_spells (t.records b) tag s k r = refl
tagged_spells t.enums tag s k r = refl

pub tagged_good : (env : Env) (x : Tagged) (s : p.SpecsRead) (k : InSpecs) (y : Symbol) (f : List Tok → List Tok) → Valid y → SpecsReadOk env s → InSpecsOk env k
    → ((z : List Tok) → before_specs k (put_specs (specs_of s.specs) (word (tagged_word x) ∷ z)) ≡ f z) → Good (Adds f y) (tagged_next env x s k y)
tagged_good env x s k (t.name n) f v h i e = record { ok = (v, h, i); spells = λ z. e (g.name n ∷ z) }
tagged_good env x s k t.lbrace f v h i e = record { ok = tagged_ok x env None s k tt h i; spells = λ z. tagged_spells x None s k z ∙ e (mark g.LBrace ∷ z) }
tagged_good env x s k _ f v h i e = tt

pub tag_ok : (x : Tagged) (env : Env) (n : List ℕ) (s : p.SpecsRead) → IsName n → SpecsReadOk env s → SpecsReadOk env (add_type s (tag_spec x n))
tag_ok (t.records b) env n s v h = add_type_ok env s (p.records b (Some n) u.no_body) h (v, (λ e. cc), tt) (λ seen. refl) refl
tag_ok t.enums env n s v h = add_type_ok env s (p.enums (Some n) u.no_list) h (v, (λ e. cc), tt) (λ seen. refl) refl

pub tag_spells : (x : Tagged) (n : List ℕ) (s : p.SpecsRead) (k : InSpecs) (z : List Tok) → before_specs k (put_specs (specs_of (add_type s (tag_spec x n)).specs) z) ≡ OptTag (Some n) x s k z
tag_spells (t.records b) n s k z = ap (before_specs k) (put_specs_last s.specs (p.records b (Some n) u.no_body) z)
tag_spells t.enums n s k z = ap (before_specs k) (put_specs_last s.specs (p.enums (Some n) u.no_list) z)

pub tag_else : (env : Env) (x : Tagged) (n : List ℕ) (s : p.SpecsRead) (k : InSpecs) (y : Symbol) (f : List Tok → List Tok) → Valid y → IsName n → SpecsReadOk env s → InSpecsOk env k
    → ((z : List Tok) → OptTag (Some n) x s k z ≡ f z) → Good (Adds f y) (specs_next env (add_type s (tag_spec x n)) k y)
tag_else env x n s k y f v m h i e = specs_next_good env (add_type s (tag_spec x n)) k y f v (list_some s.specs (tag_spec x n)) (tag_ok x env n s m h) i (λ z. tag_spells x n s k z ∙ e z)

pub tag_good : (env : Env) (x : Tagged) (n : List ℕ) (s : p.SpecsRead) (k : InSpecs) (y : Symbol) (f : List Tok → List Tok) → Valid y → IsName n → SpecsReadOk env s → InSpecsOk env k
    → ((z : List Tok) → OptTag (Some n) x s k z ≡ f z) → Good (Adds f y) (tag_next env x n s k y)
tag_good env x n s k t.lbrace f v m h i e = record { ok = tagged_ok x env (Some n) s k m h i; spells = λ z. tagged_spells x (Some n) s k z ∙ e (mark g.LBrace ∷ z) }
tag_good env x n s k (t.name w) f v m h i e = tag_else env x n s k (t.name w) f v m h i e
tag_good env x n s k y f v m h i e = tag_else env x n s k y f v m h i e

pub close_fields_good : (x : InFields) (env : Env) (f : List Tok → List Tok) → InFieldsOk env x → ((z : List Tok) → before_fields x z ≡ f z) → Good (Adds f t.rbrace) (close_fields env x)
close_fields_good (in_fields b tag fs s k) env f i e =
    by_test (Good (Adds f t.rbrace)) (is_empty fs) _ _ (λ y. tt)
    (λ n. record {
      ok = (list_some s.specs (p.records b tag (u.body (fields_of fs))), add_type_ok env s (p.records b tag (u.body (fields_of fs))) i.2 (i.0, some_fields env fs n i.1, tt) (λ seen. refl) refl, i.3);
      spells = λ z. ap (before_specs k) (put_specs_last s.specs (p.records b tag (u.body (fields_of fs))) z) ∙ e (mark g.RBrace ∷ z);
    })

pub field_begin_good : (env : Env) (x : InFields) (y : Symbol) (f : List Tok → List Tok) → Valid y → InFieldsOk env x → ((z : List Tok) → before_fields x z ≡ f z) → Good (Adds f y) (field_begin env x y)
field_begin_good env x t.rbrace f v i e = close_fields_good x env f i e
field_begin_good env x (t.name n) f v i e = first_spec_good env (of_field x) (t.name n) f v i e
field_begin_good env x y f v i e = first_spec_good env (of_field x) y f v i e

pub enumerator_ok : (e : InEnum) (env : Env) (n : List ℕ) (v : MaybeExpr) → InEnumOk env e → IsName n → WfMaybe env v 3 → InEnumOk env (add_enumerator e n v)
enumerator_ok (in_enum tag es s k) env n v i m w = (i.0, enumerators_last env es (record { name = n; value = v }) i.1 m w, i.2, i.3)

pub enum_close_good : (tag : Option (List ℕ)) (es : List Enumerator) (s : p.SpecsRead) (k : InSpecs) (has_comma : Bool) (env : Env) (f : List Tok → List Tok) → is_empty es ≡ false → InEnumOk env (in_enum tag es s k)
    → ((z : List Tok) → OptTag tag t.enums s k (mark g.LBrace ∷ put_commas put_enumerator es (put_comma_if has_comma z)) ≡ f z)
    → Adds f t.rbrace (at env (specs (in_specs (add_type s (p.enums tag (u.list (enumerators_of es) has_comma))) k)))
enum_close_good tag es s k has_comma env f n i e = record {
  ok = (list_some s.specs (p.enums tag (u.list (enumerators_of es) has_comma)), add_type_ok env s (p.enums tag (u.list (enumerators_of es) has_comma)) i.2 (i.0, some_enumerators env es n i.1, tt) (λ seen. refl) refl, i.3);
  spells = λ z.
      ap (before_specs k) (put_specs_last s.specs (p.enums tag (u.list (enumerators_of es) has_comma)) z)
      ∙ ap (λ a. OptTag tag t.enums s k (mark g.LBrace ∷ a)) (put_enumerators_of es (put_comma_if has_comma (mark g.RBrace ∷ z))) ∙ e (mark g.RBrace ∷ z);
}

pub enum_trailing_good : (e : InEnum) (env : Env) (f : List Tok → List Tok) → InEnumOk env e → ((z : List Tok) → before_enum e z ≡ f z) → Good (Adds f t.rbrace) (close_enum env e true)
enum_trailing_good (in_enum tag es s k) env f i e =
    by_test (Good (Adds f t.rbrace)) (is_empty es) _ _ (λ y. tt)
    (λ n. enum_close_good tag es s k true env f n i (λ z. ap (λ a. OptTag tag t.enums s k (mark g.LBrace ∷ a)) (commas_done put_enumerator es z n) ∙ e z))

pub enumerator_begin_good : (env : Env) (e : InEnum) (y : Symbol) (f : List Tok → List Tok) → Valid y → InEnumOk env e → ((z : List Tok) → before_enum e z ≡ f z) → Good (Adds f y) (enumerator_begin env e y)
enumerator_begin_good env e (t.name n) f v i s = record { ok = (v, i); spells = λ z. s (g.name n ∷ z) }
enumerator_begin_good env e t.rbrace f v i s = enum_trailing_good e env f i s
enumerator_begin_good env e _ f v i s = tt

pub enumerator_end_good : (e : InEnum) (env : Env) (n : List ℕ) (v : MaybeExpr) (y : Symbol) (f : List Tok → List Tok) → InEnumOk env e → IsName n → WfMaybe env v 3 → ((z : List Tok) → before_enum e (g.name n ∷ put_value v z) ≡ f z)
    → Good (Adds f y) (enumerator_end env (add_enumerator e n v) y)
enumerator_end_good (in_enum tag es s k) env n v t.comma f i m w h = record {
  ok = enumerator_ok (in_enum tag es s k) env n v i m w;
  spells = λ z. ap (λ a. OptTag tag t.enums s k (mark g.LBrace ∷ a)) (put_done_last put_enumerator es (record { name = n; value = v }) z) ∙ h (mark g.Com ∷ z);
}
enumerator_end_good (in_enum tag es s k) env n v t.rbrace f i m w h =
    by_test (Good (Adds f t.rbrace)) (is_empty (es ++ record { name = n; value = v } ∷ [])) _ _ (λ y. tt)
    (λ x. enum_close_good tag (es ++ record { name = n; value = v } ∷ []) s k false env f x (enumerator_ok (in_enum tag es s k) env n v i m w)
    (λ z. ap (λ a. OptTag tag t.enums s k (mark g.LBrace ∷ a)) (put_commas_last put_enumerator es (record { name = n; value = v }) z) ∙ h z))
enumerator_end_good e env n v _ f i m w h = tt

pub enumerator_next_good : (env : Env) (n : List ℕ) (e : InEnum) (y : Symbol) (f : List Tok → List Tok) → InEnumOk env e → IsName n → ((z : List Tok) → before_enum e (g.name n ∷ z) ≡ f z) → Good (Adds f y) (enumerator_next env n e y)
enumerator_next_good env n e (t.operator o) f i m s =
    by_test (Good (Adds f (t.operator o))) (is_equals o) _ _ (λ x. record { ok = (m, i); spells = λ z. s (mark g.Assign ∷ z) ∙ ap (λ a. f (a ∷ z)) (sym (equals_tok o x)) }) (λ x. tt)
enumerator_next_good env n e (t.name w) f i m s = enumerator_end_good e env n u.no_expr (t.name w) f i m tt s
enumerator_next_good env n e y f i m s = enumerator_end_good e env n u.no_expr y f i m tt s

-- ---- attributes

pub lparen_good : (env : Env) (a : InAttribute) (m : AttributeMode) (y : Symbol) (f : List Tok → List Tok) → AttributeModeOk m → InAttributeOk env a → ((z : List Tok) → before_attribute a (put_attribute_mode m z) ≡ f (mark g.LParen ∷ z))
    → Good (Adds f y) (want_lparen env a m y)
lparen_good env a m t.lparen f h i s = record { ok = (h, i); spells = s }
lparen_good env a m _ f h i s = tt

pub entry_good : (env : Env) (a : InAttribute) (es : List Entry) (y : Symbol) (f : List Tok → List Tok) → Valid y → WfAttribute es → InAttributeOk env a → ((z : List Tok) → before_attribute a (put_entries (put_done put_entry es z)) ≡ f z)
    → Good (Adds f y) (entry_begin env a es y)
entry_good env a es (t.name n) f v h i s = record { ok = ((h, v), i); spells = λ z. s (g.name n ∷ z) }
entry_good env a es _ f v h i s = tt

abbrev pub of_entry : List ℕ → Option (List Argument) → Entry
of_entry n xs = record { name = n; arguments = xs }

-- es has an entry
pub entry_end_good : (env : Env) (a : InAttribute) (es : List Entry) (n : List ℕ) (xs : Option (List Argument)) (y : Symbol) (f : List Tok → List Tok) → WfAttribute es → IsName n → WfArguments xs → InAttributeOk env a
    → ((z : List Tok) → before_attribute a (put_entries (put_done put_entry es (put_entry (of_entry n xs) z))) ≡ f z) → Good (Adds f y) (entry_end env a (add_entry es n xs) y)
entry_end_good env a es n xs t.comma f h m w i s = record {
  ok = ((all_last (λ e. IsName e.name × WfArguments e.arguments) es (of_entry n xs) h (m, w), list_some es (of_entry n xs)), i);
  spells = λ z. ap (λ b. before_attribute a (put_entries b)) (put_done_last put_entry es (of_entry n xs) z) ∙ s (mark g.Com ∷ z);
}
entry_end_good env a es n xs t.rparen f h m w i s = record {
  ok = (all_last (λ e. IsName e.name × WfArguments e.arguments) es (of_entry n xs) h (m, w), i);
  spells = λ z. ap (λ b. before_attribute a (put_entries b)) (put_commas_last put_entry es (of_entry n xs) (mark g.RParen ∷ z)) ∙ s (mark g.RParen ∷ z);
}
entry_end_good env a es n xs _ f h m w i s = tt

pub entry_next_good : (env : Env) (a : InAttribute) (es : List Entry) (n : List ℕ) (y : Symbol) (f : List Tok → List Tok) → WfAttribute es → IsName n → InAttributeOk env a
    → ((z : List Tok) → before_attribute a (put_entries (put_done put_entry es (g.name n ∷ z))) ≡ f z) → Good (Adds f y) (entry_next env a es n y)
entry_next_good env a es n t.lparen f h m i s = record { ok = ((h, m), i); spells = λ z. s (mark g.LParen ∷ z) }
entry_next_good env a es n (t.name w) f h m i s = entry_end_good env a es n None (t.name w) f h m tt i s
entry_next_good env a es n y f h m i s = entry_end_good env a es n None y f h m tt i s

pub argument_good : (env : Env) (a : InAttribute) (es : List Entry) (n : List ℕ) (xs : List Argument) (y : Symbol) (f : List Tok → List Tok) → Valid y → WfAttribute es → IsName n → AllByRecursion WfArgument xs → InAttributeOk env a
    → ((z : List Tok) → before_attribute a (put_entries (put_done put_entry es (g.name n ∷ mark g.LParen ∷ put_done put_argument xs z))) ≡ f z) → Good (Adds f y) (argument_begin env a es n xs y)
argument_good env a es n xs (t.number w) f v h m hx i s = record { ok = ((h, m, hx, v), i); spells = λ z. s (g.number w ∷ z) }
argument_good env a es n xs (t.text w) f v h m hx i s = record { ok = ((h, m, hx, ((λ e. cc), (v, tt))), i); spells = λ z. s (g.text w ∷ z) }
argument_good env a es n xs _ f v h m hx i s = tt

pub after_arguments_ok : (es : List Entry) (n : List ℕ) (xs : List Argument) → WfAttribute es → IsName n → AllByRecursion WfArgument xs → AttributeModeOk (after_entry (add_entry es n (Some xs)))
after_arguments_ok es n xs h m hx = (all_last (λ e. IsName e.name × WfArguments e.arguments) es (of_entry n (Some xs)) h (m, hx), list_some es (of_entry n (Some xs)))

pub arguments_good : (env : Env) (a : InAttribute) (es : List Entry) (n : List ℕ) (y : Symbol) (f : List Tok → List Tok) → Valid y → WfAttribute es → IsName n → InAttributeOk env a
    → ((z : List Tok) → before_attribute a (put_entries (put_done put_entry es (g.name n ∷ mark g.LParen ∷ z))) ≡ f z) → Good (Adds f y) (arguments_begin env a es n y)
arguments_good env a es n t.rparen f v h m i s = record {
  ok = (after_arguments_ok es n [] h m tt, i);
  spells = λ z. ap (λ b. before_attribute a (put_entries b)) (put_commas_last put_entry es (of_entry n (Some [])) z) ∙ s (mark g.RParen ∷ z);
}
arguments_good env a es n (t.name w) f v h m i s = argument_good env a es n [] (t.name w) f v h m tt i s
arguments_good env a es n y f v h m i s = argument_good env a es n [] y f v h m tt i s

pub text_good : (env : Env) (a : InAttribute) (es : List Entry) (n : List ℕ) (xs : List Argument) (x : Argument) (w : List ℕ) (f : List Tok → List Tok) → IsText w → WfAttribute es → IsName n → AllByRecursion WfArgument xs → WfArgument x → InAttributeOk env a
    → ((z : List Tok) → before_attribute a (put_entries (put_done put_entry es (g.name n ∷ mark g.LParen ∷ put_done put_argument xs (put_argument x z)))) ≡ f z) → Good (Adds f (t.text w)) (text_more env a es n xs x w)
text_good env a es n xs (u.NumberArgument q) w f v h m hx hz i s = tt
text_good env a es n xs (u.TextArgument qs) w f v h m hx hz i s = record {
  ok = ((h, m, hx, (list_some qs w, all_last IsText qs w hz.1 v)), i);
  spells = λ z. ap (λ b. before_attribute a (put_entries (put_done put_entry es (g.name n ∷ mark g.LParen ∷ put_done put_argument xs b)))) (put_all_last put_text qs w z) ∙ s (g.text w ∷ z);
}

pub argument_next_good : (env : Env) (a : InAttribute) (es : List Entry) (n : List ℕ) (xs : List Argument) (x : Argument) (y : Symbol) (f : List Tok → List Tok) → Valid y → WfAttribute es → IsName n → AllByRecursion WfArgument xs → WfArgument x
    → InAttributeOk env a → ((z : List Tok) → before_attribute a (put_entries (put_done put_entry es (g.name n ∷ mark g.LParen ∷ put_done put_argument xs (put_argument x z)))) ≡ f z) → Good (Adds f y) (argument_next env a es n xs x y)
argument_next_good env a es n xs x (t.text w) f v h m hx hz i s = text_good env a es n xs x w f v h m hx hz i s
argument_next_good env a es n xs x t.comma f v h m hx hz i s = record {
  ok = ((h, m, all_last WfArgument xs x hx hz, list_some xs x), i);
  spells = λ z. ap (λ b. before_attribute a (put_entries (put_done put_entry es (g.name n ∷ mark g.LParen ∷ b)))) (put_done_last put_argument xs x z) ∙ s (mark g.Com ∷ z);
}
argument_next_good env a es n xs x t.rparen f v h m hx hz i s = record {
  ok = (after_arguments_ok es n (xs ++ x ∷ []) h m (all_last WfArgument xs x hx hz), i);
  spells = λ z.
      ap (λ b. before_attribute a (put_entries b)) (put_commas_last put_entry es (of_entry n (Some (xs ++ x ∷ []))) z)
      ∙ ap (λ b. before_attribute a (put_entries (put_done put_entry es (g.name n ∷ mark g.LParen ∷ b)))) (put_commas_last put_argument xs x (mark g.RParen ∷ z)) ∙ s (mark g.RParen ∷ z);
}
argument_next_good env a es n xs x _ f v h m hx hz i s = tt

pub attribute_ok : (a : InAttribute) (env : Env) (es : List Entry) → WfAttribute es → InAttributeOk env a → ModeOk env (attribute_done a es)
attribute_ok (of_specs s k) env es h i = (list_some s.specs (p.attribute es), add_attribute_ok env s es i.0 h, i.1)
attribute_ok (of_read r) env es h i = record { v = i.v; before_ok = i.before_ok; named = i.named; apart = i.apart; wf = i.wf; attributes_ok = all_last WfAttribute r.attributes es i.attributes_ok h; env_is = i.env_is }

pub attribute_spells : (a : InAttribute) (es : List Entry) (z : List Tok) → before (attribute_done a es) z ≡ before_attribute a (put_attribute es z)
attribute_spells (of_specs s k) es z = ap (before_specs k) (put_specs_last s.specs (p.attribute es) z)
attribute_spells (of_read r) es z = ap (λ b. before_items r.before (put_declarator r.declarator b)) (put_all_last put_attribute r.attributes es z)

pub closing_good : (env : Env) (a : InAttribute) (es : List Entry) (y : Symbol) (f : List Tok → List Tok) → WfAttribute es → InAttributeOk env a → ((z : List Tok) → before_attribute a (put_entries (put_commas put_entry es (mark g.RParen ∷ z))) ≡ f z)
    → Good (Adds f y) (close_attribute env a es y)
closing_good env a es t.rparen f h i s = record { ok = attribute_ok a env es h i; spells = λ z. attribute_spells a es z ∙ s (mark g.RParen ∷ z) }
closing_good env a es _ f h i s = tt

-- behind an entry that is whole
pub whole_entry_good : (env : Env) (a : InAttribute) (es : List Entry) (y : Symbol) (f : List Tok → List Tok) → WfAttribute es → (es ≡ [] → ⊥) → InAttributeOk env a → ((z : List Tok) → before_attribute a (put_entries (put_commas put_entry es z)) ≡ f z)
    → Good (Adds f y) (entry_end env a es y)
whole_entry_good env a es t.comma f h n i s = record { ok = ((h, n), i); spells = λ z. ap (λ b. before_attribute a (put_entries b)) (sym (commas_done put_entry es z (no_empty es n))) ∙ s (mark g.Com ∷ z) }
  where
    no_empty : (es : List Entry) → (es ≡ [] → ⊥) → is_empty es ≡ false
    no_empty [] n = absurd (n refl)
    no_empty (e ∷ es) n = refl
whole_entry_good env a es t.rparen f h n i s = record { ok = (h, i); spells = λ z. s (mark g.RParen ∷ z) }
whole_entry_good env a es _ f h n i s = tt

pub entries_good : (env : Env) (a : InAttribute) (y : Symbol) (f : List Tok → List Tok) → Valid y → InAttributeOk env a → ((z : List Tok) → before_attribute a (put_entries z) ≡ f z) → Good (Adds f y) (entries_begin env a y)
entries_good env a t.rparen f v i s = record { ok = (tt, i); spells = λ z. s (mark g.RParen ∷ z) }
entries_good env a (t.name n) f v i s = entry_good env a [] (t.name n) f v tt i s
entries_good env a y f v i s = entry_good env a [] y f v tt i s

pub attribute_good : (env : Env) (a : InAttribute) (m : AttributeMode) (y : Symbol) (f : List Tok → List Tok) → Valid y → AttributeModeOk m → InAttributeOk env a → ((z : List Tok) → before_attribute a (put_attribute_mode m z) ≡ f z)
    → Good (Adds f y) (attribute_next env a m y)
attribute_good env a attribute_word y f v h i s = lparen_good env a attribute_opened y f tt i (λ z. s (mark g.LParen ∷ z))
attribute_good env a attribute_opened y f v h i s = lparen_good env a entries_opened y f tt i (λ z. s (mark g.LParen ∷ z))
attribute_good env a entries_opened y f v h i s = entries_good env a y f v i s
attribute_good env a (want_entry es) y f v h i s = entry_good env a es y f v h.0 i s
attribute_good env a (after_entry_name es n) y f v h i s = entry_next_good env a es n y f h.0 h.1 i s
attribute_good env a (arguments_opened es n) y f v h i s = arguments_good env a es n y f v h.0 h.1 i s
attribute_good env a (want_argument es n xs) y f v h i s = argument_good env a es n xs y f v h.0 h.1 h.2 i s
attribute_good env a (after_argument es n xs x) y f v h i s = argument_next_good env a es n xs x y f v h.0 h.1 h.2 h.3 i s
attribute_good env a (after_entry es) y f v h i s = whole_entry_good env a es y f h.0 h.1 i s
attribute_good env a (attribute_closing es) y f v h i s = closing_good env a es y f h i s
