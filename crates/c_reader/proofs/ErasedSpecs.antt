-- Without places and numbers: specs, records, enums and attributes.
use Rattle.std.proofs.Common.{◌≡◌, ℕ, suc, Bool, true, false, List, [], ◌∷◌, ◌++◌, map, Option, Some, None, refl, ◌∙◌, ap}
use Rattle.tok_base.specs.declared.token.Span.{Span}
use Rattle.c_tree.specs.declared.operator.At.{At}
use Rattle.c_tree.specs.Tree as b
use Rattle.c_tree.specs.Marked as u
use Rattle.c_tree.specs.Marked.{MaybeExpr, Entry, Argument, Attribute}
use Rattle.c_tree.specs.Bare.{bare_declarator, bare_argument, bare_arguments, bare_entry, bare_attribute, bare_maybe}
use Rattle.c_tree.specs.Wf.{Env}
use Rattle.c_reader.specs.Symbol as t
use Rattle.c_reader.specs.Symbol.{Symbol, Tagged}
use Rattle.c_reader.specs.Parts as p
use Rattle.c_reader.specs.Inside as i
use Rattle.c_reader.specs.Begin.{is_empty, begins_specs}
use Rattle.c_reader.specs.Declarations.{is_equals}
use Rattle.c_reader.specs.Declarators as md
use Rattle.c_reader.specs.Specs as m
use Rattle.c_reader.specs.MarkedParts as k
use Rattle.c_reader.specs.MarkedParts.{Open, mark, whole, SpecsRead, ArgumentRead, number_read, text_read, argument_of, add_type, fields_of, enumerators_of}
use Rattle.c_reader.specs.MarkedInside.{InSpecs, InFields, InEnum, InAttribute, of_declaration, of_field, of_param, of_type, in_fields, in_enum, of_specs, of_read, AttributeMode, attribute_word, attribute_opened, entries_opened, want_entry, after_entry_name, arguments_opened, want_argument, after_argument, after_entry, attribute_closing}
use Rattle.c_reader.specs.MarkedSpecs as r
use Rattle.c_reader.proofs.Erased.{erase_spec, erase_field, erase_enumerator, erase_argument, erase_specs_read, erase_items, erase_declaration, erase_declarator, erase_type, erase_expr, erase_specs, erase_fields, erase_enum, erase_params, erase_in_attribute, erase_attribute_mode, erased, map-last, map-empty, specs_erased, fields_erased, enumerators_erased, same_test}
use Rattle.c_reader.proofs.ErasedDeclarations.{type_added, attribute_added, open_spec_step, first_spec_step}
use Rattle.c_reader.proofs.ErasedDeclarators.{declarator_begin_step}

-- ---- specs

behind_erased : (ss : SpecsRead) (k : InSpecs) → erase_declarator (r.behind ss k) ≡ m.behind (erase_specs_read ss) (erase_specs k)
behind_erased ss (of_declaration q) = ap (λ xs. i.in_item (record { specs = xs; typedef = ss.typedef; items = []; place = erase_declaration q })) (specs_erased ss.specs)
behind_erased ss (of_field f) = ap (λ xs. i.in_field (erase_fields f) xs []) (specs_erased ss.specs)
behind_erased ss (of_param x) = ap (i.in_param (erase_params x)) (specs_erased ss.specs)
behind_erased ss (of_type o c x) = ap (i.in_type (erase_type c) (erase_expr x)) (specs_erased ss.specs)

pub specs_step : (n e : ℕ) (env : Env) (ss : SpecsRead) (k : InSpecs) (y : Symbol) (s : Span)
    → erased (r.specs_next n e env ss k y s) ≡ m.specs_next env (erase_specs_read ss) (erase_specs k) y
specs_step n e env ss k y s =
    same_test (begins_specs env ss.seen y) (begins_specs env ss.seen y) _ _ _ _ refl (open_spec_step n env ss k y s)
    (declarator_begin_step n e env (r.behind ss k) y s ∙ ap (λ d. md.declarator_begin env d y) (behind_erased ss k))

-- ---- records and enums

opened_step : (n : ℕ) (env : Env) (o : Open) (g : Tagged) (tag : Option (List ℕ)) (ss : SpecsRead) (k : InSpecs)
    → erased (r.tagged_opened n env o g tag ss k) ≡ i.at env (m.tagged_opened g tag (erase_specs_read ss) (erase_specs k))
opened_step n env o (t.records is_union) tag ss k = refl
opened_step n env o t.enums tag ss k = refl

pub tagged_step : (n : ℕ) (env : Env) (o : Open) (g : Tagged) (ss : SpecsRead) (k : InSpecs) (y : Symbol)
    → erased (r.tagged_next n env o g ss k y) ≡ m.tagged_next env g (erase_specs_read ss) (erase_specs k) y
tagged_step n env o g ss k (t.name x) = refl
tagged_step n env o g ss k t.lbrace = opened_step n env o g None ss k
tagged_step n env o g ss k _ = refl

tag_erased : (at : At) (g : Tagged) (x : List ℕ) → erase_spec (r.tag_spec at g x) ≡ m.tag_spec g x
tag_erased at (t.records is_union) x = refl
tag_erased at t.enums x = refl

tag_added : (ss : SpecsRead) (d : ℕ) (at : At) (g : Tagged) (x : List ℕ) → erase_specs_read (add_type ss d (r.tag_spec at g x)) ≡ p.add_type (erase_specs_read ss) (m.tag_spec g x)
tag_added ss d at g x = type_added ss d (r.tag_spec at g x) ∙ ap (p.add_type (erase_specs_read ss)) (tag_erased at g x)

pub tag_step : (n e : ℕ) (env : Env) (o : Open) (g : Tagged) (x : List ℕ) (ss : SpecsRead) (k : InSpecs) (y : Symbol) (s : Span)
    → erased (r.tag_next n e env o g x ss k y s) ≡ m.tag_next env g x (erase_specs_read ss) (erase_specs k) y
tag_step n e env o g x ss k t.lbrace s = opened_step n env o g (Some x) ss k
tag_step n e env o g x ss k y s =
    specs_step (suc n) e env (add_type ss (whole o 0) (r.tag_spec (mark o.from e n) g x)) k y s ∙ ap (λ z. m.specs_next env z (erase_specs k) y) (tag_added ss (whole o 0) (mark o.from e n) g x)

-- one spec more, as it is written there
with_type : (env : Env) (ss : SpecsRead) (d : ℕ) (x : k.Spec) (z : p.Spec) (c : i.InSpecs) → erase_spec x ≡ z
    → i.at env (i.specs (i.in_specs (erase_specs_read (add_type ss d x)) c)) ≡ i.at env (i.specs (i.in_specs (p.add_type (erase_specs_read ss) z) c))
with_type env ss d x z c e = ap (λ v. i.at env (i.specs (i.in_specs v c))) (type_added ss d x ∙ ap (p.add_type (erase_specs_read ss)) e)

close_fields_step : (n : ℕ) (env : Env) (f : InFields) (s : Span) → erased (r.close_fields n env f s) ≡ m.close_fields env (erase_fields f)
close_fields_step n env (in_fields o is_union tag fs ss c) s =
    same_test (is_empty fs) (is_empty (map erase_field fs)) _ _ _ _ (map-empty erase_field fs) refl
    (with_type env ss (whole o 0) (k.records (mark o.from s.end n) is_union tag (u.body (fields_of fs))) _ (erase_specs c) (ap (λ xs. p.records is_union tag (b.body xs)) (fields_erased fs)))

pub field_begin_step : (n : ℕ) (env : Env) (f : InFields) (y : Symbol) (s : Span) → erased (r.field_begin n env f y s) ≡ m.field_begin env (erase_fields f) y
field_begin_step n env f t.rbrace s = close_fields_step n env f s
field_begin_step n env f y s = first_spec_step n env (of_field f) y s

enumerator_added : (n e : ℕ) (o : Open) (d : ℕ) (c : InEnum) (x : List ℕ) (v : MaybeExpr) → erase_enum (r.add_enumerator n e o d c x v) ≡ m.add_enumerator (erase_enum c) x (bare_maybe v)
enumerator_added n e o d (in_enum k_o tag es ss c) x v = ap (λ xs. i.in_enum tag xs (erase_specs_read ss) (erase_specs c)) (map-last erase_enumerator es _)

close_enum_step : (n : ℕ) (env : Env) (c : InEnum) (has_comma : Bool) (s : Span) → erased (r.close_enum n env c has_comma s) ≡ m.close_enum env (erase_enum c) has_comma
close_enum_step n env (in_enum o tag es ss c) has_comma s =
    same_test (is_empty es) (is_empty (map erase_enumerator es)) _ _ _ _ (map-empty erase_enumerator es) refl
    (with_type env ss (whole o 0) (k.enums (mark o.from s.end n) tag (u.list (enumerators_of es) has_comma)) _ (erase_specs c) (ap (λ xs. p.enums tag (b.list xs has_comma)) (enumerators_erased es)))

pub enumerator_begin_step : (n : ℕ) (env : Env) (c : InEnum) (y : Symbol) (s : Span) → erased (r.enumerator_begin n env c y s) ≡ m.enumerator_begin env (erase_enum c) y
enumerator_begin_step n env c (t.name x) s = refl
enumerator_begin_step n env c t.rbrace s = close_enum_step n env c true s
enumerator_begin_step n env c _ s = refl

enumerator_end_step : (n : ℕ) (env : Env) (c : InEnum) (y : Symbol) (s : Span) → erased (r.enumerator_end n env c y s) ≡ m.enumerator_end env (erase_enum c) y
enumerator_end_step n env c t.comma s = refl
enumerator_end_step n env c t.rbrace s = close_enum_step n env c false s
enumerator_end_step n env c _ s = refl

-- the token after an enumerator that is added
pub close_enumerator_step : (n e : ℕ) (env : Env) (o : Open) (d : ℕ) (c : InEnum) (x : List ℕ) (v : MaybeExpr) (y : Symbol) (s : Span)
    → erased (r.enumerator_end (suc n) env (r.add_enumerator n e o d c x v) y s) ≡ m.enumerator_end env (m.add_enumerator (erase_enum c) x (bare_maybe v)) y
close_enumerator_step n e env o d c x v y s =
    enumerator_end_step (suc n) env (r.add_enumerator n e o d c x v) y s ∙ ap (λ z. m.enumerator_end env z y) (enumerator_added n e o d c x v)

pub enumerator_step : (n e : ℕ) (env : Env) (o : Open) (x : List ℕ) (c : InEnum) (y : Symbol) (s : Span)
    → erased (r.enumerator_next n e env o x c y s) ≡ m.enumerator_next env x (erase_enum c) y
enumerator_step n e env o x c (t.operator z) s = same_test (is_equals z) (is_equals z) _ _ _ _ refl refl refl
enumerator_step n e env o x c y s = close_enumerator_step n e env o 0 c x u.no_expr y s

-- ---- attributes

done_step : (n : ℕ) (env : Env) (d : ℕ) (a : InAttribute) (x : Attribute) → erased (r.attribute_done n env d a x) ≡ i.at env (m.attribute_done (erase_in_attribute a) (bare_attribute x))
done_step n env d (of_specs ss c) x = ap (λ z. i.at env (i.specs (i.in_specs z (erase_specs c)))) (attribute_added ss d x)
done_step n env d (of_read v) x =
    ap (λ xs. i.at env (i.after_attributes (record { before = erase_items v.before; declarator = bare_declarator v.declarator; attributes = xs }))) (map-last bare_attribute v.attributes x)

abbrev Modes : Env → InAttribute → i.AttributeMode → i.AttributeMode → Type 0
Modes env a c d = i.at env (i.in_attribute c (erase_in_attribute a)) ≡ i.at env (i.in_attribute d (erase_in_attribute a))

same_mode : (env : Env) (a : InAttribute) {c d : i.AttributeMode} → c ≡ d → Modes env a c d
same_mode env a e = ap (λ x. i.at env (i.in_attribute x (erase_in_attribute a))) e

entry_added : (es : List Entry) (x : List ℕ) (xs : Option (List Argument)) → map bare_entry (r.add_entry es x xs) ≡ m.add_entry (map bare_entry es) x (bare_arguments xs)
entry_added es x xs = map-last bare_entry es _

lparen_step : (n : ℕ) (env : Env) (o : Open) (a : InAttribute) (c : AttributeMode) (y : Symbol)
    → erased (r.want_lparen n env o a c y) ≡ m.want_lparen env (erase_in_attribute a) (erase_attribute_mode c) y
lparen_step n env o a c t.lparen = refl
lparen_step n env o a c _ = refl

entry_begin_step : (n : ℕ) (env : Env) (o : Open) (a : InAttribute) (es : List Entry) (y : Symbol)
    → erased (r.entry_begin n env o a es y) ≡ m.entry_begin env (erase_in_attribute a) (map bare_entry es) y
entry_begin_step n env o a es (t.name x) = refl
entry_begin_step n env o a es _ = refl

entries_step : (n : ℕ) (env : Env) (o : Open) (a : InAttribute) (y : Symbol) → erased (r.entries_begin n env o a y) ≡ m.entries_begin env (erase_in_attribute a) y
entries_step n env o a t.rparen = refl
entries_step n env o a y = entry_begin_step n env o a [] y

entry_end_step : (n : ℕ) (env : Env) (o : Open) (a : InAttribute) (es : List Entry) (y : Symbol)
    → erased (r.entry_end n env o a es y) ≡ m.entry_end env (erase_in_attribute a) (map bare_entry es) y
entry_end_step n env o a es t.comma = refl
entry_end_step n env o a es t.rparen = refl
entry_end_step n env o a es _ = refl

entry_step : (n : ℕ) (env : Env) (o : Open) (a : InAttribute) (es : List Entry) (x : List ℕ) (y : Symbol)
    → erased (r.entry_next n env o a es x y) ≡ m.entry_next env (erase_in_attribute a) (map bare_entry es) x y
entry_step n env o a es x t.lparen = refl
entry_step n env o a es x y = entry_end_step n env o a (r.add_entry es x None) y ∙ ap (λ z. m.entry_end env (erase_in_attribute a) z y) (entry_added es x None)

argument_begin_step : (n : ℕ) (env : Env) (o : Open) (a : InAttribute) (es : List Entry) (x : List ℕ) (xs : List Argument) (y : Symbol) (s : Span)
    → erased (r.argument_begin n env o a es x xs y s) ≡ m.argument_begin env (erase_in_attribute a) (map bare_entry es) x (map bare_argument xs) y
argument_begin_step n env o a es x xs (t.number v) s = refl
argument_begin_step n env o a es x xs (t.text v) s = refl
argument_begin_step n env o a es x xs _ s = refl

arguments_step : (n : ℕ) (env : Env) (o : Open) (a : InAttribute) (es : List Entry) (x : List ℕ) (y : Symbol) (s : Span)
    → erased (r.arguments_begin n env o a es x y s) ≡ m.arguments_begin env (erase_in_attribute a) (map bare_entry es) x y
arguments_step n env o a es x t.rparen s = same_mode env a (ap i.after_entry (entry_added es x (Some [])))
arguments_step n env o a es x y s = argument_begin_step n env o a es x [] y s

text_step : (n : ℕ) (env : Env) (o : Open) (v_from : ℕ) (a : InAttribute) (es : List Entry) (x : List ℕ) (xs : List Argument) (v : ArgumentRead) (w : List ℕ)
    → erased (r.text_more n env o v_from a es x xs v w) ≡ m.text_more env (erase_in_attribute a) (map bare_entry es) x (map bare_argument xs) (erase_argument v) w
text_step n env o v_from a es x xs (number_read v) w = refl
text_step n env o v_from a es x xs (text_read vs) w = refl

argument_erased : (at : At) (v : ArgumentRead) → bare_argument (argument_of at v) ≡ erase_argument v
argument_erased at (number_read v) = refl
argument_erased at (text_read vs) = refl

argument_added : (at : At) (xs : List Argument) (v : ArgumentRead) → map bare_argument (xs ++ argument_of at v ∷ []) ≡ map bare_argument xs ++ erase_argument v ∷ []
argument_added at xs v = map-last bare_argument xs (argument_of at v) ∙ ap (λ z. map bare_argument xs ++ z ∷ []) (argument_erased at v)

argument_step : (n e : ℕ) (env : Env) (o : Open) (v_from : ℕ) (a : InAttribute) (es : List Entry) (x : List ℕ) (xs : List Argument) (v : ArgumentRead) (y : Symbol)
    → erased (r.argument_next n e env o v_from a es x xs v y) ≡ m.argument_next env (erase_in_attribute a) (map bare_entry es) x (map bare_argument xs) (erase_argument v) y
argument_step n e env o v_from a es x xs v (t.text w) = text_step n env o v_from a es x xs v w
argument_step n e env o v_from a es x xs v t.comma = same_mode env a (ap (i.want_argument (map bare_entry es) x) (argument_added (mark v_from e n) xs v))
argument_step n e env o v_from a es x xs v t.rparen =
    same_mode env a (ap i.after_entry (entry_added es x (Some (xs ++ argument_of (mark v_from e n) v ∷ []))
    ∙ ap (λ z. m.add_entry (map bare_entry es) x (Some z)) (argument_added (mark v_from e n) xs v)))
argument_step n e env o v_from a es x xs v _ = refl

close_attribute_step : (n : ℕ) (env : Env) (o : Open) (a : InAttribute) (es : List Entry) (y : Symbol) (s : Span)
    → erased (r.close_attribute n env o a es y s) ≡ m.close_attribute env (erase_in_attribute a) (map bare_entry es) y
close_attribute_step n env o a es t.rparen s = done_step (suc n) env (whole o 0) a (record { at = mark o.from s.end n; entries = es })
close_attribute_step n env o a es _ s = refl

pub attribute_step : (n e : ℕ) (env : Env) (o : Open) (a : InAttribute) (c : AttributeMode) (y : Symbol) (s : Span)
    → erased (r.attribute_next n e env o a c y s) ≡ m.attribute_next env (erase_in_attribute a) (erase_attribute_mode c) y
attribute_step n e env o a attribute_word y s = lparen_step n env o a attribute_opened y
attribute_step n e env o a attribute_opened y s = lparen_step n env o a entries_opened y
attribute_step n e env o a entries_opened y s = entries_step n env o a y
attribute_step n e env o a (want_entry es) y s = entry_begin_step n env o a es y
attribute_step n e env o a (after_entry_name es x) y s = entry_step n env o a es x y
attribute_step n e env o a (arguments_opened es x) y s = arguments_step n env o a es x y s
attribute_step n e env o a (want_argument es x xs) y s = argument_begin_step n env o a es x xs y s
attribute_step n e env o a (after_argument v_from es x xs v) y s = argument_step n e env o v_from a es x xs v y
attribute_step n e env o a (after_entry es) y s = entry_end_step n env o a es y
attribute_step n e env o a (attribute_closing es) y s = close_attribute_step n env o a es y s
