-- The steps keep the numbers of depth: specs, records, enums and attributes.
use Rattle.std.proofs.Common.{◌≡◌, ◌≤◌, ℕ, suc, max, Bool, true, false, List, [], ◌∷◌, ◌++◌, map, Option, Some, None, refl, sym, ◌∙◌, ap, arith}
use Rattle.tok_base.specs.declared.token.Span.{Span}
use Rattle.c_tree.specs.declared.operator.At.{At}
use Rattle.c_tree.specs.Marked as u
use Rattle.c_tree.specs.Marked.{MaybeExpr, Entry, Argument, Attribute}
use Rattle.c_tree.specs.Bare.{bare_specs, bare_declarator, bare_argument, bare_arguments, bare_entry, bare_attribute, bare_maybe}
use Rattle.c_tree.specs.Wf.{Env}
use Rattle.c_tree.specs.Depth.{greatest, entry_depth, attribute_depth, specs_depth, fields_depth, enumerators_depth, maybe_depth, declarator_depth}
use Rattle.c_reader.specs.Symbol as t
use Rattle.c_reader.specs.Symbol.{Symbol, Tagged}
use Rattle.c_reader.specs.Begin.{is_empty, begins_specs}
use Rattle.c_reader.specs.Declarations.{is_equals}
use Rattle.c_reader.specs.Above.{arguments_depth, attribute_so_far}
use Rattle.c_reader.specs.MarkedParts as p
use Rattle.c_reader.specs.MarkedParts.{Open, mark, with_part, whole, Spec, SpecsRead, ArgumentRead, number_read, text_read, argument_of, specs_of, fields_of, enumerators_of, add_type, add_attribute}
use Rattle.c_reader.specs.MarkedInside.{InSpecs, InFields, InEnum, InAttribute, of_declaration, of_field, of_param, of_type, in_fields, in_enum, of_specs, of_read, AttributeMode, attribute_word, attribute_opened, entries_opened, want_entry, after_entry_name, arguments_opened, want_argument, after_argument, after_entry, attribute_closing, around_enum, specs_level}
use Rattle.c_reader.specs.MarkedBegin as rb
use Rattle.c_reader.specs.MarkedDeclarators as rd
use Rattle.c_reader.specs.MarkedSpecs as r
use Rattle.c_reader.proofs.Above.{greatest_last}
use Rattle.c_reader.proofs.Erased.{erase_attribute_mode, map-last, specs_erased, fields_erased, enumerators_erased}
use Rattle.c_reader.proofs.Counted.{Fits, specs_deep, fields_deep, enumerators_deep, attributes_deep, spec_deep, CountedDeclarator, CountedFields, CountedEnum, CountedRead, CountedIn, around_attribute, Counts, either_way, fresh, grown, grown2, as_it_is, specs_more, enumerators_more, attributes_more, type_counts, empty_fits}
use Rattle.c_reader.proofs.CountedDeclarations.{open_spec_counts, first_spec_counts}
use Rattle.c_reader.proofs.CountedDeclarators.{declarator_begin_counts}

-- ---- specs

-- the specs that were read are the first part of what stands there
read_fits : (o : Open) (level : ℕ) (ss : List Spec) → Fits o level (λ d. suc (max (specs_deep ss) d)) → Fits o level (λ d. suc (max (specs_depth (bare_specs (specs_of ss))) d))
read_fits o level ss h = (h.0, λ d. h.1 d ∙ ap (λ z. suc (max (specs_depth z) d)) (sym (specs_erased ss)))

read_fits2 : (o : Open) (level : ℕ) (ss : List Spec) → Fits o level (λ d. suc (max (specs_deep ss) d)) → Fits o level (λ d. suc (max (specs_depth (bare_specs (specs_of ss))) (max 0 d)))
read_fits2 o level ss h = (h.0, λ d. let f = (read_fits o level ss h).1 d in omega (arith, f))

behind_counts : (ss : SpecsRead) (k : InSpecs) → CountedRead ss k → CountedDeclarator (r.behind ss k)
behind_counts ss (of_declaration q) h = (read_fits2 ss.node _ ss.specs h.0, h.1)
behind_counts ss (of_field f) h = (read_fits2 ss.node _ ss.specs h.0, h.1)
behind_counts ss (of_param x) h = (read_fits ss.node _ ss.specs h.0, h.1)
behind_counts ss (of_type o c x) h = (h.1.0, read_fits ss.node o.level ss.specs h.0, h.1.1)

pub specs_counts : (n e : ℕ) (env : Env) (ss : SpecsRead) (k : InSpecs) (y : Symbol) (s : Span) → CountedRead ss k → Counts (r.specs_next n e env ss k y s)
specs_counts n e env ss k y s h =
    either_way (begins_specs env ss.seen y) (rb.open_spec n env ss k y s) (rd.declarator_begin n e env (r.behind ss k) y s)
    (open_spec_counts n env ss k y s h)
    (declarator_begin_counts n e env (r.behind ss k) y s (behind_counts ss k h))

-- ---- records and enums

tagged_opened_counts : (n : ℕ) (env : Env) (o : Open) (g : Tagged) (tag : Option (List ℕ)) (ss : SpecsRead) (k : InSpecs)
    → Fits o ss.node.level suc → CountedRead ss k → Counts (r.tagged_opened n env o g tag ss k)
tagged_opened_counts n env o (t.records is_union) tag ss k f h = (empty_fits o ss.node.level f, h)
tagged_opened_counts n env o t.enums tag ss k f h = (empty_fits o ss.node.level f, h)

pub tagged_counts : (n : ℕ) (env : Env) (o : Open) (g : Tagged) (ss : SpecsRead) (k : InSpecs) (y : Symbol)
    → Fits o ss.node.level suc → CountedRead ss k → Counts (r.tagged_next n env o g ss k y)
tagged_counts n env o g ss k (t.name x) f h = (f, h)
tagged_counts n env o g ss k t.lbrace f h = tagged_opened_counts n env o g None ss k f h
tagged_counts n env o g ss k _ f h = tt

tag_deep : (at : At) (g : Tagged) (x : List ℕ) → 1 ≡ spec_deep (r.tag_spec at g x)
tag_deep at (t.records is_union) x = refl
tag_deep at t.enums x = refl

pub tag_counts : (n e : ℕ) (env : Env) (o : Open) (g : Tagged) (x : List ℕ) (ss : SpecsRead) (k : InSpecs) (y : Symbol) (s : Span)
    → Fits o ss.node.level suc → CountedRead ss k → Counts (r.tag_next n e env o g x ss k y s)
tag_counts n e env o g x ss k t.lbrace s f h = tagged_opened_counts n env o g (Some x) ss k f h
tag_counts n e env o g x ss k y s f h =
    let z = r.tag_spec (mark o.from e n) g x in
    specs_counts (suc n) e env (add_type ss (whole o 0) z) k y s (type_counts ss k (whole o 0) z (f.1 0 ∙ tag_deep (mark o.from e n) g x) h)

with_body : (d s : ℕ) → d ≡ suc s → d ≡ max (suc s) 0
with_body d s e = omega (arith, e)

close_fields_counts : (n : ℕ) (env : Env) (f : InFields) (s : Span) → CountedFields f → Counts (r.close_fields n env f s)
close_fields_counts n env (in_fields o is_union tag fs ss k) s h =
    let deep = as_it_is o ss.node.level (fields_deep fs) h.0 ∙ ap (λ z. suc (fields_depth z)) (sym (fields_erased fs)) in
    either_way (is_empty fs) None _ tt (type_counts ss k (whole o 0) (p.records (mark o.from s.end n) is_union tag (u.body (fields_of fs))) (with_body (whole o 0) _ deep) h.1)

pub field_begin_counts : (n : ℕ) (env : Env) (f : InFields) (y : Symbol) (s : Span) → CountedFields f → Counts (r.field_begin n env f y s)
field_begin_counts n env f t.rbrace s h = close_fields_counts n env f s h
field_begin_counts n env f y s h = first_spec_counts n env (of_field f) y s h

enumerator_added : (n e : ℕ) (o : Open) (d : ℕ) (k : InEnum) (x : List ℕ) (v : MaybeExpr)
    → d ≡ maybe_depth (bare_maybe v) → Fits o (around_enum k).level suc → CountedEnum k → CountedEnum (r.add_enumerator n e o d k x v)
enumerator_added n e o d (in_enum k_o tag es ss k) x v g f h =
    (grown k_o ss.node.level (enumerators_deep es) _ (whole o d) h.0 (enumerators_more es (record { at = mark o.from e n; name = x; value = v }) (whole o d) (f.1 d ∙ ap suc g)), h.1)

close_enum_counts : (n : ℕ) (env : Env) (k : InEnum) (has_comma : Bool) (s : Span) → CountedEnum k → Counts (r.close_enum n env k has_comma s)
close_enum_counts n env (in_enum o tag es ss k) has_comma s h =
    let deep = as_it_is o ss.node.level (enumerators_deep es) h.0 ∙ ap (λ z. suc (enumerators_depth z)) (sym (enumerators_erased es)) in
    either_way (is_empty es) None _ tt (type_counts ss k (whole o 0) (p.enums (mark o.from s.end n) tag (u.list (enumerators_of es) has_comma)) (with_body (whole o 0) _ deep) h.1)

pub enumerator_begin_counts : (n : ℕ) (env : Env) (k : InEnum) (y : Symbol) (s : Span) → CountedEnum k → Counts (r.enumerator_begin n env k y s)
enumerator_begin_counts n env k (t.name x) s h = (fresh (around_enum k).level s.start, h)
enumerator_begin_counts n env k t.rbrace s h = close_enum_counts n env k true s h
enumerator_begin_counts n env k _ s h = tt

enumerator_end_counts : (n : ℕ) (env : Env) (k : InEnum) (y : Symbol) (s : Span) → CountedEnum k → Counts (r.enumerator_end n env k y s)
enumerator_end_counts n env k t.comma s h = h
enumerator_end_counts n env k t.rbrace s h = close_enum_counts n env k false s h
enumerator_end_counts n env k _ s h = tt

-- the token after an enumerator that is added
pub close_enumerator_counts : (n e : ℕ) (env : Env) (o : Open) (d : ℕ) (k : InEnum) (x : List ℕ) (v : MaybeExpr) (y : Symbol) (s : Span)
    → d ≡ maybe_depth (bare_maybe v) → Fits o (around_enum k).level suc → CountedEnum k → Counts (r.enumerator_end (suc n) env (r.add_enumerator n e o d k x v) y s)
close_enumerator_counts n e env o d k x v y s g f h = enumerator_end_counts (suc n) env (r.add_enumerator n e o d k x v) y s (enumerator_added n e o d k x v g f h)

pub enumerator_counts : (n e : ℕ) (env : Env) (o : Open) (x : List ℕ) (k : InEnum) (y : Symbol) (s : Span)
    → Fits o (around_enum k).level suc → CountedEnum k → Counts (r.enumerator_next n e env o x k y s)
enumerator_counts n e env o x k (t.operator z) s f h = either_way (is_equals z) _ None (f, h) tt
enumerator_counts n e env o x k y s f h = close_enumerator_counts n e env o 0 k x u.no_expr y s refl f h

-- ---- attributes

-- one spec more, an attribute
attribute_counts : (ss : SpecsRead) (k : InSpecs) (d : ℕ) (x : Attribute) → d ≡ attribute_depth (bare_attribute x) → CountedRead ss k → CountedRead (add_attribute ss d x) k
attribute_counts ss k d x g h =
    (grown ss.node (specs_level k) (specs_deep ss.specs) (specs_deep (ss.specs ++ p.attribute x ∷ [])) d h.0 (specs_more ss.specs (p.attribute x) d (omega (arith, g))), h.1)

done_counts : (n : ℕ) (env : Env) (d : ℕ) (a : InAttribute) (x : Attribute) → d ≡ attribute_depth (bare_attribute x) → CountedIn a → Counts (r.attribute_done n env d a x)
done_counts n env d (of_specs ss k) x g h = attribute_counts ss k d x g h
done_counts n env d (of_read v) x g h =
    (grown2 v.node v.before.node.level (declarator_depth (bare_declarator v.declarator)) (attributes_deep v.attributes) _ d h.0 (attributes_more v.attributes x d g), h.1)

-- the attribute, and the depth of what was read of it
abbrev CountedAt : Open → InAttribute → ℕ → Type 0
CountedAt o a d = (o.level ≡ suc (around_attribute a).level) × (whole o 0 ≡ d) × CountedIn a

abbrev entries_deep : List Entry → ℕ
entries_deep es = greatest entry_depth (map bare_entry es)

abbrev deep_arguments : List Argument → ℕ
deep_arguments xs = arguments_depth (map bare_argument xs)

arguments_more : (xs : List Argument) (x : Argument) → deep_arguments (xs ++ x ∷ []) ≡ max (deep_arguments xs) 1
arguments_more xs x = ap arguments_depth (map-last bare_argument xs x) ∙ greatest_last (λ _. 1) (map bare_argument xs) (bare_argument x)

entries_more : (es : List Entry) (x : List ℕ) (xs : Option (List Argument)) (d : ℕ)
    → entry_depth (record { name = x; arguments = bare_arguments xs }) ≡ d → entries_deep (r.add_entry es x xs) ≡ max (entries_deep es) d
entries_more es x xs d e = ap (greatest entry_depth) (map-last bare_entry es _) ∙ greatest_last entry_depth (map bare_entry es) _ ∙ ap (λ z. max (entries_deep es) z) e

-- no argument is deeper than another
one_deep : (xs : List Argument) → deep_arguments xs ≤ 1
one_deep [] = omega arith
one_deep (x ∷ xs) = let h = one_deep xs in omega (arith, h)

lparen_counts : (n : ℕ) (env : Env) (o : Open) (a : InAttribute) (c : AttributeMode) (y : Symbol) → CountedAt o a (attribute_so_far (erase_attribute_mode c)) → Counts (r.want_lparen n env o a c y)
lparen_counts n env o a c t.lparen h = h
lparen_counts n env o a c _ h = tt

entry_begin_counts : (n : ℕ) (env : Env) (o : Open) (a : InAttribute) (es : List Entry) (y : Symbol) → CountedAt o a (suc (entries_deep es)) → Counts (r.entry_begin n env o a es y)
entry_begin_counts n env o a es (t.name x) h = h
entry_begin_counts n env o a es _ h = tt

entries_counts : (n : ℕ) (env : Env) (o : Open) (a : InAttribute) (y : Symbol) → CountedAt o a 1 → Counts (r.entries_begin n env o a y)
entries_counts n env o a t.rparen h = h
entries_counts n env o a y h = entry_begin_counts n env o a [] y h

entry_end_counts : (n : ℕ) (env : Env) (o : Open) (a : InAttribute) (es : List Entry) (y : Symbol) → CountedAt o a (suc (entries_deep es)) → Counts (r.entry_end n env o a es y)
entry_end_counts n env o a es t.comma h = h
entry_end_counts n env o a es t.rparen h = h
entry_end_counts n env o a es _ h = tt

-- with one entry more
at_entry : (o : Open) (a : InAttribute) (es : List Entry) (x : List ℕ) (xs : Option (List Argument)) (d : ℕ)
    → entry_depth (record { name = x; arguments = bare_arguments xs }) ≡ d → CountedAt o a (suc (max (entries_deep es) d)) → CountedAt o a (suc (entries_deep (r.add_entry es x xs)))
at_entry o a es x xs d e h = (h.0, h.1 ∙ ap suc (sym (entries_more es x xs d e)), h.2)

no_more : (o : Open) (a : InAttribute) (s : ℕ) → CountedAt o a (suc s) → CountedAt o a (suc (max s 0))
no_more o a s h = (h.0, let f = h.1 in omega (arith, f), h.2)

entry_counts : (n : ℕ) (env : Env) (o : Open) (a : InAttribute) (es : List Entry) (x : List ℕ) (y : Symbol) → CountedAt o a (suc (entries_deep es)) → Counts (r.entry_next n env o a es x y)
entry_counts n env o a es x t.lparen h = h
entry_counts n env o a es x y h = entry_end_counts n env o a (r.add_entry es x None) y (at_entry o a es x None 0 refl (no_more o a (entries_deep es) h))

-- an argument begins
at_argument : (o : Open) (a : InAttribute) (s m : ℕ) → m ≤ 1 → CountedAt o a (suc (max s m)) → CountedAt (with_part o 1) a (suc (max s 1))
at_argument o a s m l h = (h.0, let f = h.1 in omega (arith, f, l), h.2)

argument_begin_counts : (n : ℕ) (env : Env) (o : Open) (a : InAttribute) (es : List Entry) (x : List ℕ) (xs : List Argument) (y : Symbol) (s : Span)
    → CountedAt o a (suc (max (entries_deep es) (deep_arguments xs))) → Counts (r.argument_begin n env o a es x xs y s)
argument_begin_counts n env o a es x xs (t.number v) s h = at_argument o a (entries_deep es) (deep_arguments xs) (one_deep xs) h
argument_begin_counts n env o a es x xs (t.text v) s h = at_argument o a (entries_deep es) (deep_arguments xs) (one_deep xs) h
argument_begin_counts n env o a es x xs _ s h = tt

arguments_counts : (n : ℕ) (env : Env) (o : Open) (a : InAttribute) (es : List Entry) (x : List ℕ) (y : Symbol) (s : Span)
    → CountedAt o a (suc (entries_deep es)) → Counts (r.arguments_begin n env o a es x y s)
arguments_counts n env o a es x t.rparen s h = at_entry o a es x (Some []) 0 refl (no_more o a (entries_deep es) h)
arguments_counts n env o a es x y s h = argument_begin_counts n env o a es x [] y s (no_more o a (entries_deep es) h)

text_counts : (n : ℕ) (env : Env) (o : Open) (v_from : ℕ) (a : InAttribute) (es : List Entry) (x : List ℕ) (xs : List Argument) (v : ArgumentRead) (w : List ℕ)
    → CountedAt o a (suc (max (entries_deep es) 1)) → Counts (r.text_more n env o v_from a es x xs v w)
text_counts n env o v_from a es x xs (number_read v) w h = tt
text_counts n env o v_from a es x xs (text_read vs) w h = h

-- an argument ends
at_last : (o : Open) (a : InAttribute) (s : ℕ) (xs : List Argument) (x : Argument) → CountedAt o a (suc (max s 1)) → CountedAt o a (suc (max s (deep_arguments (xs ++ x ∷ []))))
at_last o a s xs x h = (h.0, let f = h.1 in let l = one_deep xs in let e = arguments_more xs x in omega (arith, f, l, e), h.2)

argument_counts : (n e : ℕ) (env : Env) (o : Open) (v_from : ℕ) (a : InAttribute) (es : List Entry) (x : List ℕ) (xs : List Argument) (v : ArgumentRead) (y : Symbol)
    → CountedAt o a (suc (max (entries_deep es) 1)) → Counts (r.argument_next n e env o v_from a es x xs v y)
argument_counts n e env o v_from a es x xs v (t.text w) h = text_counts n env o v_from a es x xs v w h
argument_counts n e env o v_from a es x xs v t.comma h = at_last o a (entries_deep es) xs (argument_of (mark v_from e n) v) h
argument_counts n e env o v_from a es x xs v t.rparen h =
    let z = argument_of (mark v_from e n) v in
    at_entry o a es x (Some (xs ++ z ∷ [])) (deep_arguments (xs ++ z ∷ [])) refl (at_last o a (entries_deep es) xs z h)
argument_counts n e env o v_from a es x xs v _ h = tt

close_attribute_counts : (n : ℕ) (env : Env) (o : Open) (a : InAttribute) (es : List Entry) (y : Symbol) (s : Span) → CountedAt o a (suc (entries_deep es)) → Counts (r.close_attribute n env o a es y s)
close_attribute_counts n env o a es t.rparen s h = done_counts (suc n) env (whole o 0) a (record { at = mark o.from s.end n; entries = es }) h.1 h.2
close_attribute_counts n env o a es _ s h = tt

pub attribute_step_counts : (n e : ℕ) (env : Env) (o : Open) (a : InAttribute) (c : AttributeMode) (y : Symbol) (s : Span)
    → CountedAt o a (attribute_so_far (erase_attribute_mode c)) → Counts (r.attribute_next n e env o a c y s)
attribute_step_counts n e env o a attribute_word y s h = lparen_counts n env o a attribute_opened y h
attribute_step_counts n e env o a attribute_opened y s h = lparen_counts n env o a entries_opened y h
attribute_step_counts n e env o a entries_opened y s h = entries_counts n env o a y h
attribute_step_counts n e env o a (want_entry es) y s h = entry_begin_counts n env o a es y h
attribute_step_counts n e env o a (after_entry_name es x) y s h = entry_counts n env o a es x y h
attribute_step_counts n e env o a (arguments_opened es x) y s h = arguments_counts n env o a es x y s h
attribute_step_counts n e env o a (want_argument es x xs) y s h = argument_begin_counts n env o a es x xs y s h
attribute_step_counts n e env o a (after_argument v_from es x xs v) y s h = argument_counts n e env o v_from a es x xs v y h
attribute_step_counts n e env o a (after_entry es) y s h = entry_end_counts n env o a es y h
attribute_step_counts n e env o a (attribute_closing es) y s h = close_attribute_counts n env o a es y s h
