-- Specs, and what stands inside them, with places and numbers: records, enums and attributes.
use Rattle.std.specs.Prelude.{ℕ, suc, Bool, true, false, if◌then◌else◌, List, [], ◌∷◌, ◌++◌, Option, Some, None}
use Rattle.tok_base.specs.declared.token.Span.{Span}
use Rattle.c_tree.specs.declared.operator.At.{At}
use Rattle.c_tree.specs.Marked as u
use Rattle.c_tree.specs.Marked.{MaybeExpr, Entry, Argument, Attribute}
use Rattle.c_tree.specs.Wf.{Env}
use Rattle.c_reader.specs.Symbol as t
use Rattle.c_reader.specs.Symbol.{Symbol, Tagged}
use Rattle.c_reader.specs.Begin.{is_empty, begins_specs}
use Rattle.c_reader.specs.Declarations.{is_equals}
use Rattle.c_reader.specs.MarkedParts as p
use Rattle.c_reader.specs.MarkedParts.{Open, mark, opens, with_part, whole, Spec, SpecsRead, ArgumentRead, number_read, text_read, argument_of, specs_of, fields_of, enumerators_of, add_type, add_attribute}
use Rattle.c_reader.specs.MarkedInside.{InDeclarator, InSpecs, InFields, InEnum, InAttribute, in_value, in_item, in_field, in_param, in_type, of_declaration, of_field, of_param, of_type, in_fields, in_enum, of_specs, of_read, AttributeMode, attribute_word, attribute_opened, entries_opened, want_entry, after_entry_name, arguments_opened, want_argument, after_argument, after_entry, attribute_closing, in_specs, after_tag, want_field, want_enumerator, after_enumerator, want_expr, in_attribute, specs, after_attributes, expr, around_enum, Next, go_on}
use Rattle.c_reader.specs.MarkedBegin.{open_spec, first_spec}
use Rattle.c_reader.specs.MarkedDeclarators.{declarator_begin}

-- ---- specs

-- where the declarator behind the specs stands
abbrev pub behind : SpecsRead → InSpecs → InDeclarator
behind ss (of_declaration q) = in_item (record { node = ss.node; specs = specs_of ss.specs; typedef = ss.typedef; items = []; place = q })
behind ss (of_field f) = in_field ss.node f (specs_of ss.specs) []
behind ss (of_param k) = in_param ss.node k (specs_of ss.specs)
behind ss (of_type o p k) = in_type o ss.node p k (specs_of ss.specs)

abbrev pub specs_next : ℕ → ℕ → Env → SpecsRead → InSpecs → Symbol → Span → Option Next
specs_next n e env ss k y s = if begins_specs env ss.seen y then open_spec n env ss k y s else declarator_begin n e env (behind ss k) y s

-- ---- records and enums

abbrev pub tagged_opened : ℕ → Env → Open → Tagged → Option (List ℕ) → SpecsRead → InSpecs → Option Next
tagged_opened n env o (t.records is_union) tag ss k = go_on n env (specs (want_field (in_fields o is_union tag [] ss k)))
tagged_opened n env o t.enums tag ss k = go_on n env (specs (want_enumerator (in_enum o tag [] ss k)))

abbrev pub tagged_next : ℕ → Env → Open → Tagged → SpecsRead → InSpecs → Symbol → Option Next
tagged_next n env o g ss k (t.name x) = go_on n env (specs (after_tag o g x ss k))
tagged_next n env o g ss k t.lbrace = tagged_opened n env o g None ss k
tagged_next n env o g ss k _ = None

abbrev pub tag_spec : At → Tagged → List ℕ → Spec
tag_spec at (t.records is_union) x = p.records at is_union (Some x) u.no_body
tag_spec at t.enums x = p.enums at (Some x) u.no_list

-- without braces it ends with the tag
abbrev pub tag_next : ℕ → ℕ → Env → Open → Tagged → List ℕ → SpecsRead → InSpecs → Symbol → Span → Option Next
tag_next n e env o g x ss k t.lbrace s = tagged_opened n env o g (Some x) ss k
tag_next n e env o g x ss k y s = specs_next (suc n) e env (add_type ss (whole o 0) (tag_spec (mark o.from e n) g x)) k y s

abbrev pub close_fields : ℕ → Env → InFields → Span → Option Next
close_fields n env (in_fields o is_union tag fs ss k) s =
    if is_empty fs then None else go_on (suc n) env (specs (in_specs (add_type ss (whole o 0) (p.records (mark o.from s.end n) is_union tag (u.body (fields_of fs)))) k))

abbrev pub field_begin : ℕ → Env → InFields → Symbol → Span → Option Next
field_begin n env f t.rbrace s = close_fields n env f s
field_begin n env f y s = first_spec n env (of_field f) y s

-- an enumerator ends with the last token; d is the depth of its value
abbrev pub add_enumerator : ℕ → ℕ → Open → ℕ → InEnum → List ℕ → MaybeExpr → InEnum
add_enumerator n e o d (in_enum k_o tag es ss k) x v = in_enum (with_part k_o (whole o d)) tag (es ++ record { at = mark o.from e n; name = x; value = v } ∷ []) ss k

abbrev pub close_enum : ℕ → Env → InEnum → Bool → Span → Option Next
close_enum n env (in_enum o tag es ss k) has_comma s =
    if is_empty es then None else go_on (suc n) env (specs (in_specs (add_type ss (whole o 0) (p.enums (mark o.from s.end n) tag (u.list (enumerators_of es) has_comma))) k))

abbrev pub enumerator_begin : ℕ → Env → InEnum → Symbol → Span → Option Next
enumerator_begin n env k (t.name x) s = go_on n env (specs (after_enumerator (opens (around_enum k).level s.start) x k))
enumerator_begin n env k t.rbrace s = close_enum n env k true s
enumerator_begin n env k _ s = None

-- the token after an enumerator
abbrev pub enumerator_end : ℕ → Env → InEnum → Symbol → Span → Option Next
enumerator_end n env k t.comma s = go_on n env (specs (want_enumerator k))
enumerator_end n env k t.rbrace s = close_enum n env k false s
enumerator_end n env k _ s = None

-- the token after an enumerator's name
abbrev pub enumerator_next : ℕ → ℕ → Env → Open → List ℕ → InEnum → Symbol → Span → Option Next
enumerator_next n e env o x k (t.operator p) s = if is_equals p then go_on n env (expr (want_expr (in_value o x k))) else None
enumerator_next n e env o x k y s = enumerator_end (suc n) env (add_enumerator n e o 0 k x u.no_expr) y s

-- ---- attributes; o is the attribute

abbrev pub attribute_at : ℕ → Env → Open → InAttribute → AttributeMode → Option Next
attribute_at n env o a m = go_on n env (in_attribute o m a)

-- d is its depth
abbrev pub attribute_done : ℕ → Env → ℕ → InAttribute → Attribute → Option Next
attribute_done n env d (of_specs ss k) x = go_on n env (specs (in_specs (add_attribute ss d x) k))
attribute_done n env d (of_read r) x = go_on n env (after_attributes (record { node = with_part r.node d; before = r.before; declarator = r.declarator; attributes = r.attributes ++ x ∷ [] }))

abbrev pub add_entry : List Entry → List ℕ → Option (List Argument) → List Entry
add_entry es x xs = es ++ record { name = x; arguments = xs } ∷ []

abbrev pub want_lparen : ℕ → Env → Open → InAttribute → AttributeMode → Symbol → Option Next
want_lparen n env o a m t.lparen = attribute_at n env o a m
want_lparen n env o a m _ = None

abbrev pub entry_begin : ℕ → Env → Open → InAttribute → List Entry → Symbol → Option Next
entry_begin n env o a es (t.name x) = attribute_at n env o a (after_entry_name es x)
entry_begin n env o a es _ = None

abbrev pub entries_begin : ℕ → Env → Open → InAttribute → Symbol → Option Next
entries_begin n env o a t.rparen = attribute_at n env o a (attribute_closing [])
entries_begin n env o a y = entry_begin n env o a [] y

abbrev pub entry_end : ℕ → Env → Open → InAttribute → List Entry → Symbol → Option Next
entry_end n env o a es t.comma = attribute_at n env o a (want_entry es)
entry_end n env o a es t.rparen = attribute_at n env o a (attribute_closing es)
entry_end n env o a es _ = None

abbrev pub entry_next : ℕ → Env → Open → InAttribute → List Entry → List ℕ → Symbol → Option Next
entry_next n env o a es x t.lparen = attribute_at n env o a (arguments_opened es x)
entry_next n env o a es x y = entry_end n env o a (add_entry es x None) y

-- an argument is one node
abbrev pub argument_begin : ℕ → Env → Open → InAttribute → List Entry → List ℕ → List Argument → Symbol → Span → Option Next
argument_begin n env o a es x xs (t.number v) s = attribute_at n env (with_part o 1) a (after_argument s.start es x xs (number_read v))
argument_begin n env o a es x xs (t.text v) s = attribute_at n env (with_part o 1) a (after_argument s.start es x xs (text_read (v ∷ [])))
argument_begin n env o a es x xs _ s = None

abbrev pub arguments_begin : ℕ → Env → Open → InAttribute → List Entry → List ℕ → Symbol → Span → Option Next
arguments_begin n env o a es x t.rparen s = attribute_at n env o a (after_entry (add_entry es x (Some [])))
arguments_begin n env o a es x y s = argument_begin n env o a es x [] y s

-- one more literal of a text, which begins at v_from
abbrev pub text_more : ℕ → Env → Open → ℕ → InAttribute → List Entry → List ℕ → List Argument → ArgumentRead → List ℕ → Option Next
text_more n env o v_from a es x xs (number_read v) w = None
text_more n env o v_from a es x xs (text_read vs) w = attribute_at n env o a (after_argument v_from es x xs (text_read (vs ++ w ∷ [])))

-- an argument begins at v_from and ends with the last token
abbrev pub argument_next : ℕ → ℕ → Env → Open → ℕ → InAttribute → List Entry → List ℕ → List Argument → ArgumentRead → Symbol → Option Next
argument_next n e env o v_from a es x xs v (t.text w) = text_more n env o v_from a es x xs v w
argument_next n e env o v_from a es x xs v t.comma = attribute_at (suc n) env o a (want_argument es x (xs ++ argument_of (mark v_from e n) v ∷ []))
argument_next n e env o v_from a es x xs v t.rparen = attribute_at (suc n) env o a (after_entry (add_entry es x (Some (xs ++ argument_of (mark v_from e n) v ∷ []))))
argument_next n e env o v_from a es x xs v _ = None

abbrev pub close_attribute : ℕ → Env → Open → InAttribute → List Entry → Symbol → Span → Option Next
close_attribute n env o a es t.rparen s = attribute_done (suc n) env (whole o 0) a (record { at = mark o.from s.end n; entries = es })
close_attribute n env o a es _ s = None

abbrev pub attribute_next : ℕ → ℕ → Env → Open → InAttribute → AttributeMode → Symbol → Span → Option Next
attribute_next n e env o a attribute_word y s = want_lparen n env o a attribute_opened y
attribute_next n e env o a attribute_opened y s = want_lparen n env o a entries_opened y
attribute_next n e env o a entries_opened y s = entries_begin n env o a y
attribute_next n e env o a (want_entry es) y s = entry_begin n env o a es y
attribute_next n e env o a (after_entry_name es x) y s = entry_next n env o a es x y
attribute_next n e env o a (arguments_opened es x) y s = arguments_begin n env o a es x y s
attribute_next n e env o a (want_argument es x xs) y s = argument_begin n env o a es x xs y s
attribute_next n e env o a (after_argument v_from es x xs v) y s = argument_next n e env o v_from a es x xs v y
attribute_next n e env o a (after_entry es) y s = entry_end n env o a es y
attribute_next n e env o a (attribute_closing es) y s = close_attribute n env o a es y s
