-- Specs, and what stands inside them: records, enums and attributes.
use Rattle.std.specs.Prelude.{ℕ, Bool, true, false, if◌then◌else◌, List, [], ◌∷◌, ◌++◌, Option, Some, None}
use Rattle.c_tree.specs.Tree as u
use Rattle.c_tree.specs.Tree.{MaybeExpr, Entry, Argument}
use Rattle.c_tree.specs.Wf.{Env}
use Rattle.c_reader.specs.Symbol as t
use Rattle.c_reader.specs.Symbol.{Symbol, Tagged}
use Rattle.c_reader.specs.Parts as p
use Rattle.c_reader.specs.Parts.{Spec, SpecsRead, specs_of, fields_of, enumerators_of, add_type, add_attribute}
use Rattle.c_reader.specs.Inside.{InDeclarator, InSpecs, InFields, InEnum, InAttribute, in_value, in_item, in_field, in_param, in_type, of_declaration, of_field, of_param, of_type, in_fields, in_enum, of_specs, of_read, AttributeMode, attribute_word, attribute_opened, entries_opened, want_entry, after_entry_name, arguments_opened, want_argument, after_argument, after_entry, attribute_closing, in_specs, after_tag, want_field, want_enumerator, after_enumerator, want_expr, in_attribute, specs, after_attributes, expr, Mode, State, at}
use Rattle.c_reader.specs.Begin.{is_empty, begins_specs, open_spec, first_spec}
use Rattle.c_reader.specs.Declarations.{is_equals}
use Rattle.c_reader.specs.Declarators.{declarator_begin}

-- ---- specs

-- where the declarator behind the specs stands
abbrev pub behind : SpecsRead → InSpecs → InDeclarator
behind s (of_declaration q) = in_item (record { specs = specs_of s.specs; typedef = s.typedef; items = []; place = q })
behind s (of_field f) = in_field f (specs_of s.specs) []
behind s (of_param k) = in_param k (specs_of s.specs)
behind s (of_type p k) = in_type p k (specs_of s.specs)

abbrev pub specs_next : Env → SpecsRead → InSpecs → Symbol → Option State
specs_next env s k y = if begins_specs env s.seen y then open_spec env s k y else declarator_begin env (behind s k) y

-- ---- records and enums

abbrev pub tagged_opened : Tagged → Option (List ℕ) → SpecsRead → InSpecs → Mode
tagged_opened (t.records is_union) tag s k = specs (want_field (in_fields is_union tag [] s k))
tagged_opened t.enums tag s k = specs (want_enumerator (in_enum tag [] s k))

abbrev pub tagged_next : Env → Tagged → SpecsRead → InSpecs → Symbol → Option State
tagged_next env g s k (t.name n) = at env (specs (after_tag g n s k))
tagged_next env g s k t.lbrace = at env (tagged_opened g None s k)
tagged_next env g s k _ = None

abbrev pub tag_spec : Tagged → List ℕ → Spec
tag_spec (t.records is_union) n = p.records is_union (Some n) u.no_body
tag_spec t.enums n = p.enums (Some n) u.no_list

abbrev pub tag_next : Env → Tagged → List ℕ → SpecsRead → InSpecs → Symbol → Option State
tag_next env g n s k t.lbrace = at env (tagged_opened g (Some n) s k)
tag_next env g n s k y = specs_next env (add_type s (tag_spec g n)) k y

abbrev pub close_fields : Env → InFields → Option State
close_fields env (in_fields is_union tag fs s k) = if is_empty fs then None else at env (specs (in_specs (add_type s (p.records is_union tag (u.body (fields_of fs)))) k))

abbrev pub field_begin : Env → InFields → Symbol → Option State
field_begin env f t.rbrace = close_fields env f
field_begin env f y = first_spec env (of_field f) y

abbrev pub add_enumerator : InEnum → List ℕ → MaybeExpr → InEnum
add_enumerator (in_enum tag es s k) n v = in_enum tag (es ++ record { name = n; value = v } ∷ []) s k

abbrev pub close_enum : Env → InEnum → Bool → Option State
close_enum env (in_enum tag es s k) has_comma = if is_empty es then None else at env (specs (in_specs (add_type s (p.enums tag (u.list (enumerators_of es) has_comma))) k))

abbrev pub enumerator_begin : Env → InEnum → Symbol → Option State
enumerator_begin env e (t.name n) = at env (specs (after_enumerator n e))
enumerator_begin env e t.rbrace = close_enum env e true
enumerator_begin env e _ = None

-- the token after an enumerator
abbrev pub enumerator_end : Env → InEnum → Symbol → Option State
enumerator_end env e t.comma = at env (specs (want_enumerator e))
enumerator_end env e t.rbrace = close_enum env e false
enumerator_end env e _ = None

-- the token after an enumerator's name
abbrev pub enumerator_next : Env → List ℕ → InEnum → Symbol → Option State
enumerator_next env n e (t.operator o) = if is_equals o then at env (expr (want_expr (in_value n e))) else None
enumerator_next env n e y = enumerator_end env (add_enumerator e n u.no_expr) y

-- ---- attributes

abbrev pub attribute_at : Env → InAttribute → AttributeMode → Option State
attribute_at env a m = at env (in_attribute m a)

abbrev pub attribute_done : InAttribute → List Entry → Mode
attribute_done (of_specs s k) es = specs (in_specs (add_attribute s es) k)
attribute_done (of_read r) es = after_attributes (record { before = r.before; declarator = r.declarator; attributes = r.attributes ++ es ∷ [] })

abbrev pub add_entry : List Entry → List ℕ → Option (List Argument) → List Entry
add_entry es n xs = es ++ record { name = n; arguments = xs } ∷ []

abbrev pub want_lparen : Env → InAttribute → AttributeMode → Symbol → Option State
want_lparen env a m t.lparen = attribute_at env a m
want_lparen env a m _ = None

abbrev pub entry_begin : Env → InAttribute → List Entry → Symbol → Option State
entry_begin env a es (t.name n) = attribute_at env a (after_entry_name es n)
entry_begin env a es _ = None

abbrev pub entries_begin : Env → InAttribute → Symbol → Option State
entries_begin env a t.rparen = attribute_at env a (attribute_closing [])
entries_begin env a y = entry_begin env a [] y

abbrev pub entry_end : Env → InAttribute → List Entry → Symbol → Option State
entry_end env a es t.comma = attribute_at env a (want_entry es)
entry_end env a es t.rparen = attribute_at env a (attribute_closing es)
entry_end env a es _ = None

abbrev pub entry_next : Env → InAttribute → List Entry → List ℕ → Symbol → Option State
entry_next env a es n t.lparen = attribute_at env a (arguments_opened es n)
entry_next env a es n y = entry_end env a (add_entry es n None) y

abbrev pub argument_begin : Env → InAttribute → List Entry → List ℕ → List Argument → Symbol → Option State
argument_begin env a es n xs (t.number v) = attribute_at env a (after_argument es n xs (u.NumberArgument v))
argument_begin env a es n xs (t.text v) = attribute_at env a (after_argument es n xs (u.TextArgument (v ∷ [])))
argument_begin env a es n xs _ = None

abbrev pub arguments_begin : Env → InAttribute → List Entry → List ℕ → Symbol → Option State
arguments_begin env a es n t.rparen = attribute_at env a (after_entry (add_entry es n (Some [])))
arguments_begin env a es n y = argument_begin env a es n [] y

-- one more literal of a text
abbrev pub text_more : Env → InAttribute → List Entry → List ℕ → List Argument → Argument → List ℕ → Option State
text_more env a es n xs (u.NumberArgument v) w = None
text_more env a es n xs (u.TextArgument vs) w = attribute_at env a (after_argument es n xs (u.TextArgument (vs ++ w ∷ [])))

abbrev pub argument_next : Env → InAttribute → List Entry → List ℕ → List Argument → Argument → Symbol → Option State
argument_next env a es n xs x (t.text w) = text_more env a es n xs x w
argument_next env a es n xs x t.comma = attribute_at env a (want_argument es n (xs ++ x ∷ []))
argument_next env a es n xs x t.rparen = attribute_at env a (after_entry (add_entry es n (Some (xs ++ x ∷ []))))
argument_next env a es n xs x _ = None

abbrev pub close_attribute : Env → InAttribute → List Entry → Symbol → Option State
close_attribute env a es t.rparen = at env (attribute_done a es)
close_attribute env a es _ = None

abbrev pub attribute_next : Env → InAttribute → AttributeMode → Symbol → Option State
attribute_next env a attribute_word y = want_lparen env a attribute_opened y
attribute_next env a attribute_opened y = want_lparen env a entries_opened y
attribute_next env a entries_opened y = entries_begin env a y
attribute_next env a (want_entry es) y = entry_begin env a es y
attribute_next env a (after_entry_name es n) y = entry_next env a es n y
attribute_next env a (arguments_opened es n) y = arguments_begin env a es n y
attribute_next env a (want_argument es n xs) y = argument_begin env a es n xs y
attribute_next env a (after_argument es n xs x) y = argument_next env a es n xs x y
attribute_next env a (after_entry es) y = entry_end env a es y
attribute_next env a (attribute_closing es) y = close_attribute env a es y
