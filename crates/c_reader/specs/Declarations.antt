-- Items of declarations, and their initialisers.
use Rattle.std.specs.Prelude.{Bool, true, false, ◌||◌, if◌then◌else◌, List, [], ◌∷◌, ◌++◌, Option, None}
use Rattle.c_tree.specs.Tree as u
use Rattle.c_tree.specs.Tree.{Specs, Declarator, Init, MaybeInit, Declaration, AssignOp}
use Rattle.c_tree.specs.Wf.{Env, declared_name, with_name}
use Rattle.c_reader.specs.Symbol as t
use Rattle.c_reader.specs.Symbol.{Symbol, Operator}
use Rattle.c_reader.specs.Parts.{declared, inits_of}
use Rattle.c_reader.specs.Inside.{in_block, of_definition, InDeclaration, of_external, of_block, of_for, InItems, ItemRead, InInit, of_item, in_braces, in_init, in_item, of_read, attribute_word, want_declarator, want_stmt, want_condition, want_external, in_attribute, want_init, after_init, declarator, stmt, Mode, State, at}
use Rattle.c_reader.specs.Begin.{is_empty, want}

abbrev pub is_set : AssignOp → Bool
is_set u.Set = true
is_set _ = false

-- the mark =
abbrev pub is_equals : Operator → Bool
is_equals (t.assign o) = is_set o
is_equals _ = false

-- ---- the end of a declaration

abbrev pub declaration_done : InDeclaration → Declaration → Mode
declaration_done (of_external done) d = want_external (done ++ u.Declares d ∷ [])
declaration_done (of_block is b) d = stmt (want_stmt (in_block (is ++ declared d ∷ []) b))
declaration_done (of_for k) d = stmt (want_condition (u.FirstDeclaration d) k)

abbrev pub items_done : InItems → Mode
items_done q = declaration_done q.place (record { specs = q.specs; items = q.items })

-- ---- items

abbrev pub add_item : ItemRead → MaybeInit → InItems
add_item r i = record {
  specs = r.before.specs;
  typedef = r.before.typedef;
  items = r.before.items ++ record { declarator = r.declarator; attributes = r.attributes; init = i } ∷ [];
  place = r.before.place;
}

-- the token after an item
abbrev pub item_end : Env → InItems → Symbol → Option State
item_end env q t.comma = at env (declarator (want_declarator (in_item q)))
item_end env q t.semi = at env (items_done q)
item_end env q _ = None

-- the token after an item's declarator and attributes
abbrev pub item_next : Env → ItemRead → Symbol → Option State
item_next env r t.attribute = at env (in_attribute attribute_word (of_read r))
item_next env r (t.operator o) = if is_equals o then at env (want_init (of_item r)) else None
item_next env r y = item_end env (add_item r u.no_init) y

-- a name, perhaps in brackets
abbrev pub is_plain : Declarator → Bool
is_plain (u.PointerTo qs d) = false
is_plain (u.Declared n) = true
is_plain (u.Group d) = is_plain d
is_plain (u.ArrayOf d n) = false
is_plain (u.FunctionOf d ps) = false

-- it declares a function
abbrev pub is_function : Declarator → Bool
is_function (u.PointerTo qs d) = is_function d
is_function (u.Declared n) = false
is_function (u.Group d) = is_function d
is_function (u.ArrayOf d n) = is_function d
is_function (u.FunctionOf d ps) = is_plain d || is_function d

-- a body opens behind the first declarator
abbrev pub open_body : Env → InDeclaration → Specs → Declarator → Option State
open_body env (of_external done) ss d = if is_function d then at env (stmt (want_stmt (in_block [] (of_definition done ss d)))) else None
open_body env (of_block is b) ss d = None
open_body env (of_for k) ss d = None

abbrev pub item_declarator_next : Env → InItems → Declarator → Symbol → Option State
item_declarator_next env q d t.lbrace = if is_empty q.items then open_body env q.place q.specs d else None
item_declarator_next env q d y = item_next env (record { before = q; declarator = d; attributes = [] }) y

-- the token after an item's declarator: from there on its name may be a typedef name
abbrev pub close_item : Env → InItems → Declarator → Symbol → Option State
close_item env q d y = item_declarator_next (with_name q.typedef (declared_name d) env) q d y

-- ---- initialisers

abbrev pub braces_next : Env → List Init → InInit → Symbol → Option State
braces_next env is k t.comma = at env (want_init (in_braces is k))
braces_next env is k t.rbrace = at env (after_init k (u.Braces (inits_of is) false))
braces_next env is k _ = None

-- the token after an initialiser
abbrev pub init_next : Env → InInit → Init → Symbol → Option State
init_next env (of_item r) i y = item_end env (add_item r (u.some_init i)) y
init_next env (in_braces is k) i y = braces_next env (is ++ i ∷ []) k y

-- the } behind a comma
abbrev pub close_braces : Env → InInit → Option State
close_braces env (of_item r) = None
close_braces env (in_braces is k) = if is_empty is then None else at env (after_init k (u.Braces (inits_of is) true))

abbrev pub init_begin : Env → InInit → Symbol → Option State
init_begin env k t.lbrace = at env (want_init (in_braces [] k))
init_begin env k t.rbrace = close_braces env k
init_begin env k y = want env (in_init k) y
