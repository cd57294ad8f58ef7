-- Items of declarations, and their initialisers, with places and numbers.
use Rattle.std.specs.Prelude.{ℕ, suc, max, true, false, if◌then◌else◌, List, [], ◌∷◌, ◌++◌, Option, None}
use Rattle.tok_base.specs.declared.token.Span.{Span}
use Rattle.c_tree.specs.Marked as u
use Rattle.c_tree.specs.Marked.{Specs, Declarator, Init, MaybeInit, Declaration}
use Rattle.c_tree.specs.Bare.{bare_declarator}
use Rattle.c_tree.specs.Wf.{Env, declared_name, with_name}
use Rattle.c_reader.specs.Symbol as t
use Rattle.c_reader.specs.Symbol.{Symbol}
use Rattle.c_reader.specs.Begin.{is_empty}
use Rattle.c_reader.specs.Declarations.{is_equals, is_function}
use Rattle.c_reader.specs.MarkedParts.{Open, Had, mark, opens, takes, with_part, whole, declared, inits_of}
use Rattle.c_reader.specs.MarkedInside.{in_block, of_definition, InDeclaration, of_external, of_block, of_for, InItems, ItemRead, InInit, of_item, in_braces, in_init, in_item, of_read, attribute_word, want_declarator, want_stmt, want_condition, want_external, in_attribute, want_init, after_init, declarator, stmt, around_init, Next, go_on}
use Rattle.c_reader.specs.MarkedBegin.{want}

-- ---- the end of a declaration, of depth d

abbrev pub declaration_done : ℕ → Env → ℕ → InDeclaration → Declaration → Option Next
declaration_done n env d (of_external deep done) x = go_on n env (want_external (max deep d) (done ++ u.Declares x ∷ []))
declaration_done n env d (of_block o is b) x = go_on n env (stmt (want_stmt (in_block (with_part o d) (is ++ declared x ∷ []) b)))
declaration_done n env d (of_for o k) x = go_on n env (stmt (want_condition (with_part o d) (u.FirstDeclaration x) k))

-- the ; of a declaration
abbrev pub items_done : ℕ → Env → InItems → Span → Option Next
items_done n env q s = declaration_done (suc n) env (whole q.node 0) q.place (record { at = mark q.node.from s.end n; specs = q.specs; items = q.items })

-- ---- items

-- an item ends with the last token; d is the depth of its initialiser
abbrev pub add_item : ℕ → ℕ → ℕ → ItemRead → MaybeInit → InItems
add_item n e d r i = record {
  node = with_part r.before.node (whole r.node d);
  specs = r.before.specs;
  typedef = r.before.typedef;
  items = r.before.items ++ record { at = mark r.node.from e n; declarator = r.declarator; attributes = r.attributes; init = i } ∷ [];
  place = r.before.place;
}

-- the token after an item
abbrev pub item_end : ℕ → Env → InItems → Symbol → Span → Option Next
item_end n env q t.comma s = go_on n env (declarator (want_declarator (in_item q)))
item_end n env q t.semi s = items_done n env q s
item_end n env q _ s = None

-- the token after an item's declarator and attributes
abbrev pub item_next : ℕ → ℕ → Env → ItemRead → Symbol → Span → Option Next
item_next n e env r t.attribute s = go_on n env (in_attribute (opens r.node.level s.start) attribute_word (of_read r))
item_next n e env r (t.operator o) s = if is_equals o then go_on n env (want_init (of_item r)) else None
item_next n e env r y s = item_end (suc n) env (add_item n e 0 r u.no_init) y s

-- a body opens behind the first declarator, in the definition o
abbrev pub open_body : ℕ → Env → Open → InDeclaration → Specs → Declarator → Span → Option Next
open_body n env o (of_external deep done) ss x s =
    if is_function (bare_declarator x) then go_on n env (stmt (want_stmt (in_block (opens o.level s.start) [] (of_definition deep o done ss x)))) else None
open_body n env o (of_block b_o is b) ss x s = None
open_body n env o (of_for f_o k) ss x s = None

abbrev pub item_declarator_next : ℕ → ℕ → Env → Had → InItems → Declarator → Symbol → Span → Option Next
item_declarator_next n e env h q x t.lbrace s = if is_empty q.items then open_body n env (with_part q.node h.deep) q.place q.specs x s else None
item_declarator_next n e env h q x y s = item_next n e env (record { node = takes q.node.level h; before = q; declarator = x; attributes = [] }) y s

-- the token after an item's declarator: from there on its name may be a typedef name
abbrev pub close_item : ℕ → ℕ → Env → Had → InItems → Declarator → Symbol → Span → Option Next
close_item n e env h q x y s = item_declarator_next n e (with_name q.typedef (declared_name (bare_declarator x)) env) h q x y s

-- ---- initialisers

abbrev pub braces_next : ℕ → Env → Open → List Init → InInit → Symbol → Span → Option Next
braces_next n env o is k t.comma s = go_on n env (want_init (in_braces o is k))
braces_next n env o is k t.rbrace s = go_on (suc n) env (after_init (whole o 0) k (u.Braces (mark o.from s.end n) (inits_of is) false))
braces_next n env o is k _ s = None

-- the token after an initialiser, of depth d
abbrev pub init_next : ℕ → ℕ → Env → ℕ → InInit → Init → Symbol → Span → Option Next
init_next n e env d (of_item r) i y s = item_end (suc n) env (add_item n e d r (u.some_init i)) y s
init_next n e env d (in_braces o is k) i y s = braces_next n env (with_part o d) (is ++ i ∷ []) k y s

-- the } behind a comma
abbrev pub close_braces : ℕ → Env → InInit → Span → Option Next
close_braces n env (of_item r) s = None
close_braces n env (in_braces o is k) s = if is_empty is then None else go_on (suc n) env (after_init (whole o 0) k (u.Braces (mark o.from s.end n) (inits_of is) true))

abbrev pub init_begin : ℕ → Env → InInit → Symbol → Span → Option Next
init_begin n env k t.lbrace s = go_on n env (want_init (in_braces (opens (around_init k).level s.start) [] k))
init_begin n env k t.rbrace s = close_braces n env k s
init_begin n env k y s = want n env (in_init k) y s
