-- Declarators, fields, parameters and type names, with places and numbers. An absent name stands at the start of the next token.
use Rattle.std.specs.Prelude.{ℕ, suc, Bool, true, false, if◌then◌else◌, List, [], ◌∷◌, ◌++◌, Option, Some, None}
use Rattle.tok_base.specs.declared.token.Span.{Span}
use Rattle.c_tree.specs.Tok.{Word}
use Rattle.c_tree.specs.Marked as u
use Rattle.c_tree.specs.Marked.{TypeName, type_name, Specs, Declarator, MaybeDeclarator}
use Rattle.c_tree.specs.Wf.{Env, is_qualifier}
use Rattle.c_reader.specs.Symbol as t
use Rattle.c_reader.specs.Symbol.{Symbol, keyword_word}
use Rattle.c_reader.specs.Begin.{is_empty, begins_specs}
use Rattle.c_reader.specs.Declarators.{is_star}
use Rattle.c_reader.specs.MarkedParts.{Open, Had, mark, opens, takes, with_part, whole, closed, leaf, declarators_of, params_of}
use Rattle.c_reader.specs.MarkedInside.{InExpr, InDeclarator, InFields, InParams, InItems, TypePlace, cast_type, sizeof_type, of_cast, in_operand, in_array, in_pointer, in_group, in_item, in_field, in_param, in_type, of_param, in_fields, in_params, want_field, want_param, want_declarator, after_star, declarator_opened, after_declarator, array_opened, params_opened, want_expr, after_expr, specs, declarator, expr, around_declarator, Next, go_on}
use Rattle.c_reader.specs.MarkedBegin.{begin_specs, first_spec, want}
use Rattle.c_reader.specs.MarkedDeclarations.{items_done, close_item}

-- ---- what may stand there

abbrev pub may_be_named : InDeclarator → Bool
may_be_named (in_pointer o qs k) = may_be_named k
may_be_named (in_group o k) = may_be_named k
may_be_named (in_item q) = true
may_be_named (in_field o f ss ds) = true
may_be_named (in_param o p ss) = true
may_be_named (in_type o t p k ss) = false

abbrev pub may_be_nameless : InDeclarator → Bool
may_be_nameless (in_pointer o qs k) = may_be_nameless k
may_be_nameless (in_group o k) = may_be_nameless k
may_be_nameless (in_item q) = false
may_be_nameless (in_field o f ss ds) = false
may_be_nameless (in_param o p ss) = true
may_be_nameless (in_type o t p k ss) = true

-- the absent name before a token that starts at this byte
abbrev pub absent_name : ℕ → ℕ → Declarator
absent_name n start = u.Declared (mark start start n) None

-- ---- the end of a declarator

abbrev pub add_field : ℕ → Open → InFields → Specs → List Declarator → Span → InFields
add_field n o (in_fields f_o is_union tag fs so_far k) ss ds s =
    in_fields (with_part f_o (whole o 0)) is_union tag (fs ++ record { at = mark o.from s.end n; specs = ss; declarators = declarators_of ds } ∷ []) so_far k

abbrev pub field_next : ℕ → Env → Open → InFields → Specs → List Declarator → Symbol → Span → Option Next
field_next n env o f ss ds t.comma s = go_on n env (declarator (want_declarator (in_field o f ss ds)))
field_next n env o f ss ds t.semi s = go_on (suc n) env (specs (want_field (add_field n o f ss ds s)))
field_next n env o f ss ds _ s = None

-- a parameter ends with the last token; d is the depth of its declarator
abbrev pub add_param : ℕ → ℕ → Open → ℕ → InParams → Specs → MaybeDeclarator → InParams
add_param n e o d (in_params p_o x ps k) ss m = in_params (with_part p_o (whole o d)) x (ps ++ record { at = mark o.from e n; specs = ss; declarator = m } ∷ []) k

abbrev pub params_done : ℕ → Env → InParams → Span → Option Next
params_done n env (in_params o x ps k) s = go_on (suc n) env (declarator (after_declarator (closed o 0) k (u.FunctionOf (mark o.from s.end n) x (params_of ps))))

-- the token after a parameter
abbrev pub param_next : ℕ → Env → InParams → Symbol → Span → Option Next
param_next n env p t.comma s = go_on n env (specs (want_param p))
param_next n env p t.rparen s = params_done n env p s
param_next n env p _ s = None

-- d is the depth of the type name
abbrev pub type_done : ℕ → Env → Open → ℕ → TypePlace → InExpr → TypeName → Span → Option Next
type_done n env o d cast_type k m s = go_on n env (expr (want_expr (in_operand (with_part o d) (of_cast m) k)))
type_done n env o d sizeof_type k m s = go_on (suc n) env (expr (after_expr (closed o d) k (u.SizeofType (mark o.from s.end n) m)))

-- the token after a type name
abbrev pub type_next : ℕ → Env → Open → ℕ → TypePlace → InExpr → TypeName → Symbol → Span → Option Next
type_next n env o d p k m t.rparen s = type_done n env o d p k m s
type_next n env o d p k m _ s = None

-- a type name o_type ends with the last token; d is the depth of its declarator
abbrev pub close_type : ℕ → ℕ → Env → Open → Open → ℕ → TypePlace → InExpr → Specs → MaybeDeclarator → Symbol → Span → Option Next
close_type n e env o o_type d p k ss x y s = type_next (suc n) env o (whole o_type d) p k (type_name (mark o_type.from e n) ss x) y s

abbrev pub close_param : ℕ → ℕ → Env → Open → ℕ → InParams → Specs → MaybeDeclarator → Symbol → Span → Option Next
close_param n e env o d p ss x y s = param_next (suc n) env (add_param n e o d p ss x) y s

abbrev pub close_group : ℕ → Env → Open → ℕ → InDeclarator → Declarator → Symbol → Span → Option Next
close_group n env o d k x t.rparen s = go_on (suc n) env (declarator (after_declarator (closed o d) k (u.Group (mark o.from s.end n) x)))
close_group n env o d k x _ s = None

-- the token after a declarator, which no direct form takes
abbrev pub end_declarator : ℕ → ℕ → Env → Had → InDeclarator → Declarator → Symbol → Span → Option Next
end_declarator n e env h (in_pointer o qs k) x y s = end_declarator (suc n) e env (closed o h.deep) k (u.PointerTo (mark o.from e n) qs x) y s
end_declarator n e env h (in_group o k) x y s = close_group n env o h.deep k x y s
end_declarator n e env h (in_item q) x y s = close_item n e env h q x y s
end_declarator n e env h (in_field o f ss ds) x y s = field_next n env (with_part o h.deep) f ss (ds ++ x ∷ []) y s
end_declarator n e env h (in_param o p ss) x y s = close_param n e env o h.deep p ss (u.some_declarator x) y s
end_declarator n e env h (in_type o o_type p k ss) x y s = close_type n e env o o_type h.deep p k ss (u.some_declarator x) y s

-- a declaration without items
abbrev pub no_items_next : ℕ → Env → InItems → Symbol → Span → Option Next
no_items_next n env q t.semi s = if is_empty q.items then items_done n env q s else None
no_items_next n env q _ s = None

-- a pointer to what has no name
abbrev pub nameless_pointer : ℕ → ℕ → Env → Open → List Word → InDeclarator → Symbol → Span → Option Next
nameless_pointer n e env o qs k y s =
    if may_be_nameless k then end_declarator (suc (suc n)) e env (closed o 0) k (u.PointerTo (mark o.from e (suc n)) qs (absent_name n s.start)) y s else None

-- the token where a declarator stands that has no token, or no further one
abbrev pub nameless : ℕ → ℕ → Env → InDeclarator → Symbol → Span → Option Next
nameless n e env (in_pointer o qs k) y s = nameless_pointer n e env o qs k y s
nameless n e env (in_group o k) y s = None
nameless n e env (in_item q) y s = no_items_next n env q y s
nameless n e env (in_field o f ss ds) y s = None
nameless n e env (in_param o p ss) y s = close_param n e env o 0 p ss u.no_declarator y s
nameless n e env (in_type o o_type p k ss) y s = close_type n e env o o_type 0 p k ss u.no_declarator y s

-- ---- the beginning of a declarator

abbrev pub declarator_begin : ℕ → ℕ → Env → InDeclarator → Symbol → Span → Option Next
declarator_begin n e env k (t.name x) s =
    if may_be_named k then go_on (suc n) env (declarator (after_declarator (leaf s.start) k (u.Declared (mark s.start s.end n) (Some x)))) else None
declarator_begin n e env k (t.operator o) s = if is_star o then go_on n env (declarator (after_star (opens (around_declarator k).level s.start) [] k)) else None
declarator_begin n e env k t.lparen s = go_on n env (declarator (declarator_opened (opens (around_declarator k).level s.start) k))
declarator_begin n e env k t.lbracket s = if may_be_nameless k then go_on (suc n) env (declarator (array_opened (opens (around_declarator k).level s.start) (absent_name n s.start) k)) else None
declarator_begin n e env k y s = nameless n e env k y s

abbrev pub star_next : ℕ → ℕ → Env → Open → List Word → InDeclarator → Symbol → Span → Option Next
star_next n e env o qs k (t.keyword w) s = if is_qualifier (keyword_word w) then go_on n env (declarator (after_star o (qs ++ keyword_word w ∷ []) k)) else None
star_next n e env o qs k y s = declarator_begin n e env (in_pointer o qs k) y s

-- parameters of a declarator without a name
abbrev pub open_params : ℕ → Env → Open → InDeclarator → Symbol → Span → Option Next
open_params n env o k y s = if may_be_nameless k then begin_specs (suc n) env (of_param (in_params o (absent_name n o.from) [] k)) y s else None

-- the token after ( where a declarator begins
abbrev pub opened_next : ℕ → ℕ → Env → Open → InDeclarator → Symbol → Span → Option Next
opened_next n e env o k t.rparen s =
    if may_be_nameless k then go_on (suc (suc n)) env (declarator (after_declarator (closed o 0) k (u.FunctionOf (mark o.from s.end (suc n)) (absent_name n o.from) u.no_params))) else None
opened_next n e env o k y s = if begins_specs env false y then open_params n env o k y s else declarator_begin n e env (in_group o k) y s

abbrev pub array_next : ℕ → Env → Open → Declarator → InDeclarator → Symbol → Span → Option Next
array_next n env o x k t.rbracket s = go_on (suc n) env (declarator (after_declarator (closed o 0) k (u.ArrayOf (mark o.from s.end n) x u.no_expr)))
array_next n env o x k y s = want n env (in_array o x k) y s

abbrev pub params_next : ℕ → Env → Open → Declarator → InDeclarator → Symbol → Span → Option Next
params_next n env o x k t.rparen s = go_on (suc n) env (declarator (after_declarator (closed o 0) k (u.FunctionOf (mark o.from s.end n) x u.no_params)))
params_next n env o x k y s = first_spec n env (of_param (in_params o x [] k)) y s

abbrev pub declarator_next : ℕ → ℕ → Env → Had → InDeclarator → Declarator → Symbol → Span → Option Next
declarator_next n e env h k x t.lbracket s = go_on n env (declarator (array_opened (takes (around_declarator k).level h) x k))
declarator_next n e env h k x t.lparen s = go_on n env (declarator (params_opened (takes (around_declarator k).level h) x k))
declarator_next n e env h k x y s = end_declarator n e env h k x y s
