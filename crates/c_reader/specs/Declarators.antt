-- Declarators, fields, parameters and type names.
use Rattle.std.specs.Prelude.{Bool, true, false, if◌then◌else◌, List, [], ◌∷◌, ◌++◌, Option, Some, None}
use Rattle.c_tree.specs.Tok.{Word}
use Rattle.c_tree.specs.Tree as u
use Rattle.c_tree.specs.Tree.{Specs, Declarator, MaybeDeclarator, BinaryOp}
use Rattle.c_tree.specs.Wf.{Env, is_qualifier}
use Rattle.c_reader.specs.Symbol as t
use Rattle.c_reader.specs.Symbol.{Symbol, Operator, keyword_word}
use Rattle.c_reader.specs.Parts.{no_specs, declarators_of, params_of}
use Rattle.c_reader.specs.Inside.{InExpr, InDeclarator, InFields, InParams, InItems, TypePlace, cast_type, sizeof_type, of_cast, in_operand, in_array, in_pointer, in_group, in_item, in_field, in_param, in_type, of_param, in_fields, in_params, want_field, want_param, want_declarator, after_star, declarator_opened, after_declarator, array_opened, params_opened, want_expr, after_expr, specs, declarator, expr, Mode, State, at}
use Rattle.c_reader.specs.Begin.{is_empty, begins_specs, open_spec, first_spec, want}
use Rattle.c_reader.specs.Declarations.{items_done, close_item}

-- ---- what may stand there

abbrev pub may_be_named : InDeclarator → Bool
may_be_named (in_pointer qs k) = may_be_named k
may_be_named (in_group k) = may_be_named k
may_be_named (in_item q) = true
may_be_named (in_field f ss ds) = true
may_be_named (in_param p ss) = true
may_be_named (in_type p k ss) = false

abbrev pub may_be_nameless : InDeclarator → Bool
may_be_nameless (in_pointer qs k) = may_be_nameless k
may_be_nameless (in_group k) = may_be_nameless k
may_be_nameless (in_item q) = false
may_be_nameless (in_field f ss ds) = false
may_be_nameless (in_param p ss) = true
may_be_nameless (in_type p k ss) = true

-- the mark *
abbrev pub is_mul : BinaryOp → Bool
is_mul u.Mul = true
is_mul _ = false

abbrev pub is_star : Operator → Bool
is_star (t.binary o) = is_mul o
is_star _ = false

-- ---- the end of a declarator

abbrev pub add_field : InFields → Specs → List Declarator → InFields
add_field (in_fields is_union tag fs s k) ss ds = in_fields is_union tag (fs ++ record { specs = ss; declarators = declarators_of ds } ∷ []) s k

abbrev pub field_next : Env → InFields → Specs → List Declarator → Symbol → Option State
field_next env f ss ds t.comma = at env (declarator (want_declarator (in_field f ss ds)))
field_next env f ss ds t.semi = at env (specs (want_field (add_field f ss ds)))
field_next env f ss ds _ = None

abbrev pub add_param : InParams → Specs → MaybeDeclarator → InParams
add_param (in_params d ps k) ss m = in_params d (ps ++ record { specs = ss; declarator = m } ∷ []) k

abbrev pub params_done : InParams → Mode
params_done (in_params d ps k) = declarator (after_declarator k (u.FunctionOf d (params_of ps)))

-- the token after a parameter
abbrev pub param_next : Env → InParams → Symbol → Option State
param_next env p t.comma = at env (specs (want_param p))
param_next env p t.rparen = at env (params_done p)
param_next env p _ = None

abbrev pub type_done : TypePlace → InExpr → Specs → MaybeDeclarator → Mode
type_done cast_type k ss d = expr (want_expr (in_operand (of_cast ss d) k))
type_done sizeof_type k ss d = expr (after_expr k (u.SizeofType ss d))

-- the token after a type name
abbrev pub type_next : Env → TypePlace → InExpr → Specs → MaybeDeclarator → Symbol → Option State
type_next env p k ss d t.rparen = at env (type_done p k ss d)
type_next env p k ss d _ = None

abbrev pub close_group : Env → InDeclarator → Declarator → Symbol → Option State
close_group env k d t.rparen = at env (declarator (after_declarator k (u.Group d)))
close_group env k d _ = None

-- the token after a declarator, which no direct form takes
abbrev pub end_declarator : Env → InDeclarator → Declarator → Symbol → Option State
end_declarator env (in_pointer qs k) d y = end_declarator env k (u.PointerTo qs d) y
end_declarator env (in_group k) d y = close_group env k d y
end_declarator env (in_item q) d y = close_item env q d y
end_declarator env (in_field f ss ds) d y = field_next env f ss (ds ++ d ∷ []) y
end_declarator env (in_param p ss) d y = param_next env (add_param p ss (u.some_declarator d)) y
end_declarator env (in_type p k ss) d y = type_next env p k ss (u.some_declarator d) y

-- a declaration without items
abbrev pub no_items_next : Env → InItems → Symbol → Option State
no_items_next env q t.semi = if is_empty q.items then at env (items_done q) else None
no_items_next env q _ = None

-- the token where a declarator stands that has no token, or no further one
abbrev pub nameless : Env → InDeclarator → Symbol → Option State
nameless env (in_pointer qs k) y = if may_be_nameless k then end_declarator env k (u.PointerTo qs (u.Declared None)) y else None
nameless env (in_group k) y = None
nameless env (in_item q) y = no_items_next env q y
nameless env (in_field f ss ds) y = None
nameless env (in_param p ss) y = param_next env (add_param p ss u.no_declarator) y
nameless env (in_type p k ss) y = type_next env p k ss u.no_declarator y

-- ---- the beginning of a declarator

abbrev pub declarator_begin : Env → InDeclarator → Symbol → Option State
declarator_begin env k (t.name n) = if may_be_named k then at env (declarator (after_declarator k (u.Declared (Some n)))) else None
declarator_begin env k (t.operator o) = if is_star o then at env (declarator (after_star [] k)) else None
declarator_begin env k t.lparen = at env (declarator (declarator_opened k))
declarator_begin env k t.lbracket = if may_be_nameless k then at env (declarator (array_opened (u.Declared None) k)) else None
declarator_begin env k y = nameless env k y

abbrev pub star_next : Env → List Word → InDeclarator → Symbol → Option State
star_next env qs k (t.keyword w) = if is_qualifier (keyword_word w) then at env (declarator (after_star (qs ++ keyword_word w ∷ []) k)) else None
star_next env qs k y = declarator_begin env (in_pointer qs k) y

-- parameters of a declarator without a name
abbrev pub open_params : Env → InDeclarator → Symbol → Option State
open_params env k y = if may_be_nameless k then open_spec env no_specs (of_param (in_params (u.Declared None) [] k)) y else None

-- the token after ( where a declarator begins
abbrev pub opened_next : Env → InDeclarator → Symbol → Option State
opened_next env k t.rparen = if may_be_nameless k then at env (declarator (after_declarator k (u.FunctionOf (u.Declared None) u.no_params))) else None
opened_next env k y = if begins_specs env false y then open_params env k y else declarator_begin env (in_group k) y

abbrev pub array_next : Env → Declarator → InDeclarator → Symbol → Option State
array_next env d k t.rbracket = at env (declarator (after_declarator k (u.ArrayOf d u.no_expr)))
array_next env d k y = want env (in_array d k) y

abbrev pub params_next : Env → Declarator → InDeclarator → Symbol → Option State
params_next env d k t.rparen = at env (declarator (after_declarator k (u.FunctionOf d u.no_params)))
params_next env d k y = first_spec env (of_param (in_params d [] k)) y

abbrev pub declarator_next : Env → InDeclarator → Declarator → Symbol → Option State
declarator_next env k d t.lbracket = at env (declarator (array_opened d k))
declarator_next env k d t.lparen = at env (declarator (params_opened d k))
declarator_next env k d y = end_declarator env k d y
