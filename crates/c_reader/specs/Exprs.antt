-- Expressions: the token after one takes it as a part, or closes what is open.
use Rattle.std.specs.Prelude.{ℕ, suc, nat_le, false, if◌then◌else◌, List, [], ◌∷◌, ◌++◌, Option, None}
use Rattle.c_tree.specs.Tree as u
use Rattle.c_tree.specs.Tree.{Expr, Exprs, Declarator}
use Rattle.c_tree.specs.Wf.{Env, prec, level, operand_level}
use Rattle.c_reader.specs.Symbol as t
use Rattle.c_reader.specs.Symbol.{Symbol, Operator, Member}
use Rattle.c_reader.specs.Parts.{exprs_of, no_specs}
use Rattle.c_reader.specs.Inside.{InStmt, Condition, of_if, of_while, of_do, Part, plain, returned, condition, for_first, for_condition, for_step, in_then, in_while, in_for, Operand, of_prefix, of_sizeof, of_cast, of_binary, of_assign, of_comma, of_cond, Callee, of_function, Bracket, of_paren, of_index, of_args, of_builtin, of_middle, cast_type, sizeof_type, InExpr, in_operand, in_bracket, in_stmt, in_init, in_value, in_array, InDeclarator, of_type, after_declarator, want_expr, after_expr, after_text, opened, after_sizeof, sizeof_opened, args_opened, after_builtin, want_member, ExprMode, want_stmt, after_stmt, want_condition, want_step, want_semi, done_while, Mode, declarator, expr, stmt, State, at}
use Rattle.c_reader.specs.Begin.{begins_specs, open_spec, want}
use Rattle.c_reader.specs.Declarations.{init_next}
use Rattle.c_reader.specs.Specs.{enumerator_end, add_enumerator}

-- ---- levels

-- the least level of the operand that is still to come
abbrev pub operand_place : Operand → ℕ
operand_place (of_prefix o) = operand_level o
operand_place of_sizeof = 15
operand_place (of_cast ss d) = 14
operand_place (of_binary l o) = suc (prec o)
operand_place (of_assign l o) = 2
operand_place (of_comma l) = 2
operand_place (of_cond c b) = 3

abbrev pub bracket_place : Bracket → ℕ
bracket_place of_paren = 1
bracket_place (of_index l) = 1
bracket_place (of_args c xs) = 2
bracket_place (of_middle c) = 1

-- the least level that may stand there
abbrev pub place : InExpr → ℕ
place (in_operand o k) = operand_place o
place (in_bracket b k) = bracket_place b
place (in_stmt p k) = 1
place (in_init k) = 2
place (in_value n e) = 3
place (in_array d k) = 3

-- the level of what an operator makes of the expression before it; 0 where it takes none
abbrev pub operator_tight : Operator → ℕ
operator_tight (t.binary o) = prec o
operator_tight (t.assign o) = 2
operator_tight (t.step o) = 16
operator_tight (t.negation o) = 0
operator_tight t.question = 3
operator_tight (t.member o) = 16

abbrev pub tight : Symbol → ℕ
tight (t.operator o) = operator_tight o
tight t.lparen = 16
tight t.lbracket = 16
tight t.comma = 1
tight _ = 0

-- the level that an operator wants of the expression before it
abbrev pub operator_needs : Operator → ℕ
operator_needs (t.binary o) = prec o
operator_needs (t.assign o) = 15
operator_needs (t.step o) = 16
operator_needs (t.negation o) = 0
operator_needs t.question = 4
operator_needs (t.member o) = 16

abbrev pub needs : Symbol → ℕ
needs (t.operator o) = operator_needs o
needs t.lparen = 16
needs t.lbracket = 16
needs _ = 0

-- ---- a token that takes the expression before it

abbrev pub take_operator : Env → InExpr → Expr → Operator → Option State
take_operator env k a (t.binary o) = at env (expr (want_expr (in_operand (of_binary a o) k)))
take_operator env k a (t.assign o) = at env (expr (want_expr (in_operand (of_assign a o) k)))
take_operator env k a (t.step o) = at env (expr (after_expr k (u.Post a o)))
take_operator env k a (t.negation o) = None
take_operator env k a t.question = at env (expr (want_expr (in_bracket (of_middle a) k)))
take_operator env k a (t.member m) = at env (expr (want_member a m k))

abbrev pub take_expr : Env → InExpr → Expr → Symbol → Option State
take_expr env k a (t.operator o) = take_operator env k a o
take_expr env k a t.lparen = at env (expr (args_opened a k))
take_expr env k a t.lbracket = at env (expr (want_expr (in_bracket (of_index a) k)))
take_expr env k a t.comma = at env (expr (want_expr (in_operand (of_comma a) k)))
take_expr env k a _ = None

-- ---- a token that closes what is open

abbrev pub close_paren : Env → InExpr → Expr → Symbol → Option State
close_paren env k a t.rparen = at env (expr (after_expr k (u.Paren a)))
close_paren env k a _ = None

abbrev pub close_index : Env → InExpr → Expr → Expr → Symbol → Option State
close_index env k l a t.rbracket = at env (expr (after_expr k (u.Index l a)))
close_index env k l a _ = None

abbrev pub call_of : Callee → Exprs → Expr
call_of (of_function f) xs = u.Call f xs
call_of of_builtin xs = u.Builtin xs

abbrev pub close_args : Env → InExpr → Callee → List Expr → Symbol → Option State
close_args env k c xs t.comma = at env (expr (want_expr (in_bracket (of_args c xs) k)))
close_args env k c xs t.rparen = at env (expr (after_expr k (call_of c (exprs_of xs))))
close_args env k c xs _ = None

abbrev pub close_middle : Env → InExpr → Expr → Expr → Symbol → Option State
close_middle env k c a t.colon = at env (expr (want_expr (in_operand (of_cond c a) k)))
close_middle env k c a _ = None

abbrev pub close_bracket : Env → Bracket → InExpr → Expr → Symbol → Option State
close_bracket env of_paren k a y = close_paren env k a y
close_bracket env (of_index l) k a y = close_index env k l a y
close_bracket env (of_args c xs) k a y = close_args env k c (xs ++ a ∷ []) y
close_bracket env (of_middle c) k a y = close_middle env k c a y

abbrev pub part_semi : Env → Part → InStmt → Expr → Option State
part_semi env plain k a = at env (stmt (after_stmt k (u.ExprStmt (u.some_expr a))))
part_semi env returned k a = at env (stmt (after_stmt k (u.Return (u.some_expr a))))
part_semi env (condition c) k a = None
part_semi env for_first k a = at env (stmt (want_condition (u.FirstExpr (u.some_expr a)) k))
part_semi env (for_condition i) k a = at env (stmt (want_step i (u.some_expr a) k))
part_semi env (for_step i c) k a = None

abbrev pub condition_done : Condition → InStmt → Expr → Mode
condition_done of_if k a = stmt (want_stmt (in_then a k))
condition_done of_while k a = stmt (want_stmt (in_while a k))
condition_done (of_do s) k a = stmt (want_semi (done_while s a) k)

abbrev pub part_paren : Env → Part → InStmt → Expr → Option State
part_paren env plain k a = None
part_paren env returned k a = None
part_paren env (condition c) k a = at env (condition_done c k a)
part_paren env for_first k a = None
part_paren env (for_condition i) k a = None
part_paren env (for_step i c) k a = at env (stmt (want_stmt (in_for i c (u.some_expr a) k)))

abbrev pub close_part : Env → Part → InStmt → Expr → Symbol → Option State
close_part env p k a t.semi = part_semi env p k a
close_part env p k a t.rparen = part_paren env p k a
close_part env p k a _ = None

abbrev pub close_array : Env → Declarator → InDeclarator → Expr → Symbol → Option State
close_array env d k a t.rbracket = at env (declarator (after_declarator k (u.ArrayOf d (u.some_expr a))))
close_array env d k a _ = None

abbrev pub close : Env → InExpr → Expr → Symbol → Option State
close env (in_operand o k) a y = None
close env (in_bracket b k) a y = close_bracket env b k a y
close env (in_stmt p k) a y = close_part env p k a y
close env (in_init k) a y = init_next env k (u.Plain a) y
close env (in_value n e) a y = enumerator_end env (add_enumerator e n (u.some_expr a)) y
close env (in_array d k) a y = close_array env d k a y

-- ---- the token after an expression

abbrev pub made : Operand → Expr → Expr
made (of_prefix o) a = u.Prefix o a
made of_sizeof a = u.SizeofExpr a
made (of_cast ss d) a = u.Cast ss d a
made (of_binary l o) a = u.Binary l o a
made (of_assign l o) a = u.Assign l o a
made (of_comma l) a = u.Comma l a
made (of_cond c b) a = u.Cond c b a

-- The operators whose last operand is over, since the next token takes no more than p: where the expression stands then, and the expression.
abbrev pub reduced : InExpr → Expr → ℕ → InExpr × Expr
reduced (in_operand o k) a p = if nat_le (operand_place o) p then (in_operand o k, a) else reduced k (made o a) p
reduced (in_bracket b k) a p = (in_bracket b k, a)
reduced (in_stmt q k) a p = (in_stmt q k, a)
reduced (in_init k) a p = (in_init k, a)
reduced (in_value n e) a p = (in_value n e, a)
reduced (in_array d k) a p = (in_array d k, a)

abbrev pub take : Env → InExpr → Expr → Symbol → Option State
take env k a y = if nat_le (needs y) (level a) then take_expr env k a y else None

abbrev pub next : Env → InExpr × Expr → Symbol → Option State
next env r y = if nat_le (place r.0) (tight y) then take env r.0 r.1 y else close env r.0 r.1 y

abbrev pub after : Env → InExpr → Expr → Symbol → Option State
after env k a y = next env (reduced k a (tight y)) y

-- ---- the other places in an expression

abbrev pub text_next : Env → InExpr → List (List ℕ) → Symbol → Option State
text_next env k ns (t.text n) = at env (expr (after_text k (ns ++ n ∷ [])))
text_next env k ns y = after env k (u.Text ns) y

-- a type name in parentheses: a cast stands only where its level may
abbrev pub open_cast : Env → InExpr → Symbol → Option State
open_cast env k y = if nat_le (place k) 14 then open_spec env no_specs (of_type cast_type k) y else None

abbrev pub paren_next : Env → InExpr → Symbol → Option State
paren_next env k y = if begins_specs env false y then open_cast env k y else want env (in_bracket of_paren k) y

abbrev pub sizeof_paren_next : Env → InExpr → Symbol → Option State
sizeof_paren_next env k y = if begins_specs env false y then open_spec env no_specs (of_type sizeof_type k) y else want env (in_bracket of_paren (in_operand of_sizeof k)) y

abbrev pub sizeof_next : Env → InExpr → Symbol → Option State
sizeof_next env k t.lparen = at env (expr (sizeof_opened k))
sizeof_next env k y = want env (in_operand of_sizeof k) y

abbrev pub args_begin : Env → Expr → InExpr → Symbol → Option State
args_begin env f k t.rparen = at env (expr (after_expr k (u.Call f u.no_exprs)))
args_begin env f k y = want env (in_bracket (of_args (of_function f) []) k) y

abbrev pub builtin_next : Env → InExpr → Symbol → Option State
builtin_next env k t.lparen = at env (expr (want_expr (in_bracket (of_args of_builtin []) k)))
builtin_next env k _ = None

abbrev pub member_of : Member → Expr → List ℕ → Expr
member_of t.Dot a n = u.Dot a n
member_of t.Arrow a n = u.Arrow a n

abbrev pub member_next : Env → Expr → Member → InExpr → Symbol → Option State
member_next env a m k (t.name n) = at env (expr (after_expr k (member_of m a n)))
member_next env a m k _ = None

abbrev pub expr_next : Env → ExprMode → Symbol → Option State
expr_next env (want_expr k) y = want env k y
expr_next env (after_expr k a) y = after env k a y
expr_next env (after_text k ns) y = text_next env k ns y
expr_next env (opened k) y = paren_next env k y
expr_next env (after_sizeof k) y = sizeof_next env k y
expr_next env (sizeof_opened k) y = sizeof_paren_next env k y
expr_next env (args_opened f k) y = args_begin env f k y
expr_next env (after_builtin k) y = builtin_next env k y
expr_next env (want_member a m k) y = member_next env a m k y
