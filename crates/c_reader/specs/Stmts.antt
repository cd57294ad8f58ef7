-- Statements.
use Rattle.std.specs.Prelude.{Bool, true, false, if◌then◌else◌, [], ◌∷◌, ◌++◌, Option, None}
use Rattle.c_tree.specs.Tree as u
use Rattle.c_tree.specs.Tree.{MaybeExpr, First, Stmt, BlockItems}
use Rattle.c_tree.specs.Wf.{Env}
use Rattle.c_reader.specs.Symbol as t
use Rattle.c_reader.specs.Symbol.{Symbol, Head}
use Rattle.c_reader.specs.Parts.{statement, items_of, no_specs}
use Rattle.c_reader.specs.Inside.{InStmt, InBody, in_block, in_then, in_else, in_while, in_do, in_for, of_definition, of_stmt, of_block, of_for, Condition, of_if, of_while, of_do, plain, returned, condition, Unended, broken, continued, done_while, for_first, for_condition, for_step, in_stmt, of_declaration, want_expr, StmtMode, want_stmt, after_stmt, want_paren, after_for, for_opened, want_condition, want_step, want_semi, after_return, want_external, expr, stmt, Mode, State, at}
use Rattle.c_reader.specs.Begin.{begins_specs, open_spec, want}

abbrev pub head_begin : Env → InStmt → Head → Option State
head_begin env k t.If = at env (stmt (want_paren of_if k))
head_begin env k t.Else = None
head_begin env k t.While = at env (stmt (want_paren of_while k))
head_begin env k t.Do = at env (stmt (want_stmt (in_do k)))
head_begin env k t.For = at env (stmt (after_for k))
head_begin env k t.Break = at env (stmt (want_semi broken k))
head_begin env k t.Continue = at env (stmt (want_semi continued k))
head_begin env k t.Return = at env (stmt (after_return k))

abbrev pub block_done : InBody → BlockItems → Mode
block_done (of_definition done ss d) is = want_external (done ++ u.Definition ss d is ∷ [])
block_done (of_stmt k) is = stmt (after_stmt k (u.Block is))

-- the } of a block
abbrev pub close_block : Env → InStmt → Option State
close_block env (in_block is b) = at env (block_done b (items_of is))
close_block env (in_then c k) = None
close_block env (in_else c a k) = None
close_block env (in_while c k) = None
close_block env (in_do k) = None
close_block env (in_for i c e k) = None

-- a declaration stands only in a block
abbrev pub declaration_begin : Env → InStmt → Symbol → Option State
declaration_begin env (in_block is b) y = open_spec env no_specs (of_declaration (of_block is b)) y
declaration_begin env (in_then c k) y = None
declaration_begin env (in_else c a k) y = None
declaration_begin env (in_while c k) y = None
declaration_begin env (in_do k) y = None
declaration_begin env (in_for i c e k) y = None

abbrev pub stmt_begin : Env → InStmt → Symbol → Option State
stmt_begin env k (t.head h) = head_begin env k h
stmt_begin env k t.lbrace = at env (stmt (want_stmt (in_block [] (of_stmt k))))
stmt_begin env k t.rbrace = close_block env k
stmt_begin env k t.semi = at env (stmt (after_stmt k (u.ExprStmt u.no_expr)))
stmt_begin env k y = if begins_specs env false y then declaration_begin env k y else want env (in_stmt plain k) y

abbrev pub is_else_word : Head → Bool
is_else_word t.Else = true
is_else_word _ = false

abbrev pub is_else : Symbol → Bool
is_else (t.head h) = is_else_word h
is_else _ = false

abbrev pub is_while_word : Head → Bool
is_while_word t.While = true
is_while_word _ = false

abbrev pub is_while : Symbol → Bool
is_while (t.head h) = is_while_word h
is_while _ = false

-- the token after a statement
abbrev pub stmt_next : Env → InStmt → Stmt → Symbol → Option State
stmt_next env (in_block is b) s y = stmt_begin env (in_block (is ++ statement s ∷ []) b) y
stmt_next env (in_then c k) s y = if is_else y then at env (stmt (want_stmt (in_else c s k))) else stmt_next env k (u.If c s) y
stmt_next env (in_else c a k) s y = stmt_next env k (u.IfElse c a s) y
stmt_next env (in_while c k) s y = stmt_next env k (u.While c s) y
stmt_next env (in_do k) s y = if is_while y then at env (stmt (want_paren (of_do s) k)) else None
stmt_next env (in_for i c e k) s y = stmt_next env k (u.For i c e s) y

abbrev pub paren_next : Env → Condition → InStmt → Symbol → Option State
paren_next env c k t.lparen = at env (expr (want_expr (in_stmt (condition c) k)))
paren_next env c k _ = None

abbrev pub for_next : Env → InStmt → Symbol → Option State
for_next env k t.lparen = at env (stmt (for_opened k))
for_next env k _ = None

abbrev pub for_begin : Env → InStmt → Symbol → Option State
for_begin env k t.semi = at env (stmt (want_condition (u.FirstExpr u.no_expr) k))
for_begin env k y = if begins_specs env false y then open_spec env no_specs (of_declaration (of_for k)) y else want env (in_stmt for_first k) y

abbrev pub condition_begin : Env → First → InStmt → Symbol → Option State
condition_begin env i k t.semi = at env (stmt (want_step i u.no_expr k))
condition_begin env i k y = want env (in_stmt (for_condition i) k) y

abbrev pub step_begin : Env → First → MaybeExpr → InStmt → Symbol → Option State
step_begin env i c k t.rparen = at env (stmt (want_stmt (in_for i c u.no_expr k)))
step_begin env i c k y = want env (in_stmt (for_step i c) k) y

abbrev pub ended : Unended → Stmt
ended broken = u.Break
ended continued = u.Continue
ended (done_while s c) = u.Do s c

abbrev pub semi_next : Env → Unended → InStmt → Symbol → Option State
semi_next env s k t.semi = at env (stmt (after_stmt k (ended s)))
semi_next env s k _ = None

abbrev pub return_next : Env → InStmt → Symbol → Option State
return_next env k t.semi = at env (stmt (after_stmt k (u.Return u.no_expr)))
return_next env k y = want env (in_stmt returned k) y

abbrev pub stmt_mode_next : Env → StmtMode → Symbol → Option State
stmt_mode_next env (want_stmt k) y = stmt_begin env k y
stmt_mode_next env (after_stmt k s) y = stmt_next env k s y
stmt_mode_next env (want_paren c k) y = paren_next env c k y
stmt_mode_next env (after_for k) y = for_next env k y
stmt_mode_next env (for_opened k) y = for_begin env k y
stmt_mode_next env (want_condition i k) y = condition_begin env i k y
stmt_mode_next env (want_step i c k) y = step_begin env i c k y
stmt_mode_next env (want_semi s k) y = semi_next env s k y
stmt_mode_next env (after_return k) y = return_next env k y
