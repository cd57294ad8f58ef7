-- Statements, with places and numbers; o is the statement that is open, and d a depth.
use Rattle.std.specs.Prelude.{ℕ, suc, max, false, if◌then◌else◌, [], ◌∷◌, ◌++◌, Option, None}
use Rattle.tok_base.specs.declared.token.Span.{Span}
use Rattle.c_tree.specs.declared.operator.At.{At}
use Rattle.c_tree.specs.Marked as u
use Rattle.c_tree.specs.Marked.{MaybeExpr, First, Stmt, BlockItems}
use Rattle.c_tree.specs.Wf.{Env}
use Rattle.c_reader.specs.Symbol as t
use Rattle.c_reader.specs.Symbol.{Symbol, Head}
use Rattle.c_reader.specs.Begin.{begins_specs}
use Rattle.c_reader.specs.Stmts.{is_else, is_while}
use Rattle.c_reader.specs.MarkedParts.{Open, mark, opens, with_part, whole, statement, items_of}
use Rattle.c_reader.specs.MarkedInside.{InStmt, InBody, in_block, in_then, in_else, in_while, in_do, in_for, of_definition, of_stmt, of_block, of_for, Condition, of_if, of_while, of_do, plain, returned, condition, Unended, broken, continued, done_while, for_first, for_condition, for_step, in_stmt, of_declaration, want_expr, StmtMode, want_stmt, after_stmt, want_paren, after_for, for_opened, want_condition, want_step, want_semi, after_return, want_external, expr, stmt, around_stmt, Next, go_on}
use Rattle.c_reader.specs.MarkedBegin.{begin_specs, want}

abbrev pub head_begin : ℕ → Env → InStmt → Head → Span → Option Next
head_begin n env k t.If s = go_on n env (stmt (want_paren (opens (around_stmt k).level s.start) of_if k))
head_begin n env k t.Else s = None
head_begin n env k t.While s = go_on n env (stmt (want_paren (opens (around_stmt k).level s.start) of_while k))
head_begin n env k t.Do s = go_on n env (stmt (want_stmt (in_do (opens (around_stmt k).level s.start) k)))
head_begin n env k t.For s = go_on n env (stmt (after_for (opens (around_stmt k).level s.start) k))
head_begin n env k t.Break s = go_on n env (stmt (want_semi (opens (around_stmt k).level s.start) broken k))
head_begin n env k t.Continue s = go_on n env (stmt (want_semi (opens (around_stmt k).level s.start) continued k))
head_begin n env k t.Return s = go_on n env (stmt (after_return (opens (around_stmt k).level s.start) k))

-- a body's end is its definition's
abbrev pub block_done : ℕ → Env → Open → InBody → BlockItems → Span → Option Next
block_done n env o (of_definition deep d_o done ss d) is s =
    go_on (suc (suc n)) env (want_external (max deep (whole d_o (whole o 0))) (done ++ u.Definition (mark d_o.from s.end (suc n)) ss d (mark o.from s.end n) is ∷ []))
block_done n env o (of_stmt k) is s = go_on (suc n) env (stmt (after_stmt (whole o 0) k (u.Block (mark o.from s.end n) is)))

-- the } of a block
abbrev pub close_block : ℕ → Env → InStmt → Span → Option Next
close_block n env (in_block o is b) s = block_done n env o b (items_of is) s
close_block n env (in_then o c k) s = None
close_block n env (in_else o c a k) s = None
close_block n env (in_while o c k) s = None
close_block n env (in_do o k) s = None
close_block n env (in_for o i c f k) s = None

-- a declaration stands only in a block
abbrev pub declaration_begin : ℕ → Env → InStmt → Symbol → Span → Option Next
declaration_begin n env (in_block o is b) y s = begin_specs n env (of_declaration (of_block o is b)) y s
declaration_begin n env (in_then o c k) y s = None
declaration_begin n env (in_else o c a k) y s = None
declaration_begin n env (in_while o c k) y s = None
declaration_begin n env (in_do o k) y s = None
declaration_begin n env (in_for o i c f k) y s = None

abbrev pub stmt_begin : ℕ → Env → InStmt → Symbol → Span → Option Next
stmt_begin n env k (t.head h) s = head_begin n env k h s
stmt_begin n env k t.lbrace s = go_on n env (stmt (want_stmt (in_block (opens (around_stmt k).level s.start) [] (of_stmt k))))
stmt_begin n env k t.rbrace s = close_block n env k s
stmt_begin n env k t.semi s = go_on (suc n) env (stmt (after_stmt 1 k (u.ExprStmt (mark s.start s.end n) u.no_expr)))
stmt_begin n env k y s = if begins_specs env false y then declaration_begin n env k y s else want n env (in_stmt (opens (around_stmt k).level s.start) plain k) y s

-- the token after a statement, of depth d: what ends there ends with the last token
abbrev pub stmt_next : ℕ → ℕ → Env → ℕ → InStmt → Stmt → Symbol → Span → Option Next
stmt_next n e env d (in_block o is b) a y s = stmt_begin n env (in_block (with_part o d) (is ++ statement a ∷ []) b) y s
stmt_next n e env d (in_then o c k) a y s =
    if is_else y then go_on n env (stmt (want_stmt (in_else (with_part o d) c a k))) else stmt_next (suc n) e env (whole o d) k (u.If (mark o.from e n) c a) y s
stmt_next n e env d (in_else o c b k) a y s = stmt_next (suc n) e env (whole o d) k (u.IfElse (mark o.from e n) c b a) y s
stmt_next n e env d (in_while o c k) a y s = stmt_next (suc n) e env (whole o d) k (u.While (mark o.from e n) c a) y s
stmt_next n e env d (in_do o k) a y s = if is_while y then go_on n env (stmt (want_paren (with_part o d) (of_do a) k)) else None
stmt_next n e env d (in_for o i c f k) a y s = stmt_next (suc n) e env (whole o d) k (u.For (mark o.from e n) i c f a) y s

abbrev pub paren_next : ℕ → Env → Open → Condition → InStmt → Symbol → Option Next
paren_next n env o c k t.lparen = go_on n env (expr (want_expr (in_stmt o (condition c) k)))
paren_next n env o c k _ = None

abbrev pub for_next : ℕ → Env → Open → InStmt → Symbol → Option Next
for_next n env o k t.lparen = go_on n env (stmt (for_opened o k))
for_next n env o k _ = None

abbrev pub for_begin : ℕ → Env → Open → InStmt → Symbol → Span → Option Next
for_begin n env o k t.semi s = go_on n env (stmt (want_condition o (u.FirstExpr u.no_expr) k))
for_begin n env o k y s = if begins_specs env false y then begin_specs n env (of_declaration (of_for o k)) y s else want n env (in_stmt o for_first k) y s

abbrev pub condition_begin : ℕ → Env → Open → First → InStmt → Symbol → Span → Option Next
condition_begin n env o i k t.semi s = go_on n env (stmt (want_step o i u.no_expr k))
condition_begin n env o i k y s = want n env (in_stmt o (for_condition i) k) y s

abbrev pub step_begin : ℕ → Env → Open → First → MaybeExpr → InStmt → Symbol → Span → Option Next
step_begin n env o i c k t.rparen s = go_on n env (stmt (want_stmt (in_for o i c u.no_expr k)))
step_begin n env o i c k y s = want n env (in_stmt o (for_step i c) k) y s

abbrev pub ended : At → Unended → Stmt
ended at broken = u.Break at
ended at continued = u.Continue at
ended at (done_while a c) = u.Do at a c

abbrev pub semi_next : ℕ → Env → Open → Unended → InStmt → Symbol → Span → Option Next
semi_next n env o a k t.semi s = go_on (suc n) env (stmt (after_stmt (whole o 0) k (ended (mark o.from s.end n) a)))
semi_next n env o a k _ s = None

abbrev pub return_next : ℕ → Env → Open → InStmt → Symbol → Span → Option Next
return_next n env o k t.semi s = go_on (suc n) env (stmt (after_stmt (whole o 0) k (u.Return (mark o.from s.end n) u.no_expr)))
return_next n env o k y s = want n env (in_stmt o returned k) y s

abbrev pub stmt_mode_next : ℕ → ℕ → Env → StmtMode → Symbol → Span → Option Next
stmt_mode_next n e env (want_stmt k) y s = stmt_begin n env k y s
stmt_mode_next n e env (after_stmt d k a) y s = stmt_next n e env d k a y s
stmt_mode_next n e env (want_paren o c k) y s = paren_next n env o c k y
stmt_mode_next n e env (after_for o k) y s = for_next n env o k y
stmt_mode_next n e env (for_opened o k) y s = for_begin n env o k y s
stmt_mode_next n e env (want_condition o i k) y s = condition_begin n env o i k y s
stmt_mode_next n e env (want_step o i c k) y s = step_begin n env o i c k y s
stmt_mode_next n e env (want_semi o a k) y s = semi_next n env o a k y s
stmt_mode_next n e env (after_return o k) y s = return_next n env o k y s
