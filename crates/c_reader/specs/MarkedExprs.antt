-- Expressions, with places and numbers: the token after one takes it as a part, or closes what is open.
use Rattle.std.specs.Prelude.{ℕ, suc, nat_le, false, if◌then◌else◌, List, [], ◌∷◌, ◌++◌, Option, None}
use Rattle.tok_base.specs.declared.token.Span.{Span}
use Rattle.c_tree.specs.declared.operator.At.{At}
use Rattle.c_tree.specs.Marked as u
use Rattle.c_tree.specs.Marked.{Expr, Exprs, Declarator}
use Rattle.c_tree.specs.Bare.{bare}
use Rattle.c_tree.specs.Wf.{Env, prec, level, operand_level}
use Rattle.c_reader.specs.Symbol as t
use Rattle.c_reader.specs.Symbol.{Symbol, Operator, Member}
use Rattle.c_reader.specs.Begin.{begins_specs}
use Rattle.c_reader.specs.Exprs.{tight, needs}
use Rattle.c_reader.specs.MarkedParts.{Open, Had, mark, opens, takes, with_part, whole, closed, leaf, over, exprs_of}
use Rattle.c_reader.specs.MarkedInside.{InStmt, Condition, of_if, of_while, of_do, Part, plain, returned, condition, for_first, for_condition, for_step, in_then, in_while, in_for, Operand, of_prefix, of_sizeof, of_cast, of_binary, of_assign, of_comma, of_cond, Callee, of_function, Bracket, of_paren, of_index, of_args, of_builtin, of_middle, cast_type, sizeof_type, InExpr, in_operand, in_bracket, in_stmt, in_init, in_value, in_array, InDeclarator, of_type, after_declarator, want_expr, after_expr, after_text, opened, after_sizeof, sizeof_opened, args_opened, after_builtin, want_member, ExprMode, want_stmt, after_stmt, want_condition, want_step, want_semi, done_while, declarator, expr, stmt, around_expr, Next, go_on}
use Rattle.c_reader.specs.MarkedBegin.{begin_specs, want}
use Rattle.c_reader.specs.MarkedDeclarations.{init_next}
use Rattle.c_reader.specs.MarkedSpecs.{enumerator_end, add_enumerator}

-- ---- levels

-- the least level of the operand that is still to come
abbrev pub operand_place : Operand → ℕ
operand_place (of_prefix o) = operand_level o
operand_place of_sizeof = 15
operand_place (of_cast t) = 14
operand_place (of_binary l o) = suc (prec o)
operand_place (of_assign l o) = 2
operand_place (of_comma l) = 2
operand_place (of_cond c b) = 3

abbrev pub bracket_place : Bracket → ℕ
bracket_place of_paren = 1
bracket_place (of_index l) = 1
bracket_place (of_args c xs) = 2
bracket_place (of_middle c) = 1

-- the least level that may stand there
abbrev pub place : InExpr → ℕ
place (in_operand o x k) = operand_place x
place (in_bracket o b k) = bracket_place b
place (in_stmt o p k) = 1
place (in_init k) = 2
place (in_value o x k) = 3
place (in_array o d k) = 3

-- ---- a token that takes the expression before it

abbrev pub take_operator : ℕ → Env → Had → InExpr → Expr → Operator → Span → Option Next
take_operator n env h k a (t.binary o) s = go_on n env (expr (want_expr (in_operand (takes (around_expr k).level h) (of_binary a o) k)))
take_operator n env h k a (t.assign o) s = go_on n env (expr (want_expr (in_operand (takes (around_expr k).level h) (of_assign a o) k)))
take_operator n env h k a (t.step o) s = go_on (suc n) env (expr (after_expr (over h) k (u.Post (mark h.from s.end n) a o)))
take_operator n env h k a (t.negation o) s = None
take_operator n env h k a t.question s = go_on n env (expr (want_expr (in_bracket (takes (around_expr k).level h) (of_middle a) k)))
take_operator n env h k a (t.member m) s = go_on n env (expr (want_member (takes (around_expr k).level h) a m k))

abbrev pub take_expr : ℕ → Env → Had → InExpr → Expr → Symbol → Span → Option Next
take_expr n env h k a (t.operator o) s = take_operator n env h k a o s
take_expr n env h k a t.lparen s = go_on n env (expr (args_opened (takes (around_expr k).level h) a k))
take_expr n env h k a t.lbracket s = go_on n env (expr (want_expr (in_bracket (takes (around_expr k).level h) (of_index a) k)))
take_expr n env h k a t.comma s = go_on n env (expr (want_expr (in_operand (takes (around_expr k).level h) (of_comma a) k)))
take_expr n env h k a _ s = None

-- ---- a token that closes what is open: o is that node, and d the depth of its last part

abbrev pub close_paren : ℕ → Env → Open → ℕ → InExpr → Expr → Symbol → Span → Option Next
close_paren n env o d k a t.rparen s = go_on (suc n) env (expr (after_expr (closed o d) k (u.Paren (mark o.from s.end n) a)))
close_paren n env o d k a _ s = None

abbrev pub close_index : ℕ → Env → Open → ℕ → InExpr → Expr → Expr → Symbol → Span → Option Next
close_index n env o d k l a t.rbracket s = go_on (suc n) env (expr (after_expr (closed o d) k (u.Index (mark o.from s.end n) l a)))
close_index n env o d k l a _ s = None

abbrev pub call_of : At → Callee → Exprs → Expr
call_of at (of_function f) xs = u.Call at f xs
call_of at of_builtin xs = u.Builtin at xs

-- o has the depth of all arguments
abbrev pub close_args : ℕ → Env → Open → InExpr → Callee → List Expr → Symbol → Span → Option Next
close_args n env o k c xs t.comma s = go_on n env (expr (want_expr (in_bracket o (of_args c xs) k)))
close_args n env o k c xs t.rparen s = go_on (suc n) env (expr (after_expr (closed o 0) k (call_of (mark o.from s.end n) c (exprs_of xs))))
close_args n env o k c xs _ s = None

abbrev pub close_middle : ℕ → Env → Open → ℕ → InExpr → Expr → Expr → Symbol → Option Next
close_middle n env o d k c a t.colon = go_on n env (expr (want_expr (in_operand (with_part o d) (of_cond c a) k)))
close_middle n env o d k c a _ = None

abbrev pub close_bracket : ℕ → Env → Open → ℕ → Bracket → InExpr → Expr → Symbol → Span → Option Next
close_bracket n env o d of_paren k a y s = close_paren n env o d k a y s
close_bracket n env o d (of_index l) k a y s = close_index n env o d k l a y s
close_bracket n env o d (of_args c xs) k a y s = close_args n env (with_part o d) k c (xs ++ a ∷ []) y s
close_bracket n env o d (of_middle c) k a y s = close_middle n env o d k c a y

abbrev pub part_semi : ℕ → Env → Open → ℕ → Part → InStmt → Expr → Span → Option Next
part_semi n env o d plain k a s = go_on (suc n) env (stmt (after_stmt (whole o d) k (u.ExprStmt (mark o.from s.end n) (u.some_expr a))))
part_semi n env o d returned k a s = go_on (suc n) env (stmt (after_stmt (whole o d) k (u.Return (mark o.from s.end n) (u.some_expr a))))
part_semi n env o d (condition c) k a s = None
part_semi n env o d for_first k a s = go_on n env (stmt (want_condition (with_part o d) (u.FirstExpr (u.some_expr a)) k))
part_semi n env o d (for_condition i) k a s = go_on n env (stmt (want_step (with_part o d) i (u.some_expr a) k))
part_semi n env o d (for_step i c) k a s = None

-- o has the depth of the condition a
abbrev pub condition_done : ℕ → Env → Open → Condition → InStmt → Expr → Option Next
condition_done n env o of_if k a = go_on n env (stmt (want_stmt (in_then o a k)))
condition_done n env o of_while k a = go_on n env (stmt (want_stmt (in_while o a k)))
condition_done n env o (of_do b) k a = go_on n env (stmt (want_semi o (done_while b a) k))

abbrev pub part_paren : ℕ → Env → Open → ℕ → Part → InStmt → Expr → Option Next
part_paren n env o d plain k a = None
part_paren n env o d returned k a = None
part_paren n env o d (condition c) k a = condition_done n env (with_part o d) c k a
part_paren n env o d for_first k a = None
part_paren n env o d (for_condition i) k a = None
part_paren n env o d (for_step i c) k a = go_on n env (stmt (want_stmt (in_for (with_part o d) i c (u.some_expr a) k)))

abbrev pub close_part : ℕ → Env → Open → ℕ → Part → InStmt → Expr → Symbol → Span → Option Next
close_part n env o d p k a t.semi s = part_semi n env o d p k a s
close_part n env o d p k a t.rparen s = part_paren n env o d p k a
close_part n env o d p k a _ s = None

abbrev pub close_array : ℕ → Env → Open → ℕ → Declarator → InDeclarator → Expr → Symbol → Span → Option Next
close_array n env o d x k a t.rbracket s = go_on (suc n) env (declarator (after_declarator (closed o d) k (u.ArrayOf (mark o.from s.end n) x (u.some_expr a))))
close_array n env o d x k a _ s = None

-- d is the depth of a; a value ends with the last token
abbrev pub close : ℕ → ℕ → Env → ℕ → InExpr → Expr → Symbol → Span → Option Next
close n e env d (in_operand o x k) a y s = None
close n e env d (in_bracket o b k) a y s = close_bracket n env o d b k a y s
close n e env d (in_stmt o p k) a y s = close_part n env o d p k a y s
close n e env d (in_init k) a y s = init_next n e env d k (u.Plain a) y s
close n e env d (in_value o x k) a y s = enumerator_end (suc n) env (add_enumerator n e o d k x (u.some_expr a)) y s
close n e env d (in_array o x k) a y s = close_array n env o d x k a y s

-- ---- the token after an expression

abbrev pub made : At → Operand → Expr → Expr
made at (of_prefix o) a = u.Prefix at o a
made at of_sizeof a = u.SizeofExpr at a
made at (of_cast m) a = u.Cast at m a
made at (of_binary l o) a = u.Binary at l o a
made at (of_assign l o) a = u.Assign at l o a
made at (of_comma l) a = u.Comma at l a
made at (of_cond c b) a = u.Cond at c b a

-- an expression, where it begins, its depth, where it stands, and the number of the next node
pub record Reduced : Type 0 where
  pub id : ℕ
  pub had : Had
  pub place : InExpr
  pub expr : Expr

-- the operators whose last operand is over, since the next token takes no more than p: they end with the last token
abbrev pub reduced : ℕ → ℕ → Had → InExpr → Expr → ℕ → Reduced
reduced n e h (in_operand o x k) a p =
    if nat_le (operand_place x) p then record { id = n; had = h; place = in_operand o x k; expr = a } else reduced (suc n) e (closed o h.deep) k (made (mark o.from e n) x a) p
reduced n e h (in_bracket o b k) a p = record { id = n; had = h; place = in_bracket o b k; expr = a }
reduced n e h (in_stmt o q k) a p = record { id = n; had = h; place = in_stmt o q k; expr = a }
reduced n e h (in_init k) a p = record { id = n; had = h; place = in_init k; expr = a }
reduced n e h (in_value o x k) a p = record { id = n; had = h; place = in_value o x k; expr = a }
reduced n e h (in_array o x k) a p = record { id = n; had = h; place = in_array o x k; expr = a }

abbrev pub take : ℕ → Env → Had → InExpr → Expr → Symbol → Span → Option Next
take n env h k a y s = if nat_le (needs y) (level (bare a)) then take_expr n env h k a y s else None

abbrev pub next : ℕ → Env → Reduced → Symbol → Span → Option Next
next e env r y s = if nat_le (place r.place) (tight y) then take r.id env r.had r.place r.expr y s else close r.id e env r.had.deep r.place r.expr y s

abbrev pub after : ℕ → ℕ → Env → Had → InExpr → Expr → Symbol → Span → Option Next
after n e env h k a y s = next e env (reduced n e h k a (tight y)) y s

-- ---- the other places in an expression

abbrev pub text_next : ℕ → ℕ → Env → ℕ → InExpr → List (List ℕ) → Symbol → Span → Option Next
text_next n e env from k xs (t.text x) s = go_on n env (expr (after_text from k (xs ++ x ∷ [])))
text_next n e env from k xs y s = after (suc n) e env (leaf from) k (u.Text (mark from e n) xs) y s

-- a type name in parentheses: a cast stands only where its level may
abbrev pub open_cast : ℕ → Env → Open → InExpr → Symbol → Span → Option Next
open_cast n env o k y s = if nat_le (place k) 14 then begin_specs n env (of_type o cast_type k) y s else None

abbrev pub paren_next : ℕ → Env → Open → InExpr → Symbol → Span → Option Next
paren_next n env o k y s = if begins_specs env false y then open_cast n env o k y s else want n env (in_bracket o of_paren k) y s

-- p_from is where the parenthesis stands
abbrev pub sizeof_paren_next : ℕ → Env → Open → ℕ → InExpr → Symbol → Span → Option Next
sizeof_paren_next n env o p_from k y s =
    if begins_specs env false y then begin_specs n env (of_type o sizeof_type k) y s else want n env (in_bracket (opens o.level p_from) of_paren (in_operand o of_sizeof k)) y s

abbrev pub sizeof_next : ℕ → Env → Open → InExpr → Symbol → Span → Option Next
sizeof_next n env o k t.lparen s = go_on n env (expr (sizeof_opened o s.start k))
sizeof_next n env o k y s = want n env (in_operand o of_sizeof k) y s

abbrev pub args_begin : ℕ → Env → Open → Expr → InExpr → Symbol → Span → Option Next
args_begin n env o f k t.rparen s = go_on (suc n) env (expr (after_expr (closed o 0) k (u.Call (mark o.from s.end n) f u.no_exprs)))
args_begin n env o f k y s = want n env (in_bracket o (of_args (of_function f) []) k) y s

abbrev pub builtin_next : ℕ → Env → Open → InExpr → Symbol → Option Next
builtin_next n env o k t.lparen = go_on n env (expr (want_expr (in_bracket o (of_args of_builtin []) k)))
builtin_next n env o k _ = None

abbrev pub member_of : At → Member → Expr → List ℕ → Expr
member_of at t.Dot a x = u.Dot at a x
member_of at t.Arrow a x = u.Arrow at a x

abbrev pub member_next : ℕ → Env → Open → Expr → Member → InExpr → Symbol → Span → Option Next
member_next n env o a m k (t.name x) s = go_on (suc n) env (expr (after_expr (closed o 0) k (member_of (mark o.from s.end n) m a x)))
member_next n env o a m k _ s = None

abbrev pub expr_next : ℕ → ℕ → Env → ExprMode → Symbol → Span → Option Next
expr_next n e env (want_expr k) y s = want n env k y s
expr_next n e env (after_expr h k a) y s = after n e env h k a y s
expr_next n e env (after_text from k xs) y s = text_next n e env from k xs y s
expr_next n e env (opened o k) y s = paren_next n env o k y s
expr_next n e env (after_sizeof o k) y s = sizeof_next n env o k y s
expr_next n e env (sizeof_opened o p_from k) y s = sizeof_paren_next n env o p_from k y s
expr_next n e env (args_opened o f k) y s = args_begin n env o f k y s
expr_next n e env (after_builtin o k) y s = builtin_next n env o k y
expr_next n e env (want_member o a m k) y s = member_next n env o a m k y s
