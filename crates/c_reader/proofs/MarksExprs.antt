-- Numbers and places are kept: expressions.
use Rattle.std.proofs.Common.{◌≡◌, ℕ, suc, nat_le, false, List, [], ◌∷◌, ◌++◌, None, refl, ◌∙◌, ap}
use Rattle.tok_base.specs.declared.token.Span.{Span}
use Rattle.c_tree.specs.declared.operator.At.{At}
use Rattle.c_tree.specs.Tok as g
use Rattle.c_tree.specs.Marks.{binary_mark, assign_mark, step_mark}
use Rattle.c_tree.specs.Marked as u
use Rattle.c_tree.specs.Marked.{Expr, Exprs, Declarator}
use Rattle.c_tree.specs.Bare.{bare}
use Rattle.c_tree.specs.Pieces.{Piece, token, opens, closes, pieces_all, pieces_text, pieces, pieces_exprs, pieces_declarator}
use Rattle.c_tree.specs.Wf.{Env, level}
use Rattle.c_reader.specs.Symbol as t
use Rattle.c_reader.specs.Symbol.{Symbol, Operator, Member, member_mark}
use Rattle.c_reader.specs.Begin.{begins_specs}
use Rattle.c_reader.specs.Exprs.{tight, needs}
use Rattle.c_reader.specs.MarkedParts as mp
use Rattle.c_reader.specs.MarkedParts.{Open, Had, mark, with_part, exprs_of}
use Rattle.c_reader.specs.MarkedInside.{InStmt, Condition, of_if, of_while, of_do, Part, plain, returned, condition, for_first, for_condition, for_step, Operand, of_prefix, of_sizeof, of_cast, of_binary, of_assign, of_comma, of_cond, Callee, of_function, Bracket, of_paren, of_index, of_args, of_builtin, of_middle, cast_type, sizeof_type, InExpr, in_operand, in_bracket, in_stmt, in_init, in_value, in_array, InDeclarator, of_type, want_expr, after_expr, after_text, opened, after_sizeof, sizeof_opened, args_opened, after_builtin, want_member, ExprMode}
use Rattle.c_reader.specs.MarkedBegin as rb
use Rattle.c_reader.specs.MarkedExprs as r
use Rattle.c_reader.specs.MarkedExprs.{Reduced}
use Rattle.c_reader.proofs.Marks.{Spot, spot, Opened, same_opened, with_token, joined, all_of, begun, closed, pieces_done, all-last, done-last, commas-last, exprs-commas, by_test}
use Rattle.c_reader.proofs.MarksAt.{AtStmt, AtExpr, AtDeclarator, AtExprMode, pieces_operand, pieces_callee, pieces_bracket, pieces_part, Good}
use Rattle.c_reader.proofs.MarksDeclarations.{begin_specs_at, want_at, init_at}
use Rattle.c_reader.proofs.MarksSpecs.{enumerator_end_at}

-- an expression was read where k is
abbrev pub AtExprIn : Spot → InExpr → ℕ → Expr → Spot → Type 0
AtExprIn z k from a x = Opened (AtExpr z k) from (pieces a) x

-- ---- a token that takes the expression before it

operator_at : (z : Spot) (n e : ℕ) (env : Env) (had : Had) (k : InExpr) (a : Expr) (o : Operator) (s : Span) (left : List Span)
    → AtExprIn z k had.from a (spot n e (s ∷ left)) → Good z s.end left (r.take_operator n env had k a o s)
operator_at z n e env had k a (t.binary o) s left i = with_token (g.mark (binary_mark o)) n e s left i
operator_at z n e env had k a (t.assign o) s left i = with_token (g.mark (assign_mark o)) n e s left i
operator_at z n e env had k a (t.step o) s left i = closed n s.end left (with_token (g.mark (step_mark o)) n e s left i)
operator_at z n e env had k a (t.negation o) s left i = tt
operator_at z n e env had k a t.question s left i = with_token (g.mark g.Quest) n e s left i
operator_at z n e env had k a (t.member c) s left i = with_token (g.mark (member_mark c)) n e s left i

take_expr_at : (z : Spot) (n e : ℕ) (env : Env) (had : Had) (k : InExpr) (a : Expr) (y : Symbol) (s : Span) (left : List Span)
    → AtExprIn z k had.from a (spot n e (s ∷ left)) → Good z s.end left (r.take_expr n env had k a y s)
take_expr_at z n e env had k a (t.operator o) s left i = operator_at z n e env had k a o s left i
take_expr_at z n e env had k a t.lparen s left i = with_token (g.mark g.LParen) n e s left i
take_expr_at z n e env had k a t.lbracket s left i = with_token (g.mark g.LBracket) n e s left i
take_expr_at z n e env had k a t.comma s left i = with_token (g.mark g.Com) n e s left i
take_expr_at z n e env had k a _ s left i = tt

-- ---- a token that closes what is open

paren_at : (z : Spot) (n e : ℕ) (env : Env) (node : Open) (deep : ℕ) (k : InExpr) (a : Expr) (y : Symbol) (s : Span) (left : List Span)
    → Opened (AtExpr z k) node.from (λ ps. token (g.mark g.LParen) ∷ pieces a ps) (spot n e (s ∷ left)) → Good z s.end left (r.close_paren n env node deep k a y s)
paren_at z n e env node deep k a t.rparen s left o = closed n s.end left (with_token (g.mark g.RParen) n e s left o)
paren_at z n e env node deep k a _ s left o = tt

index_at : (z : Spot) (n e : ℕ) (env : Env) (node : Open) (deep : ℕ) (k : InExpr) (l a : Expr) (y : Symbol) (s : Span) (left : List Span)
    → Opened (AtExpr z k) node.from (λ ps. pieces l (token (g.mark g.LBracket) ∷ pieces a ps)) (spot n e (s ∷ left)) → Good z s.end left (r.close_index n env node deep k l a y s)
index_at z n e env node deep k l a t.rbracket s left o = closed n s.end left (with_token (g.mark g.RBracket) n e s left o)
index_at z n e env node deep k l a _ s left o = tt

call_pieces : (at : At) (c : Callee) (xs : Exprs) (ps : List Piece)
    → pieces (r.call_of at c xs) ps ≡ opens at ∷ pieces_callee c (token (g.mark g.LParen) ∷ pieces_exprs xs (token (g.mark g.RParen) ∷ closes at ∷ ps))
call_pieces at (of_function f) xs ps = refl
call_pieces at of_builtin xs ps = refl

args_at : (z : Spot) (n e : ℕ) (env : Env) (node : Open) (k : InExpr) (c : Callee) (xs : List Expr) (a : Expr) (y : Symbol) (s : Span) (left : List Span)
    → Opened (AtExpr z k) node.from (λ ps. pieces_callee c (token (g.mark g.LParen) ∷ pieces_done pieces xs (pieces a ps))) (spot n e (s ∷ left))
    → Good z s.end left (r.close_args n env node k c (xs ++ a ∷ []) y s)
args_at z n e env node k c xs a t.comma s left o =
    same_opened (λ ps. ap (λ qs. pieces_callee c (token (g.mark g.LParen) ∷ qs)) (done-last pieces xs a ps)) (with_token (g.mark g.Com) n e s left o)
args_at z n e env node k c xs a t.rparen s left o =
    same_opened (λ ps. let rest = token (g.mark g.RParen) ∷ closes (mark node.from s.end n) ∷ ps in
    call_pieces (mark node.from s.end n) c (exprs_of (xs ++ a ∷ [])) ps
    ∙ ap (λ qs. opens (mark node.from s.end n) ∷ pieces_callee c (token (g.mark g.LParen) ∷ qs)) (exprs-commas (xs ++ a ∷ []) rest ∙ commas-last pieces xs a rest))
    (closed n s.end left (with_token (g.mark g.RParen) n e s left o))
args_at z n e env node k c xs a _ s left o = tt

middle_at : (z : Spot) (n e : ℕ) (env : Env) (node : Open) (deep : ℕ) (k : InExpr) (c a : Expr) (y : Symbol) (s : Span) (left : List Span)
    → Opened (AtExpr z k) node.from (λ ps. pieces c (token (g.mark g.Quest) ∷ pieces a ps)) (spot n e (s ∷ left)) → Good z s.end left (r.close_middle n env node deep k c a y)
middle_at z n e env node deep k c a t.colon s left o = with_token (g.mark g.Colon) n e s left o
middle_at z n e env node deep k c a _ s left o = tt

bracket_at : (z : Spot) (n e : ℕ) (env : Env) (node : Open) (deep : ℕ) (o : Bracket) (k : InExpr) (a : Expr) (y : Symbol) (s : Span) (left : List Span)
    → Opened (AtExpr z k) node.from (λ ps. pieces_bracket o (pieces a ps)) (spot n e (s ∷ left)) → Good z s.end left (r.close_bracket n env node deep o k a y s)
bracket_at z n e env node deep of_paren k a y s left i = paren_at z n e env node deep k a y s left i
bracket_at z n e env node deep (of_index l) k a y s left i = index_at z n e env node deep k l a y s left i
bracket_at z n e env node deep (of_args c xs) k a y s left i = args_at z n e env (with_part node deep) k c xs a y s left i
bracket_at z n e env node deep (of_middle c) k a y s left i = middle_at z n e env node deep k c a y s left i

semi_at : (z : Spot) (n e : ℕ) (env : Env) (node : Open) (deep : ℕ) (o : Part) (k : InStmt) (a : Expr) (s : Span) (left : List Span)
    → Opened (AtStmt z k) node.from (λ ps. pieces_part o (pieces a ps)) (spot n e (s ∷ left)) → Good z s.end left (r.part_semi n env node deep o k a s)
semi_at z n e env node deep plain k a s left i = all_of (closed n s.end left (with_token (g.mark g.Semi) n e s left i))
semi_at z n e env node deep returned k a s left i = all_of (closed n s.end left (with_token (g.mark g.Semi) n e s left i))
semi_at z n e env node deep (condition c) k a s left i = tt
semi_at z n e env node deep for_first k a s left i = with_token (g.mark g.Semi) n e s left i
semi_at z n e env node deep (for_condition f) k a s left i = with_token (g.mark g.Semi) n e s left i
semi_at z n e env node deep (for_step f c) k a s left i = tt

condition_at : (z : Spot) (n e : ℕ) (env : Env) (node : Open) (c : Condition) (k : InStmt) (a : Expr) (s : Span) (left : List Span)
    → Opened (AtStmt z k) node.from (λ ps. pieces_part (condition c) (pieces a ps)) (spot n e (s ∷ left)) → Good z s.end left (r.condition_done n env node c k a)
condition_at z n e env node of_if k a s left i = with_token (g.mark g.RParen) n e s left i
condition_at z n e env node of_while k a s left i = with_token (g.mark g.RParen) n e s left i
condition_at z n e env node (of_do d) k a s left i = with_token (g.mark g.RParen) n e s left i

part_paren_at : (z : Spot) (n e : ℕ) (env : Env) (node : Open) (deep : ℕ) (o : Part) (k : InStmt) (a : Expr) (s : Span) (left : List Span)
    → Opened (AtStmt z k) node.from (λ ps. pieces_part o (pieces a ps)) (spot n e (s ∷ left)) → Good z s.end left (r.part_paren n env node deep o k a)
part_paren_at z n e env node deep plain k a s left i = tt
part_paren_at z n e env node deep returned k a s left i = tt
part_paren_at z n e env node deep (condition c) k a s left i = condition_at z n e env (with_part node deep) c k a s left i
part_paren_at z n e env node deep for_first k a s left i = tt
part_paren_at z n e env node deep (for_condition f) k a s left i = tt
part_paren_at z n e env node deep (for_step f c) k a s left i = with_token (g.mark g.RParen) n e s left i

part_at : (z : Spot) (n e : ℕ) (env : Env) (node : Open) (deep : ℕ) (o : Part) (k : InStmt) (a : Expr) (y : Symbol) (s : Span) (left : List Span)
    → Opened (AtStmt z k) node.from (λ ps. pieces_part o (pieces a ps)) (spot n e (s ∷ left)) → Good z s.end left (r.close_part n env node deep o k a y s)
part_at z n e env node deep o k a t.semi s left i = semi_at z n e env node deep o k a s left i
part_at z n e env node deep o k a t.rparen s left i = part_paren_at z n e env node deep o k a s left i
part_at z n e env node deep o k a _ s left i = tt

close_array_at : (z : Spot) (n e : ℕ) (env : Env) (node : Open) (deep : ℕ) (d : Declarator) (k : InDeclarator) (a : Expr) (y : Symbol) (s : Span) (left : List Span)
    → Opened (AtDeclarator z k) node.from (λ ps. pieces_declarator d (token (g.mark g.LBracket) ∷ pieces a ps)) (spot n e (s ∷ left)) → Good z s.end left (r.close_array n env node deep d k a y s)
close_array_at z n e env node deep d k a t.rbracket s left o = closed n s.end left (with_token (g.mark g.RBracket) n e s left o)
close_array_at z n e env node deep d k a _ s left o = tt

close_at : (z : Spot) (n e : ℕ) (env : Env) (had : Had) (k : InExpr) (a : Expr) (y : Symbol) (s : Span) (left : List Span)
    → AtExprIn z k had.from a (spot n e (s ∷ left)) → Good z s.end left (r.close n e env had.deep k a y s)
close_at z n e env had (in_operand node o k) a y s left i = tt
close_at z n e env had (in_bracket node o k) a y s left i = bracket_at z n e env node had.deep o k a y s left (joined i)
close_at z n e env had (in_stmt node o k) a y s left i = part_at z n e env node had.deep o k a y s left (joined i)
close_at z n e env had (in_init k) a y s left i = init_at z n e env had.deep k (u.Plain a) y s left (all_of i)
close_at z n e env had (in_value node x k) a y s left i = enumerator_end_at z n e env node had.deep k x (u.some_expr a) y s left (joined i)
close_at z n e env had (in_array node d k) a y s left i = close_array_at z n e env node had.deep d k a y s left (joined i)

-- ---- the token after an expression

made_pieces : (at : At) (o : Operand) (a : Expr) (ps : List Piece) → pieces (r.made at o a) ps ≡ opens at ∷ pieces_operand o (pieces a (closes at ∷ ps))
made_pieces at (of_prefix o) a ps = refl
made_pieces at of_sizeof a ps = refl
made_pieces at (of_cast m) a ps = refl
made_pieces at (of_binary l o) a ps = refl
made_pieces at (of_assign l o) a ps = refl
made_pieces at (of_comma l) a ps = refl
made_pieces at (of_cond c l) a ps = refl

abbrev AtReduced : Spot → ℕ → List Span → Reduced → Type 0
AtReduced z e left x = AtExprIn z x.place x.had.from x.expr (spot x.id e left)

reduced_at : (k : InExpr) (z : Spot) (n e : ℕ) (had : Had) (a : Expr) (p : ℕ) (left : List Span) → AtExprIn z k had.from a (spot n e left) → AtReduced z e left (r.reduced n e had k a p)
reduced_at (in_operand node o k) z n e had a p left i =
    by_test (AtReduced z e left) (nat_le (r.operand_place o) p) _ _ i
    (reduced_at k z (suc n) e (mp.closed node had.deep) (r.made (mark node.from e n) o a) p left (same_opened (made_pieces (mark node.from e n) o a) (closed n e left (joined i))))
reduced_at (in_bracket node o k) z n e had a p left i = i
reduced_at (in_stmt node o k) z n e had a p left i = i
reduced_at (in_init k) z n e had a p left i = i
reduced_at (in_value node x k) z n e had a p left i = i
reduced_at (in_array node d k) z n e had a p left i = i

take_at : (z : Spot) (n e : ℕ) (env : Env) (had : Had) (k : InExpr) (a : Expr) (y : Symbol) (s : Span) (left : List Span)
    → AtExprIn z k had.from a (spot n e (s ∷ left)) → Good z s.end left (r.take n env had k a y s)
take_at z n e env had k a y s left i =
    by_test (Good z s.end left) (nat_le (needs y) (level (bare a))) (r.take_expr n env had k a y s) None (take_expr_at z n e env had k a y s left i) tt

next_at : (z : Spot) (e : ℕ) (env : Env) (x : Reduced) (y : Symbol) (s : Span) (left : List Span) → AtReduced z e (s ∷ left) x → Good z s.end left (r.next e env x y s)
next_at z e env x y s left i =
    by_test (Good z s.end left) (nat_le (r.place x.place) (tight y)) (r.take x.id env x.had x.place x.expr y s) (r.close x.id e env x.had.deep x.place x.expr y s)
    (take_at z x.id e env x.had x.place x.expr y s left i)
    (close_at z x.id e env x.had x.place x.expr y s left i)

pub after_at : (z : Spot) (n e : ℕ) (env : Env) (had : Had) (k : InExpr) (a : Expr) (y : Symbol) (s : Span) (left : List Span)
    → AtExprIn z k had.from a (spot n e (s ∷ left)) → Good z s.end left (r.after n e env had k a y s)
after_at z n e env had k a y s left i = next_at z e env (r.reduced n e had k a (tight y)) y s left (reduced_at k z n e had a (tight y) (s ∷ left) i)

-- ---- the other places in an expression

text_at : (z : Spot) (n e : ℕ) (env : Env) (from : ℕ) (k : InExpr) (xs : List (List ℕ)) (y : Symbol) (s : Span) (left : List Span)
    → Opened (AtExpr z k) from (pieces_all pieces_text xs) (spot n e (s ∷ left)) → Good z s.end left (r.text_next n e env from k xs y s)
text_at z n e env from k xs (t.text x) s left o = same_opened (all-last pieces_text xs x) (with_token (g.text x) n e s left o)
text_at z n e env from k xs y s left o = after_at z (suc n) e env (mp.leaf from) k (u.Text (mark from e n) xs) y s left (closed n e (s ∷ left) o)

cast_at : (z : Spot) (n e : ℕ) (env : Env) (node : Open) (k : InExpr) (y : Symbol) (s : Span) (left : List Span)
    → Opened (AtExpr z k) node.from (λ ps. token (g.mark g.LParen) ∷ ps) (spot n e (s ∷ left)) → Good z s.end left (r.open_cast n env node k y s)
cast_at z n e env node k y s left o =
    by_test (Good z s.end left) (nat_le (r.place k) 14) (rb.begin_specs n env (of_type node cast_type k) y s) None (begin_specs_at z n e env (of_type node cast_type k) y s left o) tt

opened_at : (z : Spot) (n e : ℕ) (env : Env) (node : Open) (k : InExpr) (y : Symbol) (s : Span) (left : List Span)
    → Opened (AtExpr z k) node.from (λ ps. token (g.mark g.LParen) ∷ ps) (spot n e (s ∷ left)) → Good z s.end left (r.paren_next n env node k y s)
opened_at z n e env node k y s left o =
    by_test (Good z s.end left) (begins_specs env false y) (r.open_cast n env node k y s) (rb.want n env (in_bracket node of_paren k) y s)
    (cast_at z n e env node k y s left o)
    (want_at z n e env (in_bracket node of_paren k) y s left o)

sizeof_opened_at : (z : Spot) (n e : ℕ) (env : Env) (node : Open) (p_from : ℕ) (k : InExpr) (y : Symbol) (s : Span) (left : List Span)
    → AtExprMode z (sizeof_opened node p_from k) (spot n e (s ∷ left)) → Good z s.end left (r.sizeof_paren_next n env node p_from k y s)
sizeof_opened_at z n e env node p_from k y s left o =
    by_test (Good z s.end left) (begins_specs env false y)
    (rb.begin_specs n env (of_type node sizeof_type k) y s) (rb.want n env (in_bracket (mp.opens node.level p_from) of_paren (in_operand node of_sizeof k)) y s)
    (begin_specs_at z n e env (of_type node sizeof_type k) y s left (joined o))
    (want_at z n e env (in_bracket (mp.opens node.level p_from) of_paren (in_operand node of_sizeof k)) y s left o)

sizeof_at : (z : Spot) (n e : ℕ) (env : Env) (node : Open) (k : InExpr) (y : Symbol) (s : Span) (left : List Span)
    → AtExpr z (in_operand node of_sizeof k) (spot n e (s ∷ left)) → Good z s.end left (r.sizeof_next n env node k y s)
sizeof_at z n e env node k t.lparen s left o = begun (AtExpr z (in_operand node of_sizeof k)) (g.mark g.LParen) n e s left o
sizeof_at z n e env node k y s left o = want_at z n e env (in_operand node of_sizeof k) y s left o

args_begin_at : (z : Spot) (n e : ℕ) (env : Env) (node : Open) (f : Expr) (k : InExpr) (y : Symbol) (s : Span) (left : List Span)
    → AtExprMode z (args_opened node f k) (spot n e (s ∷ left)) → Good z s.end left (r.args_begin n env node f k y s)
args_begin_at z n e env node f k t.rparen s left o = closed n s.end left (with_token (g.mark g.RParen) n e s left o)
args_begin_at z n e env node f k y s left o = want_at z n e env (in_bracket node (of_args (of_function f) []) k) y s left o

builtin_at : (z : Spot) (n e : ℕ) (env : Env) (node : Open) (k : InExpr) (y : Symbol) (s : Span) (left : List Span)
    → AtExprMode z (after_builtin node k) (spot n e (s ∷ left)) → Good z s.end left (r.builtin_next n env node k y)
builtin_at z n e env node k t.lparen s left o = with_token (g.mark g.LParen) n e s left o
builtin_at z n e env node k _ s left o = tt

member_pieces : (at : At) (c : Member) (a : Expr) (x : List ℕ) (ps : List Piece)
    → pieces (r.member_of at c a x) ps ≡ opens at ∷ pieces a (token (g.mark (member_mark c)) ∷ token (g.name x) ∷ closes at ∷ ps)
member_pieces at t.Dot a x ps = refl
member_pieces at t.Arrow a x ps = refl

member_at : (z : Spot) (n e : ℕ) (env : Env) (node : Open) (a : Expr) (c : Member) (k : InExpr) (y : Symbol) (s : Span) (left : List Span)
    → AtExprMode z (want_member node a c k) (spot n e (s ∷ left)) → Good z s.end left (r.member_next n env node a c k y s)
member_at z n e env node a c k (t.name x) s left o =
    same_opened (member_pieces (mark node.from s.end n) c a x) (closed n s.end left (with_token (g.name x) n e s left o))
member_at z n e env node a c k _ s left o = tt

pub expr_at : (z : Spot) (n e : ℕ) (env : Env) (c : ExprMode) (y : Symbol) (s : Span) (left : List Span)
    → AtExprMode z c (spot n e (s ∷ left)) → Good z s.end left (r.expr_next n e env c y s)
expr_at z n e env (want_expr k) y s left o = want_at z n e env k y s left o
expr_at z n e env (after_expr had k a) y s left o = after_at z n e env had k a y s left o
expr_at z n e env (after_text from k xs) y s left o = text_at z n e env from k xs y s left o
expr_at z n e env (opened node k) y s left o = opened_at z n e env node k y s left o
expr_at z n e env (after_sizeof node k) y s left o = sizeof_at z n e env node k y s left o
expr_at z n e env (sizeof_opened node p_from k) y s left o = sizeof_opened_at z n e env node p_from k y s left o
expr_at z n e env (args_opened node f k) y s left o = args_begin_at z n e env node f k y s left o
expr_at z n e env (after_builtin node k) y s left o = builtin_at z n e env node k y s left o
expr_at z n e env (want_member node a c k) y s left o = member_at z n e env node a c k y s left o
