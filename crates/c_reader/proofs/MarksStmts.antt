-- Numbers and places are kept: statements.
use Rattle.std.proofs.Common.{◌≡◌, ℕ, suc, false, List, [], ◌∷◌, ◌++◌, refl, ap}
use Rattle.tok_base.specs.declared.token.Span.{Span}
use Rattle.c_tree.specs.declared.operator.At.{At}
use Rattle.c_tree.specs.Tok as g
use Rattle.c_tree.specs.Marked as u
use Rattle.c_tree.specs.Marked.{MaybeExpr, First, Stmt, BlockItems}
use Rattle.c_tree.specs.Pieces.{Piece, token, opens, closes, pieces_stmt, pieces_block, pieces_external}
use Rattle.c_tree.specs.Wf.{Env}
use Rattle.c_reader.specs.Symbol as t
use Rattle.c_reader.specs.Symbol.{Symbol, Head}
use Rattle.c_reader.specs.Begin.{begins_specs}
use Rattle.c_reader.specs.Stmts.{is_else, is_while}
use Rattle.c_reader.specs.MarkedParts as mp
use Rattle.c_reader.specs.MarkedParts.{Open, mark, with_part, whole, statement, items_of}
use Rattle.c_reader.specs.MarkedInside.{InStmt, InBody, in_block, in_then, in_else, in_while, in_do, in_for, of_definition, of_stmt, of_block, of_for, Condition, plain, returned, Unended, broken, continued, done_while, for_first, for_condition, for_step, in_stmt, of_declaration, StmtMode, want_stmt, after_stmt, want_paren, after_for, for_opened, want_condition, want_step, want_semi, after_return, around_stmt}
use Rattle.c_reader.specs.MarkedBegin as rb
use Rattle.c_reader.specs.MarkedStmts as r
use Rattle.c_reader.proofs.Marks.{Spot, spot, Opened, Then, then_did, same_did, same_opened, with_token, joined, joined_then, all_of, fresh, begun, leaf, closed, all-last, block-last, by_test}
use Rattle.c_reader.proofs.MarksAt.{AtStmt, AtBody, AtStmtMode, pieces_condition, pieces_unended, Good}
use Rattle.c_reader.proofs.MarksDeclarations.{begin_specs_at, want_at}

head_at : (z : Spot) (n e : ℕ) (env : Env) (k : InStmt) (h : Head) (s : Span) (left : List Span) → AtStmt z k (spot n e (s ∷ left)) → Good z s.end left (r.head_begin n env k h s)
head_at z n e env k t.If s left i = begun (AtStmt z k) (g.word g.KIf) n e s left i
head_at z n e env k t.Else s left i = tt
head_at z n e env k t.While s left i = begun (AtStmt z k) (g.word g.KWhile) n e s left i
head_at z n e env k t.Do s left i = begun (AtStmt z k) (g.word g.KDo) n e s left i
head_at z n e env k t.For s left i = begun (AtStmt z k) (g.word g.KFor) n e s left i
head_at z n e env k t.Break s left i = begun (AtStmt z k) (g.word g.KBreak) n e s left i
head_at z n e env k t.Continue s left i = begun (AtStmt z k) (g.word g.KContinue) n e s left i
head_at z n e env k t.Return s left i = begun (AtStmt z k) (g.word g.KReturn) n e s left i

block_at : (z : Spot) (n e : ℕ) (env : Env) (node : Open) (k : InBody) (is : BlockItems) (s : Span) (left : List Span)
    → Opened (AtBody z k) node.from (λ ps. token (g.mark g.LBrace) ∷ pieces_block is ps) (spot n e (s ∷ left)) → Good z s.end left (r.block_done n env node k is s)
block_at z n e env node (of_definition before d_node done ss d) is s left o =
    let all = closed (suc n) s.end left (joined (closed n s.end left (with_token (g.mark g.RBrace) n e s left o))) in
    same_did (all-last pieces_external done (u.Definition (mark d_node.from s.end (suc n)) ss d (mark node.from s.end n) is)) (then_did all.prior all.did)
block_at z n e env node (of_stmt k) is s left o = all_of (closed n s.end left (with_token (g.mark g.RBrace) n e s left o))

close_block_at : (z : Spot) (n e : ℕ) (env : Env) (k : InStmt) (s : Span) (left : List Span) → AtStmt z k (spot n e (s ∷ left)) → Good z s.end left (r.close_block n env k s)
close_block_at z n e env (in_block node is k) s left o = block_at z n e env node k (items_of is) s left o
close_block_at z n e env (in_then node c k) s left o = tt
close_block_at z n e env (in_else node c a k) s left o = tt
close_block_at z n e env (in_while node c k) s left o = tt
close_block_at z n e env (in_do node k) s left o = tt
close_block_at z n e env (in_for node f c d k) s left o = tt

declaration_at : (z : Spot) (n e : ℕ) (env : Env) (k : InStmt) (y : Symbol) (s : Span) (left : List Span)
    → AtStmt z k (spot n e (s ∷ left)) → Good z s.end left (r.declaration_begin n env k y s)
declaration_at z n e env (in_block node is k) y s left o = begin_specs_at z n e env (of_declaration (of_block node is k)) y s left o
declaration_at z n e env (in_then node c k) y s left o = tt
declaration_at z n e env (in_else node c a k) y s left o = tt
declaration_at z n e env (in_while node c k) y s left o = tt
declaration_at z n e env (in_do node k) y s left o = tt
declaration_at z n e env (in_for node f c d k) y s left o = tt

pub begin_at : (z : Spot) (n e : ℕ) (env : Env) (k : InStmt) (y : Symbol) (s : Span) (left : List Span)
    → AtStmt z k (spot n e (s ∷ left)) → Good z s.end left (r.stmt_begin n env k y s)
begin_at z n e env k (t.head h) s left i = head_at z n e env k h s left i
begin_at z n e env k t.lbrace s left i = begun (AtStmt z k) (g.mark g.LBrace) n e s left i
begin_at z n e env k t.rbrace s left i = close_block_at z n e env k s left i
begin_at z n e env k t.semi s left i = all_of (leaf (AtStmt z k) (g.mark g.Semi) n e s left i)
begin_at z n e env k y s left i =
    by_test (Good z s.end left) (begins_specs env false y) (r.declaration_begin n env k y s) (rb.want n env (in_stmt (mp.opens (around_stmt k).level s.start) plain k) y s)
    (declaration_at z n e env k y s left i)
    (want_at z n e env (in_stmt (mp.opens (around_stmt k).level s.start) plain k) y s left (fresh (AtStmt z k) n e s left i))

-- the token after a statement
next_at : (k : InStmt) (z : Spot) (n e : ℕ) (env : Env) (deep : ℕ) (a : Stmt) (y : Symbol) (s : Span) (left : List Span)
    → Then (AtStmt z k) (pieces_stmt a) (spot n e (s ∷ left)) → Good z s.end left (r.stmt_next n e env deep k a y s)
next_at (in_block node is k) z n e env deep a y s left o =
    begin_at z n e env (in_block (with_part node deep) (is ++ statement a ∷ []) k) y s left
    (same_opened (λ ps. ap (λ qs. token (g.mark g.LBrace) ∷ qs) (block-last is (statement a) ps)) (joined_then o))
next_at (in_then node c k) z n e env deep a y s left o =
    by_test (Good z s.end left) (is_else y) _ (r.stmt_next (suc n) e env (whole node deep) k (u.If (mark node.from e n) c a) y s)
    (with_token (g.word g.KElse) n e s left (joined_then o))
    (next_at k z (suc n) e env (whole node deep) (u.If (mark node.from e n) c a) y s left (all_of (closed n e (s ∷ left) (joined_then o))))
next_at (in_else node c b k) z n e env deep a y s left o =
    next_at k z (suc n) e env (whole node deep) (u.IfElse (mark node.from e n) c b a) y s left (all_of (closed n e (s ∷ left) (joined_then o)))
next_at (in_while node c k) z n e env deep a y s left o =
    next_at k z (suc n) e env (whole node deep) (u.While (mark node.from e n) c a) y s left (all_of (closed n e (s ∷ left) (joined_then o)))
next_at (in_do node k) z n e env deep a y s left o = by_test (Good z s.end left) (is_while y) _ _ (with_token (g.word g.KWhile) n e s left (joined_then o)) tt
next_at (in_for node f c d k) z n e env deep a y s left o =
    next_at k z (suc n) e env (whole node deep) (u.For (mark node.from e n) f c d a) y s left (all_of (closed n e (s ∷ left) (joined_then o)))

paren_at : (z : Spot) (n e : ℕ) (env : Env) (node : Open) (c : Condition) (k : InStmt) (y : Symbol) (s : Span) (left : List Span)
    → Opened (AtStmt z k) node.from (pieces_condition c) (spot n e (s ∷ left)) → Good z s.end left (r.paren_next n env node c k y)
paren_at z n e env node c k t.lparen s left o = with_token (g.mark g.LParen) n e s left o
paren_at z n e env node c k _ s left o = tt

for_paren_at : (z : Spot) (n e : ℕ) (env : Env) (node : Open) (k : InStmt) (y : Symbol) (s : Span) (left : List Span)
    → AtStmtMode z (after_for node k) (spot n e (s ∷ left)) → Good z s.end left (r.for_next n env node k y)
for_paren_at z n e env node k t.lparen s left o = with_token (g.mark g.LParen) n e s left o
for_paren_at z n e env node k _ s left o = tt

for_begin_at : (z : Spot) (n e : ℕ) (env : Env) (node : Open) (k : InStmt) (y : Symbol) (s : Span) (left : List Span)
    → AtStmtMode z (for_opened node k) (spot n e (s ∷ left)) → Good z s.end left (r.for_begin n env node k y s)
for_begin_at z n e env node k t.semi s left o = with_token (g.mark g.Semi) n e s left o
for_begin_at z n e env node k y s left o =
    by_test (Good z s.end left) (begins_specs env false y) (rb.begin_specs n env (of_declaration (of_for node k)) y s) (rb.want n env (in_stmt node for_first k) y s)
    (begin_specs_at z n e env (of_declaration (of_for node k)) y s left o)
    (want_at z n e env (in_stmt node for_first k) y s left o)

condition_at : (z : Spot) (n e : ℕ) (env : Env) (node : Open) (f : First) (k : InStmt) (y : Symbol) (s : Span) (left : List Span)
    → AtStmtMode z (want_condition node f k) (spot n e (s ∷ left)) → Good z s.end left (r.condition_begin n env node f k y s)
condition_at z n e env node f k t.semi s left o = with_token (g.mark g.Semi) n e s left o
condition_at z n e env node f k y s left o = want_at z n e env (in_stmt node (for_condition f) k) y s left o

for_last_at : (z : Spot) (n e : ℕ) (env : Env) (node : Open) (f : First) (c : MaybeExpr) (k : InStmt) (y : Symbol) (s : Span) (left : List Span)
    → AtStmtMode z (want_step node f c k) (spot n e (s ∷ left)) → Good z s.end left (r.step_begin n env node f c k y s)
for_last_at z n e env node f c k t.rparen s left o = with_token (g.mark g.RParen) n e s left o
for_last_at z n e env node f c k y s left o = want_at z n e env (in_stmt node (for_step f c) k) y s left o

ended_pieces : (at : At) (a : Unended) (ps : List Piece) → pieces_stmt (r.ended at a) ps ≡ opens at ∷ pieces_unended a (token (g.mark g.Semi) ∷ closes at ∷ ps)
ended_pieces at broken ps = refl
ended_pieces at continued ps = refl
ended_pieces at (done_while a c) ps = refl

semi_at : (z : Spot) (n e : ℕ) (env : Env) (node : Open) (a : Unended) (k : InStmt) (y : Symbol) (s : Span) (left : List Span)
    → AtStmtMode z (want_semi node a k) (spot n e (s ∷ left)) → Good z s.end left (r.semi_next n env node a k y s)
semi_at z n e env node a k t.semi s left o = all_of (same_opened (ended_pieces (mark node.from s.end n) a) (closed n s.end left (with_token (g.mark g.Semi) n e s left o)))
semi_at z n e env node a k _ s left o = tt

return_at : (z : Spot) (n e : ℕ) (env : Env) (node : Open) (k : InStmt) (y : Symbol) (s : Span) (left : List Span)
    → AtStmtMode z (after_return node k) (spot n e (s ∷ left)) → Good z s.end left (r.return_next n env node k y s)
return_at z n e env node k t.semi s left o = all_of (closed n s.end left (with_token (g.mark g.Semi) n e s left o))
return_at z n e env node k y s left o = want_at z n e env (in_stmt node returned k) y s left o

pub stmt_at : (z : Spot) (n e : ℕ) (env : Env) (c : StmtMode) (y : Symbol) (s : Span) (left : List Span)
    → AtStmtMode z c (spot n e (s ∷ left)) → Good z s.end left (r.stmt_mode_next n e env c y s)
stmt_at z n e env (want_stmt k) y s left o = begin_at z n e env k y s left o
stmt_at z n e env (after_stmt deep k a) y s left o = next_at k z n e env deep a y s left o
stmt_at z n e env (want_paren node c k) y s left o = paren_at z n e env node c k y s left o
stmt_at z n e env (after_for node k) y s left o = for_paren_at z n e env node k y s left o
stmt_at z n e env (for_opened node k) y s left o = for_begin_at z n e env node k y s left o
stmt_at z n e env (want_condition node f k) y s left o = condition_at z n e env node f k y s left o
stmt_at z n e env (want_step node f c k) y s left o = for_last_at z n e env node f c k y s left o
stmt_at z n e env (want_semi node a k) y s left o = semi_at z n e env node a k y s left o
stmt_at z n e env (after_return node k) y s left o = return_at z n e env node k y s left o
