-- Without places and numbers: statements.
use Rattle.std.proofs.Common.{◌≡◌, ℕ, suc, false, [], ◌∷◌, ◌++◌, refl, ◌∙◌, ap}
use Rattle.tok_base.specs.declared.token.Span.{Span}
use Rattle.c_tree.specs.declared.operator.At.{At}
use Rattle.c_tree.specs.Marked as u
use Rattle.c_tree.specs.Marked.{MaybeExpr, First, Stmt, BlockItems}
use Rattle.c_tree.specs.Bare.{bare_maybe, bare_first, bare_stmt, bare_block, bare_external}
use Rattle.c_tree.specs.Wf.{Env}
use Rattle.c_reader.specs.Symbol as t
use Rattle.c_reader.specs.Symbol.{Symbol, Head}
use Rattle.c_reader.specs.Inside as i
use Rattle.c_reader.specs.Begin.{begins_specs}
use Rattle.c_reader.specs.Stmts as m
use Rattle.c_reader.specs.Stmts.{is_else, is_while}
use Rattle.c_reader.specs.MarkedParts.{Open, mark, opens, with_part, whole, statement, items_of}
use Rattle.c_reader.specs.MarkedInside.{InStmt, InBody, in_block, in_then, in_else, in_while, in_do, in_for, of_definition, of_stmt, of_block, of_for, Condition, plain, returned, Unended, broken, continued, done_while, for_first, for_condition, for_step, in_stmt, of_declaration, StmtMode, want_stmt, after_stmt, want_paren, after_for, for_opened, want_condition, want_step, want_semi, after_return, around_stmt}
use Rattle.c_reader.specs.MarkedBegin as rb
use Rattle.c_reader.specs.MarkedStmts as r
use Rattle.c_reader.proofs.Erased.{erase_block_item, erase_stmt, erase_body, erase_condition, erase_unended, erase_stmt_mode, erased, map-last, items_erased, same_test}
use Rattle.c_reader.proofs.ErasedDeclarations as d
use Rattle.c_reader.proofs.ErasedDeclarations.{begin_specs_step}

head_step : (n : ℕ) (env : Env) (k : InStmt) (h : Head) (s : Span) → erased (r.head_begin n env k h s) ≡ m.head_begin env (erase_stmt k) h
head_step n env k t.If s = refl
head_step n env k t.Else s = refl
head_step n env k t.While s = refl
head_step n env k t.Do s = refl
head_step n env k t.For s = refl
head_step n env k t.Break s = refl
head_step n env k t.Continue s = refl
head_step n env k t.Return s = refl

block_step : (n : ℕ) (env : Env) (o : Open) (k : InBody) (is : BlockItems) (s : Span) → erased (r.block_done n env o k is s) ≡ i.at env (m.block_done (erase_body k) (bare_block is))
block_step n env o (of_definition deep d_o done ss d) is s = ap (λ xs. i.at env (i.want_external xs)) (map-last bare_external done _)
block_step n env o (of_stmt k) is s = refl

close_block_step : (n : ℕ) (env : Env) (k : InStmt) (s : Span) → erased (r.close_block n env k s) ≡ m.close_block env (erase_stmt k)
close_block_step n env (in_block o is k) s = block_step n env o k (items_of is) s ∙ ap (λ xs. i.at env (m.block_done (erase_body k) xs)) (items_erased is)
close_block_step n env (in_then o c k) s = refl
close_block_step n env (in_else o c a k) s = refl
close_block_step n env (in_while o c k) s = refl
close_block_step n env (in_do o k) s = refl
close_block_step n env (in_for o f c e k) s = refl

declaration_step : (n : ℕ) (env : Env) (k : InStmt) (y : Symbol) (s : Span) → erased (r.declaration_begin n env k y s) ≡ m.declaration_begin env (erase_stmt k) y
declaration_step n env (in_block o is k) y s = begin_specs_step n env (of_declaration (of_block o is k)) y s
declaration_step n env (in_then o c k) y s = refl
declaration_step n env (in_else o c a k) y s = refl
declaration_step n env (in_while o c k) y s = refl
declaration_step n env (in_do o k) y s = refl
declaration_step n env (in_for o f c e k) y s = refl

pub begin_step : (n : ℕ) (env : Env) (k : InStmt) (y : Symbol) (s : Span) → erased (r.stmt_begin n env k y s) ≡ m.stmt_begin env (erase_stmt k) y
begin_step n env k (t.head h) s = head_step n env k h s
begin_step n env k t.lbrace s = refl
begin_step n env k t.rbrace s = close_block_step n env k s
begin_step n env k t.semi s = refl
begin_step n env k y s =
    same_test (begins_specs env false y) (begins_specs env false y) (r.declaration_begin n env k y s) (rb.want n env (in_stmt (opens (around_stmt k).level s.start) plain k) y s) _ _ refl
    (declaration_step n env k y s)
    (d.want_step n env (in_stmt (opens (around_stmt k).level s.start) plain k) y s)

-- the token after a statement
next_step : (k : InStmt) (n e : ℕ) (env : Env) (z : ℕ) (a : Stmt) (y : Symbol) (s : Span) → erased (r.stmt_next n e env z k a y s) ≡ m.stmt_next env (erase_stmt k) (bare_stmt a) y
next_step (in_block o is k) n e env z a y s =
    begin_step n env (in_block (with_part o z) (is ++ statement a ∷ []) k) y s ∙ ap (λ xs. m.stmt_begin env (i.in_block xs (erase_body k)) y) (map-last erase_block_item is _)
next_step (in_then o c k) n e env z a y s =
    same_test (is_else y) (is_else y) _ (r.stmt_next (suc n) e env (whole o z) k (u.If (mark o.from e n) c a) y s) _ _ refl refl (next_step k (suc n) e env (whole o z) (u.If (mark o.from e n) c a) y s)
next_step (in_else o c d k) n e env z a y s = next_step k (suc n) e env (whole o z) (u.IfElse (mark o.from e n) c d a) y s
next_step (in_while o c k) n e env z a y s = next_step k (suc n) e env (whole o z) (u.While (mark o.from e n) c a) y s
next_step (in_do o k) n e env z a y s = same_test (is_while y) (is_while y) _ _ _ _ refl refl refl
next_step (in_for o f c d k) n e env z a y s = next_step k (suc n) e env (whole o z) (u.For (mark o.from e n) f c d a) y s

paren_step : (n : ℕ) (env : Env) (o : Open) (c : Condition) (k : InStmt) (y : Symbol) → erased (r.paren_next n env o c k y) ≡ m.paren_next env (erase_condition c) (erase_stmt k) y
paren_step n env o c k t.lparen = refl
paren_step n env o c k _ = refl

for_paren_step : (n : ℕ) (env : Env) (o : Open) (k : InStmt) (y : Symbol) → erased (r.for_next n env o k y) ≡ m.for_next env (erase_stmt k) y
for_paren_step n env o k t.lparen = refl
for_paren_step n env o k _ = refl

for_begin_step : (n : ℕ) (env : Env) (o : Open) (k : InStmt) (y : Symbol) (s : Span) → erased (r.for_begin n env o k y s) ≡ m.for_begin env (erase_stmt k) y
for_begin_step n env o k t.semi s = refl
for_begin_step n env o k y s =
    same_test (begins_specs env false y) (begins_specs env false y) (rb.begin_specs n env (of_declaration (of_for o k)) y s) (rb.want n env (in_stmt o for_first k) y s) _ _ refl
    (begin_specs_step n env (of_declaration (of_for o k)) y s)
    (d.want_step n env (in_stmt o for_first k) y s)

condition_step : (n : ℕ) (env : Env) (o : Open) (f : First) (k : InStmt) (y : Symbol) (s : Span)
    → erased (r.condition_begin n env o f k y s) ≡ m.condition_begin env (bare_first f) (erase_stmt k) y
condition_step n env o f k t.semi s = refl
condition_step n env o f k y s = d.want_step n env (in_stmt o (for_condition f) k) y s

for_last_step : (n : ℕ) (env : Env) (o : Open) (f : First) (c : MaybeExpr) (k : InStmt) (y : Symbol) (s : Span)
    → erased (r.step_begin n env o f c k y s) ≡ m.step_begin env (bare_first f) (bare_maybe c) (erase_stmt k) y
for_last_step n env o f c k t.rparen s = refl
for_last_step n env o f c k y s = d.want_step n env (in_stmt o (for_step f c) k) y s

ended_erased : (at : At) (a : Unended) → bare_stmt (r.ended at a) ≡ m.ended (erase_unended a)
ended_erased at broken = refl
ended_erased at continued = refl
ended_erased at (done_while a c) = refl

semi_step : (n : ℕ) (env : Env) (o : Open) (a : Unended) (k : InStmt) (y : Symbol) (s : Span)
    → erased (r.semi_next n env o a k y s) ≡ m.semi_next env (erase_unended a) (erase_stmt k) y
semi_step n env o a k t.semi s = ap (λ z. i.at env (i.stmt (i.after_stmt (erase_stmt k) z))) (ended_erased (mark o.from s.end n) a)
semi_step n env o a k _ s = refl

return_step : (n : ℕ) (env : Env) (o : Open) (k : InStmt) (y : Symbol) (s : Span) → erased (r.return_next n env o k y s) ≡ m.return_next env (erase_stmt k) y
return_step n env o k t.semi s = refl
return_step n env o k y s = d.want_step n env (in_stmt o returned k) y s

pub stmt_step : (n e : ℕ) (env : Env) (c : StmtMode) (y : Symbol) (s : Span) → erased (r.stmt_mode_next n e env c y s) ≡ m.stmt_mode_next env (erase_stmt_mode c) y
stmt_step n e env (want_stmt k) y s = begin_step n env k y s
stmt_step n e env (after_stmt d k a) y s = next_step k n e env d a y s
stmt_step n e env (want_paren o c k) y s = paren_step n env o c k y
stmt_step n e env (after_for o k) y s = for_paren_step n env o k y
stmt_step n e env (for_opened o k) y s = for_begin_step n env o k y s
stmt_step n e env (want_condition o f k) y s = condition_step n env o f k y s
stmt_step n e env (want_step o f c k) y s = for_last_step n env o f c k y s
stmt_step n e env (want_semi o a k) y s = semi_step n env o a k y s
stmt_step n e env (after_return o k) y s = return_step n env o k y s
