-- The steps keep the numbers of depth: statements.
use Rattle.std.proofs.Common.{◌≡◌, ℕ, suc, max, false, [], ◌∷◌, ◌++◌, None, refl, sym, ◌∙◌, ap, arith}
use Rattle.tok_base.specs.declared.token.Span.{Span}
use Rattle.c_tree.specs.declared.operator.At.{At}
use Rattle.c_tree.specs.Marked as u
use Rattle.c_tree.specs.Marked.{MaybeExpr, First, Stmt, BlockItems}
use Rattle.c_tree.specs.Bare.{bare, bare_maybe, bare_first, bare_stmt, bare_block}
use Rattle.c_tree.specs.Wf.{Env}
use Rattle.c_tree.specs.Depth.{depth, maybe_depth, first_depth, stmt_depth, block_depth}
use Rattle.c_reader.specs.Symbol as t
use Rattle.c_reader.specs.Symbol.{Symbol, Head}
use Rattle.c_reader.specs.Begin.{begins_specs}
use Rattle.c_reader.specs.Stmts.{is_else, is_while}
use Rattle.c_reader.specs.Above.{condition_depth, unended_depth}
use Rattle.c_reader.specs.MarkedParts.{Open, mark, opens, with_part, whole, statement, items_of}
use Rattle.c_reader.specs.MarkedInside.{InStmt, InBody, in_block, in_then, in_else, in_while, in_do, in_for, of_definition, of_stmt, of_block, of_for, Condition, plain, returned, Unended, broken, continued, done_while, for_first, for_condition, for_step, in_stmt, of_declaration, StmtMode, want_stmt, after_stmt, want_paren, after_for, for_opened, want_condition, want_step, want_semi, after_return, around_stmt}
use Rattle.c_reader.specs.MarkedBegin as rb
use Rattle.c_reader.specs.MarkedStmts as r
use Rattle.c_reader.proofs.Erased.{erase_condition, erase_unended, items_erased}
use Rattle.c_reader.proofs.Counted.{Fits, body_level, block_deep, CountedStmt, CountedBody, CountedStmtMode, Counts, either_way, fresh, with_next, ends_with, as_it_is, block_more, unit_more, empty_fits, empty_second, empty_third, grown}
use Rattle.c_reader.proofs.CountedDeclarations.{begin_specs_counts, want_counts}

head_counts : (n : ℕ) (env : Env) (k : InStmt) (h : Head) (s : Span) → CountedStmt k → Counts (r.head_begin n env k h s)
head_counts n env k t.If s c = ((refl, λ d. (fresh (around_stmt k).level s.start).1 d), c)
head_counts n env k t.Else s c = tt
head_counts n env k t.While s c = ((refl, λ d. (fresh (around_stmt k).level s.start).1 d), c)
head_counts n env k t.Do s c = (fresh (around_stmt k).level s.start, c)
head_counts n env k t.For s c = (fresh (around_stmt k).level s.start, c)
head_counts n env k t.Break s c = (refl, refl, c)
head_counts n env k t.Continue s c = (refl, refl, c)
head_counts n env k t.Return s c = (fresh (around_stmt k).level s.start, c)

block_counts : (n : ℕ) (env : Env) (o : Open) (k : InBody) (is : BlockItems) (s : Span) → whole o 0 ≡ suc (block_depth (bare_block is)) → CountedBody k → Counts (r.block_done n env o k is s)
block_counts n env o (of_definition deep d_o done ss x) is s e c =
    let f = ends_with d_o 0 _ (whole o 0) (suc (block_depth (bare_block is))) c.1 e in
    let more = unit_more done (u.Definition (mark d_o.from s.end (suc n)) ss x (mark o.from s.end n) is) (whole d_o (whole o 0)) f in
    let h = c.0 in
    omega (arith, h, more)
block_counts n env o (of_stmt k) is s e c = (e, c)

close_block_counts : (n : ℕ) (env : Env) (k : InStmt) (s : Span) → CountedStmt k → Counts (r.close_block n env k s)
close_block_counts n env (in_block o is k) s c = block_counts n env o k (items_of is) s (as_it_is o (body_level k) (block_deep is) c.0 ∙ ap (λ z. suc (block_depth z)) (sym (items_erased is))) c.1
close_block_counts n env (in_then o f k) s c = tt
close_block_counts n env (in_else o f a k) s c = tt
close_block_counts n env (in_while o f k) s c = tt
close_block_counts n env (in_do o k) s c = tt
close_block_counts n env (in_for o i f g k) s c = tt

declaration_counts : (n : ℕ) (env : Env) (k : InStmt) (y : Symbol) (s : Span) → CountedStmt k → Counts (r.declaration_begin n env k y s)
declaration_counts n env (in_block o is k) y s c = begin_specs_counts n env (of_declaration (of_block o is k)) y s c
declaration_counts n env (in_then o f k) y s c = tt
declaration_counts n env (in_else o f a k) y s c = tt
declaration_counts n env (in_while o f k) y s c = tt
declaration_counts n env (in_do o k) y s c = tt
declaration_counts n env (in_for o i f g k) y s c = tt

begin_counts : (n : ℕ) (env : Env) (k : InStmt) (y : Symbol) (s : Span) → CountedStmt k → Counts (r.stmt_begin n env k y s)
begin_counts n env k (t.head h) s c = head_counts n env k h s c
begin_counts n env k t.lbrace s c = ((refl, λ d. refl), c)
begin_counts n env k t.rbrace s c = close_block_counts n env k s c
begin_counts n env k t.semi s c = (refl, c)
begin_counts n env k y s c =
    let z = in_stmt (opens (around_stmt k).level s.start) plain k in
    either_way (begins_specs env false y) (r.declaration_begin n env k y s) (rb.want n env z y s)
    (declaration_counts n env k y s c)
    (want_counts n env z y s ((refl, λ d. (fresh (around_stmt k).level s.start).1 d), c))

-- a do with its statement
done_fits : (o : Open) (level a d : ℕ) → Fits o level suc → d ≡ a → Fits (with_part o d) level (λ e. suc (max e a))
done_fits o level a d h g = (h.0, λ e. let f = h.1 0 in omega (arith, f, g))

-- the token after a statement
next_counts : (k : InStmt) (n e : ℕ) (env : Env) (d : ℕ) (a : Stmt) (y : Symbol) (s : Span) → d ≡ stmt_depth (bare_stmt a) → CountedStmt k → Counts (r.stmt_next n e env d k a y s)
next_counts (in_block o is k) n e env d a y s h c =
    begin_counts n env (in_block (with_part o d) (is ++ statement a ∷ []) k) y s (grown o (body_level k) (block_deep is) _ d c.0 (block_more is (statement a) d h), c.1)
next_counts (in_then o f k) n e env d a y s h c =
    let z = u.If (mark o.from e n) f a in
    either_way (is_else y) _ (r.stmt_next (suc n) e env (whole o d) k z y s)
    (with_next o (around_stmt k).level (depth (bare f)) (stmt_depth (bare_stmt a)) d c.0 h, c.1)
    (next_counts k (suc n) e env (whole o d) z y s (ends_with o (around_stmt k).level _ d (stmt_depth (bare_stmt a)) c.0 h) c.1)
next_counts (in_else o f b k) n e env d a y s h c =
    next_counts k (suc n) e env (whole o d) (u.IfElse (mark o.from e n) f b a) y s (ends_with o (around_stmt k).level _ d (stmt_depth (bare_stmt a)) c.0 h) c.1
next_counts (in_while o f k) n e env d a y s h c =
    next_counts k (suc n) e env (whole o d) (u.While (mark o.from e n) f a) y s (ends_with o (around_stmt k).level _ d (stmt_depth (bare_stmt a)) c.0 h) c.1
next_counts (in_do o k) n e env d a y s h c = either_way (is_while y) _ None (done_fits o (around_stmt k).level (stmt_depth (bare_stmt a)) d c.0 h, c.1) tt
next_counts (in_for o i f g k) n e env d a y s h c =
    next_counts k (suc n) e env (whole o d) (u.For (mark o.from e n) i f g a) y s (ends_with o (around_stmt k).level _ d (stmt_depth (bare_stmt a)) c.0 h) c.1

abbrev Opened : Open → InStmt → Type 0
Opened o k = Fits o (around_stmt k).level suc × CountedStmt k

paren_counts : (n : ℕ) (env : Env) (o : Open) (x : Condition) (k : InStmt) (y : Symbol) → Fits o (around_stmt k).level (condition_depth (erase_condition x)) → CountedStmt k → Counts (r.paren_next n env o x k y)
paren_counts n env o x k t.lparen h c = ((h.0, λ d. h.1 d), c)
paren_counts n env o x k _ h c = tt

for_counts : (n : ℕ) (env : Env) (o : Open) (k : InStmt) (y : Symbol) → Opened o k → Counts (r.for_next n env o k y)
for_counts n env o k t.lparen c = c
for_counts n env o k _ c = tt

for_begin_counts : (n : ℕ) (env : Env) (o : Open) (k : InStmt) (y : Symbol) (s : Span) → Opened o k → Counts (r.for_begin n env o k y s)
for_begin_counts n env o k t.semi s c = (empty_fits o (around_stmt k).level c.0, c.1)
for_begin_counts n env o k y s c =
    either_way (begins_specs env false y) (rb.begin_specs n env (of_declaration (of_for o k)) y s) (rb.want n env (in_stmt o for_first k) y s)
    (begin_specs_counts n env (of_declaration (of_for o k)) y s c)
    (want_counts n env (in_stmt o for_first k) y s ((c.0.0, λ d. c.0.1 d), c.1))

condition_counts : (n : ℕ) (env : Env) (o : Open) (i : First) (k : InStmt) (y : Symbol) (s : Span)
    → Fits o (around_stmt k).level (λ d. suc (max (first_depth (bare_first i)) d)) → CountedStmt k → Counts (r.condition_begin n env o i k y s)
condition_counts n env o i k t.semi s h c = (empty_second o (around_stmt k).level (first_depth (bare_first i)) h, c)
condition_counts n env o i k y s h c = want_counts n env (in_stmt o (for_condition i) k) y s ((h.0, λ d. h.1 d), c)

for_last_counts : (n : ℕ) (env : Env) (o : Open) (i : First) (f : MaybeExpr) (k : InStmt) (y : Symbol) (s : Span)
    → Fits o (around_stmt k).level (λ d. suc (max (first_depth (bare_first i)) (max (maybe_depth (bare_maybe f)) d))) → CountedStmt k → Counts (r.step_begin n env o i f k y s)
for_last_counts n env o i f k t.rparen s h c = (empty_third o (around_stmt k).level (first_depth (bare_first i)) (maybe_depth (bare_maybe f)) h, c)
for_last_counts n env o i f k y s h c = want_counts n env (in_stmt o (for_step i f) k) y s ((h.0, λ d. h.1 d), c)

ended_deep : (at : At) (a : Unended) → unended_depth (erase_unended a) ≡ stmt_depth (bare_stmt (r.ended at a))
ended_deep at broken = refl
ended_deep at continued = refl
ended_deep at (done_while a c) = refl

semi_counts : (n : ℕ) (env : Env) (o : Open) (a : Unended) (k : InStmt) (y : Symbol) (s : Span) → whole o 0 ≡ unended_depth (erase_unended a) → CountedStmt k → Counts (r.semi_next n env o a k y s)
semi_counts n env o a k t.semi s h c = (h ∙ ended_deep (mark o.from s.end n) a, c)
semi_counts n env o a k _ s h c = tt

return_counts : (n : ℕ) (env : Env) (o : Open) (k : InStmt) (y : Symbol) (s : Span) → Opened o k → Counts (r.return_next n env o k y s)
return_counts n env o k t.semi s c = (c.0.1 0, c.1)
return_counts n env o k y s c = want_counts n env (in_stmt o returned k) y s ((c.0.0, λ d. c.0.1 d), c.1)

pub stmt_counts : (n e : ℕ) (env : Env) (x : StmtMode) (y : Symbol) (s : Span) → CountedStmtMode x → Counts (r.stmt_mode_next n e env x y s)
stmt_counts n e env (want_stmt k) y s c = begin_counts n env k y s c
stmt_counts n e env (after_stmt d k a) y s c = next_counts k n e env d a y s c.0 c.1
stmt_counts n e env (want_paren o x k) y s c = paren_counts n env o x k y c.0 c.1
stmt_counts n e env (after_for o k) y s c = for_counts n env o k y c
stmt_counts n e env (for_opened o k) y s c = for_begin_counts n env o k y s c
stmt_counts n e env (want_condition o i k) y s c = condition_counts n env o i k y s c.0 c.1
stmt_counts n e env (want_step o i f k) y s c = for_last_counts n env o i f k y s c.0 c.1
stmt_counts n e env (want_semi o a k) y s c = semi_counts n env o a k y s c.1 c.2
stmt_counts n e env (after_return o k) y s c = return_counts n env o k y s c
