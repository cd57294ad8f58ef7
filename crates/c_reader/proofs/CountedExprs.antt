-- The steps keep the numbers of depth: expressions.
use Rattle.std.proofs.Common.{◌≡◌, ℕ, suc, max, nat_le, Bool, true, false, if◌then◌else◌, List, [], ◌∷◌, ◌++◌, None, refl, sym, ◌∙◌, ap, arith}
use Rattle.tok_base.specs.declared.token.Span.{Span}
use Rattle.c_tree.specs.declared.operator.At.{At}
use Rattle.c_tree.specs.Marked as u
use Rattle.c_tree.specs.Marked.{Expr, Exprs, Declarator, type_name}
use Rattle.c_tree.specs.Bare.{bare, bare_exprs, bare_first, bare_maybe, bare_stmt}
use Rattle.c_tree.specs.Wf.{Env, level}
use Rattle.c_tree.specs.Depth.{depth, exprs_depth, maybe_depth, first_depth, stmt_depth}
use Rattle.c_reader.specs.Symbol as t
use Rattle.c_reader.specs.Symbol.{Symbol, Operator, Member}
use Rattle.c_reader.specs.Begin.{begins_specs}
use Rattle.c_reader.specs.Exprs.{tight, needs}
use Rattle.c_reader.specs.Above.{condition_depth, operand_depth, callee_depth}
use Rattle.c_reader.specs.MarkedParts.{Open, Had, mark, opens, takes, with_part, whole, closed, leaf, exprs_of}
use Rattle.c_reader.specs.MarkedInside.{InStmt, Condition, of_if, of_while, of_do, Part, plain, returned, condition, for_first, for_condition, for_step, Operand, of_prefix, of_sizeof, of_cast, of_binary, of_assign, of_comma, of_cond, Callee, of_function, Bracket, of_paren, of_index, of_args, of_builtin, of_middle, cast_type, sizeof_type, InExpr, in_operand, in_bracket, in_stmt, in_init, in_value, in_array, InDeclarator, of_type, want_expr, after_expr, after_text, opened, after_sizeof, sizeof_opened, args_opened, after_builtin, want_member, ExprMode, around_expr, around_stmt, around_declarator}
use Rattle.c_reader.specs.MarkedBegin as rb
use Rattle.c_reader.specs.MarkedExprs as r
use Rattle.c_reader.specs.MarkedExprs.{Reduced}
use Rattle.c_reader.proofs.Erased.{erase_condition, erase_operand, erase_callee, exprs_erased}
use Rattle.c_reader.proofs.Counted.{Fits, args_deep, CountedStmt, CountedExpr, CountedExprMode, Counts, either_way, fresh, taken, with_first, with_next, ends_with, args_more, empty_fits, empty_second, grown2, as_it_is, as_it_is2}
use Rattle.c_reader.proofs.CountedDeclarations.{begin_specs_counts, want_counts, init_counts}
use Rattle.c_reader.proofs.CountedSpecs.{close_enumerator_counts}

-- ---- a token that takes the expression before it

-- the node that takes it
abbrev Takes : Had → InExpr → Expr → Type 0
Takes h k a = Fits (takes (around_expr k).level h) (around_expr k).level (λ d. suc (max (depth (bare a)) d))

takes_it : (h : Had) (k : InExpr) (a : Expr) → h.deep ≡ depth (bare a) → Takes h k a
takes_it h k a e = taken (around_expr k).level h (depth (bare a)) e

operator_counts : (n : ℕ) (env : Env) (h : Had) (k : InExpr) (a : Expr) (o : Operator) (s : Span) → h.deep ≡ depth (bare a) → CountedExpr k → Counts (r.take_operator n env h k a o s)
operator_counts n env h k a (t.binary o) s e c = (takes_it h k a e, c)
operator_counts n env h k a (t.assign o) s e c = (takes_it h k a e, c)
operator_counts n env h k a (t.step o) s e c = (ap suc e, c)
operator_counts n env h k a (t.negation o) s e c = tt
operator_counts n env h k a t.question s e c = (takes_it h k a e, c)
operator_counts n env h k a (t.member m) s e c = (takes_it h k a e, c)

take_expr_counts : (n : ℕ) (env : Env) (h : Had) (k : InExpr) (a : Expr) (y : Symbol) (s : Span) → h.deep ≡ depth (bare a) → CountedExpr k → Counts (r.take_expr n env h k a y s)
take_expr_counts n env h k a (t.operator o) s e c = operator_counts n env h k a o s e c
take_expr_counts n env h k a t.lparen s e c = (takes_it h k a e, c)
take_expr_counts n env h k a t.lbracket s e c = (takes_it h k a e, c)
take_expr_counts n env h k a t.comma s e c = (takes_it h k a e, c)
take_expr_counts n env h k a _ s e c = tt

-- ---- a token that closes what is open

paren_counts : (n : ℕ) (env : Env) (o : Open) (d : ℕ) (k : InExpr) (a : Expr) (y : Symbol) (s : Span) → d ≡ depth (bare a) → CountedExpr (in_bracket o of_paren k) → Counts (r.close_paren n env o d k a y s)
paren_counts n env o d k a t.rparen s e c = (c.0.1 d ∙ ap suc e, c.1)
paren_counts n env o d k a _ s e c = tt

index_counts : (n : ℕ) (env : Env) (o : Open) (d : ℕ) (k : InExpr) (l a : Expr) (y : Symbol) (s : Span)
    → d ≡ depth (bare a) → CountedExpr (in_bracket o (of_index l) k) → Counts (r.close_index n env o d k l a y s)
index_counts n env o d k l a t.rbracket s e c = (ends_with o (around_expr k).level _ d (depth (bare a)) c.0 e, c.1)
index_counts n env o d k l a _ s e c = tt

call_deep : (at : At) (c : Callee) (xs : Exprs) → depth (bare (r.call_of at c xs)) ≡ suc (max (callee_depth (erase_callee c)) (exprs_depth (bare_exprs xs)))
call_deep at (of_function f) xs = refl
call_deep at of_builtin xs = omega arith

args_counts : (n : ℕ) (env : Env) (o : Open) (k : InExpr) (f : Callee) (xs : List Expr) (y : Symbol) (s : Span) → CountedExpr (in_bracket o (of_args f xs) k) → Counts (r.close_args n env o k f xs y s)
args_counts n env o k f xs t.comma s c = c
args_counts n env o k f xs t.rparen s c = (
  as_it_is2 o (around_expr k).level (callee_depth (erase_callee f)) (args_deep xs) c.0
      ∙ ap (λ z. suc (max (callee_depth (erase_callee f)) (exprs_depth z))) (sym (exprs_erased xs))
      ∙ sym (call_deep (mark o.from s.end n) f (exprs_of xs)),
  c.1,
)
args_counts n env o k f xs _ s c = tt

middle_counts : (n : ℕ) (env : Env) (o : Open) (d : ℕ) (k : InExpr) (f a : Expr) (y : Symbol) → d ≡ depth (bare a) → CountedExpr (in_bracket o (of_middle f) k) → Counts (r.close_middle n env o d k f a y)
middle_counts n env o d k f a t.colon e c = (with_next o (around_expr k).level (depth (bare f)) (depth (bare a)) d c.0 e, c.1)
middle_counts n env o d k f a _ e c = tt

bracket_counts : (n : ℕ) (env : Env) (o : Open) (d : ℕ) (b : Bracket) (k : InExpr) (a : Expr) (y : Symbol) (s : Span)
    → d ≡ depth (bare a) → CountedExpr (in_bracket o b k) → Counts (r.close_bracket n env o d b k a y s)
bracket_counts n env o d of_paren k a y s e c = paren_counts n env o d k a y s e c
bracket_counts n env o d (of_index l) k a y s e c = index_counts n env o d k l a y s e c
bracket_counts n env o d (of_args f xs) k a y s e c =
    args_counts n env (with_part o d) k f (xs ++ a ∷ []) y s (grown2 o (around_expr k).level (callee_depth (erase_callee f)) (args_deep xs) _ d c.0 (args_more xs a d e), c.1)
bracket_counts n env o d (of_middle f) k a y s e c = middle_counts n env o d k f a y e c

semi_counts : (n : ℕ) (env : Env) (o : Open) (d : ℕ) (x : Part) (k : InStmt) (a : Expr) (s : Span) → d ≡ depth (bare a) → CountedExpr (in_stmt o x k) → Counts (r.part_semi n env o d x k a s)
semi_counts n env o d plain k a s e c = (c.0.1 d ∙ ap suc e, c.1)
semi_counts n env o d returned k a s e c = (c.0.1 d ∙ ap suc e, c.1)
semi_counts n env o d (condition f) k a s e c = tt
semi_counts n env o d for_first k a s e c = (with_first o (around_stmt k).level (depth (bare a)) d c.0 e, c.1)
semi_counts n env o d (for_condition f) k a s e c = (with_next o (around_stmt k).level (first_depth (bare_first f)) (depth (bare a)) d c.0 e, c.1)
semi_counts n env o d (for_step f g) k a s e c = tt

-- the condition of a do has the statement before it
done_while_deep : (o : Open) (level a s d : ℕ) → Fits o level (λ e. suc (max e s)) → d ≡ a → whole (with_part o d) 0 ≡ suc (max a s)
done_while_deep o level a s d h g = let f = h.1 0 in omega (arith, f, g)

condition_counts : (n : ℕ) (env : Env) (o : Open) (d : ℕ) (x : Condition) (k : InStmt) (a : Expr)
    → d ≡ depth (bare a) → Fits o (around_stmt k).level (condition_depth (erase_condition x)) → CountedStmt k → Counts (r.condition_done n env (with_part o d) x k a)
condition_counts n env o d of_if k a e h c = (with_first o (around_stmt k).level (depth (bare a)) d h e, c)
condition_counts n env o d of_while k a e h c = (with_first o (around_stmt k).level (depth (bare a)) d h e, c)
condition_counts n env o d (of_do b) k a e h c = (h.0, done_while_deep o (around_stmt k).level (depth (bare a)) (stmt_depth (bare_stmt b)) d h e, c)

for_fits : (o : Open) (level i c a d : ℕ) → Fits o level (λ e. suc (max i (max c e))) → d ≡ a → Fits (with_part o d) level (λ e. suc (max i (max c (max a e))))
for_fits o level i c a d h g = (h.0, λ e. let f = h.1 0 in omega (arith, f, g))

part_paren_counts : (n : ℕ) (env : Env) (o : Open) (d : ℕ) (x : Part) (k : InStmt) (a : Expr) → d ≡ depth (bare a) → CountedExpr (in_stmt o x k) → Counts (r.part_paren n env o d x k a)
part_paren_counts n env o d plain k a e c = tt
part_paren_counts n env o d returned k a e c = tt
part_paren_counts n env o d (condition f) k a e c = condition_counts n env o d f k a e c.0 c.1
part_paren_counts n env o d for_first k a e c = tt
part_paren_counts n env o d (for_condition f) k a e c = tt
part_paren_counts n env o d (for_step f g) k a e c = (for_fits o (around_stmt k).level (first_depth (bare_first f)) (maybe_depth (bare_maybe g)) (depth (bare a)) d c.0 e, c.1)

part_counts : (n : ℕ) (env : Env) (o : Open) (d : ℕ) (x : Part) (k : InStmt) (a : Expr) (y : Symbol) (s : Span) → d ≡ depth (bare a) → CountedExpr (in_stmt o x k) → Counts (r.close_part n env o d x k a y s)
part_counts n env o d x k a t.semi s e c = semi_counts n env o d x k a s e c
part_counts n env o d x k a t.rparen s e c = part_paren_counts n env o d x k a e c
part_counts n env o d x k a _ s e c = tt

close_array_counts : (n : ℕ) (env : Env) (o : Open) (d : ℕ) (x : Declarator) (k : InDeclarator) (a : Expr) (y : Symbol) (s : Span)
    → d ≡ depth (bare a) → CountedExpr (in_array o x k) → Counts (r.close_array n env o d x k a y s)
close_array_counts n env o d x k a t.rbracket s e c = (ends_with o (around_declarator k).level _ d (depth (bare a)) c.0 e, c.1)
close_array_counts n env o d x k a _ s e c = tt

close_counts : (n e : ℕ) (env : Env) (d : ℕ) (k : InExpr) (a : Expr) (y : Symbol) (s : Span) → d ≡ depth (bare a) → CountedExpr k → Counts (r.close n e env d k a y s)
close_counts n e env d (in_operand o x k) a y s g c = tt
close_counts n e env d (in_bracket o x k) a y s g c = bracket_counts n env o d x k a y s g c
close_counts n e env d (in_stmt o x k) a y s g c = part_counts n env o d x k a y s g c
close_counts n e env d (in_init k) a y s g c = init_counts n e env d k (u.Plain a) y s g c
close_counts n e env d (in_value o x k) a y s g c = close_enumerator_counts n e env o d k x (u.some_expr a) y s g c.0 c.1
close_counts n e env d (in_array o x k) a y s g c = close_array_counts n env o d x k a y s g c

-- ---- the token after an expression

made_deep : (at : At) (o : Operand) (a : Expr) → operand_depth (erase_operand o) (depth (bare a)) ≡ depth (bare (r.made at o a))
made_deep at (of_prefix o) a = refl
made_deep at of_sizeof a = refl
made_deep at (of_cast (type_name t_at ss d)) a = refl
made_deep at (of_binary l o) a = refl
made_deep at (of_assign l o) a = refl
made_deep at (of_comma l) a = refl
made_deep at (of_cond c l) a = refl

abbrev IsCounted : Reduced → Type 0
IsCounted x = (x.had.deep ≡ depth (bare x.expr)) × CountedExpr x.place

one_of : (c : Bool) (x y : Reduced) → IsCounted x → IsCounted y → IsCounted (if c then x else y)
one_of true x y h g = h
one_of false x y h g = g

reduced_counts : (k : InExpr) (n e : ℕ) (h : Had) (a : Expr) (g : ℕ) → h.deep ≡ depth (bare a) → CountedExpr k → IsCounted (r.reduced n e h k a g)
reduced_counts (in_operand o x k) n e h a g d c =
    one_of (nat_le (r.operand_place x) g) _ (r.reduced (suc n) e (closed o h.deep) k (r.made (mark o.from e n) x a) g) (d, c)
    (reduced_counts k (suc n) e (closed o h.deep) (r.made (mark o.from e n) x a) g (ends_with o (around_expr k).level _ h.deep (depth (bare a)) c.0 d ∙ made_deep (mark o.from e n) x a) c.1)
reduced_counts (in_bracket o x k) n e h a g d c = (d, c)
reduced_counts (in_stmt o x k) n e h a g d c = (d, c)
reduced_counts (in_init k) n e h a g d c = (d, c)
reduced_counts (in_value o x k) n e h a g d c = (d, c)
reduced_counts (in_array o x k) n e h a g d c = (d, c)

take_counts : (n : ℕ) (env : Env) (h : Had) (k : InExpr) (a : Expr) (y : Symbol) (s : Span) → h.deep ≡ depth (bare a) → CountedExpr k → Counts (r.take n env h k a y s)
take_counts n env h k a y s e c = either_way (nat_le (needs y) (level (bare a))) (r.take_expr n env h k a y s) None (take_expr_counts n env h k a y s e c) tt

next_counts : (e : ℕ) (env : Env) (x : Reduced) (y : Symbol) (s : Span) → IsCounted x → Counts (r.next e env x y s)
next_counts e env x y s h =
    either_way (nat_le (r.place x.place) (tight y)) (r.take x.id env x.had x.place x.expr y s) (r.close x.id e env x.had.deep x.place x.expr y s)
    (take_counts x.id env x.had x.place x.expr y s h.0 h.1)
    (close_counts x.id e env x.had.deep x.place x.expr y s h.0 h.1)

pub after_counts : (n e : ℕ) (env : Env) (h : Had) (k : InExpr) (a : Expr) (y : Symbol) (s : Span) → h.deep ≡ depth (bare a) → CountedExpr k → Counts (r.after n e env h k a y s)
after_counts n e env h k a y s d c = next_counts e env (r.reduced n e h k a (tight y)) y s (reduced_counts k n e h a (tight y) d c)

-- ---- the other places in an expression

text_counts : (n e : ℕ) (env : Env) (from : ℕ) (k : InExpr) (xs : List (List ℕ)) (y : Symbol) (s : Span) → CountedExpr k → Counts (r.text_next n e env from k xs y s)
text_counts n e env from k xs (t.text x) s c = c
text_counts n e env from k xs y s c = after_counts (suc n) e env (leaf from) k (u.Text (mark from e n) xs) y s refl c

abbrev Opened : Open → InExpr → Type 0
Opened o k = Fits o (around_expr k).level suc × CountedExpr k

cast_counts : (n : ℕ) (env : Env) (o : Open) (k : InExpr) (y : Symbol) (s : Span) → Opened o k → Counts (r.open_cast n env o k y s)
cast_counts n env o k y s c = either_way (nat_le (r.place k) 14) (rb.begin_specs n env (of_type o cast_type k) y s) None (begin_specs_counts n env (of_type o cast_type k) y s c) tt

opened_counts : (n : ℕ) (env : Env) (o : Open) (k : InExpr) (y : Symbol) (s : Span) → Opened o k → Counts (r.paren_next n env o k y s)
opened_counts n env o k y s c =
    either_way (begins_specs env false y) (r.open_cast n env o k y s) (rb.want n env (in_bracket o of_paren k) y s)
    (cast_counts n env o k y s c)
    (want_counts n env (in_bracket o of_paren k) y s ((c.0.0, λ d. c.0.1 d), c.1))

sizeof_opened_counts : (n : ℕ) (env : Env) (o : Open) (p_from : ℕ) (k : InExpr) (y : Symbol) (s : Span) → Opened o k → Counts (r.sizeof_paren_next n env o p_from k y s)
sizeof_opened_counts n env o p_from k y s c =
    let z = in_bracket (opens o.level p_from) of_paren (in_operand o of_sizeof k) in
    either_way (begins_specs env false y) (rb.begin_specs n env (of_type o sizeof_type k) y s) (rb.want n env z y s)
    (begin_specs_counts n env (of_type o sizeof_type k) y s c)
    (want_counts n env z y s ((refl, λ d. (fresh o.level p_from).1 d), ((c.0.0, λ d. c.0.1 d), c.1)))

sizeof_counts : (n : ℕ) (env : Env) (o : Open) (k : InExpr) (y : Symbol) (s : Span) → Opened o k → Counts (r.sizeof_next n env o k y s)
sizeof_counts n env o k t.lparen s c = c
sizeof_counts n env o k y s c = want_counts n env (in_operand o of_sizeof k) y s ((c.0.0, λ d. c.0.1 d), c.1)

args_begin_counts : (n : ℕ) (env : Env) (o : Open) (f : Expr) (k : InExpr) (y : Symbol) (s : Span)
    → Fits o (around_expr k).level (λ d. suc (max (depth (bare f)) d)) → CountedExpr k → Counts (r.args_begin n env o f k y s)
args_begin_counts n env o f k t.rparen s h c = (h.1 0, c)
args_begin_counts n env o f k y s h c = want_counts n env (in_bracket o (of_args (of_function f) []) k) y s (empty_second o (around_expr k).level (depth (bare f)) h, c)

builtin_counts : (n : ℕ) (env : Env) (o : Open) (k : InExpr) (y : Symbol) → Opened o k → Counts (r.builtin_next n env o k y)
builtin_counts n env o k t.lparen c = (empty_second o (around_expr k).level 0 (empty_fits o (around_expr k).level c.0), c.1)
builtin_counts n env o k _ c = tt

member_deep : (at : At) (c : Member) (a : Expr) (x : List ℕ) → suc (depth (bare a)) ≡ depth (bare (r.member_of at c a x))
member_deep at t.Dot a x = refl
member_deep at t.Arrow a x = refl

member_counts : (n : ℕ) (env : Env) (o : Open) (a : Expr) (m : Member) (k : InExpr) (y : Symbol) (s : Span)
    → Fits o (around_expr k).level (λ d. suc (max (depth (bare a)) d)) → CountedExpr k → Counts (r.member_next n env o a m k y s)
member_counts n env o a m k (t.name x) s h c = (as_it_is o (around_expr k).level (depth (bare a)) h ∙ member_deep (mark o.from s.end n) m a x, c)
member_counts n env o a m k _ s h c = tt

pub expr_counts : (n e : ℕ) (env : Env) (x : ExprMode) (y : Symbol) (s : Span) → CountedExprMode x → Counts (r.expr_next n e env x y s)
expr_counts n e env (want_expr k) y s c = want_counts n env k y s c
expr_counts n e env (after_expr h k a) y s c = after_counts n e env h k a y s c.0 c.1
expr_counts n e env (after_text from k xs) y s c = text_counts n e env from k xs y s c
expr_counts n e env (opened o k) y s c = opened_counts n env o k y s c
expr_counts n e env (after_sizeof o k) y s c = sizeof_counts n env o k y s c
expr_counts n e env (sizeof_opened o p_from k) y s c = sizeof_opened_counts n env o p_from k y s c
expr_counts n e env (args_opened o f k) y s c = args_begin_counts n env o f k y s c.0 c.1
expr_counts n e env (after_builtin o k) y s c = builtin_counts n env o k y c
expr_counts n e env (want_member o a m k) y s c = member_counts n env o a m k y s c.0 c.1
