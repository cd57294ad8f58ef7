-- Levels of expressions, and the token after one.
use Rattle.std.proofs.Common.{◌≡◌, ℕ, suc, ◌≤◌, ◌<◌, Bool, true, false, List, [], ◌∷◌, ◌++◌, refl, sym, ◌∙◌, ap, append_assoc, append-nil, arith}
use Rattle.c_tree.specs.Tok as g
use Rattle.c_tree.specs.Tok.{Tok, mark}
use Rattle.c_tree.specs.Tree as u
use Rattle.c_tree.specs.Tree.{BinaryOp, PrefixOp, Expr, Declarator}
use Rattle.c_tree.specs.Put.{put_all, put_text, put}
use Rattle.c_tree.specs.Wf.{Env, prec, level, operand_level, Wf}
use Rattle.c_reader.specs.Symbol as t
use Rattle.c_reader.specs.Symbol.{Operator, Symbol, tok}
use Rattle.c_reader.specs.Inside.{Operand, InExpr, InDeclarator, of_prefix, of_sizeof, of_binary, of_function, of_paren, of_args, in_operand, in_bracket, in_stmt, in_init, in_value, in_array, want_expr, after_expr, after_text, opened, after_sizeof, sizeof_opened, expr}
use Rattle.c_reader.specs.Begin.{want}
use Rattle.c_reader.specs.Declarators.{array_next}
use Rattle.c_reader.specs.Exprs.{operand_place, place, operator_tight, tight, needs, take_expr, made, reduced, next, after, text_next, sizeof_paren_next, args_begin}
use Rattle.c_reader.specs.Machine.{run}
use Rattle.c_reader.specs.Exprs as exprs
use Rattle.c_reader.proofs.Go.{at, nat_le_true, nat_le_false, pick, skip, same_step, Starts, same_start}
use Rattle.c_reader.proofs.First.{BeginsExpr, prefix_operator, prefix_tok, first, no_spec, passes}

-- ---- levels

pub prec_small : (o : BinaryOp) → (4 ≤ prec o) × (prec o ≤ 13)
prec_small u.Or = (omega arith, omega arith)
prec_small _ = (omega arith, omega arith)

pub operand_level_small : (o : PrefixOp) → (14 ≤ operand_level o) × (operand_level o ≤ 15)
operand_level_small u.Increment = (omega arith, omega arith)
operand_level_small _ = (omega arith, omega arith)

operand_place_small : (o : Operand) → (1 ≤ operand_place o) × (operand_place o ≤ 15)
operand_place_small (of_prefix o) = let h = operand_level_small o in (omega (arith, h.0), omega (arith, h.1))
operand_place_small (of_binary l o) = let h = prec_small o in (omega arith, omega (arith, h.1))
operand_place_small of_sizeof = (omega arith, omega arith)
operand_place_small _ = (omega arith, omega arith)

pub place_small : (k : InExpr) → (1 ≤ place k) × (place k ≤ 15)
place_small (in_operand o k) = operand_place_small o
place_small (in_bracket of_paren k) = (omega arith, omega arith)
place_small (in_bracket _ k) = (omega arith, omega arith)
place_small (in_stmt q k) = (omega arith, omega arith)
place_small (in_init k) = (omega arith, omega arith)
place_small (in_value n e) = (omega arith, omega arith)
place_small (in_array d k) = (omega arith, omega arith)

pub level_some : (a : Expr) → 1 ≤ level a
level_some (u.Binary a o b) = let h = (prec_small o).0 in omega arith
level_some (u.Comma a b) = omega arith
level_some _ = omega arith

-- the greatest level of a token behind the expression that takes no part of it
abbrev pub bears : Expr → ℕ
bears (u.Assign a o b) = 1
bears (u.Cond c a b) = 2
bears a = level a

pub bears_near : (a : Expr) → level a ≤ suc (bears a)
bears_near (u.Comma a b) = omega arith
bears_near _ = omega arith

pub bears_some : (a : Expr) → 1 ≤ bears a
bears_some (u.Binary a o b) = let h = (prec_small o).0 in omega arith
bears_some (u.Comma a b) = omega arith
bears_some _ = omega arith

pub bears_high : (a : Expr) → 4 ≤ level a → level a ≤ bears a
bears_high (u.Comma a b) h = omega arith
bears_high _ h = omega arith

operator_gap : (o : Operator) → operator_tight o ≤ 15 → operator_tight o ≤ 13
operator_gap (t.binary o) h = (prec_small o).1
operator_gap (t.assign o) h = omega arith
operator_gap _ h = omega arith

-- no token has level 14 or 15
pub tight_gap : (y : Symbol) → tight y ≤ 15 → tight y ≤ 13
tight_gap (t.operator o) h = operator_gap o h
tight_gap (t.name n) h = omega arith
tight_gap _ h = omega arith

-- ---- the token after an expression

abbrev pub is_text : Symbol → Bool
is_text (t.text n) = true
is_text _ = false

-- the token takes no part of an expression that bears n
abbrev pub Follows : ℕ → Symbol → Type 0
Follows n y = (tight y ≤ n) × (is_text y ≡ false)

pub refollow : (n m : ℕ) (ts : List Tok) → ((y : Symbol) → tight y ≤ n → tight y ≤ m) → Starts (Follows n) ts → Starts (Follows m) ts
refollow n m ts f h = record { y = h.y; more = h.more; is = h.is; holds = (f h.y h.holds.0, h.holds.1) }

-- a token that takes no expression
pub closer : (n : ℕ) (y : Symbol) (ts : List Tok) → tight y ≡ 0 → is_text y ≡ false → Starts (Follows n) (tok y ∷ ts)
closer n y ts h x = record { y = y; more = ts; is = refl; holds = (omega (arith, h), x) }

pub taker : (n : ℕ) (o : Operator) (ts : List Tok) → operator_tight o ≤ n → Starts (Follows n) (tok (t.operator o) ∷ ts)
taker n o ts h = record { y = t.operator o; more = ts; is = refl; holds = (h, refl) }

stays : (k : InExpr) (a : Expr) (q : ℕ) → place k ≤ q → reduced k a q ≡ (k, a)
stays (in_operand o k) a q h = pick _ _ _ (nat_le_true h)
stays (in_bracket b k) a q h = refl
stays (in_stmt x k) a q h = refl
stays (in_init k) a q h = refl
stays (in_value n e) a q h = refl
stays (in_array d k) a q h = refl

pub taken : (env : Env) (k : InExpr) (a : Expr) (y : Symbol) → place k ≤ tight y → needs y ≤ level a → after env k a y ≡ take_expr env k a y
taken env k a y h n = ap (λ r. next env r y) (stays k a (tight y) h) ∙ pick _ _ _ (nat_le_true h) ∙ pick _ _ _ (nat_le_true n)

-- an operator whose last operand is over
pub over : (env : Env) (o : Operand) (k : InExpr) (a : Expr) (ts : List Tok) → Starts (λ y. tight y < operand_place o) ts
    → run (at env (expr (after_expr (in_operand o k) a))) ts ≡ run (at env (expr (after_expr k (made o a)))) ts
over env o k a ts f =
    same_start (λ y. tight y < operand_place o) (at env (expr (after_expr (in_operand o k) a))) (at env (expr (after_expr k (made o a)))) ts f
    (λ y h. ap (λ r. next env r y) (skip _ _ _ (nat_le_false {a = operand_place o} {b = tight y} h)))

pub restart : (P Q : Symbol → Type 0) (ts : List Tok) → ((y : Symbol) → P y → Q y) → Starts P ts → Starts Q ts
restart P Q ts f h = record { y = h.y; more = h.more; is = h.is; holds = f h.y h.holds }

-- ---- literals side by side

text_over : (env : Env) (k : InExpr) (ns : List (List ℕ)) (y : Symbol) → is_text y ≡ false → text_next env k ns y ≡ after env k (u.Text ns) y
text_over env k ns (t.text n) h = cc
text_over env k ns (t.name n) h = refl
text_over env k ns _ h = refl

pub texts : (ns done : List (List ℕ)) (env : Env) (k : InExpr) (ts : List Tok) → Starts (λ y. is_text y ≡ false) ts
    → run (at env (expr (after_text k done))) (put_all put_text ns ts) ≡ run (at env (expr (after_expr k (u.Text (done ++ ns))))) ts
texts [] done env k ts f =
    same_start (λ y. is_text y ≡ false) (at env (expr (after_text k done))) (at env (expr (after_expr k (u.Text done)))) ts f (text_over env k done)
    ∙ ap (λ xs. run (at env (expr (after_expr k (u.Text xs)))) ts) (sym (append-nil done))
texts (n ∷ ns) done env k ts f = texts ns (done ++ n ∷ []) env k ts f ∙ ap (λ xs. run (at env (expr (after_expr k (u.Text xs)))) ts) (append_assoc done (n ∷ []) ns)

-- ---- modes that take the first token of an expression

pub paren_passes : (env : Env) (k : InExpr) (y : Symbol) → BeginsExpr env y → exprs.paren_next env k y ≡ want env (in_bracket of_paren k) y
paren_passes env k y h = skip _ _ _ (no_spec env y h)

pub sizeof_paren_passes : (env : Env) (k : InExpr) (y : Symbol) → BeginsExpr env y → sizeof_paren_next env k y ≡ want env (in_bracket of_paren (in_operand of_sizeof k)) y
sizeof_paren_passes env k y h = skip _ _ _ (no_spec env y h)

pub args_passes : (env : Env) (f : Expr) (k : InExpr) (y : Symbol) → BeginsExpr env y → args_begin env f k y ≡ want env (in_bracket (of_args (of_function f) []) k) y
args_passes env f k t.rparen h = cc
args_passes env f k (t.name n) h = refl
args_passes env f k _ h = refl

pub array_passes : (env : Env) (d : Declarator) (k : InDeclarator) (y : Symbol) → BeginsExpr env y → array_next env d k y ≡ want env (in_array d k) y
array_passes env d k t.rbracket h = cc
array_passes env d k (t.name n) h = refl
array_passes env d k _ h = refl

-- the operand of sizeof
pub sized : (a : Expr) (env : Env) (k : InExpr) (ts : List Tok) → Wf env a → 15 ≤ level a → run (at env (expr (after_sizeof k))) (put a ts) ≡ run (at env (expr (want_expr (in_operand of_sizeof k)))) (put a ts)
sized (u.Comma a b) env k ts h l = absurd (omega arith)
sized (u.Assign a o b) env k ts h l = absurd (omega arith)
sized (u.Cond c a b) env k ts h l = absurd (omega arith)
sized (u.Binary a o b) env k ts h l = absurd (let e = (prec_small o).1 in omega arith)
sized (u.Cast ss d a) env k ts h l = absurd (omega arith)
sized (u.Prefix o a) env k ts h l = sized_prefix (first env (u.Prefix o a) ts h)
  where
    sized_prefix : Starts (BeginsExpr env) (put (u.Prefix o a) ts) → run (at env (expr (after_sizeof k))) (put (u.Prefix o a) ts) ≡ run (at env (expr (want_expr (in_operand of_sizeof k)))) (put (u.Prefix o a) ts)
    sized_prefix f = ap (λ x. run (at env (expr (after_sizeof k))) (x ∷ put a ts)) (prefix_tok o) ∙ same_step (at env (expr (after_sizeof k))) (at env (expr (want_expr (in_operand of_sizeof k)))) (t.operator (prefix_operator o)) (put a ts) refl ∙ ap (λ x. run (at env (expr (want_expr (in_operand of_sizeof k)))) (x ∷ put a ts)) (sym (prefix_tok o))
sized (u.SizeofExpr a) env k ts h l = refl
sized (u.SizeofType ss d) env k ts h l = refl
sized (u.Index a b) env k ts h l = sized a env k _ h.1 (let e = h.0 in omega arith)
sized (u.Call f xs) env k ts h l = sized f env k _ h.1 (let e = h.0 in omega arith)
sized (u.Dot a n) env k ts h l = sized a env k _ h.1 (let e = h.0 in omega arith)
sized (u.Arrow a n) env k ts h l = sized a env k _ h.1 (let e = h.0 in omega arith)
sized (u.Post a s) env k ts h l = sized a env k _ h.1 (let e = h.0 in omega arith)
sized (u.Name n) env k ts h l = refl
sized (u.Number n) env k ts h l = refl
sized (u.Char n) env k ts h l = refl
sized (u.Text []) env k ts h l = absurd (h.0 refl)
sized (u.Text (n ∷ ns)) env k ts h l = refl
sized (u.Paren a) env k ts h l =
    passes env (expr (sizeof_opened k)) (in_bracket of_paren (in_operand of_sizeof k)) a (mark g.RParen ∷ ts) (sizeof_paren_passes env k) h
    ∙ sym (passes env (expr (opened (in_operand of_sizeof k))) (in_bracket of_paren (in_operand of_sizeof k)) a (mark g.RParen ∷ ts) (paren_passes env (in_operand of_sizeof k)) h)
sized (u.Builtin xs) env k ts h l = refl
