-- The steps of expressions and statements keep what holds, and add their token.
use Rattle.std.proofs.Common.{◌≡◌, ℕ, ◌≤◌, nat_le, true, false, if◌then◌else◌, List, [], ◌∷◌, ◌++◌, Some, None, refl, sym, ◌∙◌, ap, subst, arith}
use Rattle.c_tree.specs.Tok as g
use Rattle.c_tree.specs.Tok.{Tok, mark, word}
use Rattle.c_tree.specs.Marks.{binary_mark, assign_mark, step_mark}
use Rattle.c_tree.specs.Tree as u
use Rattle.c_tree.specs.Tree.{Expr, Exprs, MaybeExpr, Declarator, First, Stmt, BlockItems}
use Rattle.c_tree.specs.Text.{IsText}
use Rattle.c_tree.specs.Put.{put_all, put_text, put, put_exprs, put_declarator, put_stmt, put_block, put_external}
use Rattle.c_tree.specs.Wf.{Env, level, WfTexts, Wf, WfAll, WfMaybe, is_open, after_stmt, after_block, WfStmt, WfBlock, WfExternal}
use Rattle.c_reader.specs.Symbol as t
use Rattle.c_reader.specs.Symbol.{Head, Member, Operator, Symbol, member_mark, tok}
use Rattle.c_reader.specs.Parts as p
use Rattle.c_reader.specs.Parts.{BlockItem, exprs_of, items_of, no_specs}
use Rattle.c_reader.specs.Inside as i
use Rattle.c_reader.specs.Inside.{InStmt, InBody, Condition, Part, Operand, Callee, Bracket, InExpr, InDeclarator, ExprMode, Unended, StmtMode, in_block, in_then, in_else, in_while, in_do, in_for, of_definition, of_stmt, of_block, of_for, of_if, of_while, of_do, plain, returned, condition, for_first, for_condition, for_step, of_prefix, of_sizeof, of_cast, of_binary, of_assign, of_comma, of_cond, of_function, of_builtin, of_paren, of_index, of_args, of_middle, cast_type, sizeof_type, in_operand, in_bracket, in_stmt, in_init, in_value, in_array, of_declaration, of_type, want_expr, after_expr, after_text, opened, after_sizeof, sizeof_opened, args_opened, after_builtin, want_member, broken, continued, done_while, want_stmt, want_paren, after_for, for_opened, want_condition, want_step, want_semi, after_return, stmt}
use Rattle.c_reader.specs.Begin.{begins_specs, open_spec, want}
use Rattle.c_reader.specs.Exprs.{operand_place, bracket_place, place, operator_tight, tight, operator_needs, needs, take_operator, take_expr, close_paren, close_index, call_of, close_args, close_middle, close_bracket, part_semi, condition_done, part_paren, close_part, close_array, close, made, reduced, take, next, after, text_next, open_cast, sizeof_paren_next, sizeof_next, args_begin, builtin_next, member_next, expr_next}
use Rattle.c_reader.specs.Stmts.{head_begin, block_done, close_block, declaration_begin, stmt_begin, is_else, is_while, stmt_next, for_next, for_begin, condition_begin, step_begin, ended, semi_next, return_next, stmt_mode_next}
use Rattle.c_reader.specs.Exprs as exprs
use Rattle.c_reader.specs.Stmts as stmts
use Rattle.c_reader.proofs.Go.{at, nat_le_yes, by_test}
use Rattle.c_reader.proofs.Before.{put_done, before_stmt, before_body, put_condition, put_part, put_operand, put_callee, put_bracket, before_expr, before_declarator, before_expr_mode, put_unended, before_stmt_mode, before}
use Rattle.c_reader.proofs.Ok.{Valid, InStmtOk, ConditionOk, PartOk, OperandOk, made_level, CalleeOk, BracketOk, bracket_level, InExprOk, DirectAt, ExprModeOk, UnendedOk, StmtModeOk, ModeOk}
use Rattle.c_reader.proofs.First.{BeginsSpecs}
use Rattle.c_reader.proofs.Levels.{place_small, level_some}
use Rattle.c_reader.proofs.Grown.{put_all_last, put_done_last, put_commas_last, put_exprs_of, put_block_last, all_last, exprs_last, some_exprs, block_last, after_block_last, unit_last, after_unit_last, list_some}
use Rattle.c_reader.proofs.Adds.{Adds, Good, want_good, open_good, no_specs_ok, init_next_good}
use Rattle.c_reader.proofs.SoundDeclarators.{enumerator_end_good}

-- ---- operators whose last operand is over

pub level_made : (o : Operand) (a : Expr) → level (made o a) ≡ made_level o
level_made (of_prefix o) a = refl
level_made of_sizeof a = refl
level_made (of_cast ss d) a = refl
level_made (of_binary l o) a = refl
level_made (of_assign l o) a = refl
level_made (of_comma l) a = refl
level_made (of_cond c b) a = refl

pub made_wf : (o : Operand) (env : Env) (a : Expr) → OperandOk env o → operand_place o ≤ level a → Wf env a → Wf env (made o a)
made_wf (of_prefix o) env a i l h = (l, h)
made_wf of_sizeof env a i l h = (l, h)
made_wf (of_cast ss d) env a i l h = (i.0, i.1, i.2, l, h)
made_wf (of_binary b o) env a i l h = (i.0, i.1, l, h)
made_wf (of_assign b o) env a i l h = (i.0, i.1, l, h)
made_wf (of_comma b) env a i l h = (i, l, h)
made_wf (of_cond c b) env a i l h = (i.0, i.1, i.2, l, h)

pub made_spells : (o : Operand) (a : Expr) (z : List Tok) → put (made o a) z ≡ put_operand o (put a z)
made_spells (of_prefix o) a z = refl
made_spells of_sizeof a z = refl
made_spells (of_cast ss d) a z = refl
made_spells (of_binary l o) a z = refl
made_spells (of_assign l o) a z = refl
made_spells (of_comma l) a z = refl
made_spells (of_cond c b) a z = refl

pub record Reduced (env : Env) (k : InExpr) (a : Expr) (r : InExpr × Expr) : Type 0 where
  pub wf : Wf env r.1
  pub inside : InExprOk env r.0
  pub fits : place r.0 ≤ level r.1
  pub spells : (z : List Tok) → before_expr r.0 (put r.1 z) ≡ before_expr k (put a z)

pub reduces : (k : InExpr) (env : Env) (a : Expr) (q : ℕ) → Wf env a → InExprOk env k → place k ≤ level a → Reduced env k a (reduced k a q)
reduces (in_operand o k) env a q h i f =
    by_test (Reduced env (in_operand o k) a) (nat_le (operand_place o) q) (in_operand o k, a) (reduced k (made o a) q)
    (λ y. record { wf = h; inside = i; fits = f; spells = λ z. refl })
    (λ n.
    let e = level_made o a in
    let r = reduces k env (made o a) q (made_wf o env a i.0 f h) i.2 (let x = i.1 in omega (arith, e)) in
    record { wf = r.wf; inside = r.inside; fits = r.fits; spells = λ z. r.spells z ∙ ap (before_expr k) (made_spells o a z) })
reduces (in_bracket b k) env a q h i f = record { wf = h; inside = i; fits = f; spells = λ z. refl }
reduces (in_stmt x k) env a q h i f = record { wf = h; inside = i; fits = f; spells = λ z. refl }
reduces (in_init k) env a q h i f = record { wf = h; inside = i; fits = f; spells = λ z. refl }
reduces (in_value n e) env a q h i f = record { wf = h; inside = i; fits = f; spells = λ z. refl }
reduces (in_array d k) env a q h i f = record { wf = h; inside = i; fits = f; spells = λ z. refl }

-- ---- a token that takes the expression

pub operator_good : (env : Env) (k : InExpr) (a : Expr) (o : Operator) (f : List Tok → List Tok) → place k ≤ operator_tight o → operator_needs o ≤ level a → Wf env a → InExprOk env k → ((z : List Tok) → before_expr k (put a z) ≡ f z)
    → Good (Adds f (t.operator o)) (take_operator env k a o)
operator_good env k a (t.binary o) f l n h i s = record { ok = ((n, h), l, i); spells = λ z. s (mark (binary_mark o) ∷ z) }
operator_good env k a (t.assign o) f l n h i s = record { ok = ((n, h), l, i); spells = λ z. s (mark (assign_mark o) ∷ z) }
operator_good env k a (t.step o) f l n h i s = record { ok = (l, (n, h), i); spells = λ z. s (mark (step_mark o) ∷ z) }
operator_good env k a (t.negation o) f l n h i s = tt
operator_good env k a t.question f l n h i s = record { ok = ((n, h), l, i); spells = λ z. s (mark g.Quest ∷ z) }
operator_good env k a (t.member m) f l n h i s = record { ok = (n, h, i); spells = λ z. s (mark (member_mark m) ∷ z) }

pub taken_good : (env : Env) (k : InExpr) (a : Expr) (y : Symbol) (f : List Tok → List Tok) → place k ≤ tight y → needs y ≤ level a → Wf env a → InExprOk env k → ((z : List Tok) → before_expr k (put a z) ≡ f z) → Good (Adds f y) (take_expr env k a y)
taken_good env k a (t.operator o) f l n h i s = operator_good env k a o f l n h i s
taken_good env k a t.lparen f l n h i s = record { ok = (n, h, i); spells = λ z. s (mark g.LParen ∷ z) }
taken_good env k a t.lbracket f l n h i s = record { ok = ((n, h), (let q = (place_small k).1 in omega arith), i); spells = λ z. s (mark g.LBracket ∷ z) }
taken_good env k a t.comma f l n h i s = record { ok = (h, l, i); spells = λ z. s (mark g.Com ∷ z) }
taken_good env k a _ f l n h i s = tt

pub take_good : (env : Env) (k : InExpr) (a : Expr) (y : Symbol) (f : List Tok → List Tok) → place k ≤ tight y → Wf env a → InExprOk env k → ((z : List Tok) → before_expr k (put a z) ≡ f z) → Good (Adds f y) (take env k a y)
take_good env k a y f l h i s = by_test (Good (Adds f y)) (nat_le (needs y) (level a)) (take_expr env k a y) None (λ n. taken_good env k a y f l (nat_le_yes (needs y) (level a) n) h i s) (λ n. tt)

-- ---- a token that closes what is open

abbrev pub Sixteen : InExpr → Type 0
Sixteen k = place k ≤ 16

pub sixteen : (k : InExpr) → Sixteen k
sixteen k = let q = (place_small k).1 in omega arith

pub paren_good : (env : Env) (k : InExpr) (a : Expr) (y : Symbol) (f : List Tok → List Tok) → Wf env a → InExprOk env k → ((z : List Tok) → before_expr k (mark g.LParen ∷ put a z) ≡ f z) → Good (Adds f y) (close_paren env k a y)
paren_good env k a t.rparen f h i s = record { ok = (sixteen k, h, i); spells = λ z. s (mark g.RParen ∷ z) }
paren_good env k a _ f h i s = tt

pub index_good : (env : Env) (k : InExpr) (l a : Expr) (y : Symbol) (f : List Tok → List Tok) → Wf env a → (16 ≤ level l) × Wf env l → InExprOk env k → ((z : List Tok) → before_expr k (put l (mark g.LBracket ∷ put a z)) ≡ f z) → Good (Adds f y) (close_index env k l a y)
index_good env k l a t.rbracket f h b i s = record { ok = (sixteen k, (b.0, b.1, h), i); spells = λ z. s (mark g.RBracket ∷ z) }
index_good env k l a _ f h b i s = tt

pub call_ok : (c : Callee) (env : Env) (k : InExpr) (xs : List Expr) (a : Expr) → CalleeOk env c → WfAll env (exprs_of (xs ++ a ∷ [])) → InExprOk env k → ExprModeOk env (after_expr k (call_of c (exprs_of (xs ++ a ∷ []))))
call_ok (of_function g) env k xs a c h i = (sixteen k, (c.0, c.1, h), i)
call_ok of_builtin env k xs a c h i = (sixteen k, some_exprs env xs a h, i)

pub call_spells : (c : Callee) (xs : Exprs) (z : List Tok) → put (call_of c xs) z ≡ put_callee c (mark g.LParen ∷ put_exprs xs (mark g.RParen ∷ z))
call_spells (of_function h) xs z = refl
call_spells of_builtin xs z = refl

pub args_good : (env : Env) (k : InExpr) (c : Callee) (xs : List Expr) (a : Expr) (y : Symbol) (f : List Tok → List Tok) → 2 ≤ level a → Wf env a → CalleeOk env c → WfAll env (exprs_of xs) → InExprOk env k
    → ((z : List Tok) → before_expr k (put_callee c (mark g.LParen ∷ put_done put xs (put a z))) ≡ f z) → Good (Adds f y) (close_args env k c (xs ++ a ∷ []) y)
args_good env k c xs a t.comma f l h b w i s = record {
  ok = ((b, exprs_last env xs a w l h), sixteen k, i);
  spells = λ z. ap (λ x. before_expr k (put_callee c (mark g.LParen ∷ x))) (put_done_last put xs a z) ∙ s (mark g.Com ∷ z);
}
args_good env k c xs a t.rparen f l h b w i s = record {
  ok = call_ok c env k xs a b (exprs_last env xs a w l h) i;
  spells = λ z.
      ap (before_expr k) (call_spells c (exprs_of (xs ++ a ∷ [])) z)
      ∙ ap (λ x. before_expr k (put_callee c (mark g.LParen ∷ x))) (put_exprs_of (xs ++ a ∷ []) (mark g.RParen ∷ z) ∙ put_commas_last put xs a (mark g.RParen ∷ z)) ∙ s (mark g.RParen ∷ z);
}
args_good env k c xs a _ f l h b w i s = tt

pub middle_good : (env : Env) (k : InExpr) (c a : Expr) (y : Symbol) (f : List Tok → List Tok) → Wf env a → (4 ≤ level c) × Wf env c → place k ≤ 3 → InExprOk env k → ((z : List Tok) → before_expr k (put c (mark g.Quest ∷ put a z)) ≡ f z)
    → Good (Adds f y) (close_middle env k c a y)
middle_good env k c a t.colon f h b l i s = record { ok = ((b.0, b.1, h), l, i); spells = λ z. s (mark g.Colon ∷ z) }
middle_good env k c a _ f h b l i s = tt

pub bracket_good : (b : Bracket) (env : Env) (k : InExpr) (a : Expr) (y : Symbol) (f : List Tok → List Tok) → bracket_place b ≤ level a → Wf env a → BracketOk env b → place k ≤ bracket_level b → InExprOk env k
    → ((z : List Tok) → before_expr k (put_bracket b (put a z)) ≡ f z) → Good (Adds f y) (close_bracket env b k a y)
bracket_good of_paren env k a y f l h b p i s = paren_good env k a y f h i s
bracket_good (of_index x) env k a y f l h b p i s = index_good env k x a y f h b i s
bracket_good (of_args c xs) env k a y f l h b p i s = args_good env k c xs a y f l h b.0 b.1 i s
bracket_good (of_middle c) env k a y f l h b p i s = middle_good env k c a y f h b p i s

pub semi_good : (q : Part) (env : Env) (k : InStmt) (a : Expr) (f : List Tok → List Tok) → Wf env a → PartOk env q k → ((z : List Tok) → before_stmt k (put_part q (put a z)) ≡ f z) → Good (Adds f t.semi) (part_semi env q k a)
semi_good plain env k a f h i s = record { ok = record { e = env; place_ok = i; wf = (level_some a, h); env_is = refl; closed = refl }; spells = λ z. s (mark g.Semi ∷ z) }
semi_good returned env k a f h i s = record { ok = record { e = env; place_ok = i; wf = (level_some a, h); env_is = refl; closed = refl }; spells = λ z. s (mark g.Semi ∷ z) }
semi_good (condition c) env k a f h i s = tt
semi_good for_first env k a f h i s = record { ok = (env, i, (level_some a, h), refl); spells = λ z. s (mark g.Semi ∷ z) }
semi_good (for_condition x) env k a f h i s = record { ok = (i.0, i.1, i.2, (level_some a, h), i.3); spells = λ z. s (mark g.Semi ∷ z) }
semi_good (for_step x c) env k a f h i s = tt

pub condition_good : (c : Condition) (env : Env) (k : InStmt) (a : Expr) (f : List Tok → List Tok) → Wf env a → ConditionOk env c k → ((z : List Tok) → before_stmt k (put_condition c (mark g.LParen ∷ put a z)) ≡ f z) → Adds f t.rparen (at env (condition_done c k a))
condition_good of_if env k a f h i s = record { ok = (h, i); spells = λ z. s (mark g.RParen ∷ z) }
condition_good of_while env k a f h i s = record { ok = (h, i); spells = λ z. s (mark g.RParen ∷ z) }
condition_good (of_do x) env k a f h i s = record { ok = (i.0, i.1, i.2, h, i.3); spells = λ z. s (mark g.RParen ∷ z) }

pub rparen_good : (q : Part) (env : Env) (k : InStmt) (a : Expr) (f : List Tok → List Tok) → Wf env a → PartOk env q k → ((z : List Tok) → before_stmt k (put_part q (put a z)) ≡ f z) → Good (Adds f t.rparen) (part_paren env q k a)
rparen_good plain env k a f h i s = tt
rparen_good returned env k a f h i s = tt
rparen_good (condition c) env k a f h i s = condition_good c env k a f h i s
rparen_good for_first env k a f h i s = tt
rparen_good (for_condition x) env k a f h i s = tt
rparen_good (for_step x c) env k a f h i s = record { ok = (i.0, i.1, i.2, i.3, (level_some a, h), i.4); spells = λ z. s (mark g.RParen ∷ z) }

pub part_good : (env : Env) (q : Part) (k : InStmt) (a : Expr) (y : Symbol) (f : List Tok → List Tok) → Wf env a → PartOk env q k → ((z : List Tok) → before_stmt k (put_part q (put a z)) ≡ f z) → Good (Adds f y) (close_part env q k a y)
part_good env q k a t.semi f h i s = semi_good q env k a f h i s
part_good env q k a t.rparen f h i s = rparen_good q env k a f h i s
part_good env q k a _ f h i s = tt

pub size_good : (env : Env) (d : Declarator) (k : InDeclarator) (a : Expr) (y : Symbol) (f : List Tok → List Tok) → 3 ≤ level a → Wf env a → DirectAt env k d → ((z : List Tok) → before_declarator k (put_declarator d (mark g.LBracket ∷ put a z)) ≡ f z)
    → Good (Adds f y) (close_array env d k a y)
size_good env d k a t.rbracket f l h i s = record { ok = (tt, (tt, (i.0, i.1, (l, h)), i.2, i.3, i.4)); spells = λ z. s (mark g.RBracket ∷ z) }
size_good env d k a _ f l h i s = tt

pub close_good : (k : InExpr) (env : Env) (a : Expr) (y : Symbol) (f : List Tok → List Tok) → place k ≤ level a → Wf env a → InExprOk env k → ((z : List Tok) → before_expr k (put a z) ≡ f z) → Good (Adds f y) (close env k a y)
close_good (in_operand o k) env a y f l h i s = tt
close_good (in_bracket b k) env a y f l h i s = bracket_good b env k a y f l h i.0 i.1 i.2 s
close_good (in_stmt q k) env a y f l h i s = part_good env q k a y f h i s
close_good (in_init k) env a y f l h i s = init_next_good k env (u.Plain a) y f i (l, h) s
close_good (in_value n e) env a y f l h i s = enumerator_end_good e env n (u.some_expr a) y f i.1 i.0 (l, h) s
close_good (in_array d k) env a y f l h i s = size_good env d k a y f l h i s

pub next_good : (env : Env) (r : InExpr × Expr) (y : Symbol) (f : List Tok → List Tok) → Wf env r.1 → InExprOk env r.0 → place r.0 ≤ level r.1 → ((z : List Tok) → before_expr r.0 (put r.1 z) ≡ f z) → Good (Adds f y) (next env r y)
next_good env r y f h i l s =
    by_test (Good (Adds f y)) (nat_le (place r.0) (tight y)) (take env r.0 r.1 y) (close env r.0 r.1 y)
    (λ n. take_good env r.0 r.1 y f (nat_le_yes (place r.0) (tight y) n) h i s) (λ n. close_good r.0 env r.1 y f l h i s)

pub after_good : (env : Env) (k : InExpr) (a : Expr) (y : Symbol) (f : List Tok → List Tok) → place k ≤ level a → Wf env a → InExprOk env k → ((z : List Tok) → before_expr k (put a z) ≡ f z) → Good (Adds f y) (after env k a y)
after_good env k a y f l h i s =
    let r = reduces k env a (tight y) h i l in
    next_good env (reduced k a (tight y)) y f r.wf r.inside r.fits (λ z. r.spells z ∙ s z)

-- ---- the other places in an expression

pub text_next_good : (env : Env) (k : InExpr) (ns : List (List ℕ)) (y : Symbol) (f : List Tok → List Tok) → Valid y → WfTexts ns → InExprOk env k → ((z : List Tok) → before_expr k (put_all put_text ns z) ≡ f z) → Good (Adds f y) (text_next env k ns y)
text_next_good env k ns (t.text n) f v h i s = record { ok = ((list_some ns n, all_last IsText ns n h.1 v), i); spells = λ z. ap (before_expr k) (put_all_last put_text ns n z) ∙ s (g.text n ∷ z) }
text_next_good env k ns (t.name n) f v h i s = after_good env k (u.Text ns) (t.name n) f (sixteen k) h i s
text_next_good env k ns y f v h i s = after_good env k (u.Text ns) y f (sixteen k) h i s

pub cast_good : (env : Env) (k : InExpr) (y : Symbol) (f : List Tok → List Tok) → Valid y → BeginsSpecs env false y → InExprOk env k → ((z : List Tok) → before_expr k (mark g.LParen ∷ z) ≡ f z) → Good (Adds f y) (open_cast env k y)
cast_good env k y f v b i s =
    by_test (Good (Adds f y)) (nat_le (place k) 14) (open_spec env no_specs (of_type cast_type k) y) None
    (λ l. open_good env no_specs (of_type cast_type k) y f v b (no_specs_ok env) (nat_le_yes (place k) 14 l, i) s) (λ l. tt)

pub paren_next_good : (env : Env) (k : InExpr) (y : Symbol) (f : List Tok → List Tok) → Valid y → InExprOk env k → ((z : List Tok) → before_expr k (mark g.LParen ∷ z) ≡ f z) → Good (Adds f y) (exprs.paren_next env k y)
paren_next_good env k y f v i s =
    by_test (Good (Adds f y)) (begins_specs env false y) (open_cast env k y) (want env (in_bracket of_paren k) y)
    (λ b. cast_good env k y f v b i s) (λ n. want_good env (in_bracket of_paren k) y f v (tt, sixteen k, i) s)

pub sizeof_paren_good : (env : Env) (k : InExpr) (y : Symbol) (f : List Tok → List Tok) → Valid y → InExprOk env k → ((z : List Tok) → before_expr k (word g.KSizeof ∷ mark g.LParen ∷ z) ≡ f z) → Good (Adds f y) (sizeof_paren_next env k y)
sizeof_paren_good env k y f v i s =
    by_test (Good (Adds f y)) (begins_specs env false y) (open_spec env no_specs (of_type sizeof_type k) y) (want env (in_bracket of_paren (in_operand of_sizeof k)) y)
    (λ b. open_good env no_specs (of_type sizeof_type k) y f v b (no_specs_ok env) ((place_small k).1, i) s)
    (λ n. want_good env (in_bracket of_paren (in_operand of_sizeof k)) y f v (tt, sixteen (in_operand of_sizeof k), (tt, (place_small k).1, i)) s)

pub sizeof_good : (env : Env) (k : InExpr) (y : Symbol) (f : List Tok → List Tok) → Valid y → InExprOk env k → ((z : List Tok) → before_expr k (word g.KSizeof ∷ z) ≡ f z) → Good (Adds f y) (sizeof_next env k y)
sizeof_good env k t.lparen f v i s = record { ok = i; spells = λ z. s (mark g.LParen ∷ z) }
sizeof_good env k (t.name n) f v i s = want_good env (in_operand of_sizeof k) (t.name n) f v (tt, (place_small k).1, i) s
sizeof_good env k y f v i s = want_good env (in_operand of_sizeof k) y f v (tt, (place_small k).1, i) s

pub args_begin_good : (env : Env) (c : Expr) (k : InExpr) (y : Symbol) (f : List Tok → List Tok) → Valid y → 16 ≤ level c → Wf env c → InExprOk env k → ((z : List Tok) → before_expr k (put c (mark g.LParen ∷ z)) ≡ f z) → Good (Adds f y) (args_begin env c k y)
args_begin_good env c k t.rparen f v l h i s = record { ok = (sixteen k, (l, h, tt), i); spells = λ z. s (mark g.RParen ∷ z) }
args_begin_good env c k (t.name n) f v l h i s = want_good env (in_bracket (of_args (of_function c) []) k) (t.name n) f v (((l, h), tt), sixteen k, i) s
args_begin_good env c k y f v l h i s = want_good env (in_bracket (of_args (of_function c) []) k) y f v (((l, h), tt), sixteen k, i) s

pub builtin_good : (env : Env) (k : InExpr) (y : Symbol) (f : List Tok → List Tok) → InExprOk env k → ((z : List Tok) → before_expr k (word g.KBuiltin ∷ z) ≡ f z) → Good (Adds f y) (builtin_next env k y)
builtin_good env k t.lparen f i s = record { ok = ((tt, tt), sixteen k, i); spells = λ z. s (mark g.LParen ∷ z) }
builtin_good env k _ f i s = tt

pub member_good : (m : Member) (env : Env) (a : Expr) (k : InExpr) (y : Symbol) (f : List Tok → List Tok) → Valid y → 16 ≤ level a → Wf env a → InExprOk env k → ((z : List Tok) → before_expr k (put a (mark (member_mark m) ∷ z)) ≡ f z)
    → Good (Adds f y) (member_next env a m k y)
member_good t.Dot env a k (t.name n) f v l h i s = record { ok = (sixteen k, (l, h, v), i); spells = λ z. s (g.name n ∷ z) }
member_good t.Arrow env a k (t.name n) f v l h i s = record { ok = (sixteen k, (l, h, v), i); spells = λ z. s (g.name n ∷ z) }
member_good m env a k _ f v l h i s = tt

pub expr_good : (env : Env) (m : ExprMode) (y : Symbol) (f : List Tok → List Tok) → Valid y → ExprModeOk env m → ((z : List Tok) → before_expr_mode m z ≡ f z) → Good (Adds f y) (expr_next env m y)
expr_good env (want_expr k) y f v h s = want_good env k y f v h s
expr_good env (after_expr k a) y f v h s = after_good env k a y f h.0 h.1 h.2 s
expr_good env (after_text k ns) y f v h s = text_next_good env k ns y f v h.0 h.1 s
expr_good env (opened k) y f v h s = paren_next_good env k y f v h s
expr_good env (after_sizeof k) y f v h s = sizeof_good env k y f v h s
expr_good env (sizeof_opened k) y f v h s = sizeof_paren_good env k y f v h s
expr_good env (args_opened c k) y f v h s = args_begin_good env c k y f v h.0 h.1 h.2 s
expr_good env (after_builtin k) y f v h s = builtin_good env k y f h s
expr_good env (want_member a m k) y f v h s = member_good m env a k y f v h.0 h.1 h.2 s

-- ---- statements

pub block_ok : (b : InBody) (env : Env) (is : List BlockItem) → InStmtOk env (in_block is b) → ModeOk env (block_done b (items_of is))
block_ok (of_definition done ss d) env is i =
    let o = i.1 in
    let w : WfExternal o.0 (u.Definition ss d (items_of is)) = (o.2.0, o.2.1, o.2.2, o.2.3, o.2.4, o.2.5, subst (λ v. WfBlock v (items_of is)) o.3 i.2) in (
      unit_last done (u.Definition ss d (items_of is)) [] o.0 o.1.0 o.1.1 w,
      i.3 ∙ ap (after_block (items_of is)) o.3 ∙ after_unit_last done (u.Definition ss d (items_of is)) [] o.0 o.1.1,
    )
block_ok (of_stmt k) env is i = record { e = i.0; place_ok = i.1; wf = i.2; env_is = i.3; closed = refl }

pub block_spells : (b : InBody) (is : BlockItems) (z : List Tok) → before (block_done b is) z ≡ before_body b (mark g.LBrace ∷ put_block is (mark g.RBrace ∷ z))
block_spells (of_definition done ss d) is z = put_all_last put_external done (u.Definition ss d is) z
block_spells (of_stmt k) is z = refl

pub close_block_good : (k : InStmt) (env : Env) (f : List Tok → List Tok) → InStmtOk env k → ((z : List Tok) → before_stmt k z ≡ f z) → Good (Adds f t.rbrace) (close_block env k)
close_block_good (in_block is b) env f i s = record { ok = block_ok b env is i; spells = λ z. block_spells b (items_of is) z ∙ s (mark g.RBrace ∷ z) }
close_block_good (in_then c k) env f i s = tt
close_block_good (in_else c a k) env f i s = tt
close_block_good (in_while c k) env f i s = tt
close_block_good (in_do k) env f i s = tt
close_block_good (in_for x c e k) env f i s = tt

pub declares_good : (k : InStmt) (env : Env) (y : Symbol) (f : List Tok → List Tok) → Valid y → BeginsSpecs env false y → InStmtOk env k → ((z : List Tok) → before_stmt k z ≡ f z) → Good (Adds f y) (declaration_begin env k y)
declares_good (in_block is b) env y f v h i s = open_good env no_specs (of_declaration (of_block is b)) y f v h (no_specs_ok env) i s
declares_good (in_then c k) env y f v h i s = tt
declares_good (in_else c a k) env y f v h i s = tt
declares_good (in_while c k) env y f v h i s = tt
declares_good (in_do k) env y f v h i s = tt
declares_good (in_for x c e k) env y f v h i s = tt

pub head_good : (env : Env) (k : InStmt) (x : Head) (f : List Tok → List Tok) → InStmtOk env k → ((z : List Tok) → before_stmt k z ≡ f z) → Good (Adds f (t.head x)) (head_begin env k x)
head_good env k t.If f i s = record { ok = i; spells = λ z. s (word g.KIf ∷ z) }
head_good env k t.Else f i s = tt
head_good env k t.While f i s = record { ok = i; spells = λ z. s (word g.KWhile ∷ z) }
head_good env k t.Do f i s = record { ok = i; spells = λ z. s (word g.KDo ∷ z) }
head_good env k t.For f i s = record { ok = i; spells = λ z. s (word g.KFor ∷ z) }
head_good env k t.Break f i s = record { ok = i; spells = λ z. s (word g.KBreak ∷ z) }
head_good env k t.Continue f i s = record { ok = i; spells = λ z. s (word g.KContinue ∷ z) }
head_good env k t.Return f i s = record { ok = i; spells = λ z. s (word g.KReturn ∷ z) }

pub stmt_else : (env : Env) (k : InStmt) (y : Symbol) (f : List Tok → List Tok) → Valid y → InStmtOk env k → ((z : List Tok) → before_stmt k z ≡ f z)
    → Good (Adds f y) (if begins_specs env false y then declaration_begin env k y else want env (in_stmt plain k) y)
stmt_else env k y f v i s = by_test (Good (Adds f y)) (begins_specs env false y) (declaration_begin env k y) (want env (in_stmt plain k) y) (λ b. declares_good k env y f v b i s) (λ n. want_good env (in_stmt plain k) y f v i s)

pub stmt_begin_good : (env : Env) (k : InStmt) (y : Symbol) (f : List Tok → List Tok) → Valid y → InStmtOk env k → ((z : List Tok) → before_stmt k z ≡ f z) → Good (Adds f y) (stmt_begin env k y)
stmt_begin_good env k (t.head x) f v i s = head_good env k x f i s
stmt_begin_good env k t.lbrace f v i s = record { ok = (env, i, tt, refl); spells = λ z. s (mark g.LBrace ∷ z) }
stmt_begin_good env k t.rbrace f v i s = close_block_good k env f i s
stmt_begin_good env k t.semi f v i s = record { ok = record { e = env; place_ok = i; wf = tt; env_is = refl; closed = refl }; spells = λ z. s (mark g.Semi ∷ z) }
stmt_begin_good env k (t.name n) f v i s = stmt_else env k (t.name n) f v i s
stmt_begin_good env k y f v i s = stmt_else env k y f v i s

pub else_tok : (y : Symbol) → is_else y ≡ true → tok y ≡ word g.KElse
else_tok (t.head t.Else) h = refl
else_tok (t.head _) h = cc
else_tok (t.name n) h = cc
else_tok _ h = cc

pub while_tok : (y : Symbol) → is_while y ≡ true → tok y ≡ word g.KWhile
while_tok (t.head t.While) h = refl
while_tok (t.head _) h = cc
while_tok (t.name n) h = cc
while_tok _ h = cc

-- behind a statement, which may be open unless an else comes
pub stmt_after : (k : InStmt) (e env : Env) (z : Stmt) (y : Symbol) (f : List Tok → List Tok) → Valid y → InStmtOk e k → WfStmt e z → env ≡ after_stmt z e → (is_else y ≡ true → is_open z ≡ false)
    → ((r : List Tok) → before_stmt k (put_stmt z r) ≡ f r) → Good (Adds f y) (stmt_next env k z y)
stmt_after (in_block is b) e env z y f v i w h o s =
    stmt_begin_good env (in_block (is ++ p.statement z ∷ []) b) y f v
    (i.0, i.1, block_last is (p.statement z) i.0 e i.2 i.3 w, h ∙ after_block_last is (p.statement z) i.0 e i.3)
    (λ r. ap (λ x. before_body b (mark g.LBrace ∷ x)) (put_block_last is (p.statement z) r) ∙ s r)
stmt_after (in_then c k) e env z y f v i w h o s =
    by_test (Good (Adds f y)) (is_else y) (Some (at env (stmt (want_stmt (in_else c z k))))) (stmt_next env k (u.If c z) y)
    (λ x. record { ok = (e, i.1, i.0, w, o x, h); spells = λ r. s (word g.KElse ∷ r) ∙ ap (λ q. f (q ∷ r)) (sym (else_tok y x)) })
    (λ n. stmt_after k e env (u.If c z) y f v i.1 (i.0, w) h (λ x. cc) s)
stmt_after (in_else c a k) e env z y f v i w h o s =
    stmt_after k i.0 env (u.IfElse c a z) y f v i.1 (i.2, i.3, i.4, subst (λ x. WfStmt x z) i.5 w) (h ∙ ap (after_stmt z) i.5) o s
stmt_after (in_while c k) e env z y f v i w h o s = stmt_after k e env (u.While c z) y f v i.1 (i.0, w) h o s
stmt_after (in_do k) e env z y f v i w h o s =
    by_test (Good (Adds f y)) (is_while y) (Some (at env (stmt (want_paren (of_do z) k)))) None
    (λ x. record { ok = (e, i, w, h); spells = λ r. s (word g.KWhile ∷ r) ∙ ap (λ q. f (q ∷ r)) (sym (while_tok y x)) }) (λ n. tt)
stmt_after (in_for x c q k) e env z y f v i w h o s =
    stmt_after k i.0 env (u.For x c q z) y f v i.1 (i.2, subst (λ n. WfMaybe n c 1) i.5 i.3, subst (λ n. WfMaybe n q 1) i.5 i.4, subst (λ n. WfStmt n z) i.5 w) (h ∙ ap (after_stmt z) i.5) o s

pub for_good : (env : Env) (k : InStmt) (y : Symbol) (f : List Tok → List Tok) → InStmtOk env k → ((z : List Tok) → before_stmt k (word g.KFor ∷ z) ≡ f z) → Good (Adds f y) (for_next env k y)
for_good env k t.lparen f i s = record { ok = i; spells = λ z. s (mark g.LParen ∷ z) }
for_good env k _ f i s = tt

pub for_else : (env : Env) (k : InStmt) (y : Symbol) (f : List Tok → List Tok) → Valid y → InStmtOk env k → ((z : List Tok) → before_stmt k (word g.KFor ∷ mark g.LParen ∷ z) ≡ f z)
    → Good (Adds f y) (if begins_specs env false y then open_spec env no_specs (of_declaration (of_for k)) y else want env (in_stmt for_first k) y)
for_else env k y f v i s =
    by_test (Good (Adds f y)) (begins_specs env false y) (open_spec env no_specs (of_declaration (of_for k)) y) (want env (in_stmt for_first k) y)
    (λ b. open_good env no_specs (of_declaration (of_for k)) y f v b (no_specs_ok env) i s) (λ n. want_good env (in_stmt for_first k) y f v i s)

pub for_begin_good : (env : Env) (k : InStmt) (y : Symbol) (f : List Tok → List Tok) → Valid y → InStmtOk env k → ((z : List Tok) → before_stmt k (word g.KFor ∷ mark g.LParen ∷ z) ≡ f z) → Good (Adds f y) (for_begin env k y)
for_begin_good env k t.semi f v i s = record { ok = (env, i, tt, refl); spells = λ z. s (mark g.Semi ∷ z) }
for_begin_good env k (t.name n) f v i s = for_else env k (t.name n) f v i s
for_begin_good env k y f v i s = for_else env k y f v i s

pub condition_begin_good : (env : Env) (x : First) (k : InStmt) (y : Symbol) (f : List Tok → List Tok) → Valid y → PartOk env (for_condition x) k → ((z : List Tok) → before_stmt k (put_part (for_condition x) z) ≡ f z) → Good (Adds f y) (condition_begin env x k y)
condition_begin_good env x k t.semi f v i s = record { ok = (i.0, i.1, i.2, tt, i.3); spells = λ z. s (mark g.Semi ∷ z) }
condition_begin_good env x k (t.name n) f v i s = want_good env (in_stmt (for_condition x) k) (t.name n) f v i s
condition_begin_good env x k y f v i s = want_good env (in_stmt (for_condition x) k) y f v i s

pub step_begin_good : (env : Env) (x : First) (c : MaybeExpr) (k : InStmt) (y : Symbol) (f : List Tok → List Tok) → Valid y → PartOk env (for_step x c) k → ((z : List Tok) → before_stmt k (put_part (for_step x c) z) ≡ f z) → Good (Adds f y) (step_begin env x c k y)
step_begin_good env x c k t.rparen f v i s = record { ok = (i.0, i.1, i.2, i.3, tt, i.4); spells = λ z. s (mark g.RParen ∷ z) }
step_begin_good env x c k (t.name n) f v i s = want_good env (in_stmt (for_step x c) k) (t.name n) f v i s
step_begin_good env x c k y f v i s = want_good env (in_stmt (for_step x c) k) y f v i s

pub unended_good : (x : Unended) (env : Env) (k : InStmt) (f : List Tok → List Tok) → UnendedOk env x k → ((z : List Tok) → before_stmt k (put_unended x z) ≡ f z) → Adds f t.semi (at env (stmt (i.after_stmt k (ended x))))
unended_good broken env k f i s = record { ok = record { e = env; place_ok = i; wf = tt; env_is = refl; closed = refl }; spells = λ z. s (mark g.Semi ∷ z) }
unended_good continued env k f i s = record { ok = record { e = env; place_ok = i; wf = tt; env_is = refl; closed = refl }; spells = λ z. s (mark g.Semi ∷ z) }
unended_good (done_while a c) env k f i s = record { ok = record { e = i.0; place_ok = i.1; wf = (i.2, subst (λ n. Wf n c) i.4 i.3); env_is = i.4; closed = refl }; spells = λ z. s (mark g.Semi ∷ z) }

pub semi_next_good : (env : Env) (x : Unended) (k : InStmt) (y : Symbol) (f : List Tok → List Tok) → UnendedOk env x k → ((z : List Tok) → before_stmt k (put_unended x z) ≡ f z) → Good (Adds f y) (semi_next env x k y)
semi_next_good env x k t.semi f i s = unended_good x env k f i s
semi_next_good env x k _ f i s = tt

pub condition_paren_good : (env : Env) (c : Condition) (k : InStmt) (y : Symbol) (f : List Tok → List Tok) → ConditionOk env c k → ((z : List Tok) → before_stmt k (put_condition c z) ≡ f z) → Good (Adds f y) (stmts.paren_next env c k y)
condition_paren_good env c k t.lparen f i s = record { ok = i; spells = λ z. s (mark g.LParen ∷ z) }
condition_paren_good env c k _ f i s = tt

pub return_good : (env : Env) (k : InStmt) (y : Symbol) (f : List Tok → List Tok) → Valid y → InStmtOk env k → ((z : List Tok) → before_stmt k (word g.KReturn ∷ z) ≡ f z) → Good (Adds f y) (return_next env k y)
return_good env k t.semi f v i s = record { ok = record { e = env; place_ok = i; wf = tt; env_is = refl; closed = refl }; spells = λ z. s (mark g.Semi ∷ z) }
return_good env k (t.name n) f v i s = want_good env (in_stmt returned k) (t.name n) f v i s
return_good env k y f v i s = want_good env (in_stmt returned k) y f v i s

pub stmt_good : (env : Env) (m : StmtMode) (y : Symbol) (f : List Tok → List Tok) → Valid y → StmtModeOk env m → ((z : List Tok) → before_stmt_mode m z ≡ f z) → Good (Adds f y) (stmt_mode_next env m y)
stmt_good env (want_stmt k) y f v h s = stmt_begin_good env k y f v h s
stmt_good env (i.after_stmt k z) y f v h s = stmt_after k h.e env z y f v h.place_ok h.wf h.env_is (λ x. h.closed) s
stmt_good env (want_paren c k) y f v h s = condition_paren_good env c k y f h s
stmt_good env (after_for k) y f v h s = for_good env k y f h s
stmt_good env (for_opened k) y f v h s = for_begin_good env k y f v h s
stmt_good env (want_condition x k) y f v h s = condition_begin_good env x k y f v h s
stmt_good env (want_step x c k) y f v h s = step_begin_good env x c k y f v h s
stmt_good env (want_semi x k) y f v h s = semi_next_good env x k y f h s
stmt_good env (after_return k) y f v h s = return_good env k y f v h s
