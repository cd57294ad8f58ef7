-- Without places and numbers: expressions.
use Rattle.std.proofs.Common.{◌≡◌, ℕ, suc, nat_le, Bool, true, false, if◌then◌else◌, List, [], ◌∷◌, ◌++◌, map, None, refl, ◌∙◌, ap}
use Rattle.tok_base.specs.declared.token.Span.{Span}
use Rattle.c_tree.specs.declared.operator.At.{At}
use Rattle.c_tree.specs.Tree as b
use Rattle.c_tree.specs.Marked as u
use Rattle.c_tree.specs.Marked.{Expr, Exprs, Declarator, type_name}
use Rattle.c_tree.specs.Bare.{bare, bare_exprs, bare_declarator}
use Rattle.c_tree.specs.Wf.{Env, level}
use Rattle.c_reader.specs.Symbol as t
use Rattle.c_reader.specs.Symbol.{Symbol, Operator, Member}
use Rattle.c_reader.specs.Inside as i
use Rattle.c_reader.specs.Begin.{begins_specs}
use Rattle.c_reader.specs.Exprs as m
use Rattle.c_reader.specs.Exprs.{tight, needs}
use Rattle.c_reader.specs.MarkedParts.{Open, Had, mark, opens, with_part, closed, leaf, exprs_of}
use Rattle.c_reader.specs.MarkedInside.{InStmt, Condition, of_if, of_while, of_do, Part, plain, returned, condition, for_first, for_condition, for_step, Operand, of_prefix, of_sizeof, of_cast, of_binary, of_assign, of_comma, of_cond, Callee, of_function, Bracket, of_paren, of_index, of_args, of_builtin, of_middle, cast_type, sizeof_type, InExpr, in_operand, in_bracket, in_stmt, in_init, in_value, in_array, InDeclarator, of_type, want_expr, after_expr, after_text, opened, after_sizeof, sizeof_opened, args_opened, after_builtin, want_member, ExprMode}
use Rattle.c_reader.specs.MarkedBegin as rb
use Rattle.c_reader.specs.MarkedExprs as r
use Rattle.c_reader.specs.MarkedExprs.{Reduced}
use Rattle.c_reader.proofs.Erased.{erase_stmt, erase_condition, erase_part, erase_operand, erase_callee, erase_bracket, erase_expr, erase_declarator, erase_expr_mode, erased, map-last, exprs_erased, same_test}
use Rattle.c_reader.proofs.ErasedDeclarations.{begin_specs_step, want_step, init_step}
use Rattle.c_reader.proofs.ErasedSpecs.{close_enumerator_step}

-- ---- levels

operand_erased : (o : Operand) → r.operand_place o ≡ m.operand_place (erase_operand o)
operand_erased (of_prefix o) = refl
operand_erased of_sizeof = refl
operand_erased (of_cast (type_name at ss d)) = refl
operand_erased (of_binary l o) = refl
operand_erased (of_assign l o) = refl
operand_erased (of_comma l) = refl
operand_erased (of_cond c a) = refl

bracket_erased : (o : Bracket) → r.bracket_place o ≡ m.bracket_place (erase_bracket o)
bracket_erased of_paren = refl
bracket_erased (of_index l) = refl
bracket_erased (of_args c xs) = refl
bracket_erased (of_middle c) = refl

pub place_erased : (k : InExpr) → r.place k ≡ m.place (erase_expr k)
place_erased (in_operand o x k) = operand_erased x
place_erased (in_bracket o x k) = bracket_erased x
place_erased (in_stmt o x k) = refl
place_erased (in_init k) = refl
place_erased (in_value o x k) = refl
place_erased (in_array o d k) = refl

-- ---- a token that takes the expression before it

operator_step : (n : ℕ) (env : Env) (h : Had) (k : InExpr) (a : Expr) (o : Operator) (s : Span) → erased (r.take_operator n env h k a o s) ≡ m.take_operator env (erase_expr k) (bare a) o
operator_step n env h k a (t.binary o) s = refl
operator_step n env h k a (t.assign o) s = refl
operator_step n env h k a (t.step o) s = refl
operator_step n env h k a (t.negation o) s = refl
operator_step n env h k a t.question s = refl
operator_step n env h k a (t.member c) s = refl

take_expr_step : (n : ℕ) (env : Env) (h : Had) (k : InExpr) (a : Expr) (y : Symbol) (s : Span) → erased (r.take_expr n env h k a y s) ≡ m.take_expr env (erase_expr k) (bare a) y
take_expr_step n env h k a (t.operator o) s = operator_step n env h k a o s
take_expr_step n env h k a t.lparen s = refl
take_expr_step n env h k a t.lbracket s = refl
take_expr_step n env h k a t.comma s = refl
take_expr_step n env h k a _ s = refl

-- ---- a token that closes what is open

paren_step : (n : ℕ) (env : Env) (o : Open) (d : ℕ) (k : InExpr) (a : Expr) (y : Symbol) (s : Span) → erased (r.close_paren n env o d k a y s) ≡ m.close_paren env (erase_expr k) (bare a) y
paren_step n env o d k a t.rparen s = refl
paren_step n env o d k a _ s = refl

index_step : (n : ℕ) (env : Env) (o : Open) (d : ℕ) (k : InExpr) (l a : Expr) (y : Symbol) (s : Span)
    → erased (r.close_index n env o d k l a y s) ≡ m.close_index env (erase_expr k) (bare l) (bare a) y
index_step n env o d k l a t.rbracket s = refl
index_step n env o d k l a _ s = refl

call_erased : (at : At) (c : Callee) (xs : Exprs) → bare (r.call_of at c xs) ≡ m.call_of (erase_callee c) (bare_exprs xs)
call_erased at (of_function f) xs = refl
call_erased at of_builtin xs = refl

args_step : (n : ℕ) (env : Env) (o : Open) (k : InExpr) (c : Callee) (xs : List Expr) (y : Symbol) (s : Span)
    → erased (r.close_args n env o k c xs y s) ≡ m.close_args env (erase_expr k) (erase_callee c) (map bare xs) y
args_step n env o k c xs t.comma s = refl
args_step n env o k c xs t.rparen s =
    ap (λ z. i.at env (i.expr (i.after_expr (erase_expr k) z))) (call_erased (mark o.from s.end n) c (exprs_of xs) ∙ ap (m.call_of (erase_callee c)) (exprs_erased xs))
args_step n env o k c xs _ s = refl

middle_step : (n : ℕ) (env : Env) (o : Open) (d : ℕ) (k : InExpr) (c a : Expr) (y : Symbol) → erased (r.close_middle n env o d k c a y) ≡ m.close_middle env (erase_expr k) (bare c) (bare a) y
middle_step n env o d k c a t.colon = refl
middle_step n env o d k c a _ = refl

bracket_step : (n : ℕ) (env : Env) (o : Open) (d : ℕ) (b : Bracket) (k : InExpr) (a : Expr) (y : Symbol) (s : Span)
    → erased (r.close_bracket n env o d b k a y s) ≡ m.close_bracket env (erase_bracket b) (erase_expr k) (bare a) y
bracket_step n env o d of_paren k a y s = paren_step n env o d k a y s
bracket_step n env o d (of_index l) k a y s = index_step n env o d k l a y s
bracket_step n env o d (of_args c xs) k a y s =
    args_step n env (with_part o d) k c (xs ++ a ∷ []) y s ∙ ap (λ zs. m.close_args env (erase_expr k) (erase_callee c) zs y) (map-last bare xs a)
bracket_step n env o d (of_middle c) k a y s = middle_step n env o d k c a y

semi_step : (n : ℕ) (env : Env) (o : Open) (d : ℕ) (x : Part) (k : InStmt) (a : Expr) (s : Span) → erased (r.part_semi n env o d x k a s) ≡ m.part_semi env (erase_part x) (erase_stmt k) (bare a)
semi_step n env o d plain k a s = refl
semi_step n env o d returned k a s = refl
semi_step n env o d (condition c) k a s = refl
semi_step n env o d for_first k a s = refl
semi_step n env o d (for_condition f) k a s = refl
semi_step n env o d (for_step f c) k a s = refl

condition_step : (n : ℕ) (env : Env) (o : Open) (c : Condition) (k : InStmt) (a : Expr)
    → erased (r.condition_done n env o c k a) ≡ i.at env (m.condition_done (erase_condition c) (erase_stmt k) (bare a))
condition_step n env o of_if k a = refl
condition_step n env o of_while k a = refl
condition_step n env o (of_do d) k a = refl

part_paren_step : (n : ℕ) (env : Env) (o : Open) (d : ℕ) (x : Part) (k : InStmt) (a : Expr) → erased (r.part_paren n env o d x k a) ≡ m.part_paren env (erase_part x) (erase_stmt k) (bare a)
part_paren_step n env o d plain k a = refl
part_paren_step n env o d returned k a = refl
part_paren_step n env o d (condition c) k a = condition_step n env (with_part o d) c k a
part_paren_step n env o d for_first k a = refl
part_paren_step n env o d (for_condition f) k a = refl
part_paren_step n env o d (for_step f c) k a = refl

part_step : (n : ℕ) (env : Env) (o : Open) (d : ℕ) (x : Part) (k : InStmt) (a : Expr) (y : Symbol) (s : Span)
    → erased (r.close_part n env o d x k a y s) ≡ m.close_part env (erase_part x) (erase_stmt k) (bare a) y
part_step n env o d x k a t.semi s = semi_step n env o d x k a s
part_step n env o d x k a t.rparen s = part_paren_step n env o d x k a
part_step n env o d x k a _ s = refl

close_array_step : (n : ℕ) (env : Env) (o : Open) (z : ℕ) (d : Declarator) (k : InDeclarator) (a : Expr) (y : Symbol) (s : Span)
    → erased (r.close_array n env o z d k a y s) ≡ m.close_array env (bare_declarator d) (erase_declarator k) (bare a) y
close_array_step n env o z d k a t.rbracket s = refl
close_array_step n env o z d k a _ s = refl

close_step : (n e : ℕ) (env : Env) (d : ℕ) (k : InExpr) (a : Expr) (y : Symbol) (s : Span) → erased (r.close n e env d k a y s) ≡ m.close env (erase_expr k) (bare a) y
close_step n e env d (in_operand o x k) a y s = refl
close_step n e env d (in_bracket o x k) a y s = bracket_step n env o d x k a y s
close_step n e env d (in_stmt o x k) a y s = part_step n env o d x k a y s
close_step n e env d (in_init k) a y s = init_step n e env d k (u.Plain a) y s
close_step n e env d (in_value o x k) a y s = close_enumerator_step n e env o d k x (u.some_expr a) y s
close_step n e env d (in_array o x k) a y s = close_array_step n env o d x k a y s

-- ---- the token after an expression

made_erased : (at : At) (o : Operand) (a : Expr) → bare (r.made at o a) ≡ m.made (erase_operand o) (bare a)
made_erased at (of_prefix o) a = refl
made_erased at of_sizeof a = refl
made_erased at (of_cast (type_name t_at ss d)) a = refl
made_erased at (of_binary l o) a = refl
made_erased at (of_assign l o) a = refl
made_erased at (of_comma l) a = refl
made_erased at (of_cond c l) a = refl

abbrev erase_reduced : Reduced → i.InExpr × b.Expr
erase_reduced x = (erase_expr x.place, bare x.expr)

either_way : (c d : Bool) (x y : Reduced) (v w : i.InExpr × b.Expr) → c ≡ d → erase_reduced x ≡ v → erase_reduced y ≡ w → erase_reduced (if c then x else y) ≡ (if d then v else w)
either_way true d x y v w e h l = h ∙ ap (λ c. if c then v else w) e
either_way false d x y v w e h l = l ∙ ap (λ c. if c then v else w) e

reduced_erased : (k : InExpr) (n e : ℕ) (h : Had) (a : Expr) (g : ℕ) → erase_reduced (r.reduced n e h k a g) ≡ m.reduced (erase_expr k) (bare a) g
reduced_erased (in_operand o x k) n e h a g =
    either_way (nat_le (r.operand_place x) g) (nat_le (m.operand_place (erase_operand x)) g) _ _ _ _ (ap (λ z. nat_le z g) (operand_erased x)) refl
    (reduced_erased k (suc n) e (closed o h.deep) (r.made (mark o.from e n) x a) g ∙ ap (λ z. m.reduced (erase_expr k) z g) (made_erased (mark o.from e n) x a))
reduced_erased (in_bracket o x k) n e h a g = refl
reduced_erased (in_stmt o x k) n e h a g = refl
reduced_erased (in_init k) n e h a g = refl
reduced_erased (in_value o x k) n e h a g = refl
reduced_erased (in_array o x k) n e h a g = refl

take_step : (n : ℕ) (env : Env) (h : Had) (k : InExpr) (a : Expr) (y : Symbol) (s : Span) → erased (r.take n env h k a y s) ≡ m.take env (erase_expr k) (bare a) y
take_step n env h k a y s =
    same_test (nat_le (needs y) (level (bare a))) (nat_le (needs y) (level (bare a))) (r.take_expr n env h k a y s) None _ _ refl (take_expr_step n env h k a y s) refl

next_step : (e : ℕ) (env : Env) (x : Reduced) (y : Symbol) (s : Span) → erased (r.next e env x y s) ≡ m.next env (erase_reduced x) y
next_step e env x y s =
    same_test (nat_le (r.place x.place) (tight y)) (nat_le (m.place (erase_expr x.place)) (tight y))
    (r.take x.id env x.had x.place x.expr y s) (r.close x.id e env x.had.deep x.place x.expr y s) _ _
    (ap (λ z. nat_le z (tight y)) (place_erased x.place))
    (take_step x.id env x.had x.place x.expr y s)
    (close_step x.id e env x.had.deep x.place x.expr y s)

pub after_step : (n e : ℕ) (env : Env) (h : Had) (k : InExpr) (a : Expr) (y : Symbol) (s : Span) → erased (r.after n e env h k a y s) ≡ m.after env (erase_expr k) (bare a) y
after_step n e env h k a y s = next_step e env (r.reduced n e h k a (tight y)) y s ∙ ap (λ z. m.next env z y) (reduced_erased k n e h a (tight y))

-- ---- the other places in an expression

text_step : (n e : ℕ) (env : Env) (from : ℕ) (k : InExpr) (xs : List (List ℕ)) (y : Symbol) (s : Span) → erased (r.text_next n e env from k xs y s) ≡ m.text_next env (erase_expr k) xs y
text_step n e env from k xs (t.text x) s = refl
text_step n e env from k xs y s = after_step (suc n) e env (leaf from) k (u.Text (mark from e n) xs) y s

cast_step : (n : ℕ) (env : Env) (o : Open) (k : InExpr) (y : Symbol) (s : Span) → erased (r.open_cast n env o k y s) ≡ m.open_cast env (erase_expr k) y
cast_step n env o k y s =
    same_test (nat_le (r.place k) 14) (nat_le (m.place (erase_expr k)) 14) (rb.begin_specs n env (of_type o cast_type k) y s) None _ _
    (ap (λ z. nat_le z 14) (place_erased k))
    (begin_specs_step n env (of_type o cast_type k) y s)
    refl

opened_step : (n : ℕ) (env : Env) (o : Open) (k : InExpr) (y : Symbol) (s : Span) → erased (r.paren_next n env o k y s) ≡ m.paren_next env (erase_expr k) y
opened_step n env o k y s =
    same_test (begins_specs env false y) (begins_specs env false y) (r.open_cast n env o k y s) (rb.want n env (in_bracket o of_paren k) y s) _ _ refl
    (cast_step n env o k y s)
    (want_step n env (in_bracket o of_paren k) y s)

sizeof_opened_step : (n : ℕ) (env : Env) (o : Open) (p_from : ℕ) (k : InExpr) (y : Symbol) (s : Span)
    → erased (r.sizeof_paren_next n env o p_from k y s) ≡ m.sizeof_paren_next env (erase_expr k) y
sizeof_opened_step n env o p_from k y s =
    same_test (begins_specs env false y) (begins_specs env false y)
    (rb.begin_specs n env (of_type o sizeof_type k) y s) (rb.want n env (in_bracket (opens o.level p_from) of_paren (in_operand o of_sizeof k)) y s) _ _ refl
    (begin_specs_step n env (of_type o sizeof_type k) y s)
    (want_step n env (in_bracket (opens o.level p_from) of_paren (in_operand o of_sizeof k)) y s)

sizeof_step : (n : ℕ) (env : Env) (o : Open) (k : InExpr) (y : Symbol) (s : Span) → erased (r.sizeof_next n env o k y s) ≡ m.sizeof_next env (erase_expr k) y
sizeof_step n env o k t.lparen s = refl
sizeof_step n env o k y s = want_step n env (in_operand o of_sizeof k) y s

args_begin_step : (n : ℕ) (env : Env) (o : Open) (f : Expr) (k : InExpr) (y : Symbol) (s : Span) → erased (r.args_begin n env o f k y s) ≡ m.args_begin env (bare f) (erase_expr k) y
args_begin_step n env o f k t.rparen s = refl
args_begin_step n env o f k y s = want_step n env (in_bracket o (of_args (of_function f) []) k) y s

builtin_step : (n : ℕ) (env : Env) (o : Open) (k : InExpr) (y : Symbol) → erased (r.builtin_next n env o k y) ≡ m.builtin_next env (erase_expr k) y
builtin_step n env o k t.lparen = refl
builtin_step n env o k _ = refl

member_erased : (at : At) (c : Member) (a : Expr) (x : List ℕ) → bare (r.member_of at c a x) ≡ m.member_of c (bare a) x
member_erased at t.Dot a x = refl
member_erased at t.Arrow a x = refl

member_step : (n : ℕ) (env : Env) (o : Open) (a : Expr) (c : Member) (k : InExpr) (y : Symbol) (s : Span)
    → erased (r.member_next n env o a c k y s) ≡ m.member_next env (bare a) c (erase_expr k) y
member_step n env o a c k (t.name x) s = ap (λ z. i.at env (i.expr (i.after_expr (erase_expr k) z))) (member_erased (mark o.from s.end n) c a x)
member_step n env o a c k _ s = refl

pub expr_step : (n e : ℕ) (env : Env) (c : ExprMode) (y : Symbol) (s : Span) → erased (r.expr_next n e env c y s) ≡ m.expr_next env (erase_expr_mode c) y
expr_step n e env (want_expr k) y s = want_step n env k y s
expr_step n e env (after_expr h k a) y s = after_step n e env h k a y s
expr_step n e env (after_text from k xs) y s = text_step n e env from k xs y s
expr_step n e env (opened o k) y s = opened_step n env o k y s
expr_step n e env (after_sizeof o k) y s = sizeof_step n env o k y s
expr_step n e env (sizeof_opened o p_from k) y s = sizeof_opened_step n env o p_from k y s
expr_step n e env (args_opened o f k) y s = args_begin_step n env o f k y s
expr_step n e env (after_builtin o k) y s = builtin_step n env o k y
expr_step n e env (want_member o a c k) y s = member_step n env o a c k y s
