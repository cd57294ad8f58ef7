-- No step lessens the least depth; so a unit that begins with the tokens read so far is at least so deep.
use Rattle.std.proofs.Common.{◌≡◌, ℕ, suc, ◌≤◌, max, nat_le, false, if◌then◌else◌, List, [], ◌∷◌, ◌++◌, Option, Some, None, refl, sym, ◌∙◌, ap, subst, le_trans, le_refl, arith}
use Rattle.c_tree.specs.Tok.{Tok}
use Rattle.c_tree.specs.Tree as u
use Rattle.c_tree.specs.Tree.{Expr, Exprs, MaybeExpr, Declarator, First, Stmt, BlockItems, External}
use Rattle.c_tree.specs.Put.{toks}
use Rattle.c_tree.specs.Wf.{Env, level, WfUnit}
use Rattle.c_tree.specs.Depth.{depth, exprs_depth, maybe_depth, declarator_depth, first_depth, stmt_depth, block_depth, external_depth, unit_depth}
use Rattle.c_reader.specs.Symbol as t
use Rattle.c_reader.specs.Symbol.{Head, Member, Operator, Symbol, tok_symbol}
use Rattle.c_reader.specs.Parts as p
use Rattle.c_reader.specs.Parts.{exprs_of, items_of, no_specs}
use Rattle.c_reader.specs.Inside as i
use Rattle.c_reader.specs.Inside.{InStmt, InBody, Condition, Part, Operand, Callee, Bracket, InExpr, InDeclarator, ExprMode, Unended, StmtMode, Mode, State, in_block, in_then, in_else, in_while, in_do, in_for, of_definition, of_stmt, of_external, of_block, of_for, of_if, of_while, of_do, plain, returned, condition, for_first, for_condition, for_step, of_prefix, of_sizeof, of_cast, of_binary, of_assign, of_comma, of_cond, of_function, of_builtin, of_paren, of_index, of_args, of_middle, cast_type, sizeof_type, in_operand, in_bracket, in_stmt, in_init, in_value, in_array, of_declaration, of_type, want_expr, after_expr, after_text, opened, after_sizeof, sizeof_opened, args_opened, after_builtin, want_member, broken, continued, done_while, want_stmt, want_paren, after_for, for_opened, want_condition, want_step, want_semi, after_return, want_external, in_attribute, specs, declarator, after_attributes, want_init, after_init, expr, stmt}
use Rattle.c_reader.specs.Begin.{begins_specs, open_spec, want}
use Rattle.c_reader.specs.Exprs.{operand_place, place, tight, needs, take_operator, take_expr, close_paren, close_index, call_of, close_args, close_middle, close_bracket, part_semi, condition_done, part_paren, close_part, close_array, close, made, reduced, take, next, after, text_next, open_cast, sizeof_paren_next, sizeof_next, args_begin, builtin_next, member_next, expr_next}
use Rattle.c_reader.specs.Stmts.{head_begin, block_done, close_block, declaration_begin, stmt_begin, is_else, is_while, stmt_next, for_next, for_begin, condition_begin, step_begin, ended, semi_next, return_next, stmt_mode_next}
use Rattle.c_reader.specs.Machine.{step_at, Read, step_tok, on_step, run, unit_at, Answer, answer_end, answer}
use Rattle.c_reader.specs.Above.{above_stmt, above_body, condition_depth, part_depth, operand_depth, callee_depth, bracket_depth, above_expr, above_declarator, expr_so_far, unended_depth, stmt_so_far, so_far}
use Rattle.c_reader.specs.Exprs as exprs
use Rattle.c_reader.specs.Stmts as stmts
use Rattle.c_reader.specs.Machine as machine
use Rattle.c_reader.proofs.Go.{at, by_test}
use Rattle.c_reader.proofs.Above.{mono_stmt, mono_body, mono_expr, greatest_last, exprs_depth_last, block_depth_last}
use Rattle.c_reader.proofs.DeepParts.{Least, lower, either, inner_least, new_specs_least, first_spec_least, item_next_least, init_next_least, init_begin_least, declarator_mode_least, enumerator_end_least, specs_mode_least, attribute_least}
use Rattle.c_reader.proofs.Statements.{parses}

-- ---- expressions

made_depth : (o : Operand) (a : Expr) → depth (made o a) ≡ operand_depth o (depth a)
made_depth (of_prefix o) a = refl
made_depth of_sizeof a = refl
made_depth (of_cast ss m) a = refl
made_depth (of_binary l o) a = refl
made_depth (of_assign l o) a = refl
made_depth (of_comma l) a = refl
made_depth (of_cond c b) a = refl

abbrev here : InExpr × Expr → ℕ
here r = above_expr r.0 (depth r.1)

pub same_above : (k : InExpr) (a : Expr) (q : ℕ) → above_expr (reduced k a q).0 (depth (reduced k a q).1) ≡ above_expr k (depth a)
same_above (in_operand o k) a q =
    by_test (λ r. above_expr r.0 (depth r.1) ≡ above_expr (in_operand o k) (depth a)) (nat_le (operand_place o) q) (in_operand o k, a) (reduced k (made o a) q)
    (λ y. refl) (λ n. same_above k (made o a) q ∙ ap (above_expr k) (made_depth o a))
same_above (in_bracket b k) a q = refl
same_above (in_stmt x k) a q = refl
same_above (in_init k) a q = refl
same_above (in_value n e) a q = refl
same_above (in_array d k) a q = refl

operator_least : (env : Env) (k : InExpr) (a : Expr) (o : Operator) → Least (above_expr k (depth a)) (take_operator env k a o)
operator_least env k a (t.binary o) = mono_expr k (depth a) (suc (max (depth a) 0)) (omega arith)
operator_least env k a (t.assign o) = mono_expr k (depth a) (suc (max (depth a) 0)) (omega arith)
operator_least env k a (t.step o) = mono_expr k (depth a) (suc (depth a)) (omega arith)
operator_least env k a (t.negation o) = tt
operator_least env k a t.question = mono_expr k (depth a) (suc (max (depth a) 0)) (omega arith)
operator_least env k a (t.member m) = mono_expr k (depth a) (suc (depth a)) (omega arith)

taken_least : (env : Env) (k : InExpr) (a : Expr) (y : Symbol) → Least (above_expr k (depth a)) (take_expr env k a y)
taken_least env k a (t.operator o) = operator_least env k a o
taken_least env k a t.lparen = mono_expr k (depth a) (suc (depth a)) (omega arith)
taken_least env k a t.lbracket = mono_expr k (depth a) (suc (max (depth a) 0)) (omega arith)
taken_least env k a t.comma = mono_expr k (depth a) (suc (max (depth a) 0)) (omega arith)
taken_least env k a _ = tt

paren_least : (env : Env) (k : InExpr) (a : Expr) (y : Symbol) → Least (above_expr k (suc (depth a))) (close_paren env k a y)
paren_least env k a t.rparen = le_refl _
paren_least env k a _ = tt

index_least : (env : Env) (k : InExpr) (l a : Expr) (y : Symbol) → Least (above_expr k (suc (max (depth l) (depth a)))) (close_index env k l a y)
index_least env k l a t.rbracket = le_refl _
index_least env k l a _ = tt

call_depth : (c : Callee) (xs : Exprs) → suc (max (callee_depth c) (exprs_depth xs)) ≤ depth (call_of c xs)
call_depth (of_function f) xs = le_refl _
call_depth of_builtin xs = omega arith

args_least : (env : Env) (k : InExpr) (c : Callee) (xs : List Expr) (a : Expr) (y : Symbol) → Least (above_expr k (suc (max (callee_depth c) (max (exprs_depth (exprs_of xs)) (depth a))))) (close_args env k c (xs ++ a ∷ []) y)
args_least env k c xs a t.comma =
    mono_expr k (suc (max (callee_depth c) (max (exprs_depth (exprs_of xs)) (depth a)))) (suc (max (callee_depth c) (max (exprs_depth (exprs_of (xs ++ a ∷ []))) 0))) (let e = exprs_depth_last xs a in omega arith)
args_least env k c xs a t.rparen =
    mono_expr k (suc (max (callee_depth c) (max (exprs_depth (exprs_of xs)) (depth a)))) (depth (call_of c (exprs_of (xs ++ a ∷ [])))) (let e = exprs_depth_last xs a in let h = call_depth c (exprs_of (xs ++ a ∷ [])) in omega arith)
args_least env k c xs a _ = tt

middle_least : (env : Env) (k : InExpr) (c a : Expr) (y : Symbol) → Least (above_expr k (suc (max (depth c) (depth a)))) (close_middle env k c a y)
middle_least env k c a t.colon = mono_expr k (suc (max (depth c) (depth a))) (suc (max (depth c) (max (depth a) 0))) (omega arith)
middle_least env k c a _ = tt

bracket_least : (b : Bracket) (env : Env) (k : InExpr) (a : Expr) (y : Symbol) → Least (above_expr k (bracket_depth b (depth a))) (close_bracket env b k a y)
bracket_least of_paren env k a y = paren_least env k a y
bracket_least (of_index l) env k a y = index_least env k l a y
bracket_least (of_args c xs) env k a y = args_least env k c xs a y
bracket_least (of_middle c) env k a y = middle_least env k c a y

semi_least : (x : Part) (env : Env) (k : InStmt) (a : Expr) → Least (above_stmt k (part_depth x (depth a))) (part_semi env x k a)
semi_least plain env k a = le_refl _
semi_least returned env k a = le_refl _
semi_least (condition c) env k a = tt
semi_least for_first env k a = le_refl _
semi_least (for_condition x) env k a = le_refl _
semi_least (for_step x c) env k a = tt

condition_least : (c : Condition) (env : Env) (k : InStmt) (a : Expr) → above_stmt k (condition_depth c (depth a)) ≤ so_far (condition_done c k a)
condition_least of_if env k a = mono_stmt k (suc (depth a)) (suc (max (depth a) 0)) (omega arith)
condition_least of_while env k a = mono_stmt k (suc (depth a)) (suc (max (depth a) 0)) (omega arith)
condition_least (of_do s) env k a = le_refl _

rparen_least : (x : Part) (env : Env) (k : InStmt) (a : Expr) → Least (above_stmt k (part_depth x (depth a))) (part_paren env x k a)
rparen_least plain env k a = tt
rparen_least returned env k a = tt
rparen_least (condition c) env k a = condition_least c env k a
rparen_least for_first env k a = tt
rparen_least (for_condition x) env k a = tt
rparen_least (for_step x c) env k a =
    mono_stmt k (suc (max (first_depth x) (max (maybe_depth c) (depth a)))) (suc (max (first_depth x) (max (maybe_depth c) (max (depth a) 0)))) (omega arith)

part_least : (env : Env) (x : Part) (k : InStmt) (a : Expr) (y : Symbol) → Least (above_stmt k (part_depth x (depth a))) (close_part env x k a y)
part_least env x k a t.semi = semi_least x env k a
part_least env x k a t.rparen = rparen_least x env k a
part_least env x k a _ = tt

size_least : (env : Env) (d : Declarator) (k : InDeclarator) (a : Expr) (y : Symbol) → Least (above_declarator k (suc (max (declarator_depth d) (depth a)))) (close_array env d k a y)
size_least env d k a t.rbracket = le_refl _
size_least env d k a _ = tt

close_least : (k : InExpr) (env : Env) (a : Expr) (y : Symbol) → Least (above_expr k (depth a)) (close env k a y)
close_least (in_operand o k) env a y = tt
close_least (in_bracket b k) env a y = bracket_least b env k a y
close_least (in_stmt x k) env a y = part_least env x k a y
close_least (in_init k) env a y = init_next_least k env (u.Plain a) y
close_least (in_value n e) env a y = enumerator_end_least e env n (u.some_expr a) y
close_least (in_array d k) env a y = size_least env d k a y

next_least : (env : Env) (r : InExpr × Expr) (y : Symbol) → Least (above_expr r.0 (depth r.1)) (next env r y)
next_least env r y =
    either (above_expr r.0 (depth r.1)) (nat_le (place r.0) (tight y)) (take env r.0 r.1 y) (close env r.0 r.1 y)
    (either (above_expr r.0 (depth r.1)) (nat_le (needs y) (level r.1)) (take_expr env r.0 r.1 y) None (taken_least env r.0 r.1 y) tt) (close_least r.0 env r.1 y)

after_least : (env : Env) (k : InExpr) (a : Expr) (y : Symbol) → Least (above_expr k (depth a)) (after env k a y)
after_least env k a y = subst (λ d. Least d (after env k a y)) (same_above k a (tight y)) (next_least env (reduced k a (tight y)) y)

text_next_least : (env : Env) (k : InExpr) (ns : List (List ℕ)) (y : Symbol) → Least (above_expr k 1) (text_next env k ns y)
text_next_least env k ns (t.text n) = le_refl _
text_next_least env k ns (t.name n) = after_least env k (u.Text ns) (t.name n)
text_next_least env k ns y = after_least env k (u.Text ns) y

cast_least : (env : Env) (k : InExpr) (y : Symbol) → Least (above_expr k 1) (open_cast env k y)
cast_least env k y =
    either (above_expr k 1) (nat_le (place k) 14) (open_spec env no_specs (of_type cast_type k) y) None (new_specs_least (above_expr k 1) env (of_type cast_type k) y (mono_expr k 1 2 (omega arith))) tt

paren_next_least : (env : Env) (k : InExpr) (y : Symbol) → Least (above_expr k 1) (exprs.paren_next env k y)
paren_next_least env k y =
    either (above_expr k 1) (begins_specs env false y) (open_cast env k y) (want env (in_bracket of_paren k) y) (cast_least env k y)
    (inner_least (above_expr k 1) env (in_bracket of_paren k) y (mono_expr k 1 2 (omega arith)))

sizeof_paren_least : (env : Env) (k : InExpr) (y : Symbol) → Least (above_expr k 1) (sizeof_paren_next env k y)
sizeof_paren_least env k y =
    either (above_expr k 1) (begins_specs env false y) (open_spec env no_specs (of_type sizeof_type k) y) (want env (in_bracket of_paren (in_operand of_sizeof k)) y)
    (new_specs_least (above_expr k 1) env (of_type sizeof_type k) y (mono_expr k 1 2 (omega arith)))
    (inner_least (above_expr k 1) env (in_bracket of_paren (in_operand of_sizeof k)) y (mono_expr k 1 3 (omega arith)))

sizeof_least : (env : Env) (k : InExpr) (y : Symbol) → Least (above_expr k 1) (sizeof_next env k y)
sizeof_least env k t.lparen = le_refl _
sizeof_least env k (t.name n) = inner_least (above_expr k 1) env (in_operand of_sizeof k) (t.name n) (mono_expr k 1 2 (omega arith))
sizeof_least env k y = inner_least (above_expr k 1) env (in_operand of_sizeof k) y (mono_expr k 1 2 (omega arith))

args_begin_least : (env : Env) (f : Expr) (k : InExpr) (y : Symbol) → Least (above_expr k (suc (depth f))) (args_begin env f k y)
args_begin_least env f k t.rparen = mono_expr k (suc (depth f)) (suc (max (depth f) 0)) (omega arith)
args_begin_least env f k (t.name n) = inner_least (above_expr k (suc (depth f))) env (in_bracket (of_args (of_function f) []) k) (t.name n) (mono_expr k (suc (depth f)) (suc (max (depth f) (max 0 1))) (omega arith))
args_begin_least env f k y = inner_least (above_expr k (suc (depth f))) env (in_bracket (of_args (of_function f) []) k) y (mono_expr k (suc (depth f)) (suc (max (depth f) (max 0 1))) (omega arith))

builtin_least : (env : Env) (k : InExpr) (y : Symbol) → Least (above_expr k 1) (builtin_next env k y)
builtin_least env k t.lparen = mono_expr k 1 (suc (max 0 (max 0 0))) (omega arith)
builtin_least env k _ = tt

member_least : (m : Member) (env : Env) (a : Expr) (k : InExpr) (y : Symbol) → Least (above_expr k (suc (depth a))) (member_next env a m k y)
member_least t.Dot env a k (t.name n) = le_refl _
member_least t.Arrow env a k (t.name n) = le_refl _
member_least m env a k _ = tt

expr_least : (env : Env) (m : ExprMode) (y : Symbol) → Least (expr_so_far m) (expr_next env m y)
expr_least env (want_expr k) y = inner_least (above_expr k 0) env k y (mono_expr k 0 1 (omega arith))
expr_least env (after_expr k a) y = after_least env k a y
expr_least env (after_text k ns) y = text_next_least env k ns y
expr_least env (opened k) y = paren_next_least env k y
expr_least env (after_sizeof k) y = sizeof_least env k y
expr_least env (sizeof_opened k) y = sizeof_paren_least env k y
expr_least env (args_opened f k) y = args_begin_least env f k y
expr_least env (after_builtin k) y = builtin_least env k y
expr_least env (want_member a m k) y = member_least m env a k y

-- ---- statements

head_least : (env : Env) (k : InStmt) (x : Head) → Least (above_stmt k 0) (head_begin env k x)
head_least env k t.If = mono_stmt k 0 1 (omega arith)
head_least env k t.Else = tt
head_least env k t.While = mono_stmt k 0 1 (omega arith)
head_least env k t.Do = mono_stmt k 0 1 (omega arith)
head_least env k t.For = mono_stmt k 0 1 (omega arith)
head_least env k t.Break = mono_stmt k 0 1 (omega arith)
head_least env k t.Continue = mono_stmt k 0 1 (omega arith)
head_least env k t.Return = mono_stmt k 0 1 (omega arith)

block_done_least : (b : InBody) (is : BlockItems) → above_body b (suc (max (block_depth is) 0)) ≤ so_far (block_done b is)
block_done_least (of_definition done ss d) is = let e = greatest_last external_depth done (u.Definition ss d is) in omega arith
block_done_least (of_stmt k) is = mono_stmt k (suc (max (block_depth is) 0)) (suc (block_depth is)) (omega arith)

close_block_least : (k : InStmt) (env : Env) → Least (above_stmt k 0) (close_block env k)
close_block_least (in_block is b) env = block_done_least b (items_of is)
close_block_least (in_then c k) env = tt
close_block_least (in_else c a k) env = tt
close_block_least (in_while c k) env = tt
close_block_least (in_do k) env = tt
close_block_least (in_for x c e k) env = tt

declares_least : (k : InStmt) (env : Env) (y : Symbol) → Least (above_stmt k 0) (declaration_begin env k y)
declares_least (in_block is b) env y =
    new_specs_least (above_stmt (in_block is b) 0) env (of_declaration (of_block is b)) y (mono_body b (suc (max (block_depth (items_of is)) 0)) (suc (max (block_depth (items_of is)) 1)) (omega arith))
declares_least (in_then c k) env y = tt
declares_least (in_else c a k) env y = tt
declares_least (in_while c k) env y = tt
declares_least (in_do k) env y = tt
declares_least (in_for x c e k) env y = tt

stmt_either : (env : Env) (k : InStmt) (y : Symbol) → Least (above_stmt k 0) (if begins_specs env false y then declaration_begin env k y else want env (in_stmt plain k) y)
stmt_either env k y =
    either (above_stmt k 0) (begins_specs env false y) (declaration_begin env k y) (want env (in_stmt plain k) y) (declares_least k env y)
    (inner_least (above_stmt k 0) env (in_stmt plain k) y (mono_stmt k 0 2 (omega arith)))

stmt_begin_least : (env : Env) (k : InStmt) (y : Symbol) → Least (above_stmt k 0) (stmt_begin env k y)
stmt_begin_least env k (t.head x) = head_least env k x
stmt_begin_least env k t.lbrace = mono_stmt k 0 (suc (max 0 0)) (omega arith)
stmt_begin_least env k t.rbrace = close_block_least k env
stmt_begin_least env k t.semi = mono_stmt k 0 (suc 0) (omega arith)
stmt_begin_least env k (t.name n) = stmt_either env k (t.name n)
stmt_begin_least env k y = stmt_either env k y

stmt_next_least : (k : InStmt) (env : Env) (s : Stmt) (y : Symbol) → Least (above_stmt k (stmt_depth s)) (stmt_next env k s y)
stmt_next_least (in_block is b) env s y =
    lower (above_body b (suc (max (block_depth (items_of is)) (stmt_depth s)))) (above_body b (suc (max (block_depth (items_of (is ++ p.statement s ∷ []))) 0))) (stmt_begin env (in_block (is ++ p.statement s ∷ []) b) y)
    (mono_body b (suc (max (block_depth (items_of is)) (stmt_depth s))) (suc (max (block_depth (items_of (is ++ p.statement s ∷ []))) 0)) (let e = block_depth_last is (p.statement s) in omega arith))
    (stmt_begin_least env (in_block (is ++ p.statement s ∷ []) b) y)
stmt_next_least (in_then c k) env s y =
    either (above_stmt k (suc (max (depth c) (stmt_depth s)))) (is_else y) (Some (at env (stmt (want_stmt (in_else c s k))))) (stmt_next env k (u.If c s) y)
    (mono_stmt k (suc (max (depth c) (stmt_depth s))) (suc (max (depth c) (max (stmt_depth s) 0))) (omega arith)) (stmt_next_least k env (u.If c s) y)
stmt_next_least (in_else c a k) env s y = stmt_next_least k env (u.IfElse c a s) y
stmt_next_least (in_while c k) env s y = stmt_next_least k env (u.While c s) y
stmt_next_least (in_do k) env s y =
    either (above_stmt k (suc (stmt_depth s))) (is_while y) (Some (at env (stmt (want_paren (of_do s) k)))) None (mono_stmt k (suc (stmt_depth s)) (suc (max 0 (stmt_depth s))) (omega arith)) tt
stmt_next_least (in_for x c e k) env s y = stmt_next_least k env (u.For x c e s) y

for_least : (env : Env) (k : InStmt) (y : Symbol) → Least (above_stmt k 1) (for_next env k y)
for_least env k t.lparen = le_refl _
for_least env k _ = tt

for_either : (env : Env) (k : InStmt) (y : Symbol) → Least (above_stmt k 1) (if begins_specs env false y then open_spec env no_specs (of_declaration (of_for k)) y else want env (in_stmt for_first k) y)
for_either env k y =
    either (above_stmt k 1) (begins_specs env false y) (open_spec env no_specs (of_declaration (of_for k)) y) (want env (in_stmt for_first k) y)
    (new_specs_least (above_stmt k 1) env (of_declaration (of_for k)) y (mono_stmt k 1 2 (omega arith))) (inner_least (above_stmt k 1) env (in_stmt for_first k) y (mono_stmt k 1 2 (omega arith)))

for_begin_least : (env : Env) (k : InStmt) (y : Symbol) → Least (above_stmt k 1) (for_begin env k y)
for_begin_least env k t.semi = le_refl _
for_begin_least env k (t.name n) = for_either env k (t.name n)
for_begin_least env k y = for_either env k y

inner_condition : (env : Env) (x : First) (k : InStmt) (y : Symbol) → Least (above_stmt k (suc (first_depth x))) (want env (in_stmt (for_condition x) k) y)
inner_condition env x k y = inner_least (above_stmt k (suc (first_depth x))) env (in_stmt (for_condition x) k) y (mono_stmt k (suc (first_depth x)) (suc (max (first_depth x) 1)) (omega arith))

condition_begin_least : (env : Env) (x : First) (k : InStmt) (y : Symbol) → Least (above_stmt k (suc (first_depth x))) (condition_begin env x k y)
condition_begin_least env x k t.semi = mono_stmt k (suc (first_depth x)) (suc (max (first_depth x) 0)) (omega arith)
condition_begin_least env x k (t.name n) = inner_condition env x k (t.name n)
condition_begin_least env x k y = inner_condition env x k y

inner_step : (env : Env) (x : First) (c : MaybeExpr) (k : InStmt) (y : Symbol) → Least (above_stmt k (suc (max (first_depth x) (maybe_depth c)))) (want env (in_stmt (for_step x c) k) y)
inner_step env x c k y =
    inner_least (above_stmt k (suc (max (first_depth x) (maybe_depth c)))) env (in_stmt (for_step x c) k) y (mono_stmt k (suc (max (first_depth x) (maybe_depth c))) (suc (max (first_depth x) (max (maybe_depth c) 1))) (omega arith))

step_begin_least : (env : Env) (x : First) (c : MaybeExpr) (k : InStmt) (y : Symbol) → Least (above_stmt k (suc (max (first_depth x) (maybe_depth c)))) (step_begin env x c k y)
step_begin_least env x c k t.rparen =
    mono_stmt k (suc (max (first_depth x) (maybe_depth c))) (suc (max (first_depth x) (max (maybe_depth c) (max 0 0)))) (omega arith)
step_begin_least env x c k (t.name n) = inner_step env x c k (t.name n)
step_begin_least env x c k y = inner_step env x c k y

unended_least : (s : Unended) → unended_depth s ≤ stmt_depth (ended s)
unended_least broken = le_refl _
unended_least continued = le_refl _
unended_least (done_while s c) = le_refl _

semi_next_least : (env : Env) (s : Unended) (k : InStmt) (y : Symbol) → Least (above_stmt k (unended_depth s)) (semi_next env s k y)
semi_next_least env s k t.semi = mono_stmt k (unended_depth s) (stmt_depth (ended s)) (unended_least s)
semi_next_least env s k _ = tt

condition_paren_least : (env : Env) (c : Condition) (k : InStmt) (y : Symbol) → Least (above_stmt k (condition_depth c 0)) (stmts.paren_next env c k y)
condition_paren_least env c k t.lparen = le_refl _
condition_paren_least env c k _ = tt

return_least : (env : Env) (k : InStmt) (y : Symbol) → Least (above_stmt k 1) (return_next env k y)
return_least env k t.semi = le_refl _
return_least env k (t.name n) = inner_least (above_stmt k 1) env (in_stmt returned k) (t.name n) (mono_stmt k 1 2 (omega arith))
return_least env k y = inner_least (above_stmt k 1) env (in_stmt returned k) y (mono_stmt k 1 2 (omega arith))

stmt_mode_least : (env : Env) (m : StmtMode) (y : Symbol) → Least (stmt_so_far m) (stmt_mode_next env m y)
stmt_mode_least env (want_stmt k) y = stmt_begin_least env k y
stmt_mode_least env (i.after_stmt k s) y = stmt_next_least k env s y
stmt_mode_least env (want_paren c k) y = condition_paren_least env c k y
stmt_mode_least env (after_for k) y = for_least env k y
stmt_mode_least env (for_opened k) y = for_begin_least env k y
stmt_mode_least env (want_condition x k) y = condition_begin_least env x k y
stmt_mode_least env (want_step x c k) y = step_begin_least env x c k y
stmt_mode_least env (want_semi s k) y = semi_next_least env s k y
stmt_mode_least env (after_return k) y = return_least env k y

-- ---- all steps

pub step_least : (env : Env) (m : Mode) (y : Symbol) → Least (so_far m) (step_at env m y)
step_least env (want_external done) y = first_spec_least (unit_depth done) env (of_declaration (of_external done)) y (omega arith)
step_least env (in_attribute m a) y = attribute_least env a m y
step_least env (specs m) y = specs_mode_least env m y
step_least env (declarator m) y = declarator_mode_least env m y
step_least env (after_attributes r) y = item_next_least env r y
step_least env (want_init k) y = init_begin_least env k y
step_least env (after_init k x) y = init_next_least k env x y
step_least env (expr m) y = expr_least env m y
step_least env (stmt m) y = stmt_mode_least env m y

abbrev pub AnswersAt : ℕ → Answer → Type 0
AnswersAt d (Answer.unit v) = d ≤ unit_depth v
AnswersAt d (Answer.wrong rest) = Unit {0}

ends_least : (m : Mode) → AnswersAt (so_far m) (answer_end (unit_at m))
ends_least (want_external done) = le_refl _
ends_least (in_attribute m a) = tt
ends_least (specs m) = tt
ends_least (declarator m) = tt
ends_least (after_attributes r) = tt
ends_least (want_init k) = tt
ends_least (after_init k x) = tt
ends_least (expr m) = tt
ends_least (stmt m) = tt

lower_answer : (d e : ℕ) (a : Answer) → d ≤ e → AnswersAt e a → AnswersAt d a
lower_answer d e (Answer.unit v) h l = le_trans h l
lower_answer d e (Answer.wrong rest) h l = tt

from_step : (x : Tok) (ts : List Tok) (d : ℕ) (o : Option State) → Least d o → ((s : State) → AnswersAt (so_far s.mode) (answer (run s ts))) → AnswersAt d (answer (on_step x ts o (λ after. run after ts)))
from_step x ts d None l h = tt
from_step x ts d (Some s) l h = lower_answer d (so_far s.mode) (answer (run s ts)) l (h s)

tok_least : (s : State) (o : Option Symbol) → Least (so_far s.mode) (step_tok s o)
tok_least s None = tt
tok_least s (Some y) = step_least s.env s.mode y

-- what is read from a state on is at least as deep as the state
pub deep_run : (ts : List Tok) (s : State) → AnswersAt (so_far s.mode) (answer (run s ts))
deep_run [] s = ends_least s.mode
deep_run (x ∷ ts) s = from_step x ts (so_far s.mode) (step_tok s (tok_symbol x)) (tok_least s (tok_symbol x)) (deep_run ts)

append_step : (x : Tok) (ts q : List Tok) (r : State) (o : Option State) → ((s : State) → run s ts ≡ Read.reached r → run s (ts ++ q) ≡ run r q)
    → on_step x ts o (λ after. run after ts) ≡ Read.reached r → on_step x (ts ++ q) o (λ after. run after (ts ++ q)) ≡ run r q
append_step x ts q r None f e = cc
append_step x ts q r (Some s) f e = f s e

pub run_append : (ts q : List Tok) (s r : State) → run s ts ≡ Read.reached r → run s (ts ++ q) ≡ run r q
run_append [] q s r h = let same : s ≡ r = cc in ap (λ x. run x q) same
run_append (x ∷ ts) q s r h = append_step x ts q r (step_tok s (tok_symbol x)) (λ z e. run_append ts q z r e) h

-- a unit that begins with these tokens is at least as deep as the state to which they lead
pub deep : (done q : List Tok) (s : State) (v : List External) → run machine.begin done ≡ Read.reached s → WfUnit [] v → toks v ≡ done ++ q → so_far s.mode ≤ unit_depth v
deep done q s v h w e =
    let reads_it : answer (run s q) ≡ Answer.unit v = ap answer (sym (run_append done q machine.begin s h)) ∙ ap machine.read (sym e) ∙ parses v w in
    subst (AnswersAt (so_far s.mode)) reads_it (deep_run q s)
