-- The functions and the arguments of a program in memory.
use Rattle.std.proofs.Common.{◌≡◌, ℕ, zero, suc, ◌<◌, ◌≤◌, List, [], ◌∷◌, length, get_or, map, Option, Some, None, option_map, Bor, refl, sym, ap, ◌∙◌}
use Rattle.std.specs.Prelude.{slice_get, IfSome, MatchOption}
use Rattle.std.specs.List.{HoldsAt}
use Rattle.std.specs.Option.{option_copied}
use Rattle.std.proofs.lemmas.Option.{slice_get-map, slice_get_past, slice_get_read}
use Rattle.tok_base.specs.declared.token.Span.{Span}
use Rattle.c_core.specs.declared.tree.Expr.{Expr as CExpr}
use Rattle.c_core.specs.declared.tree.Func.{Func}
use Rattle.c_core.specs.Library.{Callee, callee_of}
use Rattle.c_core.specs.Tree as t
use Rattle.c_core.specs.Tree.{Form, MaybeExpr, Program}
use Rattle.c_core.specs.View.{exprs_of, maybe_expr_of, func_of}
use Rattle.c_meaning.specs.World.{State}
use Rattle.machine_steps.specs.Frames.{Stacks, expr_at}
use Rattle.machine_steps.specs.Steps as steps
use Rattle.machine_calls.specs.Arguments.{arguments}
use Rattle.machine_calls.specs.Callees.{callees_of}
use Rattle.machine_calls.specs.Found.{callee_at, found_callee}

pub expr_there : (es : List CExpr) (n : ℕ) → expr_at n (exprs_of es) ≡ maybe_expr_of (slice_get es n)
expr_there [] n = refl
expr_there (e ∷ es) zero = refl
expr_there (e ∷ es) (suc n) = expr_there es n

-- the arguments are those of the definition
pub arguments_same : (c : Program) (marks : ℕ → ℕ) (form : Form) → steps.arguments_of c marks form ≡ arguments form
arguments_same c marks (t.Call f type es used) = refl
arguments_same c marks (t.LibCall f es m) = refl
arguments_same c marks (t.Const v) = refl
arguments_same c marks (t.Text n) = refl
arguments_same c marks (t.Func f) = refl
arguments_same c marks (t.Object p) = refl
arguments_same c marks (t.Load p kind) = refl
arguments_same c marks (t.Store p at kind e) = refl
arguments_same c marks (t.CopyRecord p a q b size) = refl
arguments_same c marks (t.Convert kind e) = refl
arguments_same c marks (t.Truth e negated) = refl
arguments_same c marks (t.Arith op a b) = refl
arguments_same c marks (t.ShiftBits to_left a b) = refl
arguments_same c marks (t.CompareInt op a b) = refl
arguments_same c marks (t.PtrAdd p i size minus) = refl
arguments_same c marks (t.PtrDiff p q size) = refl
arguments_same c marks (t.ComparePtr op p q) = refl
arguments_same c marks (t.Both a b) = refl
arguments_same c marks (t.Either a b) = refl
arguments_same c marks (t.Choose a b d) = refl
arguments_same c marks (t.Then a b) = refl
arguments_same c marks (t.Modify p at kind op e common post) = refl
arguments_same c marks (t.Mark n) = refl

-- the library function of the function with a number, which is there
pub callee_found : (funcs : List Func) (callees : List (Option Callee)) (n : ℕ) (f : Func) → callees ≡ callees_of funcs → slice_get funcs n ≡ Some f → callee_at callees n ≡ callee_of f.name
callee_found funcs callees n f is found =
    rw is (ap found_callee (slice_get-map (λ (g : Func). callee_of g.name) funcs n ∙ ap (λ o. option_map (λ (g : Func). callee_of g.name) o) found))

pub function_found : (funcs : List Func) (n : ℕ) (o : Option Func) → slice_get funcs n ≡ o → slice_get (map func_of funcs) n ≡ option_map func_of o
function_found funcs n o found = slice_get-map func_of funcs n ∙ ap (λ x. option_map func_of x) found

-- an element that was read is the one that is there
pub got : {A : Type 0} (xs : List A) (i : ℕ) (o : Option (Bor A)) → IfSome o (λ x. x.now ≡ get_or xs i x.now) → MatchOption o (length xs ≤ i) (λ x. (i < length xs) × HoldsAt (λ y. x.now ≡ y) xs i) → option_copied o ≡ slice_get xs i
got xs i None g h = sym (slice_get_past xs i h)
got xs i (Some x) g h = sym (slice_get_read xs (length xs) i x.now refl h.0 g)

-- the argument with a number, or the call, by what is there
pub next_there : (c : Program) (marks : ℕ → ℕ) (span : Span) (form : Form) (n : ℕ) (st : Stacks) (s : State) (es : List CExpr) (o : MaybeExpr) → exprs_of es ≡ arguments form → o ≡ expr_at n (exprs_of es)
    → steps.next_argument c marks span form n st s ≡ steps.argument_or_call c marks o span form n st s
next_there c marks span form n st s es o args found =
    ap (λ x. steps.argument_or_call c marks x span form n st s)
    (ap (λ x. expr_at n x) (arguments_same c marks form ∙ sym args) ∙ sym found)
