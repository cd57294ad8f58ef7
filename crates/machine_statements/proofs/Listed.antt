-- The statements of a program in memory.
use Rattle.std.proofs.Common.{◌≡◌, ℕ, zero, suc, List, [], ◌∷◌, Option, Some, None, refl, sym, ap}
use Rattle.std.specs.Prelude.{slice_get}
use Rattle.c_core.specs.declared.tree.Expr.{Expr as CExpr}
use Rattle.c_core.specs.declared.tree.Stmt as S
use Rattle.c_core.specs.declared.tree.Stmt.TheVariants as SV
use Rattle.c_core.specs.Tree as t
use Rattle.c_core.specs.Tree.{Else, Program, Stmt}
use Rattle.c_core.specs.View.{expr_of, stmt_of, stmts_of, maybe_stmt_of}
use Rattle.c_core.proofs.Views.{view_block, view_if, view_if_else, view_loop}
use Rattle.c_meaning.specs.World.{State}
use Rattle.c_meaning.specs.declared.log.Flow.{Flow}
use Rattle.c_meaning.specs.declared.log.Flow.TheVariants.{Next as Onward}
use Rattle.machine_steps.specs.Frames.{Stacks, stmt_at}
use Rattle.machine_steps.specs.Steps as steps

pub stmt_there : (ss : List S.Stmt) (n : ℕ) → stmt_at n (stmts_of ss) ≡ maybe_stmt_of (slice_get ss n)
stmt_there [] n = refl
stmt_there (s ∷ ss) zero = refl
stmt_there (s ∷ ss) (suc n) = stmt_there ss n

pub view_choice : (e : CExpr) (a : S.Stmt) (b : Option S.Stmt) → stmt_of (SV.If e a b) ≡ t.If (expr_of e) (stmt_of a) (maybe_stmt_of b)
view_choice e a None = view_if e a
view_choice e a (Some b) = view_if_else e a b

pub ruleset stmt_views = (view_block, view_choice, view_loop)

module _ (c : Program) (marks : ℕ → ℕ) (objects : List (ℕ × ℕ)) (ss : List S.Stmt) where
  -- what follows, by the statement that is there
  pub listed_there : (o : Else) (x : Stmt) (n : ℕ) (st : Stacks) (s : State) → x ≡ t.Block objects (stmts_of ss) → o ≡ stmt_at n (stmts_of ss)
      → steps.next_listed c marks x n st s ≡ steps.listed_or_end c marks o objects x n st s
  listed_there o x n st s e h = rw e (ap (λ o. steps.listed_or_end c marks o objects (t.Block objects (stmts_of ss)) n st s) (sym h))

  -- a statement went on
  pub goes_on : (x : Stmt) (n : ℕ) (flow : Flow) (st : Stacks) (s : State) → x ≡ t.Block objects (stmts_of ss) → flow ≡ Onward
      → steps.listed_ended c marks x n flow st s ≡ steps.next_listed c marks x (suc n) st s
  goes_on x n flow st s e f = rw (e, f) refl
