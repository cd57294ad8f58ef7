-- That a well-formed program's expressions give values of their sorts.
use Rattle.std.specs.Prelude.{◌≡◌, ℕ, true, List}
use Rattle.c_core.specs.declared.values.Value.{Value}
use Rattle.c_core.specs.Values.{kind_of}
use Rattle.c_core.specs.Tree.{Expr, Program}
use Rattle.c_core.specs.Sorts.{Sort, Gives, int}
use Rattle.c_core.specs.WellFormed.{sort_of, well_formed}
use Rattle.c_meaning.specs.Run.{Run}
use Rattle.c_meaning.specs.World.{State, M}
use Rattle.c_meaning.specs.Meaning.{mean_expr, call_at, call_main}

-- a value of a sort: of its kind, where the sort has one
abbrev pub Has : Sort → Value → Type 0
Has (Gives kind) v = kind_of v ≡ kind
Has sort v = Unit {0}

-- a meaning goes on with such values alone: what would be done with any other has no effect on the run
abbrev pub GoesOnWith : {A : Type 0} → (A → Type 0) → M A → Type 0
GoesOnWith {A} Such m = (f g : A → State → Run) → ((a : A) → Such a → (s : State) → f a s ≡ g a s) → (s : State) → m f s ≡ m g s

-- in a well-formed program an expression gives values of its sort alone, whichever locals are there, and however deep
-- its calls may go; so an operator meets only operands of the sorts that it takes
abbrev pub SortsHold : Type 0
SortsHold =
    (c : Program) → well_formed c ≡ true
    → (marks : ℕ → ℕ) (depth : ℕ) (locals : List ℕ) (e : Expr)
    → GoesOnWith (Has (sort_of c locals e)) (mean_expr c marks (call_at c marks depth) e)

-- 5.1.2.2.3: the call of `main` gives an `int`, which is the exit code
abbrev pub MainGivesInt : Type 0
MainGivesInt =
    (c : Program) → well_formed c ≡ true → (marks : ℕ → ℕ) (depth : ℕ)
    → GoesOnWith (Has int) (call_main c (call_at c marks depth) c.main)
