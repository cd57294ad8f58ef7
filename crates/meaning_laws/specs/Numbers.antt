-- That the numbers of functions in values and in storage stay those of the program's functions.
use Rattle.std.specs.Prelude.{◌≡◌, ℕ, ◌<◌, true, List, [], ◌∷◌, length}
use Rattle.c_core.specs.declared.values.Pointer.{Pointer}
use Rattle.c_core.specs.declared.values.Pointer.TheVariants.{Null, Object, Function}
use Rattle.c_core.specs.declared.values.Value.{Value}
use Rattle.c_core.specs.declared.values.Value.TheVariants as value
use Rattle.c_core.specs.declared.values.Cell.{Cell}
use Rattle.c_core.specs.declared.values.Cell.TheVariants.{Undefined, Byte, Part}
use Rattle.c_core.specs.Tree.{Expr, Program}
use Rattle.c_core.specs.Blocks.{Blocks}
use Rattle.c_core.specs.Sorts.{is_right}
use Rattle.c_core.specs.WellFormed.{sort_of, well_formed}
use Rattle.c_meaning.specs.Run.{Run}
use Rattle.c_meaning.specs.World.{World, State, M}
use Rattle.c_meaning.specs.Meaning.{mean_expr, call_at, make_fixed, start}

-- a pointer to one of so many functions, or to no function
abbrev pub PointerIn : (count : ℕ) → Pointer → Type 0
PointerIn count (Function f) = f < count
PointerIn count Null = Unit {0}
PointerIn count (Object n offset) = Unit {0}

abbrev pub ValueIn : (count : ℕ) → Value → Type 0
ValueIn count (value.Int n) = Unit {0}
ValueIn count (value.Ptr p) = PointerIn count p

abbrev pub CellIn : (count : ℕ) → Cell → Type 0
CellIn count Undefined = Unit {0}
CellIn count (Byte b) = Unit {0}
CellIn count (Part p i) = PointerIn count p

abbrev pub CellsIn : (count : ℕ) → List Cell → Type 0
CellsIn count [] = Unit {0}
CellsIn count (c ∷ cells) = CellIn count c × CellsIn count cells

-- each cell of each block
abbrev pub BlocksIn : (count : ℕ) → Blocks → Type 0
BlocksIn count [] = Unit {0}
BlocksIn count (b ∷ bs) = CellsIn count b.cells × BlocksIn count bs

abbrev pub WorldIn : (count : ℕ) → World → Type 0
WorldIn count w = BlocksIn count w.blocks

-- a meaning that is begun in such a world goes on with such values in such worlds alone: what would be done with any
-- others has no effect on the run
abbrev pub StaysIn : {A : Type 0} → (A → Type 0) → (World → Type 0) → M A → Type 0
StaysIn {A} Such Fits m =
    (f g : A → State → Run) → ((a : A) → Such a → (s : State) → Fits s.world → f a s ≡ g a s) → (s : State) → Fits s.world → m f s ≡ m g s

-- in a well-formed program each expression that has a sort, begun where all pointers to functions in storage are to
-- functions of the program, gives no pointer to any other, and leaves none in storage. So it is when the program starts
pub record NumbersStay (c : Program) : Type 0 where
  pub first : (input : List ℕ) (steps : ℕ) → WorldIn (length c.funcs) (let s = start input steps in s.world)
  pub fixed : StaysIn (λ x. Unit {0}) (WorldIn (length c.funcs)) (make_fixed c.fixed)
  pub expressions : (marks : ℕ → ℕ) (depth : ℕ) (locals : List ℕ) (e : Expr) → is_right (sort_of c locals e) ≡ true
      → StaysIn (ValueIn (length c.funcs)) (WorldIn (length c.funcs)) (mean_expr c marks (call_at c marks depth) e)

abbrev pub AllNumbersStay : Type 0
AllNumbersStay = (c : Program) → well_formed c ≡ true → NumbersStay c
