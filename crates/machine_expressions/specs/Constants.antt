-- Which constants a run takes.
use Rattle.std.specs.Prelude.{◌≡◌, Bool, true, false, not}
use Rattle.c_core.specs.declared.values.Pointer.TheVariants.{Object}
use Rattle.c_core.specs.declared.values.Value.{Value}
use Rattle.c_core.specs.declared.values.Value.TheVariants.{Ptr}
use Rattle.c_core.specs.Tree as t
use Rattle.c_core.specs.Tree.{Form}

-- a pointer into a block; a well-formed program has no such constant (`sort_of`)
abbrev pub points_into_block : Value → Bool
points_into_block (Ptr (Object number offset)) = true
points_into_block v = false

-- a constant is taken unless it points into a block
abbrev pub TakesConstant : Form → (taken : Bool) → Type 0
TakesConstant (t.Const v) taken = taken ≡ not (points_into_block v)
TakesConstant form taken = Unit {0}
