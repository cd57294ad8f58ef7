-- A value of an integer type.
use Rattle.std.specs.Prelude.{ℤ}
use Rattle.num_ops.specs.declared.kinds.IntKind.{IntKind}

-- a type and a whole number, which is one of the type's values wherever the code holds one
pub record Number : Type 0 where
  pub kind : IntKind
  pub value : ℤ
