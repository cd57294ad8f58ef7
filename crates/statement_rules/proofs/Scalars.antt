-- The value of an expression is a scalar by its type.
use Rattle.std.proofs.Common.{◌≡◌, ℕ, bit_or, ◌||◌, refl}
use Rattle.c_types.specs.CTypes.{CType, Void, Int, Enum, Pointer, Array, Flexible, Function, Record, Named, Qualified}
use Rattle.c_types.specs.Plain.{plain, is_function}
use Rattle.c_rules.specs.Types.{decayed_from, is_array, is_scalar, settled}

settled_by : (whole t : CType) (q : ℕ) → plain whole ≡ plain t → is_scalar (plain (decayed_from whole q t)) ≡ (is_scalar (plain t) || is_array (plain t) || is_function (plain t))
settled_by whole (Named n t) q e = settled_by whole t q e
settled_by whole (Qualified p t) q e = settled_by whole t (bit_or p q) e
settled_by whole Void q e = rw e refl
settled_by whole (Int k) q e = rw e refl
settled_by whole (Enum n) q e = rw e refl
settled_by whole (Pointer t) q e = rw e refl
settled_by whole (Record k) q e = rw e refl
settled_by whole (Array t n) q e = refl
settled_by whole (Flexible t) q e = refl
settled_by whole (Function r ps) q e = refl

pub settled_is : (t : CType) → is_scalar (settled t) ≡ (is_scalar (plain t) || is_array (plain t) || is_function (plain t))
settled_is t = settled_by t t 0 refl
