-- Conversions by their cases.
use Rattle.std.proofs.Common.{◌≡◌, ◌≢◌, false, ℕ, ℤ, ◌-ℤ◌, ◌<◌, ◌^◌, to_z, of_z, refl, arith}
use Rattle.std.specs.Int.{w128}
use Rattle.std.specs.Prelude.{int_le}
use Rattle.std.proofs.lemmas.Int.{ints}
use Rattle.num_ops.specs.declared.kinds.IntKind.{IntKind}
use Rattle.num_ops.specs.declared.kinds.IntKind.TheVariants as k
use Rattle.num_ops.specs.Conversions.{converted, fitted_value, from_bits}
use Rattle.num_ops.specs.Kinds.{greatest, modulus, width}

pub converted_number : (kind : IntKind) (z : ℤ) → kind ≢ k.Bool → converted kind z ≡ fitted_value kind z
converted_number k.Bool z h = absurd (h refl)
converted_number kind z h = refl

-- what the code computes of bits past the greatest value
pub from_bits_past : (kind : IntKind) (n : ℕ) → n < 2 ^ width kind → int_le (to_z w128 n) (greatest kind) ≡ false → to_z w128 (of_z w128 (to_z w128 n -ℤ modulus kind)) ≡ from_bits kind n
from_bits_past k.Bool n h f = grind (arith, ints)
from_bits_past k.Char n h f = grind (arith, ints)
from_bits_past k.SChar n h f = grind (arith, ints)
from_bits_past k.UChar n h f = grind (arith, ints)
from_bits_past k.Short n h f = grind (arith, ints)
from_bits_past k.UShort n h f = grind (arith, ints)
from_bits_past k.Int n h f = grind (arith, ints)
from_bits_past k.UInt n h f = grind (arith, ints)
from_bits_past k.Long n h f = grind (arith, ints)
from_bits_past k.ULong n h f = grind (arith, ints)
from_bits_past k.LongLong n h f = grind (arith, ints)
from_bits_past k.ULongLong n h f = grind (arith, ints)

pub greatest_is : (kind : IntKind) → to_z w128 (of_z w128 (greatest kind)) ≡ greatest kind
greatest_is k.Bool = refl
greatest_is k.Char = refl
greatest_is k.SChar = refl
greatest_is k.UChar = refl
greatest_is k.Short = refl
greatest_is k.UShort = refl
greatest_is k.Int = refl
greatest_is k.UInt = refl
greatest_is k.Long = refl
greatest_is k.ULong = refl
greatest_is k.LongLong = refl
greatest_is k.ULongLong = refl

pub modulus_is : (kind : IntKind) → to_z w128 (of_z w128 (modulus kind)) ≡ modulus kind
modulus_is k.Bool = refl
modulus_is k.Char = refl
modulus_is k.SChar = refl
modulus_is k.UChar = refl
modulus_is k.Short = refl
modulus_is k.UShort = refl
modulus_is k.Int = refl
modulus_is k.UInt = refl
modulus_is k.Long = refl
modulus_is k.ULong = refl
modulus_is k.LongLong = refl
modulus_is k.ULongLong = refl
