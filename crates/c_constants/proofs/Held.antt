-- A value of 2 ^ 64 or more is that of no type.
use Rattle.std.proofs.Common.{◌≡◌, ℕ, ◌≤◌, ◌^◌, List, [], ◌∷◌, Bool, true, false, Option, None, if◌then◌else◌, refl, arith}
use Rattle.std.specs.Prelude.{pos}
use Rattle.std.proofs.lemmas.Bool.Decides.{nat_tests}
use Rattle.num_ops.specs.declared.kinds.IntKind.{IntKind}
use Rattle.num_ops.specs.declared.kinds.IntKind.TheVariants as k
use Rattle.num_ops.specs.declared.constants.Base.{Base}
use Rattle.num_ops.specs.declared.constants.Length.{Length}
use Rattle.num_ops.specs.Constants.{first_kind, kinds_for, constant_kind}
use Rattle.num_ops.specs.Kinds.{holds}

not_held : (kind : IntKind) (n : ℕ) → 18446744073709551616 ≤ n → holds kind (pos n) ≡ false
not_held k.Bool n h = grind (arith, nat_tests)
not_held k.Char n h = grind (arith, nat_tests)
not_held k.SChar n h = grind (arith, nat_tests)
not_held k.UChar n h = grind (arith, nat_tests)
not_held k.Short n h = grind (arith, nat_tests)
not_held k.UShort n h = grind (arith, nat_tests)
not_held k.Int n h = grind (arith, nat_tests)
not_held k.UInt n h = grind (arith, nat_tests)
not_held k.Long n h = grind (arith, nat_tests)
not_held k.ULong n h = grind (arith, nat_tests)
not_held k.LongLong n h = grind (arith, nat_tests)
not_held k.ULongLong n h = grind (arith, nat_tests)

none_first : (n : ℕ) (kinds : List IntKind) → 18446744073709551616 ≤ n → first_kind n kinds ≡ None
none_first n [] h = refl
none_first n (kind ∷ kinds) h = let no = not_held kind n h in rw no (none_first n kinds h)

pub no_kind : (base : Base) (u : Bool) (l : Length) (n : ℕ) → 18446744073709551616 ≤ n → constant_kind base u l n ≡ None
no_kind base u l n h = none_first n (kinds_for base u l) h
