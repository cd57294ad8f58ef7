-- That a unit's core is well-formed.
use Rattle.std.specs.Prelude.{◌≡◌, ℕ, ◌^◌, ℤ, unsigned_abs, nat_lt, nat_le, true, List, [], ◌∷◌, length, Some, None, slice_get}
use Rattle.c_core.specs.Library.{callee_of}
use Rattle.c_core.specs.Signatures.{Signature}
use Rattle.c_core.specs.WellFormed.{is_size, good_library_type, has_main, well_formed}
use Rattle.c_tree.specs.Marked as m
use Rattle.c_rules.specs.Known.{Known}
use Rattle.c_rules.specs.World.{FunctionOf, ObjectOf}
use Rattle.c_rules.specs.declared.known.ConstantValue.TheVariants as val
use Rattle.c_checked.specs.Told.{constant_of, object_at, function_at}
use Rattle.signature_laws.specs.Named.{AreNamed}
use Rattle.signature_laws.specs.Told.{signature_told}
use Rattle.lower_rules.specs.Shapes.{type_at, names_of, spelled, bytes_of}
use Rattle.lower_rules.specs.Numbered.{a_literal}
use Rattle.lower_rules.specs.FixedThings.{fixed_things}
use Rattle.lower_rules.specs.Initialisers.{literal_bytes}
use Rattle.lower_rules.specs.Units.{body_of, core_with, core_of}

-- 6.7.6.3: a function has a function type
abbrev pub HasFunctionType : FunctionOf → Type 0
HasFunctionType f = (s : Signature) × (signature_told f.type ≡ Some s)

-- 6.6, paragraph 9: an address constant is in an object that the unit defines, or at its end
abbrev pub IsInside : Known → ℕ → ℤ → Type 0
IsInside k number at = (o : ObjectOf) × ((object_at k number ≡ Some o) × ((o.is_defined ≡ true) × (nat_le (unsigned_abs at) (bytes_of k o.type) ≡ true)))

abbrev pub AreBytes : List ℕ → Type 0
AreBytes [] = Unit {0}
AreBytes (b ∷ bs) = (nat_lt b 256 ≡ true) × AreBytes bs

-- what the rules make sure of: each struct, union and enumeration has a name to be spelled by, each function a function type,
-- and one of the library's or an entry point without a body in the unit its own type; address constants are inside their objects;
-- string literals are no larger than a type may be, and of bytes; and there are fewer than 2^31 fixed objects
pub record IsSound (k : Known) (u : List m.External) : Type 0 where
  pub named : (node : ℕ) → AreNamed (names_of k) (type_at k node)
  pub functions_named : (number : ℕ) (f : FunctionOf) → function_at k number ≡ Some f → AreNamed (names_of k) f.type
  pub functions : (number : ℕ) (f : FunctionOf) → function_at k number ≡ Some f → HasFunctionType f
  pub libraries : (number : ℕ) (f : FunctionOf) → function_at k number ≡ Some f → body_of k number u ≡ None → good_library_type (spelled k f.type) (callee_of f.name) ≡ true
  pub addresses : (node number : ℕ) (at : ℤ) → constant_of k node ≡ Some (val.Object number at) → IsInside k number at
  pub literals : (i node : ℕ) (ts : List (List ℕ)) → slice_get (fixed_things k u) i ≡ Some (a_literal node ts) → (is_size (length (literal_bytes ts)) ≡ true) × AreBytes (literal_bytes ts)
  pub few : nat_lt (length (fixed_things k u)) (2 ^ 31) ≡ true

-- a unit's core is well-formed where the unit has a `main` of its type (5.1.2.2.1), whatever calls and builtins are counted
abbrev pub CoresAreWellFormed : Type 0
CoresAreWellFormed =
    (k : Known) (sites marks : List ℕ) (u : List m.External) → IsSound k u
    → has_main (core_with k sites marks u) (core_with k sites marks u).main ≡ true → well_formed (core_with k sites marks u) ≡ true

abbrev pub CoreOfUnitIsWellFormed : Type 0
CoreOfUnitIsWellFormed = (k : Known) (u : List m.External) → IsSound k u → has_main (core_of k u) (core_of k u).main ≡ true → well_formed (core_of k u) ≡ true
