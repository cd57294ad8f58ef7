-- That the signature which is read from a function type's spelling is what the type takes and gives.
use Rattle.std.specs.Prelude.{◌≡◌, ◌||◌, ℕ, ◌^◌, ◌<◌, true, List, ◌++◌, Some, codes, decimal, is_some}
use Rattle.c_core.specs.declared.values.Scalar.{Scalar}
use Rattle.c_core.specs.Signatures.{Signature, signature}
use Rattle.c_types.specs.CTypes.{CType, CTypes, Function}
use Rattle.c_types.specs.Spelling.{Names, spelling}
use Rattle.signature_laws.specs.Named.{AreNamed, IsSpelledName}
use Rattle.signature_laws.specs.Told.{scalar_of, scalars_of, is_void, signature_told}

-- a function type that gives nothing or a scalar and takes scalars
abbrev pub SignatureIsRead : Type 0
SignatureIsRead =
    (names : Names) (r : CType) (ps : CTypes) (takes : List Scalar) → AreNamed names (Function r ps)
    → (is_void r || is_some (scalar_of r)) ≡ true → scalars_of ps ≡ Some takes
    → signature (spelling names (Function r ps)) ≡ record { takes = takes; gives = scalar_of r }

-- any function type, whatever it takes and gives
abbrev pub EverySignatureIsRead : Type 0
EverySignatureIsRead = (names : Names) (t : CType) (s : Signature) → AreNamed names t → signature_told t ≡ Some s → signature (spelling names t) ≡ s

-- the words for the type with a number that has neither a tag nor a typedef name
abbrev pub UnnamedIsName : Type 0
UnnamedIsName = (n : ℕ) → n < 2 ^ 64 → IsSpelledName (codes "(unnamed #" ++ (decimal n ++ codes ")"))
