-- The names by which records and enumerations are spelled: a tag or a typedef name, which is an identifier and no keyword
-- (ISO/IEC 9899:2018, 6.4.1 and 6.4.2.1), or for a type that has neither `(unnamed #` and a number.
use Rattle.std.specs.Prelude.{◌≡◌, ◌⊎◌, ℕ, false, List, ◌++◌, codes}
use Rattle.c_lexer.specs.Bytes.{is_digit, Each}
use Rattle.c_lexer.specs.Name.{IsName, is_word}
use Rattle.c_types.specs.CTypes.{CType, CTypes, Void, Int, Enum, Pointer, Array, Flexible, Function, Record, Named, Qualified, no_types, one_type}
use Rattle.c_types.specs.Spelling.{Names}

-- an identifier that is no keyword
abbrev pub IsIdentifier : List ℕ → Type 0
IsIdentifier name = IsName name × (is_word name ≡ false)

abbrev pub IsUnnamed : List ℕ → Type 0
IsUnnamed name = (digits : List ℕ) × Each is_digit digits × (name ≡ codes "(unnamed #" ++ (digits ++ codes ")"))

abbrev pub IsSpelledName : List ℕ → Type 0
IsSpelledName name = IsIdentifier name ⊎ IsUnnamed name

-- each record and each enumeration in a type has such a name
abbrev mutual
  pub AreNamed : Names → CType → Type 0
  AreNamed names Void = Unit {0}
  AreNamed names (Int kind) = Unit {0}
  AreNamed names (Enum e) = IsSpelledName (names.enums e)
  AreNamed names (Record n) = IsSpelledName (names.records n)
  AreNamed names (Pointer t) = AreNamed names t
  AreNamed names (Array t n) = AreNamed names t
  AreNamed names (Flexible t) = AreNamed names t
  AreNamed names (Function r ps) = AreNamed names r × AllNamed names ps
  AreNamed names (Named n t) = AreNamed names t
  AreNamed names (Qualified q t) = AreNamed names t

  pub AllNamed : Names → CTypes → Type 0
  AllNamed names no_types = Unit {0}
  AllNamed names (one_type p ps) = AreNamed names p × AllNamed names ps
