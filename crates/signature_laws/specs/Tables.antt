-- That the types of a table have the names that its records and enumerations were declared with.
use Rattle.std.specs.Prelude.{◌≡◌, ℕ, ◌<◌, length}
use Rattle.c_types.specs.Pieces.{names_of}
use Rattle.c_types.specs.Table.{Table, type_at, term_type, PartsBelow, NumbersBelow}
use Rattle.c_types.specs.declared.terms.Term.{Term}
use Rattle.signature_laws.specs.Named.{AreNamed, IsSpelledName}

-- what `term` says of each number of a table: its term, whose parts are earlier types, and which names only records and
-- enumerations that are declared
abbrev pub TermsAreTold : Table → Type 0
TermsAreTold t =
    (i : ℕ) → i < length t.terms
    → (x : Term) × ((type_at t.terms i ≡ term_type t.terms x) × PartsBelow i x × NumbersBelow (length t.records) (length t.enums) x)

-- each record and each enumeration was declared with an identifier, or with the words for one without a name
abbrev pub NamesAreGood : Table → Type 0
NamesAreGood t =
    ((k : ℕ) → k < length t.records → IsSpelledName ((names_of t).records k)) × ((e : ℕ) → e < length t.enums → IsSpelledName ((names_of t).enums e))

abbrev pub TypesAreNamed : Type 0
TypesAreNamed = (t : Table) → TermsAreTold t → NamesAreGood t → (i : ℕ) → i < length t.terms → AreNamed (names_of t) (type_at t.terms i)
