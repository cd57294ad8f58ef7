-- The types of a table are named as its records and enumerations are.
use Rattle.std.proofs.Common.{◌≡◌, ℕ, zero, suc, ◌<◌, List, [], ◌∷◌, length, subst, sym, arith}
use Rattle.c_types.specs.Pieces.{names_of}
use Rattle.c_types.specs.Table.{Table, type_at, types_at, term_type, PartsBelow, NumbersBelow, AllBelow}
use Rattle.c_types.specs.declared.terms.Term.{Term}
use Rattle.c_types.specs.declared.terms.Term.TheVariants as m
use Rattle.c_types.specs.declared.terms.TypeId.{TypeId}
use Rattle.signature_laws.specs.Named.{AreNamed, AllNamed, IsSpelledName}
use Rattle.signature_laws.specs.Tables.{TermsAreTold, NamesAreGood, TypesAreNamed}

module _ (t : Table) (told : TermsAreTold t) (good : NamesAreGood t) where
  -- the types before one with a number
  abbrev Before : ℕ → Type 0
  Before i = (j : ℕ) → j < i → AreNamed (names_of t) (type_at t.terms j)

  all : (i : ℕ) → Before i → (ps : List TypeId) → AllBelow i ps → AllNamed (names_of t) (types_at t.terms ps)
  all i before [] b = tt
  all i before (p ∷ ps) b = (before p.0 b.0, all i before ps b.1)

  of_term : (i : ℕ) → Before i → (x : Term) → PartsBelow i x → NumbersBelow (length t.records) (length t.enums) x → AreNamed (names_of t) (term_type t.terms x)
  of_term i before m.Void b n = tt
  of_term i before (m.Int kind) b n = tt
  of_term i before (m.Enum e) b n = good.1 e n
  of_term i before (m.Pointer p) b n = before p.0 b
  of_term i before (m.Array p k) b n = before p.0 b
  of_term i before (m.Flexible p) b n = before p.0 b
  of_term i before (m.Function p ps) b n = (before p.0 b.0, all i before ps b.1)
  of_term i before (m.Record k) b n = good.0 k n
  of_term i before (m.Named s p) b n = before p.0 b
  of_term i before (m.Qualified q p) b n = before p.0 b

  -- of the numbers below n
  below : (n i : ℕ) → i < n → i < length t.terms → AreNamed (names_of t) (type_at t.terms i)
  below zero i l h = absurd (omega arith)
  below (suc n) i l h =
      let of = told i h in
      subst (AreNamed (names_of t)) (sym of.1.0) (of_term i (λ j k. below n j (omega (arith, k, l)) (omega (arith, k, h))) of.0 of.1.1 of.1.2)

  pub are_named : (i : ℕ) → i < length t.terms → AreNamed (names_of t) (type_at t.terms i)
  are_named i h = below (suc i) i (omega arith) h

pub types_are_named : TypesAreNamed
types_are_named t told good i h = are_named t told good i h
