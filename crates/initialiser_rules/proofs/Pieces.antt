-- The parts of a type.
use Rattle.std.proofs.Common.{◌≡◌, ℕ, zero, suc, Bool, true, false, List, [], ◌∷◌, length, map, Some, None, refl, arith}
use Rattle.c_types.specs.CTypes.{CType, Void, Int, Enum, Pointer, Array, Flexible, Function, Record, Named, Qualified, is_flexible}
use Rattle.c_types.specs.Plain.{plain}
use Rattle.c_rules.specs.Initialisers.{Parts, each, listed, first_alone, sized_members}
use Rattle.c_types.specs.Records.{MemberOf}
use Rattle.c_types.specs.Table.{member_of}
use Rattle.c_types.specs.declared.records.Member.{Member}
use Rattle.c_types.specs.declared.terms.Term.{Term}
use Rattle.initialiser_rules.specs.Steps.{first_in, is_unsized, others_in}

pub flexible_plain : (t : CType) → is_flexible t ≡ is_unsized (plain t)
flexible_plain (Named n t) = flexible_plain t
flexible_plain (Qualified q t) = flexible_plain t
flexible_plain Void = refl
flexible_plain (Int k) = refl
flexible_plain (Enum e) = refl
flexible_plain (Pointer t) = refl
flexible_plain (Array t n) = refl
flexible_plain (Flexible t) = refl
flexible_plain (Function r ps) = refl
flexible_plain (Record k) = refl

pub plain_plain : (t : CType) → plain (plain t) ≡ plain t
plain_plain (Named n t) = plain_plain t
plain_plain (Qualified q t) = plain_plain t
plain_plain Void = refl
plain_plain (Int k) = refl
plain_plain (Enum e) = refl
plain_plain (Pointer t) = refl
plain_plain (Array t n) = refl
plain_plain (Flexible t) = refl
plain_plain (Function r ps) = refl
plain_plain (Record k) = refl

-- ---- the first of them, and the others

pub none_alike : (n : ℕ) (t : CType) → n ≡ 0 → None ≡ first_in (each n t)
unfolding first_in
none_alike zero t e = refl
none_alike (suc n) t e = absurd (omega (arith, e))

pub one_alike : (n m : ℕ) (t : CType) → n ≡ suc m → Some (record { type = t; rest = each m t }) ≡ first_in (each n t)
unfolding first_in
one_alike n m t e = rw e refl

none_listed : (is_alone : Bool) → None ≡ first_in (listed (first_alone is_alone []))
unfolding first_in
none_listed true = refl
none_listed false = refl

pub none_first : (ts : List Term) (is_alone : Bool) (ms : List Member) → length ms ≡ 0 → None ≡ first_in (listed (first_alone is_alone (sized_members (map (member_of ts) ms))))
none_first ts is_alone [] e = none_listed is_alone
none_first ts is_alone (m ∷ ms) e = absurd (omega (arith, e))

pub none_open : (is_alone : Bool) (m : MemberOf) (ms : List MemberOf) → is_flexible m.type ≡ true → None ≡ first_in (listed (first_alone is_alone (sized_members (m ∷ ms))))
unfolding first_in
none_open true m ms e = rw e refl
none_open false m ms e = rw e refl

pub one_alone : (m : MemberOf) (ms : List MemberOf) → is_flexible m.type ≡ false → Some (record { type = m.type; rest = listed [] }) ≡ first_in (listed (first_alone true (sized_members (m ∷ ms))))
unfolding first_in
one_alone m ms e = rw e refl

pub one_listed : (m : MemberOf) (ms : List MemberOf) → is_flexible m.type ≡ false
    → Some (record { type = m.type; rest = listed (sized_members ms) }) ≡ first_in (listed (first_alone false (sized_members (m ∷ ms))))
unfolding first_in
one_listed m ms e = rw e refl

pub one_first : (ts : List Term) (is_alone : Bool) (m : Member) (ms : List Member) (p : Parts) → is_flexible (member_of ts m).type ≡ false → p ≡ others_in ts is_alone ms
    → Some (record { type = (member_of ts m).type; rest = p }) ≡ first_in (listed (first_alone is_alone (sized_members (map (member_of ts) (m ∷ ms)))))
one_first ts true m ms p e q = rw q (one_alone (member_of ts m) (map (member_of ts) ms) e)
one_first ts false m ms p e q = rw q (one_listed (member_of ts m) (map (member_of ts) ms) e)
