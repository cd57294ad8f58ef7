-- The size of a struct or union member by member.
use Rattle.std.proofs.Common.{◌≡◌, ℕ, suc, ◌<◌, ◌≤◌, max, Bool, true, false, List, [], ◌∷◌, length, get_or, drop, map, Option, refl, sym, ◌∙◌, ap, arith}
use Rattle.std.specs.Prelude.{nat_le, nat_lt}
use Rattle.std.proofs.lemmas.Bool.Decides.{nat_tests}
use Rattle.c_types.specs.CTypes.{CType}
use Rattle.c_types.specs.Layout.{alignment, end_of, greatest_alignment, reach, record_size, rounded}
use Rattle.c_types.specs.Table.{member_of, type_at}
use Rattle.c_types.specs.Table as table
use Rattle.c_types.specs.declared.records.Layout.{Layout}
use Rattle.c_types.specs.declared.records.Member.{Member}
use Rattle.c_types.specs.declared.terms.Term.{Term}
use Rattle.c_types.proofs.Laying.{too_far}
use Rattle.c_rules.specs.Walk.{member_types}

pub types_are : (ts : List Term) (ms : List Member) → member_types (map (member_of ts) ms) ≡ table.member_types ts ms
types_are ts [] = refl
types_are ts (m ∷ ms) = ap (λ us. type_at ts m.ty.0 ∷ us) (types_are ts ms)

-- how far the members have been measured
pub record IsMeasured (ls : List (Option Layout)) (u : Bool) (whole rest : List CType) (end align : ℕ) : Type 0 where
  pub end_is : end_of ls u 0 whole ≡ end_of ls u end rest
  pub align_is : greatest_alignment ls 1 whole ≡ greatest_alignment ls align rest
  pub positive : 0 < align
  pub small : end < 268435456

pub measured_start : (ls : List (Option Layout)) (u : Bool) (whole rest : List CType) → rest ≡ whole → IsMeasured ls u whole rest 0 1
measured_start ls u whole rest e = rw e (record { end_is = refl; align_is = refl; positive = omega arith; small = omega arith })

pub measured_step : (ls : List (Option Layout)) (u : Bool) (whole rest after : List CType) (end align : ℕ) (t : CType) → IsMeasured ls u whole rest end align → rest ≡ t ∷ after → reach ls u end t < 268435456
    → IsMeasured ls u whole after (reach ls u end t) (max align (alignment ls t))
measured_step ls u whole rest after end align t m e h = record {
  end_is = rw e at m.end_is;
  align_is = rw e at m.align_is;
  positive = let p = m.positive in omega arith;
  small = h;
}

pub measured_end : (ls : List (Option Layout)) (u : Bool) (whole rest : List CType) (end align : ℕ) → IsMeasured ls u whole rest end align → rest ≡ [] → record_size ls u whole ≡ rounded end align
measured_end ls u whole rest end align m n =
    let e : end_of ls u 0 whole ≡ end = rw n at m.end_is in
    let a : greatest_alignment ls 1 whole ≡ align = rw n at m.align_is in
    rw (e, a) refl

not_less : (m : ℕ) → nat_le 268435456 m ≡ true → nat_lt m 268435456 ≡ false
not_less m h = grind (arith, nat_tests)

-- one that reaches too far is too large
pub too_large : (ls : List (Option Layout)) (u : Bool) (whole rest after : List CType) (end align : ℕ) (t : CType) → IsMeasured ls u whole rest end align → rest ≡ t ∷ after → 268435456 ≤ reach ls u end t
    → nat_lt (record_size ls u whole) 268435456 ≡ false
too_large ls u whole rest after end align t m e h = not_less _ (too_far ls u whole after end t (rw e at m.end_is) h)
