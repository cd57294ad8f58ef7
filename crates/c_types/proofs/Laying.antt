-- Layouts member by member.
use Rattle.std.proofs.Common.{◌≡◌, ℕ, zero, suc, ◌<◌, ◌≤◌, ◌+◌, ◌-◌, max, List, [], ◌∷◌, ◌++◌, length, Bool, true, false, ◌||◌, ◌&&◌, Option, get_or, drop, refl, sym, ◌∙◌, ap, arith, drop-cons, nat_eq, append_assoc}
use Rattle.std.specs.Prelude.{is_some, nat_le}
use Rattle.std.proofs.Math.Nat.{lt-div-mul-add}
use Rattle.std.proofs.lemmas.Bool.Decides.{nat_tests}
use Rattle.c_types.specs.CTypes.{CType, is_flexible}
use Rattle.c_types.specs.Layout.{size, are_sized, is_empty, rounded, end_of, reach, place, alignment, greatest_alignment, record_size, offsets}
use Rattle.c_types.specs.Consts.{holds_const, any_holds_const}
use Rattle.c_types.specs.Pointers.{contains_pointer, any_contains_pointer}
use Rattle.c_types.specs.Table.{type_at, member_types}
use Rattle.c_types.specs.Records.{laid_out}
use Rattle.c_types.specs.declared.records.Layout.{Layout}
use Rattle.c_types.specs.declared.records.Member.{Member}
use Rattle.c_types.specs.declared.terms.Term.{Term}

pub rest_types : (ts : List Term) (ms : List Member) (i : ℕ) (m : Member) → i < length ms → m ≡ get_or ms i m → member_types ts (drop i ms) ≡ type_at ts m.ty.0 ∷ member_types ts (drop (suc i) ms)
rest_types ts ms i m h e = ap (member_types ts) (drop-cons ms i m h) ∙ ap (λ (x : Member). type_at ts x.ty.0 ∷ member_types ts (drop (suc i) ms)) (sym e)

is_empty_rest : (ts : List Term) (ms : List Member) (i : ℕ) → i < length ms → is_empty (member_types ts (drop (suc i) ms)) ≡ nat_eq (i + 1) (length ms)
is_empty_rest ts [] i h = absurd (omega arith)
is_empty_rest ts (m ∷ []) zero h = refl
is_empty_rest ts (m ∷ n ∷ ms) zero h = grind (arith, nat_tests)
is_empty_rest ts (m ∷ ms) (suc i) h = let e = is_empty_rest ts ms i (omega arith) in e ∙ grind (arith, nat_tests)

pub are_sized_step : (rs : List (Option Layout)) (ts : List Term) (ms : List Member) (i : ℕ) (m : Member) (b : Bool) → i < length ms → m ≡ get_or ms i m
    → b ≡ (is_some (size rs (type_at ts m.ty.0)) || (nat_eq (i + 1) (length ms) && is_flexible (type_at ts m.ty.0)))
    → are_sized rs (member_types ts (drop i ms)) ≡ (b && are_sized rs (member_types ts (drop (suc i) ms)))
are_sized_step rs ts ms i m b h e g =
    ap (are_sized rs) (rest_types ts ms i m h e)
    ∙ ap (λ (x : Bool). (is_some (size rs (type_at ts m.ty.0)) || (x && is_flexible (type_at ts m.ty.0))) && are_sized rs (member_types ts (drop (suc i) ms))) (is_empty_rest ts ms i h)
    ∙ ap (λ (x : Bool). x && are_sized rs (member_types ts (drop (suc i) ms))) (sym g)

rounded_ge : (at to : ℕ) → 0 < to → at ≤ rounded at to
rounded_ge at to h = omega (arith, lt-div-mul-add {a = at + (to - 1)} {b = to} h)

end_ge : (rs : List (Option Layout)) (u : Bool) (at : ℕ) (ts : List CType) → at ≤ end_of rs u at ts
end_ge rs u at [] = omega arith
end_ge rs u at (t ∷ ts) = omega (arith, end_ge rs u (reach rs u at t) ts)

align_ge : (rs : List (Option Layout)) (most : ℕ) (ts : List CType) → most ≤ greatest_alignment rs most ts
align_ge rs most [] = omega arith
align_ge rs most (t ∷ ts) = omega (arith, align_ge rs (max most (alignment rs t)) ts)

at_least : (m n : ℕ) → m ≤ n → nat_le m n ≡ true
at_least m n h = grind (arith, nat_tests)

-- a record that reaches too far is too large
pub too_far : (rs : List (Option Layout)) (u : Bool) (whole rest : List CType) (at : ℕ) (t : CType) → end_of rs u 0 whole ≡ end_of rs u at (t ∷ rest) → 268435456 ≤ reach rs u at t → nat_le 268435456 (record_size rs u whole) ≡ true
too_far rs u whole rest at t e h =
    at_least _ _ (omega (arith, e, end_ge rs u (reach rs u at t) rest, rounded_ge (end_of rs u 0 whole) (greatest_alignment rs 1 whole) (omega (arith, align_ge rs 1 whole))))

-- how far the members have been laid out
pub record IsLaid (rs : List (Option Layout)) (u : Bool) (whole rest : List CType) (done : List ℕ) (end align : ℕ) (pointer consts : Bool) : Type 0 where
  pub offsets_is : offsets rs u 0 whole ≡ done ++ offsets rs u end rest
  pub end_is : end_of rs u 0 whole ≡ end_of rs u end rest
  pub align_is : greatest_alignment rs 1 whole ≡ greatest_alignment rs align rest
  pub pointer_is : any_contains_pointer rs whole ≡ (pointer || any_contains_pointer rs rest)
  pub const_is : any_holds_const rs whole ≡ (consts || any_holds_const rs rest)
  pub positive : 0 < align
  pub small : end < 268435456

pub laid_start : (rs : List (Option Layout)) (u : Bool) (whole rest : List CType) → rest ≡ whole → IsLaid rs u whole rest [] 0 1 false false
laid_start rs u whole rest e = rw e (record { offsets_is = refl; end_is = refl; align_is = refl; pointer_is = refl; const_is = refl; positive = omega arith; small = omega arith })

or_assoc : (a b d : Bool) → (a || (b || d)) ≡ ((a || b) || d)
or_assoc true b d = refl
or_assoc false b d = refl

pub laid_step : (rs : List (Option Layout)) (u : Bool) (whole rest after : List CType) (done : List ℕ) (end align : ℕ) (pointer consts : Bool) (t : CType) → IsLaid rs u whole rest done end align pointer consts → rest ≡ t ∷ after → reach rs u end t < 268435456
    → IsLaid rs u whole after (done ++ place rs u end t ∷ []) (reach rs u end t) (max align (alignment rs t)) (pointer || contains_pointer rs t) (consts || holds_const rs t)
laid_step rs u whole rest after done end align pointer consts t l e h = record {
  offsets_is = (rw e at l.offsets_is) ∙ sym (append_assoc done (place rs u end t ∷ []) (offsets rs u (reach rs u end t) after));
  end_is = rw e at l.end_is;
  align_is = rw e at l.align_is;
  pointer_is = (rw e at l.pointer_is) ∙ or_assoc pointer (contains_pointer rs t) (any_contains_pointer rs after);
  const_is = (rw e at l.const_is) ∙ or_assoc consts (holds_const rs t) (any_holds_const rs after);
  positive = let p = l.positive in omega arith;
  small = h;
}

append_none : (xs : List ℕ) → xs ++ [] ≡ xs
append_none [] = refl
append_none (x ∷ xs) = ap (λ (l : List ℕ). x ∷ l) (append_none xs)

or_false : (a : Bool) → (a || false) ≡ a
or_false true = refl
or_false false = refl

-- the layout, once all members are laid out
pub laid_end : (rs : List (Option Layout)) (u : Bool) (whole rest : List CType) (done : List ℕ) (end align : ℕ) (pointer consts : Bool) → IsLaid rs u whole rest done end align pointer consts → rest ≡ []
    → laid_out rs u whole ≡ record { size = rounded end align; align = align; offsets = done; has_pointer = pointer; has_const = consts }
laid_end rs u whole rest done end align pointer consts l n =
    let o : offsets rs u 0 whole ≡ done = (rw n at l.offsets_is) ∙ append_none done in
    let e : end_of rs u 0 whole ≡ end = rw n at l.end_is in
    let a : greatest_alignment rs 1 whole ≡ align = rw n at l.align_is in
    let p : any_contains_pointer rs whole ≡ pointer = (rw n at l.pointer_is) ∙ or_false pointer in
    let q : any_holds_const rs whole ≡ consts = (rw n at l.const_is) ∙ or_false consts in
    cc

pub size_end : (rs : List (Option Layout)) (u : Bool) (whole rest : List CType) (done : List ℕ) (end align : ℕ) (pointer consts : Bool) → IsLaid rs u whole rest done end align pointer consts → rest ≡ [] → record_size rs u whole ≡ rounded end align
size_end rs u whole rest done end align pointer consts l n =
    let e : end_of rs u 0 whole ≡ end = rw n at l.end_is in
    let a : greatest_alignment rs 1 whole ≡ align = rw n at l.align_is in
    rw (e, a) refl
