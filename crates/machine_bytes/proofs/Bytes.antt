-- Bytes that are read one after another.
use Rattle.std.proofs.Common.{◌≡◌, ⊎_elim, ℕ, zero, suc, ◌+◌, ◌-◌, ◌<◌, ◌≤◌, Bool, true, false, List, [], ◌∷◌, nat_eq, Option, Some, None, Result, Ok, Err, refl, sym, ap, subst, ◌∙◌, arith}
use Rattle.std.specs.Prelude.{slice_get, slice_index, not, ◌==◌, nat_lt, if◌then◌else◌, ℤ, pos, negsuc}
use Rattle.std.proofs.lemmas.Bool.{ltb-false}
use Rattle.std.proofs.lemmas.Bool.Decides.{eqb_tells}
use Rattle.num_ops.specs.declared.kinds.IntKind.TheVariants as k
use Rattle.c_core.specs.declared.values.Fault.{Fault}
use Rattle.c_core.specs.declared.values.Fault.TheVariants as fault
use Rattle.c_core.specs.declared.values.Pointer.{Pointer}
use Rattle.c_core.specs.declared.values.Pointer.TheVariants.{Null, Object, Function}
use Rattle.c_core.specs.declared.values.Scalar.TheVariants as scalar
use Rattle.c_core.specs.declared.values.Value.{Value}
use Rattle.c_core.specs.Values.{value_in}
use Rattle.c_core.specs.Blocks.{Block, Blocks, Site, reached_in, if_reached, cells_at, load}
use Rattle.block_memory.specs.Given.{IsGiven}
use Rattle.block_memory.specs.Shape.{sizes_of}
use Rattle.c_meaning.specs.Rules.{if_ok}
use Rattle.c_meaning.specs.Storage.{further, byte_at, compared_from, length_from, extent, text_length}
use Rattle.machine_bytes.specs.Reading.{order_of, both_read}

further_none : (p : Pointer) → further p 0 ≡ p
further_none Null = refl
further_none (Object n o) = ap (Object n) (omega arith)
further_none (Function f) = refl

pub begin_given : (sizes : List ℕ) (p : Pointer) → IsGiven sizes p → IsGiven sizes (further p 0)
begin_given sizes p g = subst (λ q. IsGiven sizes q) (sym (further_none p)) g

-- ---- a byte that was read stands before the end of its block

bounded : {A : Type 0} (out over : Bool) (rest : Result Site Fault) (f : Site → Result A Fault) (a : A)
    → if_reached (if out then Err fault.Dead else (if over then Err fault.Bounds else rest)) f ≡ Ok a → over ≡ false
bounded true over rest f a e = cc
bounded false true rest f a e = cc
bounded false false rest f a e = refl

read_in : (o : Option Block) (n i : ℕ) (f : Site → Result Value Fault) (v : Value) → if_reached (reached_in o n i 1 1 false) f ≡ Ok v → (b : Block) × (o ≡ Some b) × (i + 1 ≤ b.size)
read_in None n i f v e = absurd (cc)
read_in (Some b) n i f v e = (b, refl, ltb-false b.size (i + 1) (bounded (not b.live) (nat_lt b.size (i + 1)) _ f v e))

size_at : (bs : Blocks) (n : ℕ) (b : Block) → slice_get bs n ≡ Some b → slice_index (sizes_of bs) n ≡ b.size
size_at [] n b e = absurd (cc)
size_at (x ∷ bs) zero b e = let f : x ≡ b = cc in ap (λ (y : Block). y.size) f
size_at (x ∷ bs) (suc n) b e = size_at bs n b e

pub next_given : (bs : Blocks) (sizes : List ℕ) (p : Pointer) (at : ℕ) (v : Value) → sizes ≡ sizes_of bs → IsGiven sizes (further p at)
    → load bs (further p at) (scalar.Int k.UChar) ≡ Ok v → IsGiven sizes (further p (at + 1))
next_given bs sizes Null at v e g l = tt
next_given bs sizes (Function f) at v e g l = tt
next_given bs sizes (Object n o) at v e g l =
    let r = read_in (slice_get bs n) n (o + at) (λ site. value_in (scalar.Int k.UChar) (cells_at site 1)) v l in
    let s : slice_index sizes n ≡ r.0.size = ap (λ (x : List ℕ). slice_index x n) e ∙ size_at bs n r.0 r.1 in
    let w = r.2 in
    (g.0, omega (arith, s, w))

-- ---- bytes that are compared

-- what follows the order of two bytes
abbrev goes_on : ℤ → Result ℤ Fault → Result ℤ Fault
goes_on (pos zero) r = r
goes_on (pos (suc n)) r = Ok (pos (suc n))
goes_on (negsuc n) r = Ok (negsuc n)

by_order : (l m : Bool) (r : Result ℤ Fault) → (if l then Ok (negsuc 0) else (if m then Ok (pos 1) else r)) ≡ goes_on (if l then negsuc 0 else (if m then pos 1 else pos 0)) r
by_order true m r = refl
by_order false true r = refl
by_order false false r = refl

first_then : (x y : Result ℕ Fault) (r : Result ℤ Fault)
    → if_ok x (λ a. if_ok y (λ b. if nat_lt a b then Ok (negsuc 0) else (if nat_lt b a then Ok (pos 1) else r))) ≡ if_ok (if_ok x (λ a. if_ok y (λ b. Ok (order_of a b)))) (λ z. goes_on z r)
first_then (Ok a) (Ok b) r = by_order (nat_lt a b) (nat_lt b a) r
first_then (Ok a) (Err f) r = refl
first_then (Err f) y r = refl

opened : (bs : Blocks) (p q : Pointer) (count at : ℕ) → at < count
    → compared_from bs p q (count - at) at ≡ if_ok (both_read bs p q at) (λ z. goes_on z (compared_from bs p q (count - (at + 1)) (at + 1)))
opened bs p q count at h =
    let e : count - at ≡ suc (count - (at + 1)) = omega (arith, h) in
    ap (λ (n : ℕ). compared_from bs p q n at) e ∙ first_then (byte_at bs p at) (byte_at bs q at) (compared_from bs p q (count - (at + 1)) (at + 1))

pub read_fault : (bs : Blocks) (p q : Pointer) (count at : ℕ) (r : Result ℤ Fault) (f : Fault) → at < count → r ≡ both_read bs p q at → r ≡ Err f → compared_from bs p q (count - at) at ≡ Err f
read_fault bs p q count at r f h e is = opened bs p q count at h ∙ ap (λ x. if_ok x (λ z. goes_on z (compared_from bs p q (count - (at + 1)) (at + 1)))) (sym e ∙ is)

other : (z : ℤ) (r : Result ℤ Fault) → (z ≡ pos 0 → ⊥) → goes_on z r ≡ Ok z
other (pos zero) r ne = absurd (ne refl)
other (pos (suc n)) r ne = refl
other (negsuc n) r ne = refl

pub read_differs : (bs : Blocks) (p q : Pointer) (count at : ℕ) (r : Result ℤ Fault) (z : ℤ) → at < count → r ≡ both_read bs p q at → r ≡ Ok z → (z ≡ pos 0 → ⊥) → compared_from bs p q (count - at) at ≡ Ok z
read_differs bs p q count at r z h e is ne =
    opened bs p q count at h ∙ ap (λ x. if_ok x (λ z. goes_on z (compared_from bs p q (count - (at + 1)) (at + 1)))) (sym e ∙ is) ∙ other z (compared_from bs p q (count - (at + 1)) (at + 1)) ne

pub read_alike : (bs : Blocks) (p q : Pointer) (count at : ℕ) (r : Result ℤ Fault) (z : ℤ) → at < count → r ≡ both_read bs p q at → r ≡ Ok z → z ≡ pos 0
    → compared_from bs p q (count - (at + 1)) (at + 1) ≡ compared_from bs p q (count - at) at
read_alike bs p q count at r z h e is zero_is = sym (
    opened bs p q count at h
    ∙ ap (λ x. if_ok x (λ z. goes_on z (compared_from bs p q (count - (at + 1)) (at + 1)))) (sym e ∙ is ∙ ap (λ (y : ℤ). Ok y) zero_is)
    )

pub all_alike : (bs : Blocks) (p q : Pointer) (count at : ℕ) → count ≤ at → compared_from bs p q (count - at) at ≡ Ok (pos 0)
all_alike bs p q count at h = let e : count - at ≡ 0 = omega (arith, h) in ap (λ (n : ℕ). compared_from bs p q n at) e

-- ---- a text

text_opened : (bs : Blocks) (p : Pointer) (most at : ℕ) → at < most → length_from bs p (most - at) at ≡ if_ok (byte_at bs p at) (λ b. if b == 0 then Ok at else length_from bs p (most - (at + 1)) (at + 1))
text_opened bs p most at h = let e : most - at ≡ suc (most - (at + 1)) = omega (arith, h) in ap (λ (n : ℕ). length_from bs p n at) e

pub text_fault : (bs : Blocks) (p : Pointer) (most at : ℕ) (f : Fault) → at < most → Err f ≡ byte_at bs p at → length_from bs p (most - at) at ≡ Err f
text_fault bs p most at f h e = text_opened bs p most at h ∙ ap (λ r. if_ok r (λ b. if b == 0 then Ok at else length_from bs p (most - (at + 1)) (at + 1))) (sym e)

is_zero : (b : ℕ) → b ≡ 0 → (b == 0) ≡ true
is_zero b e = ap (λ (x : ℕ). x == 0) e

not_zero : (b : ℕ) → (b ≡ 0 → ⊥) → (b == 0) ≡ false
not_zero b ne = ⊎_elim {C = (b == 0) ≡ false} (λ (y : (nat_eq b 0 ≡ true) × (b ≡ 0)). absurd (ne y.1)) (λ (y : (nat_eq b 0 ≡ false) × (b ≡ 0 → ⊥)). y.0) (eqb_tells b 0)

pub text_ends : (bs : Blocks) (p : Pointer) (most at b : ℕ) → at < most → Ok b ≡ byte_at bs p at → b ≡ 0 → length_from bs p (most - at) at ≡ Ok at
text_ends bs p most at b h e z =
    text_opened bs p most at h
    ∙ ap (λ r. if_ok r (λ b. if b == 0 then Ok at else length_from bs p (most - (at + 1)) (at + 1))) (sym e)
    ∙ ap (λ t. let r : Result ℕ Fault = if t then Ok at else length_from bs p (most - (at + 1)) (at + 1) in r) (is_zero b z)

pub text_goes : (bs : Blocks) (p : Pointer) (most at b : ℕ) → at < most → Ok b ≡ byte_at bs p at → (b ≡ 0 → ⊥)
    → length_from bs p (most - (at + 1)) (at + 1) ≡ length_from bs p (most - at) at
text_goes bs p most at b h e ne = sym (
    text_opened bs p most at h
    ∙ ap (λ r. if_ok r (λ b. if b == 0 then Ok at else length_from bs p (most - (at + 1)) (at + 1))) (sym e)
    ∙ ap (λ t. let r : Result ℕ Fault = if t then Ok at else length_from bs p (most - (at + 1)) (at + 1) in r) (not_zero b ne)
    )

pub text_whole : (bs : Blocks) (p : Pointer) (n : ℕ) → n ≡ extent bs p → length_from bs p (n + 1) 0 ≡ text_length bs p
text_whole bs p n e = let f : n + 1 ≡ suc (extent bs p) = omega (arith, e) in ap (λ (m : ℕ). length_from bs p m 0) f

pub text_without : (bs : Blocks) (p : Pointer) (most at : ℕ) → most ≤ at → length_from bs p (most - at) at ≡ Err fault.Bounds
text_without bs p most at h = let e : most - at ≡ 0 = omega (arith, h) in ap (λ (n : ℕ). length_from bs p n at) e
