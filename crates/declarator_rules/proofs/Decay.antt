-- The type of a value, by the type behind its outer typedef names and qualifiers.
use Rattle.std.proofs.Common.{◌≡◌, ℕ, max, bit_or, refl, sym, ap, ◌∙◌, arith}
use Rattle.std.specs.Int.{bit_at}
use Rattle.std.specs.Int.Bits.{or_zero_r}
use Rattle.std.proofs.lemmas.Nat.Bits.{bit_at_or, same_from_bits}
use Rattle.c_types.specs.CTypes.{CType, Void, Int, Enum, Pointer, Array, Flexible, Function, Record, Named, Qualified}
use Rattle.c_types.specs.Plain.{plain, qualifiers_met}
use Rattle.c_rules.specs.Types.{decayed, decayed_from}
use Rattle.declarator_rules.specs.Used.{decayed_by}

maxes : (a b c : ℕ) → max b (max a c) ≡ max (max a b) c
maxes a b c = omega arith

or_swap : (p m q : ℕ) → bit_or m (bit_or p q) ≡ bit_or (bit_or p m) q
or_swap p m q = same_from_bits (bit_or m (bit_or p q)) (bit_or (bit_or p m) q) (λ i.
    bit_at_or m (bit_or p q) i
    ∙ ap (max (bit_at m i)) (bit_at_or p q i)
    ∙ maxes (bit_at p i) (bit_at m i) (bit_at q i)
    ∙ ap (λ x. max x (bit_at q i)) (sym (bit_at_or p m i))
    ∙ sym (bit_at_or (bit_or p m) q i))

decayed_more : (whole t : CType) (q : ℕ) → decayed_from whole q t ≡ decayed_by whole (plain t) (bit_or (qualifiers_met t) q)
decayed_more whole (Named n t) q = decayed_more whole t q
decayed_more whole (Qualified p t) q = decayed_more whole t (bit_or p q) ∙ ap (decayed_by whole (plain t)) (or_swap p (qualifiers_met t) q)
decayed_more whole Void q = refl
decayed_more whole (Int kind) q = refl
decayed_more whole (Enum e) q = refl
decayed_more whole (Pointer t) q = refl
decayed_more whole (Array t n) q = refl
decayed_more whole (Flexible t) q = refl
decayed_more whole (Function r ps) q = refl
decayed_more whole (Record k) q = refl

pub decayed_is : (t : CType) → decayed t ≡ decayed_by t (plain t) (qualifiers_met t)
decayed_is t = decayed_more t t 0 ∙ ap (decayed_by t (plain t)) (or_zero_r (qualifiers_met t))
