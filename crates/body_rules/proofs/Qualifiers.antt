-- Qualifiers are gathered from the front.
use Rattle.std.proofs.Common.{◌≡◌, ◌<◌, ◌≤◌, ℕ, suc, max, bit_or, List, length, drop, map, get_or, sym, ap, ◌∙◌, arith, drop-cons}
use Rattle.std.specs.Int.{bit_at}
use Rattle.std.specs.Int.Bits.{or_zero_r}
use Rattle.std.proofs.lemmas.List.{drop_all}
use Rattle.c_tree.specs.Tok.{Word}
use Rattle.c_rules.specs.Specifiers.{qualifier, qualifiers_in}
use Rattle.std.proofs.lemmas.Nat.Bits.{bit_at_or, same_from_bits}

max_assoc : (a b c : ℕ) → max (max a b) c ≡ max a (max b c)
max_assoc a b c = omega arith

pub or_assoc : (a b c : ℕ) → bit_or (bit_or a b) c ≡ bit_or a (bit_or b c)
or_assoc a b c = same_from_bits (bit_or (bit_or a b) c) (bit_or a (bit_or b c)) (λ i.
    bit_at_or (bit_or a b) c i ∙ ap (λ x. max x (bit_at c i)) (bit_at_or a b i) ∙ max_assoc (bit_at a i) (bit_at b i) (bit_at c i)
    ∙ sym (ap (λ x. max (bit_at a i) x) (bit_at_or b c i)) ∙ sym (bit_at_or a (bit_or b c) i))

-- one qualifier more, in a list of what is seen as words
pub gathered_step : {A : Type 0} (f : A → Word) (first : A) (qs : List A) (met all i n : ℕ) → i < length qs → n ≡ qualifier (f (get_or qs i first))
    → all ≡ bit_or met (qualifiers_in (map f (drop i qs))) → all ≡ bit_or (bit_or met n) (qualifiers_in (map f (drop (suc i) qs)))
gathered_step f first qs met all i n l e h =
    h ∙ ap (λ xs. bit_or met (qualifiers_in (map f xs))) (drop-cons qs i first l)
    ∙ ap (λ k. bit_or met (bit_or k (qualifiers_in (map f (drop (suc i) qs))))) (sym e)
    ∙ sym (or_assoc met n (qualifiers_in (map f (drop (suc i) qs))))

-- all of them
pub gathered_all : {A : Type 0} (f : A → Word) (qs : List A) (met all i : ℕ) → length qs ≤ i → all ≡ bit_or met (qualifiers_in (map f (drop i qs))) → met ≡ all
gathered_all f qs met all i l h = sym (h ∙ ap (λ xs. bit_or met (qualifiers_in (map f xs))) (drop_all i qs l) ∙ or_zero_r met)
