-- The first line of a text, and the first word of a line.
use Rattle.std.proofs.Common.{zero, suc, ◌≡◌, ◌≢◌, ⊎_elim, ℕ, ◌+◌, ◌<◌, ◌≤◌, Bool, true, false, cond, eqb, List, [], ◌∷◌, length, get_or, take, drop, None, refl, sym, ap, ◌∙◌, subst, arith}
use Rattle.std.proofs.lemmas.Bool.Decides.{eqb_tells}
use Rattle.std.proofs.lemmas.List.{drop_all}
use Rattle.std.proofs.lemmas.List.Splits.{slice_split-cons_yes, slice_split-cons_no, length-slice_split}
use Rattle.std.specs.List.{slice_split, onto_first}
use Rattle.std.specs.Prelude.{◌==◌}
use Rattle.trace_format.specs.Lines.{but_empty, lines, words}
use Rattle.trace_format.specs.Fields.{at_end}

pub cut_at : (c : ℕ) (xs : List ℕ) (n : ℕ) → n < length xs → ((k : ℕ) → k < n → get_or xs k 0 ≢ c) → get_or xs n 0 ≡ c → slice_split (λ b. eqb b c) xs ≡ take n xs ∷ slice_split (λ b. eqb b c) (drop (n + 1) xs)
cut_at c [] n lt f e = absurd (omega (arith, lt))
cut_at c (x ∷ xs) zero lt f e = ⊎_elim
    (λ (t : (eqb x c ≡ true) × (x ≡ c)). slice_split-cons_yes (λ b. eqb b c) x xs t.0)
    (λ (t : (eqb x c ≡ false) × (x ≢ c)). absurd (t.1 e))
    (eqb_tells x c)
cut_at c (x ∷ xs) (suc n) lt f e =
    let more = cut_at c xs n (omega (arith, lt)) (λ k h. f (suc k) (omega (arith, h))) e in
    let q : suc (n + 1) ≡ suc n + 1 = omega arith in
    ⊎_elim
    (λ (t : (eqb x c ≡ true) × (x ≡ c)). absurd (f 0 (omega arith) t.1))
    (λ (t : (eqb x c ≡ false) × (x ≢ c)).
    slice_split-cons_no (λ b. eqb b c) x xs t.0 ∙ ap (onto_first x) more ∙ ap (λ (m : ℕ). (x ∷ take n xs) ∷ slice_split (λ b. eqb b c) (drop m (x ∷ xs))) q)
    (eqb_tells x c)

pub cut_none : (c : ℕ) (xs : List ℕ) → ((k : ℕ) → k < length xs → get_or xs k 0 ≢ c) → slice_split (λ b. eqb b c) xs ≡ xs ∷ []
cut_none c [] f = refl
cut_none c (x ∷ xs) f =
    let more = cut_none c xs (λ k h. f (suc k) (omega (arith, h))) in
    ⊎_elim
    (λ (t : (eqb x c ≡ true) × (x ≡ c)). absurd (f 0 (omega arith) t.1))
    (λ (t : (eqb x c ≡ false) × (x ≢ c)). slice_split-cons_no (λ b. eqb b c) x xs t.0 ∙ ap (onto_first x) more)
    (eqb_tells x c)

but_empty_more : (l : List ℕ) (ls : List (List ℕ)) → 0 < length ls → but_empty (l ∷ ls) ≡ l ∷ but_empty ls
but_empty_more l [] some = absurd (omega (arith, some))
but_empty_more l (m ∷ ls) some = refl

pub lines_at : (xs : List ℕ) (n : ℕ) → n < length xs → ((k : ℕ) → k < n → get_or xs k 0 ≢ 10) → get_or xs n 0 ≡ 10 → lines xs ≡ take n xs ∷ lines (drop (n + 1) xs)
lines_at xs n lt f e =
    let long = length-slice_split (λ b. eqb b 10) (drop (n + 1) xs) in
    ap but_empty (cut_at 10 xs n lt f e) ∙ but_empty_more (take n xs) (slice_split (λ b. eqb b 10) (drop (n + 1) xs)) (omega (arith, long))

pub lines_none : (xs : List ℕ) → length xs ≡ 0 → lines xs ≡ []
lines_none [] e = refl
lines_none (x ∷ xs) e = absurd (omega (arith, e))

one_line : (xs : List ℕ) → 0 < length xs → but_empty (xs ∷ []) ≡ xs ∷ []
one_line [] some = absurd (omega (arith, some))
one_line (x ∷ xs) some = ⊎_elim
    (λ (t : (eqb (suc (length xs)) 0 ≡ true) × (suc (length xs) ≡ 0)). absurd (omega (arith, t.1)))
    (λ (t : (eqb (suc (length xs)) 0 ≡ false) × (suc (length xs) ≢ 0)). ap (λ (b : Bool). cond b [] ((x ∷ xs) ∷ [])) t.0)
    (eqb_tells (suc (length xs)) 0)

pub lines_last : (xs : List ℕ) (n : ℕ) → 0 < length xs → length xs ≤ n → n ≤ length xs → ((k : ℕ) → k < n → get_or xs k 0 ≢ 10) → lines xs ≡ xs ∷ lines (drop n xs)
lines_last xs n some le ge f =
    ap but_empty (cut_none 10 xs (λ k h. f k (omega (arith, h, le)))) ∙ one_line xs some ∙ ap (λ (ls : List (List ℕ)). xs ∷ ls) (sym (ap lines (drop_all n xs le)))

none_at_end : {A : Type 0} (ws : List (List ℕ)) (a : A) → 0 < length ws → at_end ws a ≡ None
none_at_end [] a some = absurd (omega (arith, some))
none_at_end (w ∷ ws) a some = refl

-- a line has a word, be it an empty one
pub at_end_words : {A : Type 0} (line : List ℕ) (a : A) → at_end (words line) a ≡ None
at_end_words line a = let long = length-slice_split (λ b. eqb b 32) line in none_at_end (words line) a (omega (arith, long))

pub not_empty : (xs : List ℕ) → (length xs == 0) ≡ false → 0 < length xs
not_empty [] e = absurd (cc)
not_empty (x ∷ xs) e = omega arith
