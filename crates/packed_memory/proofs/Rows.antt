-- A part of a row is written.
use Rattle.std.proofs.Common.{◌≡◌, ℕ, zero, suc, ◌+◌, ◌-◌, ◌≤◌, List, [], ◌∷◌, ◌++◌, length, take, drop, refl, sym, ap, ◌∙◌, arith}
use Rattle.std.proofs.lemmas.List.{length-take-le, length-drop, length-append, append-nil, append_assoc, take-append-drop, take-append-le, drop_at, drop-drop, drop-take, take-take}
use Rattle.packed_memory.specs.Packed.{over}

module _ {A : Type 0} where
  pub length-over : (xs : List A) (at : ℕ) (new : List A) → at + length new ≤ length xs → length (over xs at new) ≡ length xs
  length-over xs at new h =
      let a = length-append (take at xs ++ new) (drop (at + length new) xs) in
      let b = length-append (take at xs) new in
      let c = length-take-le at xs (omega arith) in
      let d = length-drop (at + length new) xs in
      omega (arith, a, b, c, d)

  pub over_nothing : (xs : List A) (at : ℕ) → over xs at [] ≡ xs
  over_nothing xs at =
      let z : at + 0 ≡ at = omega arith in
      ap (λ l. l ++ drop (at + 0) xs) (append-nil (take at xs)) ∙ ap (λ k. take at xs ++ drop k xs) z ∙ take-append-drop at xs

  -- what lies before it
  pub take-over_below : (n : ℕ) (xs : List A) (at : ℕ) (new : List A) → n ≤ at → at ≤ length xs → take n (over xs at new) ≡ take n xs
  take-over_below n xs at new h k =
      let l = length-take-le at xs k in
      ap (λ r. take n r) (append_assoc (take at xs) new (drop (at + length new) xs))
      ∙ take-append-le n (take at xs) (new ++ drop (at + length new) xs) (omega (arith, l))
      ∙ take-take n at xs h

  -- what lies behind it
  pub drop-over_above : (n : ℕ) (xs : List A) (at : ℕ) (new : List A) → at + length new ≤ n → at + length new ≤ length xs → drop n (over xs at new) ≡ drop n xs
  drop-over_above n xs at new h k =
      let l = length-append (take at xs) new in
      let t = length-take-le at xs (omega arith) in
      let w : length (take at xs ++ new) ≡ at + length new = omega (arith, l, t) in
      let e : n ≡ at + length new + (n - (at + length new)) = omega arith in
      let front = take at xs ++ new in
      let back = drop (at + length new) xs in
      let s = n - (at + length new) in
      let d : drop (at + length new) (front ++ back) ≡ back = drop_at front back (at + length new) w in
      ap (λ j. drop j (front ++ back)) e
      ∙ sym (drop-drop s (at + length new) (front ++ back))
      ∙ ap (λ r. drop s r) d
      ∙ drop-drop s (at + length new) xs
      ∙ ap (λ j. drop j xs) (sym e)

  -- a write behind `at`, seen from there
  pub drop-over : (at o : ℕ) (xs new : List A) → at + o + length new ≤ length xs → drop at (over xs (at + o) new) ≡ over (drop at xs) o new
  drop-over zero o xs new h =
      let z : 0 + o ≡ o = omega arith in
      ap (λ k. over xs k new) z
  drop-over (suc at) o [] new h = absurd (omega arith)
  drop-over (suc at) o (x ∷ xs) new h =
      let e : suc at + o ≡ suc (at + o) = omega arith in
      let f : suc (at + o) + length new ≡ suc (at + o + length new) = omega arith in
      let g : drop (suc at) (over (x ∷ xs) (suc (at + o)) new) ≡ drop at (over xs (at + o) new) = ap (λ k. drop (suc at) (x ∷ take (at + o) xs ++ new ++ drop k (x ∷ xs))) f in
      ap (λ k. drop (suc at) (over (x ∷ xs) k new)) e ∙ g ∙ drop-over at o xs new (omega arith)

  take_front : (front back : List A) (m n : ℕ) → length front ≡ m → m ≤ n → take n (front ++ back) ≡ front ++ take (n - m) back
  take_front [] back m n l h = let e : n ≡ n - m = omega (arith, l) in ap (λ k. take k back) e
  take_front (x ∷ front) back m zero l h = absurd (omega (arith, l))
  take_front (x ∷ front) back m (suc n) l h =
      let e : suc n - m ≡ n - length front = omega (arith, l) in
      ap (λ r. x ∷ r) (take_front front back (length front) n refl (omega (arith, l))) ∙ ap (λ k. x ∷ front ++ take k back) (sym e)

  pub take-over : (n o : ℕ) (xs new : List A) → o + length new ≤ n → n ≤ length xs → take n (over xs o new) ≡ over (take n xs) o new
  take-over n o xs new h k =
      let front = take o xs ++ new in
      let l = length-append (take o xs) new in
      let t = length-take-le o xs (omega arith) in
      let w : length front ≡ o + length new = omega (arith, l, t) in
      let e : n ≡ o + length new + (n - (o + length new)) = omega arith in
      take_front front (drop (o + length new) xs) (o + length new) n w h
      ∙ ap (λ r. r ++ new ++ take (n - (o + length new)) (drop (o + length new) xs)) (sym (take-take o n xs (omega arith)))
      ∙ ap (λ r. take o (take n xs) ++ new ++ r) (sym (drop-take (o + length new) (n - (o + length new)) xs) ∙ ap (λ j. drop (o + length new) (take j xs)) (sym e))

  -- what a write puts there
  pub part-over : (xs : List A) (at : ℕ) (new : List A) (n : ℕ) → n ≤ length new → at + length new ≤ length xs → take n (drop at (over xs at new)) ≡ take n new
  part-over xs at new n h k =
      let t = length-take-le at xs (omega arith) in
      ap (λ r. take n (drop at r)) (append_assoc (take at xs) new (drop (at + length new) xs))
      ∙ ap (λ r. take n r) (drop_at (take at xs) (new ++ drop (at + length new) xs) at t)
      ∙ take-append-le n new (drop (at + length new) xs) h

  -- a part of a part
  pub part_of_part : (xs : List A) (at size o n : ℕ) → o + n ≤ size → take n (drop o (take size (drop at xs))) ≡ take n (drop (at + o) xs)
  part_of_part xs at size o n h =
      let e : size ≡ o + (size - o) = omega arith in
      ap (λ k. take n (drop o (take k (drop at xs)))) e
      ∙ ap (λ r. take n r) (drop-take o (size - o) (drop at xs))
      ∙ take-take n (size - o) (drop o (drop at xs)) (omega arith)
      ∙ ap (λ r. take n r) (drop-drop o at xs)
