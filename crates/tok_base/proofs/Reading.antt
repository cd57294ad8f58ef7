-- Bytes that are read piece by piece.
use Rattle.std.proofs.Common.{◌≡◌, ℕ, ◌+◌, ◌<◌, ◌≤◌, min, List, [], ◌++◌, take, drop, length, Option, Some, None, IfSome, ap, sym, ◌∙◌, arith, subst, length-drop}
use Rattle.std.proofs.lemmas.List.{append_assoc, length-append, length-take, length-take-le, take-append-drop, drop-drop, nil_from_length}
use Rattle.std.proofs.Math.Seq.{take-append_seam}
use Rattle.std.specs.Io.KnownBytes.{Consumes}

-- what is left after the first n bytes of it
left : (bytes rest : List ℕ) (done n : ℕ) → rest ≡ drop done bytes → drop (done + n) bytes ≡ drop n rest
left bytes rest done n r = sym (drop-drop n done bytes) ∙ ap (drop n) (sym r)

-- the first n bytes of the rest, which now stand at the front of the buffer, and what is left are the rest
pub moved : (bytes rest buf new : List ℕ) (done n : ℕ) → rest ≡ drop done bytes → new ≡ take n rest → n ≤ length rest
    → drop done bytes ≡ take n (new ++ drop n buf) ++ drop (done + n) bytes
moved bytes rest buf new done n r e w =
    let len : length new ≡ n = ap length e ∙ length-take-le n rest w in
    let front : take n (new ++ drop n buf) ≡ new = subst (λ k. take k (new ++ drop n buf) ≡ new) len (take-append_seam new (drop n buf)) in
    sym (ap (λ l. l ++ drop (done + n) bytes) (front ∙ e) ∙ ap (λ l. take n rest ++ l) (left bytes rest done n r)
    ∙ take-append-drop n rest ∙ r)

-- nothing is moved into a buffer that is not empty only where nothing is left
pub ended : (bytes rest buf new : List ℕ) (done n most : ℕ) → rest ≡ drop done bytes → new ≡ take n rest
    → n ≡ min (min (length buf) (length rest)) most → 1 ≤ most → n ≡ 0 → 0 < length (new ++ drop n buf)
    → drop (done + n) bytes ≡ []
ended bytes rest buf new done n most r e m o z p =
    let len : length new ≡ min n (length rest) = ap length e ∙ length-take n rest in
    nil_from_length _ (ap length (left bytes rest done n r) ∙ length-drop n rest
    ∙ omega (arith, len, m, o, z, p, length-append new (drop n buf), length-drop n buf))

pub joined : (old mid new : Option (List ℕ)) (xs ys : List ℕ) → Consumes old mid xs → Consumes mid new ys → Consumes old new (xs ++ ys)
joined None mid new xs ys a b = tt
joined (Some all) None new xs ys a b = absurd a
joined (Some all) (Some rest) None xs ys a b = absurd b
joined (Some all) (Some rest) (Some end) xs ys a b = a ∙ ap (λ l. xs ++ l) b ∙ sym (append_assoc xs ys end)

-- of a rest of which these bytes were taken
pub longer : (old new : Option (List ℕ)) (bytes : List ℕ) (limit : ℕ) → Consumes old new bytes → limit < length bytes
    → IfSome old (λ all. limit < length all)
longer None new bytes limit a w = tt
longer (Some all) None bytes limit a w = absurd a
longer (Some all) (Some rest) bytes limit a w = omega (arith, w, ap length a, length-append bytes rest)
