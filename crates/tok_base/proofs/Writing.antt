-- A text that is written piece by piece.
use Rattle.std.proofs.Common.{◌≡◌, ℕ, ◌+◌, ◌≤◌, List, ◌++◌, take, drop, length, Option, Some, None, ap, sym, ◌∙◌, arith, subst, length-drop}
use Rattle.std.proofs.lemmas.List.{append_assoc}
use Rattle.std.proofs.Math.Seq.{take-add}
use Rattle.std.specs.Io.KnownBytes.{Appends}
use Rattle.tok_base.specs.Sink.{HasWritten}

appended : (old mid new : Option (List ℕ)) (bytes : List ℕ) (n m : ℕ) → Appends old mid (take n bytes)
    → Appends mid new (take m (drop n bytes)) → Appends old new (take (n + m) bytes)
appended None mid new bytes n m a b = tt
appended (Some xs) None new bytes n m a b = absurd a
appended (Some xs) (Some ys) None bytes n m a b = absurd b
appended (Some xs) (Some ys) (Some zs) bytes n m a b =
    b ∙ ap (λ l. l ++ take m (drop n bytes)) a ∙ append_assoc xs (take n bytes) (take m (drop n bytes)) ∙ ap (λ l. xs ++ l) (sym (take-add n m bytes))

-- a write of m bytes of what is left
pub goes_on : (before mid now : ℕ) (old between new : Option (List ℕ)) (bytes rest : List ℕ) (n m : ℕ)
    → HasWritten before mid old between bytes n → rest ≡ drop n bytes → m ≤ length rest
    → Appends between new (take m rest) → now ≡ mid → HasWritten before now old new bytes (n + m)
goes_on before mid now old between new bytes rest n m h e w b k =
    let P : List ℕ → Type 0 = λ l. Appends between new (take m l) in
    let len : length rest ≡ length (drop n bytes) = ap length e in
    record {
      within = omega (arith, w, len, length-drop n bytes, h.within);
      written = appended old between new bytes n m h.written (subst P e b);
      kept = k ∙ h.kept;
    }
