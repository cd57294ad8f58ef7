-- The numbers of a line.
use Rattle.std.specs.Prelude.{ℕ, bytes_eq, codes, List, [], ◌∷◌, Option, Some, None, if◌then◌else◌}
use Rattle.std.specs.Option.{option_and_then}
use Rattle.trace_format.specs.Lines.{words, take_number}
use Rattle.trace_format.specs.declared.lines.Fields.{Fields}
use Rattle.trace_format.specs.declared.lines.Fields.TheVariants.{Alloc, Free}

-- the first word is a number, with which and the words behind it one goes on
abbrev pub with_number : {A : Type 0} → List (List ℕ) → (ℕ → List (List ℕ) → Option A) → Option A
with_number ws next = option_and_then (λ p. next p.0 p.1) (take_number ws)

-- no word is left
abbrev pub at_end : {A : Type 0} → List (List ℕ) → A → Option A
at_end [] a = Some a
at_end (w ∷ ws) a = None

abbrev pub alloc_fields : List (List ℕ) → Option Fields
alloc_fields ws = with_number ws (λ worker xs. with_number xs (λ name ys. with_number ys (λ token zs. with_number zs (λ size rest. at_end rest (Alloc worker name token size)))))

abbrev pub free_fields : List (List ℕ) → Option Fields
free_fields ws = with_number ws (λ worker xs. with_number xs (λ name rest. at_end rest (Free worker name)))

-- `a WORKER NAME TOKEN SIZE` or `f WORKER NAME`
abbrev pub event_fields : List (List ℕ) → Option Fields
event_fields [] = None
event_fields (c ∷ ws) = if bytes_eq c (codes "a") then alloc_fields ws else if bytes_eq c (codes "f") then free_fields ws else None

-- `ranges N R`
abbrev pub ranges_fields : List (List ℕ) → Option (ℕ × ℕ)
ranges_fields [] = None
ranges_fields (c ∷ ws) = if bytes_eq c (codes "ranges") then with_number ws (λ count xs. with_number xs (λ size rest. at_end rest (count, size))) else None

-- `workers W`
abbrev pub workers_fields : List (List ℕ) → Option ℕ
workers_fields [] = None
workers_fields (c ∷ ws) = if bytes_eq c (codes "workers") then with_number ws (λ workers rest. at_end rest workers) else None
