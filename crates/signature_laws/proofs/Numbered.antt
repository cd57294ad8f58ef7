-- The words for a type without a name.
use Rattle.std.proofs.Common.{◌≡◌, ℕ, ◌+◌, ◌%◌, ◌^◌, ◌<◌, List, [], ◌∷◌, ◌++◌, true, nat_le, decimal, refl, inr, arith}
use Rattle.std.proofs.lemmas.Bool.{and_from, le-leb}
use Rattle.std.proofs.lemmas.Fmt.{decimal_by_steps}
use Rattle.c_lexer.specs.Bytes.{is_digit, Each}
use Rattle.signature_laws.specs.Laws.{UnnamedIsName}

digit : (n : ℕ) → n < 10 → is_digit (48 + n) ≡ true
digit n l = and_from (nat_le 48 (48 + n)) (nat_le (48 + n) 57) (le-leb 48 (48 + n) (omega arith)) (le-leb (48 + n) 57 (omega arith))

each_append : (ds es : List ℕ) → Each is_digit ds → Each is_digit es → Each is_digit (ds ++ es)
each_append [] es h k = k
each_append (d ∷ ds) es h k = (h.0, each_append ds es h.1 k)

digits : (n : ℕ) → n < 2 ^ 64 → Each is_digit (decimal n)
digits = decimal_by_steps (λ n ds. Each is_digit ds) (λ n l. (digit n l, tt)) (λ n ds l h. each_append ds ((48 + n % 10) ∷ []) h (digit (n % 10) (omega arith), tt))

pub unnamed_is_name : UnnamedIsName
unnamed_is_name n l = inr (decimal n, digits n l, refl)
