-- A number written in decimal is an integer constant.
use Rattle.std.proofs.Common.{◌≡◌, ℕ, zero, suc, ◌+◌, ◌*◌, ◌-◌, ◌^◌, ◌<◌, true, List, [], ◌∷◌, ◌++◌, map, get_or, refl, sym, ◌∙◌, ap, subst, arith}
use Rattle.std.specs.Prelude.{codes, if◌then◌else◌}
use Rattle.std.specs.Fmt.{decimal}
use Rattle.std.specs.Int.Digits.{digits_of, number_from_digits_after, AllBelowBase}
use Rattle.std.proofs.lemmas.Fmt.{decimal_digit, decimal-digits_of}
use Rattle.std.proofs.lemmas.Int.Digits.{number_digits_of, all_below_base_digits_of, first_digits_of}
use Rattle.std.proofs.lemmas.Bool.Decides.{nat_tests}
use Rattle.c_lexer.specs.Bytes.{Each, is_digit, is_between}
use Rattle.c_lexer.specs.Number as number
use Rattle.c_lexer.specs.Number.{IsConstant, octal, value_from, digit_value, is_suffix, suffixes}
use Rattle.c_lexer.specs.Token.{IsToken}
use Rattle.tok_base.specs.declared.token.Kind.TheVariants.{Number}

digit_byte : (d : ℕ) → d < 10 → is_digit (48 + d) ≡ true
digit_byte d h = grind (arith, nat_tests)

first_byte : (d : ℕ) → d < 10 → 0 < d → is_between 49 57 (48 + d) ≡ true
first_byte d h k = grind (arith, nat_tests)

digit_is : (d : ℕ) → d < 10 → digit_value (48 + d) ≡ d
digit_is d h =
    let rest = if is_between 97 102 (48 + d) then (48 + d) - 87 else (48 + d) - 55 in
    let e : digit_value (48 + d) ≡ (48 + d) - 48 = ap (λ x. if x then (48 + d) - 48 else (if is_between 97 102 (48 + d) then (48 + d) - 87 else (48 + d) - 55)) (digit_byte d h) in
    e ∙ (let m : (48 + d) - 48 ≡ d = omega arith in m)

abbrev bytes_of : List ℕ → List ℕ
bytes_of ds = map (λ d. 48 + d) ds

each_digit : (ds : List ℕ) → AllBelowBase 10 ds → Each is_digit (bytes_of ds)
each_digit [] h = tt
each_digit (d ∷ ds) h = (digit_byte d h.0, each_digit ds h.1)

value_is : (v : ℕ) (ds : List ℕ) → AllBelowBase 10 ds → value_from 10 v (bytes_of ds) ≡ number_from_digits_after 10 v ds
value_is v [] h = refl
value_is v (d ∷ ds) h = ap (λ x. value_from 10 (v * 10 + x) (bytes_of ds)) (digit_is d h.0) ∙ value_is (v * 10 + d) ds h.1

from_digits : (ds s : List ℕ) → AllBelowBase 10 ds → 0 < get_or ds 0 0 → number_from_digits_after 10 0 ds < 2 ^ 64 → is_suffix s ≡ true → IsConstant (bytes_of ds ++ s)
from_digits [] s h f v k = absurd (omega (arith, f))
from_digits (d ∷ ds) s h f v k =
    number.decimal (48 + d) (bytes_of ds) s refl (first_byte d h.0 f) (each_digit ds h.1) k (let e = value_is 0 (d ∷ ds) h in omega (arith, e, v))

pub decimal_constant : (n : ℕ) (s : List ℕ) → n < 2 ^ 64 → is_suffix s ≡ true → IsConstant (decimal n ++ s)
decimal_constant zero s h k =
    let P : List ℕ → Type 0 = λ w. IsConstant (w ++ s) in
    subst P (sym (decimal_digit 0 (omega arith))) (octal [] s refl tt k (omega arith))
decimal_constant (suc n) s h k =
    let P : List ℕ → Type 0 = λ w. IsConstant (w ++ s) in
    let e = number_digits_of 10 (suc n) (omega arith) in
    subst P (sym (decimal-digits_of (suc n) (omega arith) h))
    (from_digits (digits_of 10 (suc n)) s (all_below_base_digits_of 10 (suc n) (omega arith)) (first_digits_of 10 (suc n) (omega arith) (omega arith)) (omega (arith, e, h)) k)

pub decimal_token : (n : ℕ) → n < 2 ^ 64 → IsToken Number (decimal n ++ codes "UL")
unfolding suffixes
decimal_token n h = decimal_constant n (codes "UL") h refl
