-- The parts of an integer constant's spelling.
use Rattle.std.proofs.Common.{◌≡◌, ℕ, zero, suc, ◌+◌, Bool, true, false, not, ◌||◌, ◌&&◌, List, [], ◌∷◌, ◌++◌, length, take, drop, refl, sym, ◌∙◌, ap, arith, if◌then◌else◌}
use Rattle.std.specs.Prelude.{◌==◌}
use Rattle.std.specs.List.{prefix_len, list_any}
use Rattle.std.proofs.lemmas.Bool.Decides.{nat_tests}
use Rattle.num_ops.specs.declared.constants.Base.{Base}
use Rattle.num_ops.specs.declared.constants.Base.TheVariants as base
use Rattle.num_ops.specs.declared.constants.Length.{Length}
use Rattle.num_ops.specs.declared.constants.Length.TheVariants as long
use Rattle.c_lexer.specs.Bytes.{Each, is_between, is_digit, is_octal, is_hex}
use Rattle.c_lexer.specs.Number.{value_from, is_suffix, suffixes}
use Rattle.c_lexer.proofs.Fronts.{take_front, prefix_len_append}
use Rattle.c_lexer.proofs.Numbers.{Each_map}
use Rattle.c_lexer.proofs.Tables.{table_law}
use Rattle.c_constants.specs.Integers.{goes_on, without_suffix, is_unsigned, is_unsigned_letter, is_long_letter, length_of, length_from, longer, is_x, base_of, value_of}

hex_goes_on : (b : ℕ) → is_hex b ≡ true → goes_on b ≡ true
hex_goes_on b h = grind (arith, nat_tests)

octal_hex : (b : ℕ) → is_octal b ≡ true → is_hex b ≡ true
octal_hex b h = grind (arith, nat_tests)

digit_hex : (b : ℕ) → is_digit b ≡ true → is_hex b ≡ true
digit_hex b h = grind (arith, nat_tests)

abbrev stops : List ℕ → Bool
stops [] = true
stops (b ∷ bs) = not (goes_on b)

suffix_stops : (s : List ℕ) → is_suffix s ≡ true → stops s ≡ true
unfolding suffixes
suffix_stops s h = table_law stops suffixes s refl h

ends : (t : Bool) (n : ℕ) → not t ≡ true → (if t then n else 0) ≡ 0
ends true n e = cc
ends false n e = refl

no_more : (s : List ℕ) → stops s ≡ true → prefix_len goes_on s ≡ 0
no_more [] h = refl
no_more (b ∷ bs) h = ends (goes_on b) (1 + prefix_len goes_on bs) h

-- what is left without the suffix
pub left : (ds s : List ℕ) → Each is_hex ds → is_suffix s ≡ true → without_suffix (ds ++ s) ≡ ds
left ds s h k =
    let none = no_more s (suffix_stops s k) in
    let n : prefix_len goes_on (ds ++ s) ≡ length ds = prefix_len_append goes_on ds s (Each_map is_hex goes_on ds hex_goes_on h) ∙ (let e : length ds + prefix_len goes_on s ≡ length ds = omega (arith, none) in e) in
    ap (λ x. take x (ds ++ s)) n ∙ take_front ds s

pub octals : (ds : List ℕ) → Each is_octal ds → Each is_hex ds
octals ds h = Each_map is_octal is_hex ds octal_hex h

pub digits : (ds : List ℕ) → Each is_digit ds → Each is_hex ds
digits ds h = Each_map is_digit is_hex ds digit_hex h

pub not_zero : (d : ℕ) → is_between 49 57 d ≡ true → (d == 48) ≡ false
not_zero d h = grind (arith, nat_tests)

pub between_hex : (d : ℕ) → is_between 49 57 d ≡ true → is_hex d ≡ true
between_hex d h = grind (arith, nat_tests)

-- no octal digit, and no letter of a suffix, is an x
abbrev no_x : List ℕ → Bool
no_x [] = true
no_x (b ∷ bs) = not (is_x b)

suffix_no_x : (s : List ℕ) → is_suffix s ≡ true → no_x s ≡ true
unfolding suffixes
suffix_no_x s h = table_law no_x suffixes s refl h

octal_no_x : (b : ℕ) → is_octal b ≡ true → is_x b ≡ false
octal_no_x b h = grind (arith, nat_tests)

not_true : (b : Bool) → not b ≡ true → b ≡ false
not_true true e = cc
not_true false e = refl

pub octal_base : (ds s : List ℕ) → Each is_octal ds → is_suffix s ≡ true → base_of ((48 ∷ ds) ++ s) ≡ base.Octal
octal_base [] [] h k = refl
octal_base [] (b ∷ s) h k = let no : is_x b ≡ false = not_true (is_x b) (suffix_no_x (b ∷ s) k) in rw no refl
octal_base (d ∷ ds) s h k = let no : is_x d ≡ false = octal_no_x d h.0 in rw no refl

pub decimal_base : (d : ℕ) (ds s : List ℕ) → is_between 49 57 d ≡ true → base_of ((d ∷ ds) ++ s) ≡ base.Decimal
decimal_base d ds s h = let no = not_zero d h in rw no refl

pub hexadecimal_base : (x d : ℕ) (ds s : List ℕ) → (x == 120 || x == 88) ≡ true → base_of ((48 ∷ x ∷ d ∷ ds) ++ s) ≡ base.Hexadecimal
hexadecimal_base x d ds s h = rw h refl

-- ---- the suffix

hex_no_u : (b : ℕ) → is_hex b ≡ true → is_unsigned_letter b ≡ false
hex_no_u b h = grind (arith, nat_tests)

hex_no_l : (b : ℕ) → is_hex b ≡ true → is_long_letter b ≡ false
hex_no_l b h = grind (arith, nat_tests)

pub unsigned_told : (w s : List ℕ) → Each is_hex w → is_unsigned (w ++ s) ≡ is_unsigned s
unsigned_told [] s h = refl
unsigned_told (b ∷ w) s h = let no = hex_no_u b h.0 in rw no (unsigned_told w s h.1)

pub length_told : (w s : List ℕ) → Each is_hex w → length_of (w ++ s) ≡ length_of s
length_told [] s h = refl
length_told (b ∷ w) s h = ap (λ (x : Bool). length_from (if x then longer long.Plain else long.Plain) (w ++ s)) (hex_no_l b h.0) ∙ length_told w s h.1
