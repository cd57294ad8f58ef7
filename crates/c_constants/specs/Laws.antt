-- The values are those of the grammar of constants and literals.
use Rattle.std.specs.Prelude.{◌≡◌, ℕ, ◌<◌, ◌^◌, true, ◌==◌, ◌||◌, List, ◌∷◌, ◌++◌}
use Rattle.num_ops.specs.declared.constants.Base.TheVariants as base
use Rattle.c_lexer.specs.Bytes.{Each, is_between, is_digit, is_octal, is_hex}
use Rattle.c_lexer.specs.Number.{value_from, is_suffix}
use Rattle.c_lexer.specs.Value.{Denotes}
use Rattle.c_constants.specs.Integers.{base_of, value_of, is_unsigned, length_of}
use Rattle.c_constants.specs.Literals.{literal_bytes}

-- a decimal, an octal and a hexadecimal constant with a suffix have their digits' value (6.4.4.1, paragraph 4)
abbrev pub DecimalValues : Type 0
DecimalValues =
    (d : ℕ) (ds s : List ℕ) → is_between 49 57 d ≡ true → Each is_digit ds → is_suffix s ≡ true
    → (base_of ((d ∷ ds) ++ s) ≡ base.Decimal) × (value_of ((d ∷ ds) ++ s) ≡ value_from 10 0 (d ∷ ds))

abbrev pub OctalValues : Type 0
OctalValues =
    (ds s : List ℕ) → Each is_octal ds → is_suffix s ≡ true
    → (base_of ((48 ∷ ds) ++ s) ≡ base.Octal) × (value_of ((48 ∷ ds) ++ s) ≡ value_from 8 0 (48 ∷ ds))

abbrev pub HexadecimalValues : Type 0
HexadecimalValues =
    (x d : ℕ) (ds s : List ℕ) → (x == 120 || x == 88) ≡ true → Each is_hex (d ∷ ds) → is_suffix s ≡ true
    → (base_of ((48 ∷ x ∷ d ∷ ds) ++ s) ≡ base.Hexadecimal) × (value_of ((48 ∷ x ∷ d ∷ ds) ++ s) ≡ value_from 16 0 (d ∷ ds))

-- a constant has the u and the letters l of its suffix
abbrev pub SuffixesTold : Type 0
SuffixesTold =
    (w s : List ℕ) → Each is_hex w → (is_unsigned (w ++ s) ≡ is_unsigned s) × (length_of (w ++ s) ≡ length_of s)

-- a literal that stands for bytes has these; its quotes are no backslashes
abbrev pub LiteralValues : Type 0
LiteralValues = (q : ℕ) (w values : List ℕ) → (q ≡ 92 → ⊥) → Denotes q w values → literal_bytes w ≡ values
