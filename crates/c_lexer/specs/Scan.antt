-- How far a separator or a spelling goes, computed from its first byte on. The laws in proofs/ say that these are the lengths
-- of the definitions beside this file, so no public contract names them.
use Rattle.std.specs.Prelude.{ℕ, suc, ◌+◌, ◌*◌, ◌^◌, ◌≤◌, Bool, true, false, ◌&&◌, ◌||◌, ◌==◌, nat_le, nat_lt, List, [], ◌∷◌, take, drop, length, codes, Option, Some, None, option_map, if◌then◌else◌}
use Rattle.std.specs.List.{prefix_len, list_any}
use Rattle.c_lexer.specs.Bytes.{is_blank, is_space, is_digit, is_in_line, is_letter, is_name_byte, is_octal, is_hex}
use Rattle.c_lexer.specs.Name.{is_word}
use Rattle.c_lexer.specs.Number.{is_exponent, is_sign, is_number_byte, digit_value, value_from, is_suffix}
use Rattle.c_lexer.specs.Literal.{is_simple}
use Rattle.c_lexer.specs.Mark.{is_mark}
use Rattle.c_lexer.specs.declared.literal.Inside.{Inside}
use Rattle.c_lexer.specs.declared.literal.Inside.TheVariants.{Plain, Escaped, Octal, HexStart, Hex}
use Rattle.c_lexer.specs.declared.literal.Next.{Next}
use Rattle.c_lexer.specs.declared.literal.Next.TheVariants.{Closed, Wrong, Goes, Begins}
use Rattle.c_lexer.specs.declared.spelling.First.{First}
use Rattle.c_lexer.specs.declared.spelling.First.TheVariants.{Letter, Digit, Dot, Single, Double, Other}
use Rattle.c_lexer.specs.declared.piece.Piece.{Piece}
use Rattle.c_lexer.specs.declared.piece.Piece.TheVariants.{Skipped, Taken, Neither}
use Rattle.tok_base.specs.declared.token.Kind.{Kind}
use Rattle.tok_base.specs.declared.token.Kind.TheVariants.{Name, Word, Number, Char, Text, Mark}

-- ---- separators

-- behind /*, where star says that the byte before is a *
abbrev pub comment_len : Bool → List ℕ → Option ℕ
comment_len star [] = None
comment_len star (b ∷ bs) = if star && b == 47 then Some 1 else option_map suc (comment_len (b == 42) bs)

-- the text begins with the word
abbrev pub begins_with : List ℕ → List ℕ → Bool
begins_with [] text = true
begins_with (a ∷ w) [] = false
begins_with (a ∷ w) (b ∷ text) = a == b && begins_with w text

abbrev pub begins_digit : List ℕ → Bool
begins_digit [] = false
begins_digit (b ∷ bs) = is_digit b

abbrev pub is_directive : List ℕ → Bool
is_directive m = begins_digit m || begins_with (codes "line") m || begins_with (codes "pragma") m

-- behind the #
abbrev pub is_marker : List ℕ → Bool
is_marker [] = false
is_marker (b ∷ bs) = if is_space b then is_marker bs else is_directive (b ∷ bs)

-- behind a /
abbrev pub slash_len : List ℕ → Option ℕ
slash_len [] = None
slash_len (b ∷ bs) = if b == 42 then option_map (λ n. 2 + n) (comment_len false bs) else if b == 47 then Some (2 + prefix_len is_in_line bs) else None

abbrev pub separator_len : Bool → List ℕ → Option ℕ
separator_len lead [] = None
separator_len lead (b ∷ bs) =
    if is_blank b then Some 1
    else if b == 47 then slash_len bs
    else if b == 35 && (lead && is_marker bs) then Some (1 + prefix_len is_in_line bs)
    else None

-- ---- spellings

-- behind the first digit, where exponent says that the byte before is e, E, p or P
abbrev pub number_len : Bool → List ℕ → ℕ
number_len exponent [] = 0
number_len exponent (b ∷ bs) = if is_number_byte b || (exponent && is_sign b) then suc (number_len (is_exponent b) bs) else 0

abbrev pub mark_len : List ℕ → Option ℕ
mark_len text =
    if nat_le 3 (length text) && is_mark (take 3 text) then Some 3
    else if nat_le 2 (length text) && is_mark (take 2 text) then Some 2
    else if nat_le 1 (length text) && is_mark (take 1 text) then Some 1
    else None

abbrev pub mark1 : ℕ → Bool
mark1 a = list_any (λ x. x == a) (codes "[](){}.&*+-~!/%<>^|?:;=,")

abbrev pub mark2 : ℕ → ℕ → Bool
mark2 a b = (b == 61 && list_any (λ x. x == a) (codes "<>=!*/%+-&^|")) || (a == b && list_any (λ x. x == a) (codes "+-<>&|")) || (a == 45 && b == 62)

abbrev pub mark3 : ℕ → ℕ → ℕ → Bool
mark3 a b c = (a == 46 && b == 46 && c == 46) || (c == 61 && a == b && (a == 60 || a == 62))

-- is_mark by cases on the length
abbrev pub mark_test : List ℕ → Bool
mark_test [] = false
mark_test (a ∷ []) = mark1 a
mark_test (a ∷ b ∷ []) = mark2 a b
mark_test (a ∷ b ∷ c ∷ []) = mark3 a b c
mark_test (a ∷ b ∷ c ∷ d ∷ w) = false

-- ---- literals

-- a byte of a literal within quotes q, where it is no more of an escape
abbrev pub plain_step : ℕ → ℕ → Next
plain_step q b = if b == q then Closed else if b == 92 then Begins Escaped else if b == 10 then Wrong else Begins Plain

abbrev pub escaped_step : ℕ → Next
escaped_step b =
    if is_octal b then Goes (Octal 1 (0 * 8 + digit_value b))
    else if b == 120 then Goes HexStart
    else if is_simple b then Goes Plain
    else Wrong

abbrev pub octal_step : ℕ → ℕ → ℕ → ℕ → Next
octal_step q k v b =
    if is_octal b && nat_lt k 3 then (if nat_le (v * 8 + digit_value b) 255 then Goes (Octal (suc k) (v * 8 + digit_value b)) else Wrong)
    else plain_step q b

abbrev pub hex_start_step : ℕ → Next
hex_start_step b = if is_hex b then Goes (Hex (0 * 16 + digit_value b)) else Wrong

abbrev pub hex_step : ℕ → ℕ → ℕ → Next
hex_step q v b =
    if is_hex b then (if nat_le (v * 16 + digit_value b) 255 then Goes (Hex (v * 16 + digit_value b)) else Wrong)
    else plain_step q b

abbrev pub step : ℕ → Inside → ℕ → Next
step q Plain b = plain_step q b
step q Escaped b = escaped_step b
step q (Octal k v) b = octal_step q k v b
step q HexStart b = hex_start_step b
step q (Hex v) b = hex_step q v b

-- whether a literal within quotes q may have this many parts
abbrev pub allows : ℕ → ℕ → Bool
allows q parts = q == 34 || parts == 1

-- the length of what is left of a literal, its closing quote with it, in which so many parts have begun
abbrev pub literal_len : ℕ → Inside → ℕ → List ℕ → Option ℕ
literal_len q s parts [] = None
literal_len q s parts (b ∷ bs) = elim (step q s b) [
  | Closed ↦ (if allows q parts then Some 1 else None)
  | Wrong ↦ None
  | Goes t ↦ option_map suc (literal_len q t parts bs)
  | Begins t ↦ option_map suc (literal_len q t (suc parts) bs)
]

-- ---- all spellings

abbrev pub class_of : ℕ → First
class_of b =
    if is_letter b then Letter
    else if is_digit b then Digit
    else if b == 46 then Dot
    else if b == 39 then Single
    else if b == 34 then Double
    else Other

abbrev pub spelling_at : First → ℕ → List ℕ → Option ℕ
spelling_at Letter b bs = Some (suc (prefix_len is_name_byte bs))
spelling_at Digit b bs = Some (suc (number_len false bs))
spelling_at Dot b bs = if begins_digit bs then Some (suc (number_len false bs)) else mark_len (b ∷ bs)
spelling_at Single b bs = option_map suc (literal_len b Plain 0 bs)
spelling_at Double b bs = option_map suc (literal_len b Plain 0 bs)
spelling_at Other b bs = mark_len (b ∷ bs)

abbrev pub spelling_len : List ℕ → Option ℕ
spelling_len [] = None
spelling_len (b ∷ bs) = spelling_at (class_of b) b bs

-- ---- constants and kinds

abbrev pub in_base : ℕ → ℕ → Bool
in_base base b = if base == 8 then is_octal b else if base == 10 then is_digit b else is_hex b

-- digits of this base, of a value below 2 ^ 64, and a suffix
abbrev pub fits : ℕ → List ℕ → Bool
fits base w = nat_lt (value_from base 0 (take (prefix_len (in_base base) w) w)) (2 ^ 64) && is_suffix (drop (prefix_len (in_base base) w) w)

abbrev pub hex_fits : List ℕ → Bool
hex_fits [] = false
hex_fits (d ∷ ds) = is_hex d && fits 16 (d ∷ ds)

-- behind a first 0
abbrev pub zero_fits : List ℕ → Bool
zero_fits [] = true
zero_fits (x ∷ ds) = if x == 120 || x == 88 then hex_fits ds else fits 8 (48 ∷ x ∷ ds)

abbrev pub is_constant : List ℕ → Bool
is_constant [] = false
is_constant (d ∷ ds) = if d == 48 then zero_fits ds else is_digit d && fits 10 (d ∷ ds)

abbrev pub kind_at : First → List ℕ → Option Kind
kind_at Letter w = Some (if is_word w then Word else Name)
kind_at Digit w = if is_constant w then Some Number else None
kind_at Dot w = if begins_digit (drop 1 w) then None else Some Mark
kind_at Single w = Some Char
kind_at Double w = Some Text
kind_at Other w = Some Mark

-- the kind of token that a spelling is
abbrev pub kind_of : List ℕ → Option Kind
kind_of [] = None
kind_of (b ∷ bs) = kind_at (class_of b) (b ∷ bs)

-- ---- pieces

abbrev pub opens_comment : List ℕ → Bool
opens_comment [] = false
opens_comment (a ∷ []) = false
opens_comment (a ∷ b ∷ bs) = a == 47 && b == 42

abbrev pub kinded : Option Kind → ℕ → Piece
kinded None n = Neither
kinded (Some k) n = Taken k n

abbrev pub token_at : Option ℕ → List ℕ → Piece
token_at None bytes = Neither
token_at (Some n) bytes = kinded (kind_of (take n bytes)) n

abbrev pub piece_at : Option ℕ → List ℕ → Piece
piece_at (Some n) bytes = Skipped n
piece_at None bytes = if opens_comment bytes then Neither else token_at (spelling_len bytes) bytes

-- the separator or token at the front
abbrev pub piece : Bool → List ℕ → Piece
piece lead bytes = piece_at (separator_len lead bytes) bytes

-- the bytes of a piece are there
abbrev pub IsWithin : List ℕ → Piece → Type 0
IsWithin bytes (Skipped n) = (1 ≤ n) × (n ≤ length bytes)
IsWithin bytes (Taken k n) = (1 ≤ n) × (n ≤ length bytes)
IsWithin bytes Neither = Unit {0}
