-- The bytes that literals stand for, by their spelling (ISO/IEC 9899:2018, 6.4.4.4 and 6.4.5).
use Rattle.std.specs.Prelude.{ℕ, ◌+◌, ◌*◌, ◌%◌, nat_lt, ◌==◌, ◌&&◌, if◌then◌else◌, List, [], ◌∷◌, ◌++◌, Option, Some, None, unwrap_or, ℤ, pos, slice_get, length}
use Rattle.num_ops.specs.declared.kinds.IntKind.TheVariants as k
use Rattle.num_ops.specs.Conversions.{converted}
use Rattle.c_lexer.specs.Bytes.{is_octal, is_hex}
use Rattle.c_lexer.specs.Number.{digit_value}
use Rattle.c_lexer.specs.Value.{simple_value}
use Rattle.c_constants.specs.declared.literals.Reading.{Reading}
use Rattle.c_constants.specs.declared.literals.Reading.TheVariants as r
use Rattle.c_constants.specs.declared.literals.Taken.{Taken}

-- a digit more in this base; an escape of a literal is below 256
abbrev pub next_value : ℕ → ℕ → ℕ → ℕ
next_value base v b = (v * base + digit_value b) % 256

-- what a byte of a literal gives: the byte of an escape that ended before it, its own, and what is being read behind it
abbrev pub taken : Option ℕ → Option ℕ → Reading → Taken
taken ended own reading = record { ended = ended; own = own; reading = reading }

-- behind a whole part, within quotes q; 92 is the backslash
abbrev pub take_between : ℕ → Option ℕ → ℕ → Taken
take_between q ended b = if b == q then taken ended None r.Closed else if b == 92 then taken ended None r.Escaped else taken ended (Some b) r.Between

-- behind a backslash; 120 is x
abbrev pub take_escaped : ℕ → Taken
take_escaped b =
    if b == 120 then taken None None (r.Hexadecimal 0)
    else if is_octal b then taken None None (r.Octal 1 (next_value 8 0 b))
    else taken None (Some (simple_value b)) r.Between

abbrev pub take_byte : ℕ → Reading → ℕ → Taken
take_byte q r.Between b = take_between q None b
take_byte q r.Closed b = taken None None r.Closed
take_byte q r.Escaped b = take_escaped b
take_byte q (r.Octal n v) b = if is_octal b && nat_lt n 3 then taken None None (r.Octal (n + 1) (next_value 8 v b)) else take_between q (Some v) b
take_byte q (r.Hexadecimal v) b = if is_hex b then taken None None (r.Hexadecimal (next_value 16 v b)) else take_between q (Some v) b

-- one byte before others, or none
abbrev pub put : Option ℕ → List ℕ → List ℕ
put (Some b) bs = b ∷ bs
put None bs = bs

-- the bytes that are read behind an opening quote q
abbrev pub bytes_from : ℕ → Reading → List ℕ → List ℕ
bytes_from q reading [] = []
bytes_from q reading (b ∷ bs) = put (take_byte q reading b).ended (put (take_byte q reading b).own (bytes_from q (take_byte q reading b).reading bs))

-- the bytes of a literal, which begins with its quote
abbrev pub literal_bytes : List ℕ → List ℕ
literal_bytes [] = []
literal_bytes (q ∷ bs) = bytes_from q r.Between bs

abbrev pub first_byte : List ℕ → ℕ
first_byte bs = unwrap_or (slice_get bs 0) 0

-- a character constant has the value of a char with its byte (6.4.4.4, paragraph 10)
abbrev pub char_value : List ℕ → ℤ
char_value w = converted k.Char (pos (first_byte (literal_bytes w)))

-- adjacent string literals are one (6.4.5, paragraph 5)
abbrev pub text_bytes : List (List ℕ) → List ℕ
text_bytes [] = []
text_bytes (w ∷ ws) = literal_bytes w ++ text_bytes ws

-- how many bytes they have, the zero behind them not counted
abbrev pub text_length : List (List ℕ) → ℕ
text_length ws = length (text_bytes ws)
