-- The entry points of allocation tokens.
use Rattle.std.specs.Prelude.{ℕ, ◌==◌, nat_lt, Bool, ◌&&◌, not, if◌then◌else◌, List, [], ◌∷◌, codes, Option, Some, None}
use Rattle.c_lexer.specs.Bytes.{is_digit}
use Rattle.c_lexer.specs.Number.{value_from}
use Rattle.library_names.specs.declared.library.Library.{Library}
use Rattle.library_names.specs.declared.library.Library.TheVariants as l
use Rattle.library_names.specs.declared.signature.Part.TheVariants as p
use Rattle.library_names.specs.declared.signature.Parameters.TheVariants as ps
use Rattle.library_names.specs.declared.signature.Signature.{Signature}
use Rattle.library_names.specs.Named.{Row}

abbrev row : List ℕ → Library → Row Library
row n a = record { name = n; value = a }

-- the entry points whose last parameter is the token
abbrev pub entries : List (Row Signature)
entries =
    record { name = codes "__alloc_token_malloc"; value = record { returned = p.Pointer; parameters = ps.Two p.Size p.Size } }
    ∷ record { name = codes "__alloc_token_calloc"; value = record { returned = p.Pointer; parameters = ps.Three p.Size p.Size p.Size } }
    ∷ record { name = codes "__alloc_token_realloc"; value = record { returned = p.Pointer; parameters = ps.Three p.Pointer p.Size p.Size } }
    ∷ []

-- the functions that have such entry points
abbrev pub fast : List (Row Library)
fast = row (codes "malloc") l.Malloc ∷ row (codes "calloc") l.Calloc ∷ row (codes "realloc") l.Realloc ∷ []

-- the token with one more digit
abbrev pub digit_taken : ℕ → (begun : Bool) → ℕ → Option ℕ
digit_taken v begun b =
    if is_digit b && nat_lt (value_from 10 v (b ∷ [])) 65536 && not (begun && (v == 0)) then Some (value_from 10 v (b ∷ [])) else None

-- what follows the token and a `_`
abbrev pub mark_taken : (begun : Bool) → ℕ → List ℕ → Option (List ℕ)
mark_taken begun b bs = if begun && (b == 95) then Some bs else None
