-- What a function takes and gives, read from the spelling of its type (ISO/IEC 9899:2018, 6.7.7): `int (void)`,
-- `char *(const char *, unsigned long)`, `int (*(int))(void)`. A function gives a scalar or nothing, and takes scalars.
use Rattle.std.specs.Prelude.{ℕ, ◌+◌, ◌-◌, Bool, true, false, not, ◌&&◌, ◌||◌, ◌==◌, if◌then◌else◌, List, [], ◌∷◌, take, drop, length, map, Option, Some, None, codes, bytes_eq}
use Rattle.num_ops.specs.declared.kinds.IntKind.{IntKind}
use Rattle.num_ops.specs.declared.kinds.IntKind.TheVariants as k
use Rattle.c_core.specs.declared.values.Scalar.{Scalar}
use Rattle.c_core.specs.declared.values.Scalar.TheVariants as scalar

pub record Signature : Type 0 where
  pub takes : List Scalar
  -- None for `void`
  pub gives : Option Scalar

abbrev pub integer_names : List (List ℕ × IntKind)
integer_names =
    (codes "_Bool", k.Bool) ∷ (codes "char", k.Char) ∷ (codes "signed char", k.SChar) ∷ (codes "unsigned char", k.UChar)
    ∷ (codes "short", k.Short) ∷ (codes "unsigned short", k.UShort) ∷ (codes "int", k.Int) ∷ (codes "unsigned int", k.UInt)
    ∷ (codes "long", k.Long) ∷ (codes "unsigned long", k.ULong) ∷ (codes "long long", k.LongLong)
    ∷ (codes "unsigned long long", k.ULongLong) ∷ []

-- 6.7.2.2, paragraph 4: any other name is that of an enumerated type, whose values have the type `int`
abbrev pub kind_in : List (List ℕ × IntKind) → List ℕ → IntKind
kind_in [] name = k.Int
kind_in (entry ∷ entries) name = if bytes_eq entry.0 name then entry.1 else kind_in entries name

-- a pointer where a `*` stands in it
abbrev pub has_star : List ℕ → Bool
has_star [] = false
has_star (c ∷ text) = (c == 42) || has_star text

abbrev pub scalar_named : List ℕ → Scalar
scalar_named name = if has_star name then scalar.Ptr else scalar.Int (kind_in integer_names name)

abbrev pub starts : List ℕ → List ℕ → Bool
starts word text = bytes_eq (take (length word) text) word

abbrev pub without : List ℕ → List ℕ → List ℕ
without word text = if starts word text then drop (length word) text else text

-- ---- the result

-- the bracket that opens the function's own parameters: `(*` opens a declarator, `(unnamed #0)` is a name
abbrev pub opens_parameters : ℕ → List ℕ → Bool
opens_parameters c text = (c == 40) && not (starts (codes "*") text || starts (codes "unnamed #") text)

-- the text before the function's own parameters
abbrev pub front : List ℕ → List ℕ
front [] = []
front (c ∷ text) = if opens_parameters c text then [] else c ∷ front text

abbrev pub without_last : List ℕ → List ℕ
without_last [] = []
without_last (c ∷ []) = []
without_last (c ∷ d ∷ text) = c ∷ without_last (d ∷ text)

-- a type's name without qualifiers and the blank behind it
abbrev pub result_name : List ℕ → List ℕ
result_name text = without (codes "volatile ") (without (codes "const ") (without_last text))

abbrev pub result_named : List ℕ → Option Scalar
result_named text =
    if has_star text then Some scalar.Ptr
    else (if bytes_eq (result_name text) (codes "void") then None else Some (scalar_named (result_name text)))

-- ---- the parameters

-- how many brackets are open behind a character
abbrev pub depth_behind : ℕ → ℕ → ℕ
depth_behind c depth = if c == 40 then depth + 1 else (if c == 41 then depth - 1 else depth)

-- the text up to the bracket that closes it
abbrev pub inside : (depth : ℕ) → List ℕ → List ℕ
inside depth [] = []
inside depth (c ∷ text) = if (c == 41) && (depth == 0) then [] else c ∷ inside (depth_behind c depth) text

-- a character before the pieces that follow it: a comma outside of brackets parts two of them
abbrev pub cut : (parts : Bool) → ℕ → List (List ℕ) → List (List ℕ)
cut true c rest = [] ∷ rest
cut false c [] = (c ∷ []) ∷ []
cut false c (piece ∷ rest) = (c ∷ piece) ∷ rest

abbrev pub pieces : (depth : ℕ) → List ℕ → List (List ℕ)
pieces depth [] = [] ∷ []
pieces depth (c ∷ text) = cut ((c == 44) && (depth == 0)) c (pieces (depth_behind c depth) text)

abbrev pub parameters_named : List ℕ → List Scalar
parameters_named text =
    if bytes_eq text (codes "void") then [] else map (λ piece. scalar_named (without (codes " ") piece)) (pieces 0 text)

-- 6.7.6.3: what a function of this type takes and gives
abbrev pub signature : List ℕ → Signature
signature type = record {
  takes = parameters_named (inside 0 (drop (length (front type) + 1) type));
  gives = result_named (front type);
}
