-- A spelling from left to right: what stands before and behind the text inside a type, and the pieces still to be written.
use Rattle.std.specs.Prelude.{◌≡◌, ℕ, zero, suc, ◌+◌, ◌<◌, Bool, if◌then◌else◌, ◌==◌, bit_or, codes, List, [], ◌∷◌, ◌++◌, length, slice_get, unwrap_or}
use Rattle.std.specs.Option.{option_map}
use Rattle.c_types.specs.CTypes.{CType, CTypes, Void, Int, Enum, Pointer, Array, Flexible, Function, Record, Named, Qualified, no_types, one_type}
use Rattle.c_types.specs.Spelling.{Names, stripped, int_name, decimal, base_qualifiers, pointer_qualifiers, is_suffixed, spelled_parameters, spelled_more}
use Rattle.c_types.specs.Plain.{parameters_of}
use Rattle.c_types.specs.Table.{Table, type_at}
use Rattle.c_types.specs.declared.pieces.Inside.{Inside}
use Rattle.c_types.specs.declared.pieces.Inside.TheVariants as i
use Rattle.c_types.specs.declared.pieces.Piece.{Piece}
use Rattle.c_types.specs.declared.pieces.Piece.TheVariants as p
use Rattle.c_types.specs.declared.records.Head.{Head}
use Rattle.c_types.specs.declared.terms.Term.{Term}

-- the names of a table's records and enumerations
abbrev pub record_name : List Head → ℕ → List ℕ
record_name heads k = unwrap_or (option_map (λ h. h.name) (slice_get heads k)) []

abbrev pub enum_name : List (List ℕ) → ℕ → List ℕ
enum_name names e = unwrap_or (slice_get names e) []

abbrev pub names_of : Table → Names
names_of t = record { records = λ k. record_name t.records k; enums = λ e. enum_name t.enums e }

-- how a text inside begins
abbrev pub begins : List ℕ → Inside
begins [] = i.Nothing
begins (b ∷ bs) = if b == 91 then i.Bracket else i.Other

-- the space before it
abbrev pub gap : Inside → List ℕ
gap i.Nothing = []
gap i.Bracket = []
gap i.Other = 32 ∷ []

-- how it begins with an array's length behind it, and with a function's parameters
abbrev pub bracketed : Inside → Inside
bracketed i.Nothing = i.Bracket
bracketed i.Bracket = i.Bracket
bracketed i.Other = i.Other

abbrev pub called : Inside → Inside
called i.Nothing = i.Other
called i.Bracket = i.Bracket
called i.Other = i.Other

-- a star with its qualifiers, which may open parentheses
abbrev pub opened : Bool → List ℕ
opened b = if b then 40 ∷ [] else []

abbrev pub closed : Bool → List ℕ
closed b = if b then 41 ∷ [] else []

abbrev pub starred : ℕ → Inside → List ℕ
starred q n = if q == 0 then [] else pointer_qualifiers q ++ gap n

abbrev pub star_text : ℕ → Inside → Bool → List ℕ
star_text q n enclosed = opened enclosed ++ (42 ∷ starred q n)

abbrev pub base_text : ℕ → List ℕ → Inside → List ℕ
base_text q name n = (base_qualifiers q ++ name) ++ gap n

-- what stands before the text inside a type
abbrev pub before : Names → ℕ → CType → Inside → List ℕ
before names q Void n = base_text q (codes "void") n
before names q (Int kind) n = base_text q (int_name kind) n
before names q (Enum e) n = base_text q (names.enums e) n
before names q (Record k) n = base_text q (names.records k) n
before names q (Pointer t) n = before names 0 t i.Other ++ star_text q n (is_suffixed t)
before names q (Array t k) n = before names q t (bracketed n)
before names q (Flexible t) n = before names q t (bracketed n)
before names q (Function r ps) n = before names 0 r (called n)
before names q (Named s t) n = before names q t n
before names q (Qualified p t) n = before names (bit_or q p) t n

-- what stands behind it
abbrev pub behind : Names → CType → List ℕ
behind names Void = []
behind names (Int kind) = []
behind names (Enum e) = []
behind names (Record k) = []
behind names (Pointer t) = closed (is_suffixed t) ++ behind names t
behind names (Array t n) = (91 ∷ decimal n ++ 93 ∷ []) ++ behind names t
behind names (Flexible t) = (91 ∷ 93 ∷ []) ++ behind names t
behind names (Function r ps) = (40 ∷ spelled_parameters names ps) ++ (41 ∷ behind names r)
behind names (Named s t) = behind names t
behind names (Qualified p t) = behind names t

abbrev pub without : ℕ → CTypes → CTypes
without zero ps = ps
without (suc n) no_types = no_types
without (suc n) (one_type p ps) = without n ps

-- the text of a piece
abbrev pub piece_text : List Term → Names → Piece → List ℕ
piece_text ts names (p.Outer t n) = before names 0 (stripped (type_at ts t.0)) n
piece_text ts names (p.Before q t n) = before names q (type_at ts t.0) n
piece_text ts names (p.Star q n enclosed) = star_text q n enclosed
piece_text ts names (p.Behind t) = behind names (type_at ts t.0)
piece_text ts names (p.Parameters t) = spelled_parameters names (parameters_of (type_at ts t.0))
piece_text ts names (p.More t k) = spelled_more names (without k (parameters_of (type_at ts t.0)))
piece_text ts names p.Close = 41 ∷ []

-- the text of pieces, of which the last is written first
abbrev pub text : List Term → Names → List Piece → List ℕ
text ts names [] = []
text ts names (x ∷ xs) = text ts names xs ++ piece_text ts names x

-- how many steps a piece takes at most
abbrev pub before_work : CType → ℕ
before_work Void = 1
before_work (Int kind) = 1
before_work (Enum e) = 1
before_work (Record k) = 1
before_work (Pointer t) = before_work t + 2
before_work (Array t n) = before_work t + 1
before_work (Flexible t) = before_work t + 1
before_work (Function r ps) = before_work r + 1
before_work (Named s t) = before_work t + 1
before_work (Qualified p t) = before_work t + 1

abbrev mutual
  pub behind_work : CType → ℕ
  behind_work Void = 1
  behind_work (Int kind) = 1
  behind_work (Enum e) = 1
  behind_work (Record k) = 1
  behind_work (Pointer t) = behind_work t + 1
  behind_work (Array t n) = behind_work t + 1
  behind_work (Flexible t) = behind_work t + 1
  behind_work (Function r ps) = behind_work r + parameters_work ps + 2
  behind_work (Named s t) = behind_work t + 1
  behind_work (Qualified p t) = behind_work t + 1

  pub parameters_work : CTypes → ℕ
  parameters_work no_types = 1
  parameters_work (one_type p ps) = before_work p + behind_work p + parameters_work ps + 1

abbrev pub piece_work : List Term → Piece → ℕ
piece_work ts (p.Outer t n) = before_work (type_at ts t.0) + 1
piece_work ts (p.Before q t n) = before_work (type_at ts t.0)
piece_work ts (p.Star q n enclosed) = 1
piece_work ts (p.Behind t) = behind_work (type_at ts t.0)
piece_work ts (p.Parameters t) = parameters_work (parameters_of (type_at ts t.0))
piece_work ts (p.More t k) = parameters_work (without k (parameters_of (type_at ts t.0)))
piece_work ts p.Close = 1

abbrev pub work : List Term → List Piece → ℕ
work ts [] = 0
work ts (x ∷ xs) = work ts xs + piece_work ts x

-- the types of a piece are in the table
abbrev pub IsPiece : ℕ → Piece → Type 0
IsPiece n (p.Outer t k) = t.0 < n
IsPiece n (p.Before q t k) = t.0 < n
IsPiece n (p.Star q k enclosed) = Unit {0}
IsPiece n (p.Behind t) = t.0 < n
IsPiece n (p.Parameters t) = t.0 < n
IsPiece n (p.More t k) = t.0 < n
IsPiece n p.Close = Unit {0}

abbrev pub ArePieces : ℕ → List Piece → Type 0
ArePieces n [] = Unit {0}
ArePieces n (x ∷ xs) = IsPiece n x × ArePieces n xs

-- what was to be written is written or stands among the pieces, with fewer steps
pub record IsWritten (ts : List Term) (names : Names) (x : Piece) (out : List ℕ) (xs : List Piece) (out' : List ℕ) (xs' : List Piece) : Type 0 where
  pub text_is : out' ++ text ts names xs' ≡ out ++ (piece_text ts names x ++ text ts names xs)
  pub less : work ts xs' < piece_work ts x + work ts xs
  pub valid : ArePieces (length ts) xs'
