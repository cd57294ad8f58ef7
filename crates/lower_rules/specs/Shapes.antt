-- What the lowering asks of a type, behind typedef names and qualifiers.
use Rattle.std.specs.Prelude.{ℕ, ◌+◌, ◌*◌, ◌^◌, ◌&&◌, Bool, true, false, if◌then◌else◌, nat_lt, List, [], map, None, is_some, unwrap_or, slice_get}
use Rattle.std.specs.Option.{option_map}
use Rattle.name_places.specs.Placed.{place_of}
use Rattle.c_core.specs.Signatures.{Signature}
use Rattle.c_types.specs.CTypes.{CType, Void, Pointer, Array, Flexible, Function, Record, record_of}
use Rattle.c_types.specs.Layout.{size}
use Rattle.c_types.specs.Plain.{plain}
use Rattle.c_types.specs.Pieces.{record_name}
use Rattle.c_types.specs.Records.{members_of, offset_at}
use Rattle.c_types.specs.Spelling.{Names, spelling}
use Rattle.c_rules.specs.Known.{Known}
use Rattle.c_checked.specs.Told.{type_of}
use Rattle.signature_laws.specs.Told.{scalar_of, signature_told}

-- the type that was noted of a node
abbrev pub type_at : Known → ℕ → CType
type_at k node = unwrap_or (type_of k node) Void

abbrev pub is_scalar : CType → Bool
is_scalar t = is_some (scalar_of t)

-- ---- arrays, structs and unions

abbrev pub is_plain_array : CType → Bool
is_plain_array (Array t n) = true
is_plain_array t = false

-- 6.7.9, paragraphs 16 and 17: what is initialised by its parts
abbrev pub has_parts : CType → Bool
has_parts t = if is_plain_array (plain t) then true else is_some (record_of t)

abbrev pub plain_length : CType → ℕ
plain_length (Array t n) = n
plain_length t = 0

abbrev pub length_of : CType → ℕ
length_of t = plain_length (plain t)

-- what a value of the type points at, an array being its first element's address and a function its own (6.3.2.1, paragraphs
-- 3 and 4)
abbrev pub plain_pointed : CType → CType
plain_pointed (Pointer t) = t
plain_pointed (Array t n) = t
plain_pointed (Flexible t) = t
plain_pointed (Function r ps) = Function r ps
plain_pointed t = Void

abbrev pub pointed_to : CType → CType
pointed_to t = plain_pointed (plain t)

-- ---- sizes and offsets (6.5.3.4, 6.7.2.1); 1 stands where a type has no size, as nowhere in a unit that keeps the rules

abbrev pub size_within : ℕ → ℕ
size_within s = if nat_lt 0 s && nat_lt s (2 ^ 28) then s else 1

abbrev pub bytes_of : Known → CType → ℕ
bytes_of k t = size_within (unwrap_or (size k.records.layouts t) 1)

-- where the member with a name stands in a struct or union
abbrev pub member_number : Known → CType → List ℕ → ℕ
member_number k t name = unwrap_or (place_of name (map (λ m. m.name) (members_of k.records.members t))) 0

abbrev pub member_offset : Known → CType → List ℕ → ℕ
member_offset k t name = offset_at k.records.layouts t (member_number k t name)

-- what an entry of braces initialises: a type, and where it stands
pub record Part : Type 0 where
  pub type : CType
  pub offset : ℕ

abbrev pub member_type : Known → CType → ℕ → CType
member_type k t i = unwrap_or (option_map (λ m. m.type) (slice_get (members_of k.records.members t) i)) Void

-- entry i of the braces for a type at an offset: an element, a member, or the scalar itself (6.7.9, paragraphs 11 and 17)
abbrev pub plain_part : Known → CType → (at i : ℕ) → Part
plain_part k (Array t n) at i = record { type = t; offset = at + i * bytes_of k t }
plain_part k (Record r) at i = record { type = member_type k (Record r) i; offset = at + offset_at k.records.layouts (Record r) i }
plain_part k t at i = record { type = t; offset = at }

abbrev pub part_of : Known → CType → (at i : ℕ) → Part
part_of k t at i = plain_part k (plain t) at i

-- ---- functions (6.7.6.3)

-- what a function of the type takes and gives; another type takes and gives nothing
abbrev pub signature_of : CType → Signature
signature_of t = unwrap_or (signature_told t) (record { takes = []; gives = None })

abbrev pub names_of : Known → Names
names_of k = record { records = λ r. record_name k.records.heads r; enums = λ e. unwrap_or (option_map (λ x. x.name) (slice_get k.enums e)) [] }

abbrev pub spelled : Known → CType → List ℕ
spelled k t = spelling (names_of k) t
