-- Rules 1, 2, 7, 8 and 34: names and tags (ISO/IEC 9899:2018, 6.2.1, 6.7, 6.7.2.3).
use Rattle.std.specs.Prelude.{ℕ, ◌==◌, nat_lt, Bool, true, false, ◌&&◌, ◌||◌, not, if◌then◌else◌, List, [], ◌∷◌, codes, Option, Some, None}
use Rattle.num_ops.specs.declared.kinds.IntKind.TheVariants as k
use Rattle.c_lexer.specs.Bytes.{is_digit}
use Rattle.c_lexer.specs.Number.{value_from}
use Rattle.c_tree.specs.Text.{same_text}
use Rattle.c_types.specs.CTypes.{CType, Void, Int, Pointer, Function, Qualified, no_types, one_type}
use Rattle.c_types.specs.Compatible.{is_same}
use Rattle.c_types.specs.Records.{MemberOf}
use Rattle.c_rules.specs.World.{World, Entry, Tag, find_name, is_here, is_file_scope, is_listed}
use Rattle.c_rules.specs.World as world
use Rattle.c_rules.specs.declared.known.Sort.{Sort}
use Rattle.c_rules.specs.declared.known.Sort.TheVariants as sort
use Rattle.c_rules.specs.declared.known.TagSort.{TagSort}
use Rattle.c_rules.specs.declared.known.TagSort.TheVariants.{Struct, Union, Enumeration}

-- ---- 1: an object, a function or an enumerator in scope

abbrev pub is_alias : Sort → Bool
is_alias sort.Alias = true
is_alias s = false

abbrev pub names_value : Option Entry → Bool
names_value None = false
names_value (Some e) = not (is_alias e.sort)

-- ---- 2: once per block; at file scope again with the same type and sort, and with one body and one initialiser at most

abbrev pub sort_number : Sort → ℕ
sort_number (sort.Object n f) = 0
sort_number (sort.Function n) = 1
sort_number (sort.Enumerator z) = 2
sort_number sort.Alias = 3

-- an enumerator is not declared again
abbrev pub are_same_sorts : Sort → Sort → Bool
are_same_sorts s t = (sort_number s == sort_number t) && not (sort_number s == 2)

-- where a declarator breaks 4 or 5 it makes no type, so none that is the same
abbrev pub agrees : Sort → CType → (is_made : Bool) → Option Entry → Bool
agrees s t is_made None = true
agrees s t is_made (Some e) = are_same_sorts s e.sort && is_made && is_same t e.type

abbrev pub may_be_again : World → List ℕ → Sort → CType → (is_made : Bool) → Bool
may_be_again w n s t is_made = if is_file_scope w then agrees s t is_made (find_name n w) else not (is_here w n)

abbrev pub is_alias_entry : Option Entry → Bool
is_alias_entry None = false
is_alias_entry (Some e) = is_alias e.sort

-- a typedef name is nowhere declared as something else
abbrev pub stays_alias : World → List ℕ → Sort → Bool
stays_alias w n s =
    if is_alias s then not (is_listed n w.others) else not (is_alias_entry (find_name n w))

-- `completes`: with a body or an initialiser
abbrev pub may_be_named : World → List ℕ → Sort → CType → (is_made completes : Bool) → Bool
may_be_named w n s t is_made completes =
    may_be_again w n s t is_made && stays_alias w n s && not (completes && is_file_scope w && is_listed n w.completed)

-- ---- 7: a tag is used as one sort, and defined once

abbrev pub tag_number : TagSort → ℕ
tag_number Struct = 0
tag_number Union = 1
tag_number Enumeration = 2

abbrev pub is_tag_of : TagSort → Option Tag → Bool
is_tag_of s None = true
is_tag_of s (Some t) = tag_number s == tag_number t.sort

-- ---- 8: member names differ

abbrev pub is_member_name : List ℕ → List MemberOf → Bool
is_member_name n [] = false
is_member_name n (m ∷ ms) = same_text n m.name || is_member_name n ms

abbrev pub all_differ : List MemberOf → Bool
all_differ [] = true
all_differ (m ∷ ms) = not (is_member_name m.name ms) && all_differ ms

-- ---- 34: the types of the library's functions and of the entry points

abbrev size : CType
size = Int k.ULong

abbrev any_pointer : CType
any_pointer = Pointer Void

abbrev const_pointer : CType
const_pointer = Pointer (Qualified 1 Void)

abbrev of_one : CType → CType → CType
of_one r p = Function r (one_type p no_types)

abbrev of_two : CType → CType → CType → CType
of_two r p q = Function r (one_type p (one_type q no_types))

abbrev of_three : CType → CType → CType → CType → CType
of_three r p q s = Function r (one_type p (one_type q (one_type s no_types)))

pub record Prototype : Type 0 where
  pub name : List ℕ
  pub type : CType

abbrev prototype : List ℕ → CType → Prototype
prototype n t = record { name = n; type = t }

-- the library's functions in the order of their numbers
unfoldable pub library : List Prototype
library =
    prototype (codes "malloc") (of_one any_pointer size)
    ∷ prototype (codes "calloc") (of_two any_pointer size size)
    ∷ prototype (codes "realloc") (of_two any_pointer any_pointer size)
    ∷ prototype (codes "free") (of_one Void any_pointer)
    ∷ prototype (codes "getchar") (Function (Int k.Int) no_types)
    ∷ prototype (codes "putchar") (of_one (Int k.Int) (Int k.Int))
    ∷ prototype (codes "memcpy") (of_three any_pointer any_pointer const_pointer size)
    ∷ prototype (codes "memmove") (of_three any_pointer any_pointer const_pointer size)
    ∷ prototype (codes "memset") (of_three any_pointer any_pointer (Int k.Int) size)
    ∷ prototype (codes "memcmp") (of_three (Int k.Int) const_pointer const_pointer size)
    ∷ prototype (codes "strlen") (of_one size (Pointer (Qualified 1 (Int k.Char))))
    ∷ prototype (codes "exit") (of_one Void (Int k.Int))
    ∷ prototype (codes "abort") (Function Void no_types)
    ∷ []

-- the entry points, whose last parameter is the token
unfoldable pub entry_points : List Prototype
entry_points =
    prototype (codes "__alloc_token_malloc") (of_two any_pointer size size)
    ∷ prototype (codes "__alloc_token_calloc") (of_three any_pointer size size size)
    ∷ prototype (codes "__alloc_token_realloc") (of_three any_pointer any_pointer size size)
    ∷ []

abbrev pub type_known : List ℕ → List Prototype → Option CType
type_known n [] = None
type_known n (x ∷ xs) = if same_text n x.name then Some x.type else type_known n xs

abbrev pub without_front : List ℕ → List ℕ → Option (List ℕ)
without_front [] n = Some n
without_front (x ∷ xs) [] = None
without_front (x ∷ xs) (b ∷ bs) = if x == b then without_front xs bs else None

-- what follows the digits of a decimal number below 65,536 without leading zeros, and `_`
abbrev pub behind_token : ℕ → Bool → List ℕ → Option (List ℕ)
behind_token v begun [] = None
behind_token v begun (b ∷ bs) =
    if is_digit b && nat_lt (value_from 10 v (b ∷ [])) 65536 && not (begun && (v == 0)) then behind_token (value_from 10 v (b ∷ [])) true bs
    else if begun && (b == 95) then Some bs else None

abbrev pub fast_type : Option (List ℕ) → Option CType
fast_type None = None
fast_type (Some n) =
    if same_text n (codes "malloc") then type_known n library
    else if same_text n (codes "calloc") then type_known n library
    else if same_text n (codes "realloc") then type_known n library
    else None

-- an entry point with the token in its name
abbrev pub fast_entry_point : List ℕ → Option CType
fast_entry_point n = fast_type (behind (without_front (codes "__alloc_token_") n))
  where
    behind : Option (List ℕ) → Option (List ℕ)
    behind None = None
    behind (Some m) = behind_token 0 false m

abbrev pub first_of : Option CType → Option CType → Option CType
first_of (Some t) u = Some t
first_of None u = u

-- the type that a function of this name must have where the unit has no body for it
abbrev pub type_of_known : List ℕ → Option CType
type_of_known n = first_of (type_known n library) (first_of (type_known n entry_points) (fast_entry_point n))

abbrev pub has_its_type : CType → Option CType → Bool
has_its_type t None = true
has_its_type t (Some u) = is_same t u

-- `bodies` are the functions that have a body in the unit
abbrev pub keeps_library : List (List ℕ) → List ℕ → CType → Bool
keeps_library bodies n t = is_listed n bodies || has_its_type t (type_of_known n)
