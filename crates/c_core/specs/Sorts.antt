-- What expressions give: the sorts of the core language.
use Rattle.std.specs.Prelude.{ℕ, Bool, true, false, ◌&&◌, ◌==◌, if◌then◌else◌, List, [], ◌∷◌, Option, Some, None}
use Rattle.num_ops.specs.declared.kinds.IntKind.{IntKind}
use Rattle.num_ops.specs.declared.kinds.IntKind.TheVariants as k
use Rattle.num_ops.specs.Conversions.{promoted}
use Rattle.c_core.specs.declared.values.Scalar.{Scalar}
use Rattle.c_core.specs.declared.values.Scalar.TheVariants as scalar
use Rattle.c_core.specs.Signatures.{Signature}

-- 6.2.5, paragraph 21; 6.3.2.2: an integer of a kind or a pointer, no value, or nothing, since a part is not of the sort
-- that the form takes. Records are read and written through their places
pub data Sort : Type 0 where
  Gives : Scalar → Sort
  Void : Sort
  IllSorted : Sort

abbrev pub given : Bool → Sort → Sort
given true s = s
given false s = IllSorted

abbrev pub an : IntKind → Sort
an kind = Gives (scalar.Int kind)

abbrev pub int : Sort
int = an k.Int

abbrev pub a_pointer : Sort
a_pointer = Gives scalar.Ptr

-- ---- which sorts are the same

abbrev pub kind_number : IntKind → ℕ
kind_number k.Bool = 0
kind_number k.Char = 1
kind_number k.SChar = 2
kind_number k.UChar = 3
kind_number k.Short = 4
kind_number k.UShort = 5
kind_number k.Int = 6
kind_number k.UInt = 7
kind_number k.Long = 8
kind_number k.ULong = 9
kind_number k.LongLong = 10
kind_number k.ULongLong = 11

abbrev pub same_kind : IntKind → IntKind → Bool
same_kind a b = kind_number a == kind_number b

abbrev pub same_scalar : Scalar → Scalar → Bool
same_scalar (scalar.Int a) (scalar.Int b) = same_kind a b
same_scalar scalar.Ptr scalar.Ptr = true
same_scalar a b = false

-- ---- what a part has to give

abbrev pub is_right : Sort → Bool
is_right IllSorted = false
is_right s = true

abbrev pub gives : Scalar → Sort → Bool
gives kind (Gives s) = same_scalar kind s
gives kind s = false

abbrev pub is_scalar : Sort → Bool
is_scalar (Gives s) = true
is_scalar s = false

abbrev pub is_pointer : Sort → Bool
is_pointer s = gives scalar.Ptr s

abbrev pub is_integer : Sort → Bool
is_integer (Gives (scalar.Int kind)) = true
is_integer s = false

-- 6.3.1.1, paragraph 2: an integer of a kind that the promotions leave as it is
abbrev pub is_promoted : Sort → Bool
is_promoted (Gives (scalar.Int kind)) = same_kind (promoted kind) kind
is_promoted s = false

-- 6.3.1.8: two integers of one kind
abbrev pub of_one_kind : Sort → Sort → Bool
of_one_kind (Gives (scalar.Int a)) b = gives (scalar.Int a) b
of_one_kind a b = false

-- 6.5.15: of two values of one sort either is a value of that sort; of others neither can be used
abbrev pub either_of : Sort → Sort → Sort
either_of IllSorted b = IllSorted
either_of a IllSorted = IllSorted
either_of (Gives a) (Gives b) = if same_scalar a b then Gives a else Void
either_of a b = Void

-- ---- calls

-- 6.5.2.2, paragraphs 2 and 7: as many arguments as parameters, each of the parameter's sort
abbrev pub agree : (takes : List Scalar) → (args : List Sort) → Bool
agree [] [] = true
agree (s ∷ takes) (a ∷ args) = gives s a && agree takes args
agree takes args = false

abbrev pub result_sort : Option Scalar → Sort
result_sort None = Void
result_sort (Some s) = Gives s

-- 6.3.2.2: a function that gives nothing has no value that could be used
abbrev pub used_sort : Option Scalar → Sort
used_sort None = IllSorted
used_sort (Some s) = Gives s

-- 6.5.2.2, paragraph 5: a call through a value
abbrev pub call_sort : Signature → (args : List Sort) → (used : Bool) → Sort
call_sort type args used = given (agree type.takes args) (if used then used_sort type.gives else Void)

-- a direct call of a library function
abbrev pub library_sort : Signature → (args : List Sort) → Sort
library_sort type args = given (agree type.takes args) (result_sort type.gives)
