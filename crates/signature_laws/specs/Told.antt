-- What function types take and give (ISO/IEC 9899:2018, 6.2.5, paragraph 21, and 6.7.6.3), and what a spelling tells of it.
use Rattle.std.specs.Prelude.{Bool, true, false, ◌||◌, if◌then◌else◌, List, [], ◌∷◌, Option, Some, None}
use Rattle.num_ops.specs.declared.kinds.IntKind.{IntKind}
use Rattle.num_ops.specs.declared.kinds.IntKind.TheVariants as k
use Rattle.c_core.specs.declared.values.Scalar.{Scalar}
use Rattle.c_core.specs.declared.values.Scalar.TheVariants as scalar
use Rattle.c_core.specs.Signatures.{Signature}
use Rattle.c_types.specs.CTypes.{CType, CTypes, Void, Int, Enum, Pointer, Array, Flexible, Function, Record, Named, Qualified, no_types, one_type}

-- ---- functions that take scalars, and give one or nothing

-- the scalar that a type is, also behind typedef names and qualifiers; an enumeration's values have the type `int`
abbrev pub scalar_of : CType → Option Scalar
scalar_of (Int kind) = Some (scalar.Int kind)
scalar_of (Enum e) = Some (scalar.Int k.Int)
scalar_of (Pointer t) = Some scalar.Ptr
scalar_of (Named n t) = scalar_of t
scalar_of (Qualified q t) = scalar_of t
scalar_of Void = None
scalar_of (Array t n) = None
scalar_of (Flexible t) = None
scalar_of (Function r ps) = None
scalar_of (Record n) = None

abbrev pub is_void : CType → Bool
is_void Void = true
is_void (Named n t) = is_void t
is_void (Qualified q t) = is_void t
is_void (Int kind) = false
is_void (Enum e) = false
is_void (Pointer t) = false
is_void (Array t n) = false
is_void (Flexible t) = false
is_void (Function r ps) = false
is_void (Record n) = false

-- the scalars that parameters are, where each of them is one
abbrev pub one_more : Option Scalar → Option (List Scalar) → Option (List Scalar)
one_more (Some s) (Some ss) = Some (s ∷ ss)
one_more (Some s) None = None
one_more None ss = None

abbrev pub scalars_of : CTypes → Option (List Scalar)
scalars_of no_types = Some []
scalars_of (one_type p ps) = one_more (scalar_of p) (scalars_of ps)

-- ---- what is told of every function type

-- a spelling has a star where a pointer stands in its type, at any depth
abbrev mutual
  pub has_pointer : CType → Bool
  has_pointer Void = false
  has_pointer (Int kind) = false
  has_pointer (Enum e) = false
  has_pointer (Record n) = false
  has_pointer (Pointer t) = true
  has_pointer (Array t n) = has_pointer t
  has_pointer (Flexible t) = has_pointer t
  has_pointer (Function r ps) = has_pointer r || have_pointer ps
  has_pointer (Named n t) = has_pointer t
  has_pointer (Qualified q t) = has_pointer t

  pub have_pointer : CTypes → Bool
  have_pointer no_types = false
  have_pointer (one_type p ps) = has_pointer p || have_pointer ps

-- an integer's kind; what is no integer type is taken for the name of an enumeration
abbrev pub kind_told : CType → IntKind
kind_told (Int kind) = kind
kind_told (Named n t) = kind_told t
kind_told (Qualified q t) = kind_told t
kind_told Void = k.Int
kind_told (Enum e) = k.Int
kind_told (Pointer t) = k.Int
kind_told (Array t n) = k.Int
kind_told (Flexible t) = k.Int
kind_told (Function r ps) = k.Int
kind_told (Record n) = k.Int

abbrev pub parameter_told : CType → Scalar
parameter_told p = if has_pointer p then scalar.Ptr else scalar.Int (kind_told p)

abbrev pub parameters_told : CTypes → List Scalar
parameters_told no_types = []
parameters_told (one_type p ps) = parameter_told p ∷ parameters_told ps

-- 6.7.6.3, paragraph 10: a single `void` says that there are none
abbrev pub is_only_void : CTypes → Bool
is_only_void no_types = false
is_only_void (one_type p no_types) = is_void p
is_only_void (one_type p (one_type q qs)) = false

abbrev pub takes_told : CTypes → List Scalar
takes_told ps = if is_only_void ps then [] else parameters_told ps

-- of an array or a function, which no function gives, the spelling tells what its elements are, and what it gives
abbrev pub gives_told : CType → Option Scalar
gives_told Void = None
gives_told (Int kind) = Some (scalar.Int kind)
gives_told (Enum e) = Some (scalar.Int k.Int)
gives_told (Record n) = Some (scalar.Int k.Int)
gives_told (Pointer t) = Some scalar.Ptr
gives_told (Array t n) = gives_told t
gives_told (Flexible t) = gives_told t
gives_told (Function r ps) = gives_told r
gives_told (Named n t) = gives_told t
gives_told (Qualified q t) = gives_told t

-- of a function type, also behind typedef names and qualifiers
abbrev pub signature_told : CType → Option Signature
signature_told (Function r ps) = Some (record { takes = takes_told ps; gives = gives_told r })
signature_told (Named n t) = signature_told t
signature_told (Qualified q t) = signature_told t
signature_told Void = None
signature_told (Int kind) = None
signature_told (Enum e) = None
signature_told (Pointer t) = None
signature_told (Array t n) = None
signature_told (Flexible t) = None
signature_told (Record n) = None
