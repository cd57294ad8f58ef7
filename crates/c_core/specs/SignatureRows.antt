-- What functions of some types take and give, all by computation.
use Rattle.std.specs.Prelude.{◌≡◌, List, [], ◌∷◌, Option, Some, None, codes}
use Rattle.num_ops.specs.declared.kinds.IntKind.{IntKind}
use Rattle.num_ops.specs.declared.kinds.IntKind.TheVariants as k
use Rattle.c_core.specs.declared.values.Scalar.{Scalar}
use Rattle.c_core.specs.declared.values.Scalar.TheVariants as scalar
use Rattle.c_core.specs.declared.tree.LibMark.TheVariants as mark
use Rattle.c_core.specs.Library.{callee_type}
use Rattle.c_core.specs.Signatures.{Signature, signature}

abbrev function : List Scalar → Option Scalar → Signature
function takes gives = record { takes = takes; gives = gives }

abbrev an : IntKind → Scalar
an kind = scalar.Int kind

abbrev pub SignatureRows : Type 0
SignatureRows =
    (signature (codes "int (void)") ≡ function [] (Some (an k.Int)))
    × (signature (codes "void (int, char, _Bool)") ≡ function (an k.Int ∷ an k.Char ∷ an k.Bool ∷ []) None)
    × (signature (codes "unsigned long long (unsigned short)") ≡ function (an k.UShort ∷ []) (Some (an k.ULongLong)))
    × (signature (codes "void *(const void *, unsigned long)") ≡ function (scalar.Ptr ∷ an k.ULong ∷ []) (Some scalar.Ptr))
    × (signature (codes "void (void *)") ≡ function (scalar.Ptr ∷ []) None)
    × (signature (codes "const volatile int (signed char)") ≡ function (an k.SChar ∷ []) (Some (an k.Int)))
    × (signature (codes "char *const (long)") ≡ function (an k.Long ∷ []) (Some scalar.Ptr))
    -- a parameter that is a pointer to a function of two parameters
    × (signature (codes "int (int (*)(int, long), unsigned int)") ≡ function (scalar.Ptr ∷ an k.UInt ∷ []) (Some (an k.Int)))
    -- results that are pointers to functions and to arrays
    × (signature (codes "int (*(long))(char *)") ≡ function (an k.Long ∷ []) (Some scalar.Ptr))
    × (signature (codes "int (*(*(long))(char))[4]") ≡ function (an k.Long ∷ []) (Some scalar.Ptr))
    -- enumerated types, with a tag and without any name
    × (signature (codes "color (color, unnamed)") ≡ function (an k.Int ∷ an k.Int ∷ []) (Some (an k.Int)))
    × (signature (codes "(unnamed #0) (void)") ≡ function [] (Some (an k.Int)))
    × (signature (codes "void ((unnamed #1), unnamed *)") ≡ function (an k.Int ∷ scalar.Ptr ∷ []) None)
    -- a library function, and the entry points of its tokens
    × (callee_type (0, mark.Untagged) ≡ Some (codes "void *(unsigned long)"))
    × (callee_type (0, mark.Given) ≡ Some (codes "void *(unsigned long, unsigned long)"))
    × (callee_type (2, mark.Fixed 7) ≡ Some (codes "void *(void *, unsigned long)"))
    × (callee_type (3, mark.Given) ≡ None)
    × (callee_type (12, mark.Untagged) ≡ Some (codes "void (void)"))
    × (callee_type (13, mark.Untagged) ≡ None)
