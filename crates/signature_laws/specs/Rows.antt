-- Spellings of function types and what is read from them, all by computation.
use Rattle.std.specs.Prelude.{◌≡◌, ℕ, List, [], ◌∷◌, Option, Some, None, codes}
use Rattle.num_ops.specs.declared.kinds.IntKind.TheVariants as k
use Rattle.c_core.specs.declared.values.Scalar.{Scalar}
use Rattle.c_core.specs.declared.values.Scalar.TheVariants as scalar
use Rattle.c_core.specs.Signatures.{signature}
use Rattle.c_types.specs.CTypes.{CType, CTypes, Void, Int, Enum, Pointer, Array, Flexible, Function, Record, Named, Qualified, no_types, one_type}
use Rattle.c_types.specs.Spelling.{Names, spelling}
use Rattle.signature_laws.specs.Told.{signature_told}

abbrev some_names : Names
some_names = record { records = λ r. codes "unnamed"; enums = λ e. codes "(unnamed #7)" }

-- the type's spelling, and what is read from it and told of the type
abbrev IsReadAs : CType → List ℕ → List Scalar → Option Scalar → Type 0
IsReadAs t text takes gives =
    (spelling some_names t ≡ text)
    × (signature text ≡ record { takes = takes; gives = gives })
    × (signature_told t ≡ Some (record { takes = takes; gives = gives }))

abbrev int : CType
int = Int k.Int

abbrev one : CType → CTypes
one p = one_type p no_types

abbrev two : CType → CType → CTypes
two p q = one_type p (one q)

abbrev pub ExampleRows : Type 0
ExampleRows =
    (IsReadAs (Function int no_types) (codes "int (void)") [] (Some (scalar.Int k.Int)))
    × (IsReadAs (Function (Qualified 3 Void) (one Void)) (codes "const volatile void (void)") [] None)
    × (IsReadAs (Function (Pointer Void) (two (Int k.ULong) (Qualified 1 (Int k.Bool)))) (codes "void *(unsigned long, _Bool)") (scalar.Int k.ULong ∷ scalar.Int k.Bool ∷ []) (Some scalar.Ptr))
    × (IsReadAs (Function (Enum 0) (two (Enum 0) (Pointer (Record 0)))) (codes "(unnamed #7) ((unnamed #7), unnamed *)") (scalar.Int k.Int ∷ scalar.Ptr ∷ []) (Some (scalar.Int k.Int)))
    × (IsReadAs (Function Void (two (Pointer (Function int (two int (Int k.Long)))) (Int k.UInt))) (codes "void (int (*)(int, long), unsigned int)") (scalar.Ptr ∷ scalar.Int k.UInt ∷ []) None)
    × (IsReadAs (Function (Pointer (Function int (one (Pointer (Int k.Char))))) (one (Int k.Long))) (codes "int (*(long))(char *)") (scalar.Int k.Long ∷ []) (Some scalar.Ptr))
    × (IsReadAs (Function (Qualified 1 (Pointer (Array int 4))) (one (Pointer (Array (Pointer int) 3)))) (codes "int (*const (int *(*)[3]))[4]") (scalar.Ptr ∷ []) (Some scalar.Ptr))
    × (IsReadAs (Named (codes "f") (Qualified 1 (Function (Qualified 2 (Int k.SChar)) (one (Named (codes "t") (Qualified 1 (Int k.Short))))))) (codes "volatile signed char (short)") (scalar.Int k.Short ∷ []) (Some (scalar.Int k.SChar)))
    -- types that no function takes or gives
    × (IsReadAs (Function (Record 0) (two Void (Array (Qualified 1 (Int k.Char)) 2))) (codes "unnamed (void, const char[2])") (scalar.Int k.Int ∷ scalar.Int k.Int ∷ []) (Some (scalar.Int k.Int)))
    × (IsReadAs (Function (Array (Int k.Long) 2) (one (Function int (one (Pointer int))))) (codes "long (int (int *))[2]") (scalar.Ptr ∷ []) (Some (scalar.Int k.Long)))
    × (IsReadAs (Function (Function Void (two int int)) (one (Flexible (Int k.Char)))) (codes "void (char[])(int, int)") (scalar.Int k.Int ∷ []) None)
    × (IsReadAs (Function (Pointer (Pointer (Function (Pointer (Function int (one int))) no_types))) no_types) (codes "int (*(**(void))(void))(int)") [] (Some scalar.Ptr))
