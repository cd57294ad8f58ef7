-- Worked rows of the definitions, all by computation.
use Rattle.std.specs.Prelude.{◌≡◌, [], ◌∷◌, Some, None, true, false, codes}
use Rattle.num_ops.specs.declared.kinds.IntKind.TheVariants as k
use Rattle.c_types.specs.CTypes.{CType, Void, Int, Enum, Pointer, Array, Flexible, Function, Record, Named, Qualified, no_types, one_type}
use Rattle.c_types.specs.Layout.{size, record_size, offsets}
use Rattle.c_types.specs.Pointers.{contains_pointer}
use Rattle.c_types.specs.Spelling.{Names, spelling}
use Rattle.c_types.specs.Records.{refusal}
use Rattle.c_types.specs.declared.terms.TypeEnd.TheVariants as end

abbrev pub nodes : Names
nodes = record { records = λ k. codes "node"; enums = λ e. codes "e" }

abbrev pub int : CType
int = Int k.Int

abbrev pub SpellingRows : Type 0
SpellingRows =
    (spelling nodes (Pointer (Record 0)) ≡ codes "node *")
    × (spelling nodes (Array int 4) ≡ codes "int[4]")
    × (spelling nodes (Array (Pointer int) 4) ≡ codes "int *[4]")
    × (spelling nodes (Pointer (Array int 4)) ≡ codes "int (*)[4]")
    × (spelling nodes (Pointer (Function int (one_type int no_types))) ≡ codes "int (*)(int)")
    × (spelling nodes (Pointer (Qualified 1 (Int k.Char))) ≡ codes "const char *")
    × (spelling nodes (Pointer (Qualified 1 (Pointer int))) ≡ codes "int *const *")
    × (spelling nodes (Qualified 1 (Pointer int)) ≡ codes "int *")
    × (spelling nodes (Qualified 1 (Array (Array int 3) 2)) ≡ codes "int[2][3]")
    × (spelling nodes (Pointer (Array (Qualified 1 int) 3)) ≡ codes "const int (*)[3]")
    × (spelling nodes (Pointer (Flexible int)) ≡ codes "int (*)[]")
    × (spelling nodes (Function Void no_types) ≡ codes "void (void)")
    × (spelling nodes (Function int (one_type (Qualified 1 int) (one_type (Pointer Void) no_types))) ≡ codes "int (int, void *)")
    × (spelling nodes (Pointer (Named (codes "t") (Int k.ULong))) ≡ codes "unsigned long *")

abbrev pub LayoutRows : Type 0
LayoutRows =
    (record_size [] false (Pointer (Int k.Char) ∷ Int k.ULong ∷ Int k.ULong ∷ []) ≡ 24)
    × (offsets [] false 0 (Int k.Char ∷ Int k.Int ∷ Int k.Short ∷ []) ≡ 0 ∷ 4 ∷ 8 ∷ [])
    × (record_size [] false (Int k.Char ∷ Int k.Int ∷ Int k.Short ∷ []) ≡ 12)
    × (offsets [] true 0 (Int k.Char ∷ Int k.Int ∷ []) ≡ 0 ∷ 0 ∷ [])
    × (record_size [] true (Int k.Char ∷ Array (Int k.Char) 5 ∷ Int k.Int ∷ []) ≡ 8)
    × (record_size [] false (Int k.Int ∷ Flexible (Int k.Long) ∷ []) ≡ 8)
    × (refusal [] (Array (Int k.Char) 268435455) ≡ None)
    × (refusal [] (Array (Int k.Char) 268435456) ≡ Some end.TooLarge)
    × (refusal [] (Array Void 1) ≡ Some end.Incomplete)
    × (size [] (Enum 0) ≡ Some 4)

abbrev pub PointerRows : Type 0
PointerRows =
    (contains_pointer [] (Named (codes "uintptr_t") (Int k.ULong)) ≡ true)
    × (contains_pointer [] (Array (Named (codes "w") (Named (codes "uintptr_t") (Int k.ULong))) 4) ≡ true)
    × (contains_pointer [] (Named (codes "size_t") (Int k.ULong)) ≡ false)
    × (contains_pointer [] (Array (Pointer Void) 2) ≡ true)
