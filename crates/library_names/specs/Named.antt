-- The functions of the library by their names.
use Rattle.std.specs.Prelude.{ℕ, if◌then◌else◌, List, [], ◌∷◌, codes, Option, Some, None}
use Rattle.num_ops.specs.declared.kinds.IntKind.TheVariants as k
use Rattle.c_tree.specs.Text.{same_text}
use Rattle.c_types.specs.CTypes.{CType, Void, Int, Pointer, Function, Qualified, no_types, one_type}
use Rattle.c_rules.specs.World.{or_else}
use Rattle.library_names.specs.declared.library.Library.{Library}
use Rattle.library_names.specs.declared.library.Library.TheVariants as l

pub record Row (A : Type 0) : Type 0 where
  pub name : List ℕ
  pub value : A

abbrev row : {A : Type 0} → List ℕ → A → Row A
row n a = record { name = n; value = a }

abbrev pub first_named : {A : Type 0} → List (Row A) → List ℕ → Option A
first_named [] n = None
first_named (r ∷ rs) n = if same_text n r.name then Some r.value else first_named rs n

abbrev pub allocation : List (Row Library)
allocation = row (codes "malloc") l.Malloc ∷ row (codes "calloc") l.Calloc ∷ row (codes "realloc") l.Realloc ∷ row (codes "free") l.Free ∷ []

abbrev pub characters : List (Row Library)
characters = row (codes "getchar") l.Getchar ∷ row (codes "putchar") l.Putchar ∷ []

abbrev pub memory : List (Row Library)
memory = row (codes "memcpy") l.Memcpy ∷ row (codes "memmove") l.Memmove ∷ row (codes "memset") l.Memset ∷ row (codes "memcmp") l.Memcmp ∷ []

abbrev pub others : List (Row Library)
others = row (codes "strlen") l.Strlen ∷ row (codes "exit") l.Exit ∷ row (codes "abort") l.Abort ∷ []

abbrev pub named : List ℕ → Option Library
named n = or_else (first_named allocation n) (or_else (first_named characters n) (or_else (first_named memory n) (first_named others n)))

abbrev pub number : Library → ℕ
number l.Malloc = 0
number l.Calloc = 1
number l.Realloc = 2
number l.Free = 3
number l.Getchar = 4
number l.Putchar = 5
number l.Memcpy = 6
number l.Memmove = 7
number l.Memset = 8
number l.Memcmp = 9
number l.Strlen = 10
number l.Exit = 11
number l.Abort = 12

abbrev size : CType
size = Int k.ULong

abbrev any_pointer : CType
any_pointer = Pointer Void

abbrev const_pointer : CType
const_pointer = Pointer (Qualified 1 Void)

abbrev of_one : CType → CType → CType
of_one r p = Function r (one_type p no_types)

abbrev of_two : CType → CType → CType → CType
of_two r p q = Function r (one_type p (one_type q no_types))

abbrev of_three : CType → CType → CType → CType → CType
of_three r p q s = Function r (one_type p (one_type q (one_type s no_types)))

-- memcpy and memmove
abbrev pub copying_type : CType
copying_type = of_three any_pointer any_pointer const_pointer size

abbrev pub library_type : Library → CType
library_type l.Malloc = of_one any_pointer size
library_type l.Calloc = of_two any_pointer size size
library_type l.Realloc = of_two any_pointer any_pointer size
library_type l.Free = of_one Void any_pointer
library_type l.Getchar = Function (Int k.Int) no_types
library_type l.Putchar = of_one (Int k.Int) (Int k.Int)
library_type l.Memcpy = copying_type
library_type l.Memmove = copying_type
library_type l.Memset = of_three any_pointer any_pointer (Int k.Int) size
library_type l.Memcmp = of_three (Int k.Int) const_pointer const_pointer size
library_type l.Strlen = of_one size (Pointer (Qualified 1 (Int k.Char)))
library_type l.Exit = of_one Void (Int k.Int)
library_type l.Abort = Function Void no_types
