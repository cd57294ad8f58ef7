-- Blocks by their numbers, and what an access does (ISO/IEC 9899:2018, 6.2.4, 6.2.6, 6.5).
use Rattle.std.specs.Prelude.{ℕ, ◌+◌, ◌%◌, Bool, true, false, not, ◌&&◌, ◌==◌, nat_lt, if◌then◌else◌, List, [], ◌∷◌, ◌++◌, take, drop, length, replicate, Option, Some, None, Result, Ok, Err, slice_get, slice_set}
use Rattle.c_core.specs.declared.values.Pointer.{Pointer}
use Rattle.c_core.specs.declared.values.Pointer.TheVariants.{Object}
use Rattle.c_core.specs.declared.values.Value.{Value}
use Rattle.c_core.specs.declared.values.Cell.{Cell}
use Rattle.c_core.specs.declared.values.Cell.TheVariants.{Undefined, Byte}
use Rattle.c_core.specs.declared.values.Scalar.{Scalar}
use Rattle.c_core.specs.declared.values.BlockKind.{BlockKind}
use Rattle.c_core.specs.declared.values.BlockKind.TheVariants as kind
use Rattle.c_core.specs.declared.values.Fault.{Fault}
use Rattle.c_core.specs.declared.values.Fault.TheVariants.{Null, Dead, Bounds, Misaligned, ReadOnly, Indeterminate, PointerBytes, TornPointer, Overlap}
use Rattle.tok_base.specs.declared.reason.Reason.{Reason}
use Rattle.tok_base.specs.declared.reason.Reason.TheVariants as reason
use Rattle.c_core.specs.Values.{scalar_size, cells_of, value_in}

-- 6.2.4: a block has a lifetime; a killed one keeps its kind and size, and has no cells
pub record Block : Type 0 where
  pub kind : BlockKind
  pub size : ℕ
  pub live : Bool
  pub cells : List Cell

-- the block with number n is the n-th, from 0; a number is never given twice
abbrev pub Blocks : Type 0
Blocks = List Block

-- a new block, whose number is how many there were, with undefined cells (6.2.4, paragraphs 5 and 6)
abbrev pub placed : Blocks → BlockKind → ℕ → Blocks
placed bs kind size = bs ++ record { kind = kind; size = size; live = true; cells = replicate size Undefined } ∷ []

abbrev pub dead : Block → Block
dead b = record b { live = false; cells = [] }

abbrev pub killed_in : Blocks → ℕ → Option Block → Blocks
killed_in bs n None = bs
killed_in bs n (Some b) = slice_set bs n (dead b)

-- 6.2.4, paragraph 2: the lifetime of a block ends
abbrev pub killed : Blocks → ℕ → Blocks
killed bs n = killed_in bs n (slice_get bs n)

abbrev pub is_live_in : Option Block → Bool
is_live_in None = false
is_live_in (Some b) = b.live

abbrev pub is_live : Blocks → ℕ → Bool
is_live bs n = is_live_in (slice_get bs n)

-- 6.4.5, paragraph 7: string literals may not be modified
abbrev pub is_read_only : BlockKind → Bool
is_read_only kind.ReadOnly = true
is_read_only kind = false

-- a place that may be accessed
pub record Site : Type 0 where
  pub number : ℕ
  pub offset : ℕ
  pub block : Block

-- the first fault of an access of `count` bytes at an offset that is to be a multiple of `align`, or its place
abbrev pub reached_in : Option Block → (number offset count align : ℕ) → (writes : Bool) → Result Site Fault
reached_in None number offset count align writes = Err Dead
reached_in (Some b) number offset count align writes =
    if not b.live then Err Dead
    else (if nat_lt b.size (offset + count) then Err Bounds
    else (if not (offset % align == 0) then Err Misaligned
    else (if writes && is_read_only b.kind then Err ReadOnly
    else Ok (record { number = number; offset = offset; block = b }))))

-- 6.5.3.2, paragraph 4: a pointer that names no object, or one whose lifetime has ended, may not be accessed
abbrev pub reached : Blocks → Pointer → (count align : ℕ) → (writes : Bool) → Result Site Fault
reached bs (Object number offset) count align writes = reached_in (slice_get bs number) number offset count align writes
reached bs p count align writes = Err Null

abbrev pub if_reached : {A : Type 0} → Result Site Fault → (Site → Result A Fault) → Result A Fault
if_reached (Err fault) f = Err fault
if_reached (Ok site) f = f site

-- the cells of a place
abbrev pub cells_at : Site → ℕ → List Cell
cells_at site count = take count (drop site.offset site.block.cells)

abbrev pub replaced : List Cell → ℕ → List Cell → List Cell
replaced cells offset new = take offset cells ++ new ++ drop (offset + length new) cells

-- cells written at a place
abbrev pub written : Blocks → Site → List Cell → Blocks
written bs site cells = slice_set bs site.number (record (site.block) { cells = replaced site.block.cells site.offset cells })

-- 6.3.2.1, paragraph 2: the value that is stored at a place
abbrev pub load : Blocks → Pointer → Scalar → Result Value Fault
load bs p kind = if_reached (reached bs p (scalar_size kind) (scalar_size kind) false) (λ site. value_in kind (cells_at site (scalar_size kind)))

-- 6.5.16, paragraph 3: a value is stored at a place
abbrev pub store : Blocks → Pointer → Scalar → Value → Result Blocks Fault
store bs p kind v = if_reached (reached bs p (scalar_size kind) (scalar_size kind) true) (λ site. Ok (written bs site (cells_of v)))

-- two places of `count` bytes in one block have a byte in common
abbrev pub overlap : Site → Site → ℕ → Bool
overlap a b count = (a.number == b.number) && nat_lt a.offset (b.offset + count) && nat_lt b.offset (a.offset + count)

abbrev pub moved : Blocks → (to from : Site) → (count : ℕ) → (may_overlap : Bool) → Result Blocks Fault
moved bs to from count may_overlap = if not may_overlap && overlap to from count then Err Overlap else Ok (written bs to (cells_at from count))

-- 7.24.2.1, 7.24.2.2: the cells are copied as they are; the target is tested first, then the source, then overlap
abbrev pub copy : Blocks → (to from : Pointer) → (count : ℕ) → (may_overlap : Bool) → Result Blocks Fault
copy bs to from count may_overlap =
    if_reached (reached bs to count 1 true) (λ t.
    if_reached (reached bs from count 1 false) (λ f. moved bs t f count may_overlap))

-- 7.24.6.1: `count` bytes of one value
abbrev pub fill : Blocks → Pointer → (byte count : ℕ) → Result Blocks Fault
fill bs p byte count = if_reached (reached bs p count 1 true) (λ site. Ok (written bs site (replicate count (Byte byte))))

abbrev pub initialised_in : Blocks → ℕ → ℕ → Cell → Option Block → Blocks
initialised_in bs number offset c None = bs
initialised_in bs number offset c (Some b) = slice_set bs number (record b { cells = slice_set b.cells offset c })

-- 6.7.9: one cell of a block of any kind, before the program starts
abbrev pub initialised : Blocks → (number offset : ℕ) → Cell → Blocks
initialised bs number offset c = initialised_in bs number offset c (slice_get bs number)

abbrev pub reason_of : Fault → Reason
reason_of Null = reason.Null
reason_of Dead = reason.Dead
reason_of Bounds = reason.Bounds
reason_of Misaligned = reason.Misaligned
reason_of ReadOnly = reason.ReadOnly
reason_of Indeterminate = reason.Indeterminate
reason_of PointerBytes = reason.PointerBytes
reason_of TornPointer = reason.TornPointer
reason_of Overlap = reason.Overlap
