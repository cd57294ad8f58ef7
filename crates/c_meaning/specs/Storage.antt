-- Accesses of a run, each with the span of what traps, and the library functions on storage and streams.
use Rattle.std.specs.Prelude.{ℕ, zero, suc, ◌+◌, Bool, true, false, ◌&&◌, ◌==◌, if◌then◌else◌, nat_lt, List, [], ◌∷◌, ◌++◌, length, replicate, ℤ, pos, negsuc, Option, Some, None, Result, Ok, Err, slice_get, slice_set, min}
use Rattle.std.specs.Int.{int_rem_euclid}
use Rattle.std.specs.Prelude.{unsigned_abs}
use Rattle.tok_base.specs.declared.token.Span.{Span}
use Rattle.num_ops.specs.declared.kinds.IntKind.TheVariants as k
use Rattle.c_core.specs.declared.values.Pointer.{Pointer}
use Rattle.c_core.specs.declared.values.Pointer.TheVariants.{Object}
use Rattle.c_core.specs.declared.values.Value.{Value}
use Rattle.c_core.specs.declared.values.Value.TheVariants as value
use Rattle.c_core.specs.declared.values.Cell.{Cell}
use Rattle.c_core.specs.declared.values.Cell.TheVariants.{Byte}
use Rattle.c_core.specs.declared.values.Scalar.{Scalar}
use Rattle.c_core.specs.declared.values.Scalar.TheVariants as scalar
use Rattle.c_core.specs.declared.values.BlockKind.{BlockKind}
use Rattle.c_core.specs.declared.values.BlockKind.TheVariants as kind
use Rattle.c_core.specs.declared.values.Fault.{Fault}
use Rattle.c_core.specs.declared.values.Fault.TheVariants as fault
use Rattle.tok_base.specs.declared.reason.Reason.{Reason}
use Rattle.tok_base.specs.declared.reason.Reason.TheVariants as reason
use Rattle.c_core.specs.declared.values.End.TheVariants.{Trap, OutputFull}
use Rattle.c_core.specs.declared.tree.Place.{Place}
use Rattle.c_core.specs.declared.tree.Place.TheVariants as place
use Rattle.c_core.specs.declared.tree.FixedObject.{FixedObject}
use Rattle.c_core.specs.Values.{same_pointer}
use Rattle.c_core.specs.Blocks.{Block, Blocks, Site, reached, moved, load, store, copy, fill, reason_of}
use Rattle.c_meaning.specs.World.{World, Acted, Gives, Stops, local_block, judged, is_heap}
use Rattle.c_meaning.specs.Rules.{int, if_ok, natural_in, number_in, pointer_in, size_in, as_kind}

abbrev pub with_reason : {A : Type 0} → Result A Fault → Result A Reason
with_reason (Ok a) = Ok a
with_reason (Err f) = Err (reason_of f)

-- the world with other blocks, and a value
abbrev pub with_blocks : {A : Type 0} → A → World → Span → Result Blocks Reason → Acted A
with_blocks a w span (Ok bs) = Gives a (record w { blocks = bs })
with_blocks a w span (Err r) = Stops (Trap r span)

-- 6.3.2.1, paragraph 2
abbrev pub load_at : Span → Pointer → Scalar → World → Acted Value
load_at span p kind w = judged span (with_reason (load w.blocks p kind)) w

-- 6.5.16, paragraph 3: gives the value that was stored
abbrev pub store_at : Span → Pointer → Scalar → Value → World → Acted Value
store_at span p kind v w = with_blocks (as_kind kind v) w span (with_reason (store w.blocks p kind (as_kind kind v)))

-- 6.5.16.1: a record is copied; the two places may be equal, but not overlap otherwise
abbrev pub copied_record : Span → World → (to from : Pointer) → (size : ℕ) → (t f : Site) → Acted (Unit {0})
copied_record span w to from size t f = with_blocks tt w span (with_reason (moved w.blocks t f size (same_pointer to from)))

abbrev pub from_source : Span → World → (t : Site) → (to from : Pointer) → (from_at : Span) → (size : ℕ) → Result Site Fault → Acted (Unit {0})
from_source span w t to from from_at size (Ok f) = copied_record span w to from size t f
from_source span w t to from from_at size (Err e) = Stops (Trap (reason_of e) from_at)

abbrev pub to_target : Span → World → (to : Pointer) → (to_at : Span) → (from : Pointer) → (from_at : Span) → (size : ℕ) → Result Site Fault → Acted (Unit {0})
to_target span w to to_at from from_at size (Ok t) = from_source span w t to from from_at size (reached w.blocks from size 1 false)
to_target span w to to_at from from_at size (Err e) = Stops (Trap (reason_of e) to_at)

-- the target is tested first, then the source, each with its own span, then overlap
abbrev pub copy_record : Span → (to : Pointer) → (to_at : Span) → (from : Pointer) → (from_at : Span) → (size : ℕ) → World → Acted (Unit {0})
copy_record span to to_at from from_at size w = to_target span w to to_at from from_at size (reached w.blocks to size 1 true)

-- ---- fixed objects

abbrev pub set_cells : List Cell → List (ℕ × Cell) → List Cell
set_cells cells [] = cells
set_cells cells (c ∷ cs) = set_cells (slice_set cells c.0 c.1) cs

abbrev pub fixed_kind : FixedObject → BlockKind
fixed_kind o = if o.read_only then kind.ReadOnly else kind.Fixed

-- 6.7.9, paragraph 10: what no initialiser says is zero; an object that is only declared has no bytes
abbrev pub fixed_block : FixedObject → Block
fixed_block o =
    if o.defined then record { kind = fixed_kind o; size = o.size; live = true; cells = set_cells (replicate o.size (Byte 0)) o.cells }
    else record { kind = kind.Fixed; size = 0; live = true; cells = [] }

abbrev pub with_fixed : FixedObject → World → World
with_fixed o w = record w { blocks = w.blocks ++ fixed_block o ∷ [] }

abbrev pub is_defined : Option FixedObject → Bool
is_defined None = false
is_defined (Some o) = o.defined

-- a local that was made
abbrev pub local_address : (block : Option ℕ) → Result Value Reason
local_address None = Err reason.NoBody
local_address (Some n) = Ok (value.Ptr (Object n 0))

-- 6.9, paragraph 5: the address of an object that has a definition
abbrev pub address : List FixedObject → Place → World → Result Value Reason
address fixed (place.Fixed n) w = if is_defined (slice_get fixed n) then Ok (value.Ptr (Object n 0)) else Err reason.NoBody
address fixed (place.Local x) w = local_address (local_block w x)

-- ---- streams

-- 7.21.7.6: the next byte of the input, or -1 at its end
abbrev pub next_byte : List ℕ → World → Acted Value
next_byte [] w = Gives (int k.Int (negsuc 0)) w
next_byte (b ∷ rest) w = Gives (int k.Int (pos b)) (record w { input = rest })

abbrev pub get_char : World → Acted Value
get_char w = next_byte w.input w

-- 7.21.7.7: the value as an unsigned char is put out, and given; no more than 16,777,216 bytes are
abbrev pub put_byte : ℕ → World → Acted Value
put_byte b w = if nat_lt (length w.output) 16777216 then Gives (int k.Int (pos b)) (record w { output = w.output ++ b ∷ [] }) else Stops OutputFull

-- a number modulo 256
abbrev pub byte_in : Value → ℕ
byte_in v = unsigned_abs (int_rem_euclid (number_in v).value (pos 256))

-- ---- strings

-- 7.24.2.1, 7.24.2.2: gives the first argument
abbrev pub copy_bytes : Span → (may_overlap : Bool) → (to from count : Value) → World → Acted Value
copy_bytes span may_overlap to from count w =
    with_blocks to w span (with_reason (copy w.blocks (pointer_in to) (pointer_in from) (natural_in count) may_overlap))

-- 7.24.6.1: gives the first argument
abbrev pub set_bytes : Span → (to byte count : Value) → World → Acted Value
set_bytes span to byte count w = with_blocks to w span (with_reason (fill w.blocks (pointer_in to) (byte_in byte) (natural_in count)))

-- the place some bytes further on
abbrev pub further : Pointer → ℕ → Pointer
further (Object n offset) i = Object n (offset + i)
further p i = p

abbrev pub byte_at : Blocks → Pointer → ℕ → Result ℕ Fault
byte_at bs p i = if_ok (load bs (further p i) (scalar.Int k.UChar)) (λ v. Ok (natural_in v))

-- 7.24.4.1: by the first bytes that differ, the first argument's byte being read before the second's
abbrev pub compared_from : Blocks → Pointer → Pointer → (left at : ℕ) → Result ℤ Fault
compared_from bs p q zero i = Ok (pos 0)
compared_from bs p q (suc left) i =
    if_ok (byte_at bs p i) (λ a. if_ok (byte_at bs q i) (λ b.
    if nat_lt a b then Ok (negsuc 0) else (if nat_lt b a then Ok (pos 1) else compared_from bs p q left (i + 1))))

abbrev pub compare_bytes : Span → (p q count : Value) → World → Acted Value
compare_bytes span p q count w =
    judged span (with_reason (if_ok (compared_from w.blocks (pointer_in p) (pointer_in q) (natural_in count) 0) (λ z. Ok (int k.Int z)))) w

-- how many bytes stand before the first zero byte, of which `i` are read and `left` may be
abbrev pub length_from : Blocks → Pointer → (left at : ℕ) → Result ℕ Fault
length_from bs p zero i = Err fault.Bounds
length_from bs p (suc left) i = if_ok (byte_at bs p i) (λ b. if b == 0 then Ok i else length_from bs p left (i + 1))

abbrev pub extent : Blocks → Pointer → ℕ
extent bs (Object n offset) = size_in (slice_get bs n)
extent bs p = 0

-- no text reaches past the end of its block: the byte behind the last one can't be read
abbrev pub text_length : Blocks → Pointer → Result ℕ Fault
text_length bs p = length_from bs p (suc (extent bs p)) 0

-- 7.24.6.3
abbrev pub string_length : Span → Value → World → Acted Value
string_length span p w =
    judged span (with_reason (if_ok (text_length w.blocks (pointer_in p)) (λ n. Ok (int k.ULong (pos n))))) w

-- ---- allocated storage

abbrev pub is_heap_block : Option Block → Bool
is_heap_block None = false
is_heap_block (Some b) = b.live && is_heap b.kind

-- 7.22.3.3, 7.22.3.5: the number of the live allocated block that begins here
abbrev pub allocated : Blocks → Pointer → Result ℕ Reason
allocated bs (Object n offset) = if (offset == 0) && is_heap_block (slice_get bs n) then Ok n else Err reason.BadFree
allocated bs p = Err reason.BadFree

-- 7.22.3.2: all bytes zero
abbrev pub zeroed : Span → (block size : ℕ) → World → Acted (Unit {0})
zeroed span n size w = with_blocks tt w span (with_reason (fill w.blocks (Object n 0) 0 size))

-- 7.22.3.5: the contents up to the lesser of the sizes
abbrev pub resized : Span → (new old size : ℕ) → World → Acted (Unit {0})
resized span new old size w =
    with_blocks tt w span (with_reason (copy w.blocks (Object new 0) (Object old 0) (min size (size_in (slice_get w.blocks old))) false))
