-- Quiet steps make no allocated block.
use Rattle.std.proofs.Common.{◌≡◌, ℕ, ◌+◌, Bool, true, false, List, [], ◌∷◌, Option, Some, None, Result, Ok, Err, refl, ap, ◌∙◌, length}
use Rattle.std.specs.Prelude.{slice_get, if◌then◌else◌, not, ◌&&◌, nat_lt, nat_le, ◌==◌, ◌%◌}
use Rattle.tok_base.specs.declared.token.Span.{Span}
use Rattle.c_core.specs.declared.values.Pointer.{Pointer}
use Rattle.c_core.specs.declared.values.Pointer.TheVariants.{Null, Object, Function}
use Rattle.c_core.specs.declared.values.Value.{Value}
use Rattle.c_core.specs.declared.values.Cell.{Cell}
use Rattle.c_core.specs.declared.values.Scalar.{Scalar}
use Rattle.c_core.specs.declared.values.BlockKind.TheVariants as kind
use Rattle.c_core.specs.declared.values.Fault.{Fault}
use Rattle.c_core.specs.declared.values.Fault.TheVariants as fault
use Rattle.tok_base.specs.declared.reason.Reason.{Reason}
use Rattle.tok_base.specs.declared.reason.Reason.TheVariants as reason
use Rattle.c_core.specs.declared.values.End.{End}
use Rattle.c_core.specs.declared.tree.FixedObject.{FixedObject}
use Rattle.c_core.specs.Values.{scalar_size, cells_of, same_pointer}
use Rattle.c_core.specs.Blocks.{Block, Blocks, Site, reached, reached_in, if_reached, written, moved, overlap, cells_at, replaced, store, copy, fill, is_read_only}
use Rattle.c_meaning.specs.World.{World, Acted, Gives, Stops, judged, take_room, with_local, local_block, without_local, end_local, end_locals, is_heap}
use Rattle.c_meaning.specs.Rules.{as_kind, pointer_in, natural_in, size_in}
use Rattle.c_meaning.specs.Storage.{with_blocks, store_at, copy_record, to_target, from_source, fixed_block, with_fixed, next_byte, get_char, put_byte, copy_bytes, set_bytes, byte_in, zeroed, is_heap_block, allocated}
use Rattle.c_meaning.specs.Meaning.{zero_block, zero_first, nowhere, store_argument}
use Rattle.c_core.specs.Values.{kind_of}
use Rattle.c_meaning.proofs.Sorted.{OkIs, reasoned}
use Rattle.meaning_laws.proofs.Tame.{Heap, Tame, tame_same, tame_then, tame_set, set_keeps, tame_killed, tame_more}

-- only the blocks change, and no allocated one is made
abbrev pub QuietWorld : World → World → Type 0
QuietWorld w v = (v.asked ≡ w.asked) × (v.grants ≡ w.grants) × Tame w.blocks v.blocks

abbrev pub Quiet : {A : Type 0} → World → Acted A → Type 0
Quiet w (Gives a v) = QuietWorld w v
Quiet w (Stops e) = Unit {0}

pub judged_quiet : {A : Type 0} (span : Span) (r : Result A Reason) (w : World) → Quiet w (judged span r w)
judged_quiet span (Ok a) w = (refl, refl, tame_same w.blocks)
judged_quiet span (Err e) w = tt

-- ---- writes

-- a write keeps the allocated blocks as they are
abbrev pub Wrote : Blocks → Blocks → Type 0
Wrote old new = Tame old new × ((n : ℕ) → Heap old n → Heap new n)

if_err : {A : Type 0} (Such : A → Type 0) (b : Bool) (e : Fault) (r : Result A Fault) → OkIs Such r → OkIs Such (if b then Err e else r)
if_err Such true e r h = tt
if_err Such false e r h = h

abbrev Found : Option Block → ℕ → Site → Type 0
Found o n site = (site.number ≡ n) × (o ≡ Some site.block)

in_found : (o : Option Block) (n offset count align : ℕ) (writes : Bool) → OkIs (Found o n) (reached_in o n offset count align writes)
in_found None n offset count align writes = tt
in_found (Some b) n offset count align writes =
    if_err (Found (Some b) n) (not b.live) fault.Dead _
    (if_err (Found (Some b) n) (nat_lt b.size (offset + count)) fault.Bounds _
    (if_err (Found (Some b) n) (not (offset % align == 0)) fault.Misaligned _
    (if_err (Found (Some b) n) (writes && is_read_only b.kind) fault.ReadOnly (Ok (record { number = n; offset = offset; block = b })) (refl, refl))))

abbrev pub IsThere : Blocks → Site → Type 0
IsThere bs site = slice_get bs site.number ≡ Some site.block

found_there : (bs : Blocks) (n : ℕ) (r : Result Site Fault) → OkIs (Found (slice_get bs n) n) r → OkIs (IsThere bs) r
found_there bs n (Ok site) h = ap (slice_get bs) h.0 ∙ h.1
found_there bs n (Err e) h = tt

-- the place of an access is in a block that is there
pub reached_there : (bs : Blocks) (p : Pointer) (count align : ℕ) (writes : Bool) → OkIs (IsThere bs) (reached bs p count align writes)
reached_there bs (Object n offset) count align writes = found_there bs n _ (in_found (slice_get bs n) n offset count align writes)
reached_there bs Null count align writes = tt
reached_there bs (Function n) count align writes = tt

pub at_reached : {A : Type 0} (Such : A → Type 0) (bs : Blocks) (r : Result Site Fault) (f : Site → Result A Fault) → OkIs (IsThere bs) r → ((x : Site) → IsThere bs x → OkIs Such (f x)) → OkIs Such (if_reached r f)
at_reached Such bs (Ok x) f h k = k x h
at_reached Such bs (Err e) f h k = tt

pub written_there : (bs : Blocks) (site : Site) (cells : List Cell) → IsThere bs site → Wrote bs (written bs site cells)
written_there bs site cells e = (
  tame_set bs site.number site.block (record (site.block) { cells = replaced site.block.cells site.offset cells }) e refl (λ h. h),
  set_keeps bs site.number site.block (record (site.block) { cells = replaced site.block.cells site.offset cells }) e refl refl,
)

store_wrote : (bs : Blocks) (p : Pointer) (kind : Scalar) (v : Value) → OkIs (Wrote bs) (store bs p kind v)
store_wrote bs p kind v =
    at_reached (Wrote bs) bs _ _ (reached_there bs p (scalar_size kind) (scalar_size kind) true) (λ site e. written_there bs site (cells_of v) e)

fill_wrote : (bs : Blocks) (p : Pointer) (byte count : ℕ) → OkIs (Wrote bs) (fill bs p byte count)
fill_wrote bs p byte count = at_reached (Wrote bs) bs _ _ (reached_there bs p count 1 true) (λ site e. written_there bs site _ e)

moved_wrote : (bs : Blocks) (t f : Site) (count : ℕ) (may_overlap : Bool) → IsThere bs t → OkIs (Wrote bs) (moved bs t f count may_overlap)
moved_wrote bs t f count may_overlap e =
    if_err (Wrote bs) (not may_overlap && overlap t f count) fault.Overlap (Ok (written bs t (cells_at f count))) (written_there bs t (cells_at f count) e)

pub copy_wrote : (bs : Blocks) (to from : Pointer) (count : ℕ) (may_overlap : Bool) → OkIs (Wrote bs) (copy bs to from count may_overlap)
copy_wrote bs to from count may_overlap =
    at_reached (Wrote bs) bs _ _ (reached_there bs to count 1 true) (λ t e. at_reached (Wrote bs) bs _ _ (reached_there bs from count 1 false) (λ f e'. moved_wrote bs t f count may_overlap e))

pub blocks_quiet : {A : Type 0} (a : A) (w : World) (span : Span) (r : Result Blocks Reason) → OkIs (Wrote w.blocks) r → Quiet w (with_blocks a w span r)
blocks_quiet a w span (Ok bs) h = (refl, refl, h.0)
blocks_quiet a w span (Err e) h = tt

pub store_quiet : (span : Span) (p : Pointer) (kind : Scalar) (v : Value) (w : World) → Quiet w (store_at span p kind v w)
store_quiet span p kind v w = blocks_quiet (as_kind kind v) w span _ (reasoned (Wrote w.blocks) _ (store_wrote w.blocks p kind (as_kind kind v)))

from_quiet : (span : Span) (w : World) (t : Site) (to from : Pointer) (from_at : Span) (size : ℕ) (r : Result Site Fault) → IsThere w.blocks t → Quiet w (from_source span w t to from from_at size r)
from_quiet span w t to from from_at size (Ok f) e = blocks_quiet tt w span _ (reasoned (Wrote w.blocks) _ (moved_wrote w.blocks t f size (same_pointer to from) e))
from_quiet span w t to from from_at size (Err x) e = tt

to_quiet : (span : Span) (w : World) (to : Pointer) (to_at : Span) (from : Pointer) (from_at : Span) (size : ℕ) (r : Result Site Fault) → OkIs (IsThere w.blocks) r → Quiet w (to_target span w to to_at from from_at size r)
to_quiet span w to to_at from from_at size (Ok t) e = from_quiet span w t to from from_at size (reached w.blocks from size 1 false) e
to_quiet span w to to_at from from_at size (Err x) e = tt

pub record_quiet : (span : Span) (to : Pointer) (to_at : Span) (from : Pointer) (from_at : Span) (size : ℕ) (w : World) → Quiet w (copy_record span to to_at from from_at size w)
record_quiet span to to_at from from_at size w = to_quiet span w to to_at from from_at size (reached w.blocks to size 1 true) (reached_there w.blocks to size 1 true)

pub copy_quiet : (span : Span) (may_overlap : Bool) (to from count : Value) (w : World) → Quiet w (copy_bytes span may_overlap to from count w)
copy_quiet span may_overlap to from count w =
    blocks_quiet to w span _ (reasoned (Wrote w.blocks) _ (copy_wrote w.blocks (pointer_in to) (pointer_in from) (natural_in count) may_overlap))

pub set_quiet : (span : Span) (to byte count : Value) (w : World) → Quiet w (set_bytes span to byte count w)
set_quiet span to byte count w = blocks_quiet to w span _ (reasoned (Wrote w.blocks) _ (fill_wrote w.blocks (pointer_in to) (byte_in byte) (natural_in count)))

pub zeroed_quiet : (span : Span) (n size : ℕ) (w : World) → Quiet w (zeroed span n size w)
zeroed_quiet span n size w = blocks_quiet tt w span _ (reasoned (Wrote w.blocks) _ (fill_wrote w.blocks (Object n 0) 0 size))

zero_block_quiet : (block : Option ℕ) (w : World) → Quiet w (zero_block block w)
zero_block_quiet None w = tt
zero_block_quiet (Some n) w = zeroed_quiet nowhere n (size_in (slice_get w.blocks n)) w

pub zero_quiet : (zeros : Bool) (x : ℕ) (w : World) → Quiet w (zero_first zeros x w)
zero_quiet false x w = (refl, refl, tame_same w.blocks)
zero_quiet true x w = zero_block_quiet (local_block w x) w

pub argument_quiet : (span : Span) (block : Option ℕ) (v : Value) (w : World) → Quiet w (store_argument span block v w)
argument_quiet span None v w = tt
argument_quiet span (Some n) v w = store_quiet span (Object n 0) (kind_of v) v w

-- ---- streams and room

next_quiet : (input : List ℕ) (w : World) → Quiet w (next_byte input w)
next_quiet [] w = (refl, refl, tame_same w.blocks)
next_quiet (b ∷ rest) w = (refl, refl, tame_same w.blocks)

pub get_quiet : (w : World) → Quiet w (get_char w)
get_quiet w = next_quiet w.input w

if_quiet : {A : Type 0} (w : World) (b : Bool) (a : A) (v : World) (e : End) → QuietWorld w v → Quiet w (if b then Gives a v else Stops e)
if_quiet w true a v e h = h
if_quiet w false a v e h = tt

pub put_quiet : (b : ℕ) (w : World) → Quiet w (put_byte b w)
put_quiet b w = if_quiet w (nat_lt (length w.output) 16777216) _ _ _ (refl, refl, tame_same w.blocks)

pub room_quiet : (n : ℕ) (w : World) → Quiet w (take_room n w)
room_quiet n w = if_quiet w (nat_le n w.room) _ _ _ (refl, refl, tame_same w.blocks)

-- ---- objects

pub local_quiet : (x size : ℕ) (w : World) → QuietWorld w (with_local x size w)
local_quiet x size w = (refl, refl, tame_more w.blocks _ refl)

read_only_or_not : (b : Bool) → is_heap (if b then kind.ReadOnly else kind.Fixed) ≡ false
read_only_or_not true = refl
read_only_or_not false = refl

fixed_or_not : (b : Bool) (x y : Block) → is_heap x.kind ≡ false → is_heap y.kind ≡ false → is_heap (let z : Block = if b then x else y in z.kind) ≡ false
fixed_or_not true x y h k = h
fixed_or_not false x y h k = k

pub fixed_quiet : (o : FixedObject) (w : World) → QuietWorld w (with_fixed o w)
fixed_quiet o w = (refl, refl, tame_more w.blocks (fixed_block o) (fixed_or_not o.defined _ _ (read_only_or_not o.read_only) refl))

without_quiet : (block : Option ℕ) (w : World) → QuietWorld w (without_local block w)
without_quiet None w = (refl, refl, tame_same w.blocks)
without_quiet (Some n) w = (refl, refl, tame_killed w.blocks n)

end_quiet : (x size : ℕ) (w : World) → QuietWorld w (end_local x size w)
end_quiet x size w = let q = without_quiet (local_block w x) w in (q.0, q.1, q.2)

pub ends_quiet : (objects : List (ℕ × ℕ)) (w : World) → QuietWorld w (end_locals objects w)
ends_quiet [] w = (refl, refl, tame_same w.blocks)
ends_quiet (o ∷ objects) w =
    let a = ends_quiet objects w in
    let b = end_quiet o.0 o.1 (end_locals objects w) in
    (b.0 ∙ a.0, b.1 ∙ a.1, tame_then w.blocks _ _ a.2 b.2)

-- ---- what may be given back

ok_when : {A E : Type 0} (Such : A → Type 0) (b : Bool) (a : A) (e : E) → (b ≡ true → Such a) → OkIs Such (if b then Ok a else Err e)
ok_when Such true a e h = h refl
ok_when Such false a e h = tt

second_true : (a b : Bool) → (a && b) ≡ true → b ≡ true
second_true true b h = h
second_true false b h = absurd (let e : false ≡ true = h in cc)

pub allocated_heap : (bs : Blocks) (p : Pointer) → OkIs (Heap bs) (allocated bs p)
allocated_heap bs (Object n offset) = ok_when (Heap bs) ((offset == 0) && is_heap_block (slice_get bs n)) n reason.BadFree (second_true (offset == 0) (is_heap_block (slice_get bs n)))
allocated_heap bs Null = tt
allocated_heap bs (Function n) = tt
