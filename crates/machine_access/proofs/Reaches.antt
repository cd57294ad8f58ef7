-- What an access of bytes reaches, and what a copy of a record is.
use Rattle.std.proofs.Common.{◌≡◌, ℕ, ◌+◌, ◌%◌, Bool, true, false, not, ◌&&◌, Option, Some, None, Result, Ok, Err, refl, sym, ap, arith, eqb, ltb}
use Rattle.std.specs.Prelude.{if◌then◌else◌, slice_get}
use Rattle.tok_base.specs.declared.token.Span.{Span}
use Rattle.c_core.specs.declared.values.Fault.{Fault}
use Rattle.c_core.specs.declared.values.Fault.TheVariants.{Dead, Bounds, Misaligned, ReadOnly}
use Rattle.c_core.specs.declared.values.Pointer.{Pointer}
use Rattle.c_core.specs.declared.values.Pointer.TheVariants.{Object}
use Rattle.c_core.specs.declared.values.End.TheVariants.{Trap}
use Rattle.c_core.specs.Blocks.{Block, Blocks, Site, reached, reached_in, if_reached, moved, copy, reason_of, is_read_only}
use Rattle.c_core.specs.Values.{same_pointer}
use Rattle.c_meaning.specs.World.{World, Stops}
use Rattle.c_meaning.specs.Storage.{to_target, from_source, copy_record, with_blocks, with_reason}
use Rattle.block_memory.specs.Shape.{Tells}
use Rattle.block_memory.specs.declared.memory.BlockInfo.{BlockInfo}
use Rattle.machine_access.specs.Reach.{fault_of, tested_bytes}

-- every number is a multiple of 1
no_rest : (o : ℕ) → eqb (o % 1) 0 ≡ true
no_rest o = let e : o % 1 ≡ 0 = omega arith in rw e refl

abbrev chosen : {A : Type 0} → (dead out odd fixed : Bool) → A → Result A Fault
chosen dead out odd fixed a = if dead then Err Dead else (if out then Err Bounds else (if odd then Err Misaligned else (if fixed then Err ReadOnly else Ok a)))

steps : (site : Site) (dead out fixed : Bool) → fault_of (chosen dead out false fixed site) ≡ (if dead then Err Dead else (if out then Err Bounds else (if fixed then Err ReadOnly else Ok tt)))
steps site true out fixed = refl
steps site false true fixed = refl
steps site false false true = refl
steps site false false false = refl

in_block : (ob : Option Block) (n o count : ℕ) (writes : Bool) (info : BlockInfo) → Tells ob info → fault_of (reached_in ob n o count 1 writes) ≡ tested_bytes info o count writes
in_block None n o count writes info t = absurd t
in_block (Some b) n o count writes info t =
    rw (t.0, t.1, t.2, no_rest o) (steps (record { number = n; offset = o; block = b }) (not b.live) (ltb b.size (o + count)) (writes && is_read_only b.kind))

-- what is told of a block tells which fault an access has
pub bytes_tested : (bs : Blocks) (n o count : ℕ) (writes : Bool) (info : BlockInfo) → Tells (slice_get bs n) info → tested_bytes info o count writes ≡ fault_of (reached bs (Object n o) count 1 writes)
bytes_tested bs n o count writes info t = sym (in_block (slice_get bs n) n o count writes info t)

ok_or_err : (r : Result Site Fault) (f : Fault) → fault_of r ≡ Err f → r ≡ Err f
ok_or_err (Ok site) f e = cc
ok_or_err (Err g) f e = cc

pub target_faults : (span : Span) (w : World) (to : Pointer) (to_at : Span) (from : Pointer) (from_at : Span) (size : ℕ) (f : Fault) → fault_of (reached w.blocks to size 1 true) ≡ Err f
    → copy_record span to to_at from from_at size w ≡ Stops (Trap (reason_of f) to_at)
target_faults span w to to_at from from_at size f e = ap (λ (r : Result Site Fault). to_target span w to to_at from from_at size r) (ok_or_err (reached w.blocks to size 1 true) f e)

from_faults : (span : Span) (w : World) (to : Pointer) (to_at : Span) (from : Pointer) (from_at : Span) (size : ℕ) (f : Fault) (t : Result Site Fault) → fault_of t ≡ Ok tt → reached w.blocks from size 1 false ≡ Err f
    → to_target span w to to_at from from_at size t ≡ Stops (Trap (reason_of f) from_at)
from_faults span w to to_at from from_at size f (Err g) e h = cc
from_faults span w to to_at from from_at size f (Ok t) e h = ap (λ (r : Result Site Fault). from_source span w t to from from_at size r) h

pub source_faults : (span : Span) (w : World) (to : Pointer) (to_at : Span) (from : Pointer) (from_at : Span) (size : ℕ) (f : Fault) → fault_of (reached w.blocks to size 1 true) ≡ Ok tt → fault_of (reached w.blocks from size 1 false) ≡ Err f
    → copy_record span to to_at from from_at size w ≡ Stops (Trap (reason_of f) from_at)
source_faults span w to to_at from from_at size f t e = from_faults span w to to_at from from_at size f (reached w.blocks to size 1 true) t (ok_or_err (reached w.blocks from size 1 false) f e)

both_there : (span : Span) (w : World) (to : Pointer) (to_at : Span) (from : Pointer) (from_at : Span) (size : ℕ) (t f : Result Site Fault) → fault_of t ≡ Ok tt → fault_of f ≡ Ok tt → reached w.blocks from size 1 false ≡ f
    → to_target span w to to_at from from_at size t ≡ with_blocks tt w span (with_reason (if_reached t (λ a. if_reached f (λ b. moved w.blocks a b size (same_pointer to from)))))
both_there span w to to_at from from_at size (Err g) f e h is = cc
both_there span w to to_at from from_at size (Ok t) (Err g) e h is = cc
both_there span w to to_at from from_at size (Ok t) (Ok f) e h is = ap (λ (r : Result Site Fault). from_source span w t to from from_at size r) is

-- where both places can be accessed, a copy of a record is a copy of its cells
pub both_reached : (span : Span) (w : World) (to : Pointer) (to_at : Span) (from : Pointer) (from_at : Span) (size : ℕ) → fault_of (reached w.blocks to size 1 true) ≡ Ok tt → fault_of (reached w.blocks from size 1 false) ≡ Ok tt
    → copy_record span to to_at from from_at size w ≡ with_blocks tt w span (with_reason (copy w.blocks to from size (same_pointer to from)))
both_reached span w to to_at from from_at size t f = both_there span w to to_at from from_at size (reached w.blocks to size 1 true) (reached w.blocks from size 1 false) t f refl
