-- Quiet steps leave no pointer to a function that isn't there.
use Rattle.std.proofs.Common.{◌≡◌, ℕ, zero, suc, ◌+◌, Bool, true, false, List, [], ◌∷◌, ◌++◌, map, take, drop, replicate, length, Option, Some, None, Result, Ok, Err, sym, subst, min, pos, ℤ}
use Rattle.std.specs.Prelude.{slice_get, slice_set, if◌then◌else◌, not, ◌&&◌, nat_lt, nat_le}
use Rattle.tok_base.specs.declared.token.Span.{Span}
use Rattle.tok_base.specs.declared.reason.Reason.{Reason}
use Rattle.tok_base.specs.declared.reason.Reason.TheVariants as reason
use Rattle.num_ops.specs.declared.kinds.IntKind.{IntKind}
use Rattle.num_ops.specs.declared.kinds.IntKind.TheVariants as kinds
use Rattle.num_ops.specs.declared.arithmetic.Op.{Op}
use Rattle.num_ops.specs.declared.shifts.Cmp.{Cmp}
use Rattle.num_ops.specs.Conversions.{bits_of}
use Rattle.c_core.specs.declared.values.Pointer.{Pointer}
use Rattle.c_core.specs.declared.values.Pointer.TheVariants.{Null, Object, Function}
use Rattle.c_core.specs.declared.values.Value.{Value}
use Rattle.c_core.specs.declared.values.Value.TheVariants as value
use Rattle.c_core.specs.declared.values.Cell.{Cell}
use Rattle.c_core.specs.declared.values.Cell.TheVariants.{Undefined, Byte, Part}
use Rattle.c_core.specs.declared.values.Scalar.{Scalar}
use Rattle.c_core.specs.declared.values.Scalar.TheVariants as scalar
use Rattle.c_core.specs.declared.values.BlockKind.{BlockKind}
use Rattle.c_core.specs.declared.values.Fault.{Fault}
use Rattle.c_core.specs.declared.values.Fault.TheVariants as fault
use Rattle.c_core.specs.declared.values.End.{End}
use Rattle.c_core.specs.declared.tree.FixedObject.{FixedObject}
use Rattle.c_core.specs.declared.tree.ModifyOp.{ModifyOp}
use Rattle.c_core.specs.declared.tree.ModifyOp.TheVariants as modify
use Rattle.c_core.specs.declared.tree.Place.{Place}
use Rattle.c_core.specs.declared.tree.Place.TheVariants as place
use Rattle.c_core.specs.Values.{scalar_size, little_endian, cells_of, parts, pointer_cells, value_in, scalar_in, pointer_in as pointer_in_cells, same_cells, has_undefined, has_part, same_pointer, kind_of}
use Rattle.c_core.specs.Blocks.{Block, Blocks, Site, reached, written, moved, overlap, cells_at, load, store, copy, fill, killed, killed_in, dead}
use Rattle.c_meaning.specs.World.{World, Acted, Gives, Stops, judged, take_room, local_block, without_local, end_locals}
use Rattle.c_meaning.specs.Rules.{if_ok, int, as_kind, number_in, pointer_in, natural_in, size_in, truth, ptr_add, ptr_add_to, ptr_diff, compare_ptr, modified, arith as arith_value, shift}
use Rattle.c_meaning.specs.Storage.{with_reason, with_blocks, load_at, store_at, copy_record, to_target, from_source, fixed_block, set_cells, with_fixed, next_byte, get_char, put_byte, copy_bytes, set_bytes, byte_in, zeroed, resized, compare_bytes, string_length, address, local_address, is_defined}
use Rattle.c_meaning.specs.Meaning.{zero_block, zero_first, nowhere, store_argument}
use Rattle.c_meaning.proofs.Sorted.{OkIs, IsOf, reasoned, if_ok_is, truth_sort, ptr_diff_sort, compare_ptr_sort, number_sort, ok_if}
use Rattle.meaning_laws.specs.Numbers.{PointerIn, ValueIn, CellIn, CellsIn, BlocksIn, WorldIn}
use Rattle.meaning_laws.proofs.Quiet.{IsThere, reached_there, at_reached}

module _ (count : ℕ) where
  -- ---- cells

  take_in : (k : ℕ) (cells : List Cell) → CellsIn count cells → CellsIn count (take k cells)
  take_in zero cells h = tt
  take_in (suc k) [] h = tt
  take_in (suc k) (c ∷ cells) h = (h.0, take_in k cells h.1)

  drop_in : (k : ℕ) (cells : List Cell) → CellsIn count cells → CellsIn count (drop k cells)
  drop_in zero cells h = h
  drop_in (suc k) [] h = tt
  drop_in (suc k) (c ∷ cells) h = drop_in k cells h.1

  append_in : (xs ys : List Cell) → CellsIn count xs → CellsIn count ys → CellsIn count (xs ++ ys)
  append_in [] ys h k = k
  append_in (c ∷ xs) ys h k = (h.0, append_in xs ys h.1 k)

  same_in : (k : ℕ) (c : Cell) → CellIn count c → CellsIn count (replicate k c)
  same_in zero c h = tt
  same_in (suc k) c h = (h, same_in k c h)

  bytes_in : (bs : List ℕ) → CellsIn count (map Byte bs)
  bytes_in [] = tt
  bytes_in (b ∷ bs) = (tt, bytes_in bs)

  parts_in : (p : Pointer) → PointerIn count p → CellsIn count (parts p)
  parts_in p h = (h, (h, (h, (h, (h, (h, (h, (h, tt))))))))

  pointer_cells_in : (p : Pointer) → PointerIn count p → CellsIn count (pointer_cells p)
  pointer_cells_in Null h = same_in 8 (Byte 0) tt
  pointer_cells_in (Object n i) h = parts_in (Object n i) h
  pointer_cells_in (Function f) h = parts_in (Function f) h

  value_cells_in : (v : Value) → ValueIn count v → CellsIn count (cells_of v)
  value_cells_in (value.Int n) h = bytes_in (little_endian (scalar_size (scalar.Int n.kind)) (bits_of n.kind n.value))
  value_cells_in (value.Ptr p) h = pointer_cells_in p h

  set_in : (cells : List Cell) (k : ℕ) (c : Cell) → CellIn count c → CellsIn count cells → CellsIn count (slice_set cells k c)
  set_in [] k c i h = tt
  set_in (x ∷ cells) zero c i h = (i, h.1)
  set_in (x ∷ cells) (suc k) c i h = (h.0, set_in cells k c i h.1)

  -- ---- values

  if_in : (b : Bool) (v : Value) (e : Fault) → ValueIn count v → OkIs (ValueIn count) (if b then Ok v else Err e)
  if_in b v e h = ok_if (ValueIn count) b v e h

  pointer_value : (cells : List Cell) → CellsIn count cells → OkIs (ValueIn count) (pointer_in_cells cells)
  pointer_value [] h = if_in (same_cells [] (replicate 8 (Byte 0))) (value.Ptr Null) fault.TornPointer tt
  pointer_value (Undefined ∷ cells) h = if_in (same_cells (Undefined ∷ cells) (replicate 8 (Byte 0))) (value.Ptr Null) fault.TornPointer tt
  pointer_value (Byte b ∷ cells) h = if_in (same_cells (Byte b ∷ cells) (replicate 8 (Byte 0))) (value.Ptr Null) fault.TornPointer tt
  pointer_value (Part p i ∷ cells) h = if_in (same_cells (Part p i ∷ cells) (parts p)) (value.Ptr p) fault.TornPointer h.0

  err_first : (b : Bool) (e : Fault) (r : Result Value Fault) → OkIs (ValueIn count) r → OkIs (ValueIn count) (if b then Err e else r)
  err_first true e r h = tt
  err_first false e r h = h

  scalar_value : (kind : Scalar) (cells : List Cell) → CellsIn count cells → OkIs (ValueIn count) (scalar_in kind cells)
  scalar_value (scalar.Int kind) cells h = err_first (has_part cells) fault.PointerBytes _ tt
  scalar_value scalar.Ptr cells h = pointer_value cells h

  loaded_value : (kind : Scalar) (cells : List Cell) → CellsIn count cells → OkIs (ValueIn count) (value_in kind cells)
  loaded_value kind cells h = err_first (has_undefined cells) fault.Indeterminate (scalar_in kind cells) (scalar_value kind cells h)

  -- an integer
  pub number_in_core : {A : Type 0} (kind : Scalar) (r : Result Value A) → OkIs (IsOf kind) r → (kind ≡ scalar.Ptr → ⊥) → OkIs (ValueIn count) r
  number_in_core kind (Ok (value.Int n)) h other = tt
  number_in_core kind (Ok (value.Ptr p)) h other = absurd (other (sym h))
  number_in_core kind (Err e) h other = tt

  pub pointer_part : (v : Value) → ValueIn count v → PointerIn count (pointer_in v)
  pointer_part (value.Int n) h = tt
  pointer_part (value.Ptr p) h = h

  pub as_kind_in : (kind : Scalar) (v : Value) → ValueIn count v → ValueIn count (as_kind kind v)
  as_kind_in (scalar.Int kind) v h = tt
  as_kind_in scalar.Ptr v h = pointer_part v h

  -- ---- blocks

  block_in : (bs : Blocks) (k : ℕ) (b : Block) → BlocksIn count bs → slice_get bs k ≡ Some b → CellsIn count b.cells
  block_in [] k b h e = absurd (let f : None ≡ Some b = e in cc)
  block_in (x ∷ bs) zero b h e = let same : x ≡ b = cc in subst (λ (y : Block). CellsIn count y.cells) same h.0
  block_in (x ∷ bs) (suc k) b h e = block_in bs k b h.1 e

  set_block : (bs : Blocks) (k : ℕ) (b : Block) → BlocksIn count bs → CellsIn count b.cells → BlocksIn count (slice_set bs k b)
  set_block [] k b h i = tt
  set_block (x ∷ bs) zero b h i = (i, h.1)
  set_block (x ∷ bs) (suc k) b h i = (h.0, set_block bs k b h.1 i)

  more_block : (bs : Blocks) (b : Block) → BlocksIn count bs → CellsIn count b.cells → BlocksIn count (bs ++ b ∷ [])
  more_block [] b h i = (i, tt)
  more_block (x ∷ bs) b h i = (h.0, more_block bs b h.1 i)

  killed_at : (bs : Blocks) (k : ℕ) (o : Option Block) → BlocksIn count bs → BlocksIn count (killed_in bs k o)
  killed_at bs k None h = h
  killed_at bs k (Some b) h = set_block bs k (dead b) h tt

  pub killed_blocks : (bs : Blocks) (k : ℕ) → BlocksIn count bs → BlocksIn count (killed bs k)
  killed_blocks bs k h = killed_at bs k (slice_get bs k) h

  pub placed_blocks : (bs : Blocks) (kind : BlockKind) (size : ℕ) → BlocksIn count bs → BlocksIn count (bs ++ record { kind = kind; size = size; live = true; cells = replicate size Undefined } ∷ [])
  placed_blocks bs kind size h = more_block bs _ h (same_in size Undefined tt)

  site_cells : (bs : Blocks) (x : Site) (size : ℕ) → BlocksIn count bs → IsThere bs x → CellsIn count (cells_at x size)
  site_cells bs x size h e = take_in size (drop x.offset x.block.cells) (drop_in x.offset x.block.cells (block_in bs x.number x.block h e))

  written_blocks : (bs : Blocks) (x : Site) (cells : List Cell) → BlocksIn count bs → IsThere bs x → CellsIn count cells → BlocksIn count (written bs x cells)
  written_blocks bs x cells h e i =
      let old = block_in bs x.number x.block h e in
      set_block bs x.number _ h (append_in (take x.offset x.block.cells ++ cells) (drop (x.offset + length cells) x.block.cells) (append_in (take x.offset x.block.cells) cells (take_in x.offset x.block.cells old) i) (drop_in (x.offset + length cells) x.block.cells old))

  pub load_in : (bs : Blocks) (p : Pointer) (kind : Scalar) → BlocksIn count bs → OkIs (ValueIn count) (load bs p kind)
  load_in bs p kind h =
      at_reached (ValueIn count) bs _ _ (reached_there bs p (scalar_size kind) (scalar_size kind) false) (λ x e. loaded_value kind (cells_at x (scalar_size kind)) (site_cells bs x (scalar_size kind) h e))

  store_in : (bs : Blocks) (p : Pointer) (kind : Scalar) (v : Value) → BlocksIn count bs → ValueIn count v → OkIs (BlocksIn count) (store bs p kind v)
  store_in bs p kind v h i =
      at_reached (BlocksIn count) bs _ _ (reached_there bs p (scalar_size kind) (scalar_size kind) true) (λ x e. written_blocks bs x (cells_of v) h e (value_cells_in v i))

  fill_in : (bs : Blocks) (p : Pointer) (byte size : ℕ) → BlocksIn count bs → OkIs (BlocksIn count) (fill bs p byte size)
  fill_in bs p byte size h = at_reached (BlocksIn count) bs _ _ (reached_there bs p size 1 true) (λ x e. written_blocks bs x _ h e (same_in size (Byte byte) tt))

  err_blocks : (b : Bool) (e : Fault) (r : Result Blocks Fault) → OkIs (BlocksIn count) r → OkIs (BlocksIn count) (if b then Err e else r)
  err_blocks true e r h = tt
  err_blocks false e r h = h

  moved_in : (bs : Blocks) (x y : Site) (size : ℕ) (may_overlap : Bool) → BlocksIn count bs → IsThere bs x → IsThere bs y → OkIs (BlocksIn count) (moved bs x y size may_overlap)
  moved_in bs x y size may_overlap h e e' =
      err_blocks (not may_overlap && overlap x y size) fault.Overlap (Ok (written bs x (cells_at y size))) (written_blocks bs x (cells_at y size) h e (site_cells bs y size h e'))

  copy_in : (bs : Blocks) (to from : Pointer) (size : ℕ) (may_overlap : Bool) → BlocksIn count bs → OkIs (BlocksIn count) (copy bs to from size may_overlap)
  copy_in bs to from size may_overlap h =
      at_reached (BlocksIn count) bs _ _ (reached_there bs to size 1 true) (λ x e. at_reached (BlocksIn count) bs _ _ (reached_there bs from size 1 false) (λ y e'. moved_in bs x y size may_overlap h e e'))

  -- ---- steps

  -- what a step gives, and the world that it leaves
  abbrev pub In : {A : Type 0} → (A → Type 0) → Acted A → Type 0
  In Such (Gives a w) = Such a × WorldIn count w
  In Such (Stops e) = Unit {0}

  abbrev pub Any : {A : Type 0} → A → Type 0
  Any a = Unit {0}

  pub judged_in : {A : Type 0} (Such : A → Type 0) (span : Span) (r : Result A Reason) (w : World) → WorldIn count w → OkIs Such r → In Such (judged span r w)
  judged_in Such span (Ok a) w h i = (i, h)
  judged_in Such span (Err e) w h i = tt

  blocks_in_act : {A : Type 0} (Such : A → Type 0) (a : A) (w : World) (span : Span) (r : Result Blocks Reason) → Such a → OkIs (BlocksIn count) r → In Such (with_blocks a w span r)
  blocks_in_act Such a w span (Ok bs) i h = (i, h)
  blocks_in_act Such a w span (Err e) i h = tt

  pub load_step : (span : Span) (p : Pointer) (kind : Scalar) (w : World) → WorldIn count w → In (ValueIn count) (load_at span p kind w)
  load_step span p kind w h = judged_in (ValueIn count) span _ w h (reasoned (ValueIn count) (load w.blocks p kind) (load_in w.blocks p kind h))

  pub store_step : (span : Span) (p : Pointer) (kind : Scalar) (v : Value) (w : World) → WorldIn count w → ValueIn count v → In (ValueIn count) (store_at span p kind v w)
  store_step span p kind v w h i =
      let j = as_kind_in kind v i in
      blocks_in_act (ValueIn count) (as_kind kind v) w span _ j (reasoned (BlocksIn count) (store w.blocks p kind (as_kind kind v)) (store_in w.blocks p kind (as_kind kind v) h j))

  from_step : (span : Span) (w : World) (x : Site) (to from : Pointer) (from_at : Span) (size : ℕ) (r : Result Site Fault) → WorldIn count w → IsThere w.blocks x → OkIs (IsThere w.blocks) r → In Any (from_source span w x to from from_at size r)
  from_step span w x to from from_at size (Ok y) h e e' = blocks_in_act Any tt w span _ tt (reasoned (BlocksIn count) (moved w.blocks x y size (same_pointer to from)) (moved_in w.blocks x y size (same_pointer to from) h e e'))
  from_step span w x to from from_at size (Err f) h e e' = tt

  to_step : (span : Span) (w : World) (to : Pointer) (to_at : Span) (from : Pointer) (from_at : Span) (size : ℕ) (r : Result Site Fault) → WorldIn count w → OkIs (IsThere w.blocks) r → In Any (to_target span w to to_at from from_at size r)
  to_step span w to to_at from from_at size (Ok x) h e = from_step span w x to from from_at size (reached w.blocks from size 1 false) h e (reached_there w.blocks from size 1 false)
  to_step span w to to_at from from_at size (Err f) h e = tt

  pub record_step : (span : Span) (to : Pointer) (to_at : Span) (from : Pointer) (from_at : Span) (size : ℕ) (w : World) → WorldIn count w → In Any (copy_record span to to_at from from_at size w)
  record_step span to to_at from from_at size w h = to_step span w to to_at from from_at size (reached w.blocks to size 1 true) h (reached_there w.blocks to size 1 true)

  pub copy_step : (span : Span) (may_overlap : Bool) (to from size : Value) (w : World) → WorldIn count w → ValueIn count to → In (ValueIn count) (copy_bytes span may_overlap to from size w)
  copy_step span may_overlap to from size w h i =
      blocks_in_act (ValueIn count) to w span _ i (reasoned (BlocksIn count) (copy w.blocks (pointer_in to) (pointer_in from) (natural_in size) may_overlap) (copy_in w.blocks (pointer_in to) (pointer_in from) (natural_in size) may_overlap h))

  pub set_step : (span : Span) (to byte size : Value) (w : World) → WorldIn count w → ValueIn count to → In (ValueIn count) (set_bytes span to byte size w)
  set_step span to byte size w h i =
      blocks_in_act (ValueIn count) to w span _ i (reasoned (BlocksIn count) (fill w.blocks (pointer_in to) (byte_in byte) (natural_in size)) (fill_in w.blocks (pointer_in to) (byte_in byte) (natural_in size) h))

  pub zeroed_step : (span : Span) (n size : ℕ) (w : World) → WorldIn count w → In Any (zeroed span n size w)
  zeroed_step span n size w h = blocks_in_act Any tt w span _ tt (reasoned (BlocksIn count) (fill w.blocks (Object n 0) 0 size) (fill_in w.blocks (Object n 0) 0 size h))

  pub resized_step : (span : Span) (new old size : ℕ) (w : World) → WorldIn count w → In Any (resized span new old size w)
  resized_step span new old size w h =
      blocks_in_act Any tt w span _ tt (reasoned (BlocksIn count) (copy w.blocks (Object new 0) (Object old 0) (min size (size_in (slice_get w.blocks old))) false) (copy_in w.blocks (Object new 0) (Object old 0) (min size (size_in (slice_get w.blocks old))) false h))

  zero_block_step : (block : Option ℕ) (w : World) → WorldIn count w → In Any (zero_block block w)
  zero_block_step None w h = tt
  zero_block_step (Some n) w h = zeroed_step nowhere n (size_in (slice_get w.blocks n)) w h

  pub zero_step : (zeros : Bool) (x : ℕ) (w : World) → WorldIn count w → In Any (zero_first zeros x w)
  zero_step false x w h = (tt, h)
  zero_step true x w h = zero_block_step (local_block w x) w h

  pub argument_step : (span : Span) (block : Option ℕ) (v : Value) (w : World) → WorldIn count w → ValueIn count v → In (ValueIn count) (store_argument span block v w)
  argument_step span None v w h i = tt
  argument_step span (Some n) v w h i = store_step span (Object n 0) (kind_of v) v w h i

  if_step : {A : Type 0} (Such : A → Type 0) (b : Bool) (a : A) (w : World) (e : End) → Such a → WorldIn count w → In Such (if b then Gives a w else Stops e)
  if_step Such true a w e i h = (i, h)
  if_step Such false a w e i h = tt

  next_step : (input : List ℕ) (w : World) → WorldIn count w → In (ValueIn count) (next_byte input w)
  next_step [] w h = (tt, h)
  next_step (b ∷ rest) w h = (tt, h)

  pub get_step : (w : World) → WorldIn count w → In (ValueIn count) (get_char w)
  get_step w h = next_step w.input w h

  pub put_step : (b : ℕ) (w : World) → WorldIn count w → In (ValueIn count) (put_byte b w)
  put_step b w h = if_step (ValueIn count) (nat_lt (length w.output) 16777216) _ _ _ tt h

  pub room_step : (n : ℕ) (w : World) → WorldIn count w → In Any (take_room n w)
  room_step n w h = if_step Any (nat_le n w.room) _ _ _ tt h

  without_in : (block : Option ℕ) (w : World) → WorldIn count w → WorldIn count (without_local block w)
  without_in None w h = h
  without_in (Some n) w h = killed_blocks w.blocks n h

  pub ends_in : (objects : List (ℕ × ℕ)) (w : World) → WorldIn count w → WorldIn count (end_locals objects w)
  ends_in [] w h = h
  ends_in (o ∷ objects) w h = without_in (local_block (end_locals objects w) o.0) (end_locals objects w) (ends_in objects w h)

  -- ---- rules

  kind_is_none : (kind : IntKind) → scalar.Int kind ≡ scalar.Ptr → ⊥
  kind_is_none kind e = cc

  number_act : (kind : IntKind) (span : Span) (r : Result Value Reason) (w : World) → WorldIn count w → OkIs (IsOf (scalar.Int kind)) r → In (ValueIn count) (judged span r w)
  number_act kind span r w h i = judged_in (ValueIn count) span r w h (number_in_core (scalar.Int kind) r i (kind_is_none kind))

  pub truth_step : (span : Span) (v : Value) (negated : Bool) (w : World) → WorldIn count w → In (ValueIn count) (judged span (truth w.blocks v negated) w)
  truth_step span v negated w h = number_act _ span (truth w.blocks v negated) w h (truth_sort w.blocks v negated)

  pub diff_step : (span : Span) (p q : Value) (size : ℕ) (w : World) → WorldIn count w → In (ValueIn count) (judged span (ptr_diff w.blocks p q size) w)
  diff_step span p q size w h = number_act _ span (ptr_diff w.blocks p q size) w h (ptr_diff_sort w.blocks p q size)

  pub compare_step : (span : Span) (op : Cmp) (p q : Value) (w : World) → WorldIn count w → In (ValueIn count) (judged span (compare_ptr op w.blocks p q) w)
  compare_step span op p q w h = number_act _ span (compare_ptr op w.blocks p q) w h (compare_ptr_sort op w.blocks p q)

  -- a sum is a place in an object
  err_reason : (b : Bool) (e : Reason) (r : Result Value Reason) → OkIs (ValueIn count) r → OkIs (ValueIn count) (if b then Err e else r)
  err_reason true e r h = tt
  err_reason false e r h = h

  add_to_in : (bs : Blocks) (p : Pointer) (z : ℤ) (size : ℕ) (minus : Bool) → OkIs (ValueIn count) (ptr_add_to bs p z size minus)
  add_to_in bs (Object n i) z size minus = ok_if (ValueIn count) _ _ reason.PointerRange tt
  add_to_in bs Null z size minus = tt
  add_to_in bs (Function f) z size minus = tt

  add_in : (bs : Blocks) (p i : Value) (size : ℕ) (minus : Bool) → OkIs (ValueIn count) (ptr_add bs p i size minus)
  add_in bs p i size minus = err_reason _ reason.Dead (ptr_add_to bs (pointer_in p) _ size minus) (add_to_in bs (pointer_in p) _ size minus)

  pub add_step : (span : Span) (p i : Value) (size : ℕ) (minus : Bool) (w : World) → WorldIn count w → In (ValueIn count) (judged span (ptr_add w.blocks p i size minus) w)
  add_step span p i size minus w h = judged_in (ValueIn count) span (ptr_add w.blocks p i size minus) w h (add_in w.blocks p i size minus)

  pub arith_step : (span : Span) (op : Op) (a b : Value) (w : World) → WorldIn count w → In (ValueIn count) (judged span (arith_value op a b) w)
  arith_step span op a b w h = number_act _ span (arith_value op a b) w h (number_sort (number_in a).kind _)

  pub shift_step : (span : Span) (left : Bool) (a b : Value) (w : World) → WorldIn count w → In (ValueIn count) (judged span (shift left a b) w)
  shift_step span left a b w h = number_act _ span (shift left a b) w h (number_sort (number_in a).kind _)

  modified_in : (op : ModifyOp) (common : IntKind) (bs : Blocks) (old x : Value) → OkIs (ValueIn count) (modified op common bs old x)
  modified_in (modify.Arith op) common bs old x = number_in_core (scalar.Int common) _ (number_sort common _) (kind_is_none common)
  modified_in (modify.ShiftBits left) common bs old x = number_in_core (scalar.Int common) _ (number_sort common _) (kind_is_none common)
  modified_in (modify.PtrAdd size minus) common bs old x = add_in bs old x size minus

  pub modified_step : (span : Span) (op : ModifyOp) (common : IntKind) (old x : Value) (w : World) → WorldIn count w → In (ValueIn count) (judged span (modified op common w.blocks old x) w)
  modified_step span op common old x w h = judged_in (ValueIn count) span (modified op common w.blocks old x) w h (modified_in op common w.blocks old x)

  counted : {A : Type 0} (kind : IntKind) (span : Span) (r : Result A Fault) (number : A → ℤ) (w : World) → WorldIn count w
      → In (ValueIn count) (judged span (with_reason (if_ok r (λ a. Ok (int kind (number a))))) w)
  counted {A} kind span r number w h =
      judged_in (ValueIn count) span _ w h (reasoned (ValueIn count) (if_ok r (λ a. Ok (int kind (number a)))) (if_ok_is (ValueIn count) r (λ a. Ok (int kind (number a))) (λ a. tt)))

  pub compared_step : (span : Span) (p q size : Value) (w : World) → WorldIn count w → In (ValueIn count) (compare_bytes span p q size w)
  compared_step span p q size w h = counted kinds.Int span _ (λ z. z) w h

  pub length_step : (span : Span) (p : Value) (w : World) → WorldIn count w → In (ValueIn count) (string_length span p w)
  length_step span p w h = counted kinds.ULong span _ pos w h

  local_in : (block : Option ℕ) → OkIs (ValueIn count) (local_address block)
  local_in None = tt
  local_in (Some n) = tt

  pub address_in : (fixed : List FixedObject) (p : Place) (w : World) → OkIs (ValueIn count) (address fixed p w)
  address_in fixed (place.Fixed n) w = ok_if (ValueIn count) (is_defined (slice_get fixed n)) (value.Ptr (Object n 0)) reason.NoBody tt
  address_in fixed (place.Local x) w = local_in (local_block w x)

  -- ---- fixed objects

  abbrev pub InitialIn : List (ℕ × Cell) → Type 0
  InitialIn [] = Unit {0}
  InitialIn (c ∷ cells) = CellIn count c.1 × InitialIn cells

  set_cells_in : (cells : List Cell) (cs : List (ℕ × Cell)) → CellsIn count cells → InitialIn cs → CellsIn count (set_cells cells cs)
  set_cells_in cells [] h i = h
  set_cells_in cells (c ∷ cs) h i = set_cells_in (slice_set cells c.0 c.1) cs (set_in cells c.0 c.1 i.0 h) i.1

  either_cells : (b : Bool) (x y : Block) → CellsIn count x.cells → CellsIn count y.cells → CellsIn count (let z : Block = if b then x else y in z.cells)
  either_cells true x y h k = h
  either_cells false x y h k = k

  pub fixed_in : (o : FixedObject) (w : World) → InitialIn o.cells → WorldIn count w → WorldIn count (with_fixed o w)
  fixed_in o w i h = more_block w.blocks (fixed_block o) h (either_cells o.defined _ _ (set_cells_in (replicate o.size (Byte 0)) o.cells (same_in o.size (Byte 0) tt) i) tt)
