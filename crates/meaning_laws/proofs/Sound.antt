-- The releases of a program are of live blocks.
use Rattle.std.proofs.Common.{◌≡◌, ℕ, zero, suc, Bool, true, false, List, [], ◌∷◌, ◌++◌, Option, Some, None, refl, pos}
use Rattle.std.specs.Prelude.{slice_get, slice_index_or, if◌then◌else◌, bytes_eq, length, ◌*◌}
use Rattle.tok_base.specs.declared.token.Span.{Span}
use Rattle.num_ops.specs.declared.kinds.IntKind.TheVariants as kind
use Rattle.c_core.specs.declared.values.Pointer.{Pointer}
use Rattle.c_core.specs.declared.values.Pointer.TheVariants.{Null, Object, Function}
use Rattle.c_core.specs.declared.values.Value.{Value}
use Rattle.c_core.specs.declared.values.Value.TheVariants as value
use Rattle.tok_base.specs.declared.reason.Reason.TheVariants as reason
use Rattle.c_core.specs.declared.values.End.TheVariants.{Trap}
use Rattle.c_core.specs.declared.tree.FixedObject.{FixedObject}
use Rattle.c_core.specs.declared.tree.Place.TheVariants as place
use Rattle.range_heap.specs.Blocks.{rounded}
use Rattle.c_core.specs.declared.tree.LibMark.{LibMark}
use Rattle.c_core.specs.Tree as t
use Rattle.c_core.specs.Tree.{Expr, At, Form, Exprs, no_exprs, one_expr, MaybeExpr, NoExpr, TheExpr, Stmt, Else, NoElse, Otherwise, Stmts, no_stmts, one_stmt, Program}
use Rattle.c_meaning.specs.declared.log.Flow.{Flow}
use Rattle.c_meaning.specs.declared.log.Flow.TheVariants.{Next, Broke, Continued, Returned}
use Rattle.c_meaning.specs.Run.{Run, Asks, Frees, Begins, Label}
use Rattle.c_meaning.specs.World.{World, State, M, Acted, Gives, Stops, ◌>>◌, stop, paid, tick, act, acted, change, make_local, make_locals, end_locals, within, request, release, judged, after_answer, without_block, take_room, give_room, with_local, local_block, maker}
use Rattle.c_meaning.specs.Rules.{holds, natural_in, pointer_in, no_value, arith as arith_value, shift, truth, ptr_add, ptr_diff, compare_ptr, modified, int, convert, compare_int, truth_value}
use Rattle.c_meaning.specs.Storage.{store_at, copy_record, with_fixed, address, get_char, put_byte, byte_in, copy_bytes, set_bytes, compare_bytes, string_length, allocated, zeroed, resized}
use Rattle.c_core.specs.Library.{LibraryFunction, Malloc, Calloc, Realloc, FreeIt, GetChar, PutChar, MemCpy, MemMove, MemSet, MemCmp, StrLen, ExitNow, AbortNow, library_functions, Callee, callee_of}
use Rattle.c_meaning.specs.Meaning.{allocate, block_or_null, if_granted, reallocate, free, library, library_call, Calls, if_holds, mean_expr, mean_form, mean_args, mean_each, mean_step, if_next, after_turn, turns, loop, begun, mean_else, mean_list, mean_stmt, make_parameters, store_argument, returned, run_body, run_callee, run_function, typed_call, call_value, call_at, make_fixed, call_main, label_of, function_address, zero_first, is_number, type_of, nowhere, exit, start}
use Rattle.std.specs.Prelude.{min, Result, Ok, Err}
use Rattle.tok_base.specs.declared.reason.Reason.{Reason}
use Rattle.c_core.specs.Blocks.{Blocks, load, copy}
use Rattle.range_heap.specs.History.{Region}
use Rattle.c_meaning.specs.declared.log.LogEntry.{LogEntry}
use Rattle.c_meaning.specs.declared.log.LogEntry.TheVariants.{Grant, Refuse, Release}
use Rattle.c_meaning.specs.Rules.{size_in}
use Rattle.c_meaning.specs.Storage.{with_reason, with_blocks}
use Rattle.c_meaning.specs.Meaning.{Tokens, token_of, run_of}
use Rattle.c_meaning.specs.Log.{ranges_of}
use Rattle.c_meaning.proofs.Sorted.{OkIs, reasoned}
use Rattle.meaning_laws.specs.Exists.{RunExists}
use Rattle.meaning_laws.proofs.Goes.{Sound, goes}
use Rattle.meaning_laws.proofs.Tame.{Heap, still_at, tame_same}
use Rattle.meaning_laws.proofs.Held.{Held, held_as, held_refused, held_released, held_granted}
use Rattle.meaning_laws.proofs.Quiet.{Quiet, QuietWorld, Wrote, judged_quiet, copy_wrote, store_quiet, record_quiet, copy_quiet, set_quiet, zeroed_quiet, zero_quiet, argument_quiet, get_quiet, put_quiet, room_quiet, local_quiet, fixed_quiet, ends_quiet, allocated_heap}
use Rattle.c_core.specs.declared.values.End.{End}
use Rattle.range_heap.specs.History.{FitsAt}
use Rattle.range_heap.specs.Blocks.{live}
use Rattle.c_meaning.specs.Run.{Ended}
use Rattle.c_meaning.specs.Log.{by_token, WasGranted}

module _ (tok : Tokens) (ranges : ℕ → Region) where
  pub S : Run → List LogEntry → Type 0
  S run log = Sound tok ranges run log

  pub sound_of : (run : Run) (log : List LogEntry) → S run log → Sound tok ranges run log
  unfolding S
  sound_of run log h = h

  ended : (output : List ℕ) (end : End) (log : List LogEntry) → S (Ended output end) log
  unfolding S
  ended output end log = tt

  began : (run : Run) (log : List LogEntry) → S run log → S (Begins run) log
  unfolding S
  began run log h = h

  asks : (label : Label) (size : ℕ) (go : Bool → Run) (log : List LogEntry)
      → ((p : ℕ) → FitsAt (ranges (token_of tok label)) (by_token log (token_of tok label)) size 16 p → S (go true) (log ++ Grant (token_of tok label) size p ∷ []))
      → S (go false) (log ++ Refuse (token_of tok label) size ∷ []) → S (Asks label size 16 go) log
  unfolding S
  asks label size go log h k = (refl, h, k)

  frees : (j : ℕ) (run : Run) (log : List LogEntry) (t p : ℕ) → WasGranted (slice_get log j) t p → live p (by_token log t) ≡ true → S run (log ++ Release t p ∷ []) → S (Frees j run) log
  unfolding S
  frees j run log t p h l k = (t, p, h, l, k)

  abbrev Follows : {A : Type 0} → (A → State → Run) → Type 0
  Follows {A} f = (a : A) (s : State) (log : List LogEntry) → Held s.world log → S (f a s) log

  -- a meaning whose releases are of live blocks, if those of what follows are
  abbrev Keeps : {A : Type 0} → M A → Type 0
  Keeps {A} m = (f : A → State → Run) → Follows f → (s : State) (log : List LogEntry) → Held s.world log → S (m f s) log

  paid_keeps : (n : ℕ) (s : State) (log : List LogEntry) (f : State → Run) → Held s.world log → ((s : State) → Held s.world log → S (f s) log) → S (paid n f s) log
  paid_keeps zero s log f h k = ended _ _ _
  paid_keeps (suc n) s log f h k = k (record s { ticks = n }) h

  ticked : {A : Type 0} (m : M A) → Keeps m → Keeps (do tick; m)
  ticked m h f k s log i = paid_keeps s.ticks s log _ i (λ s i. h f k s log i)

  acted_keeps : {A : Type 0} (o : Acted A) (f : A → State → Run) → Follows f → (s : State) (log : List LogEntry) → Held s.world log → Quiet s.world o → S (acted o f s) log
  acted_keeps (Gives a w) f k s log h q = k a (record s { world = w }) log (held_as s.world w log q.0 q.1 q.2 h)
  acted_keeps (Stops e) f k s log h q = ended _ _ _

  if_keeps : {A : Type 0} (v : Value) (m n : M A) → Keeps m → Keeps n → Keeps (if_holds v m n)
  if_keeps {A} v m n h k = elim (holds v) as (λ x. Keeps (let r : M A = if x then m else n in r)) [ true ↦ h | false ↦ k ]

  -- ---- requests

  request_keeps : (label : Label) (size : ℕ) → Keeps (request label size)
  request_keeps label size f k s log h =
      asks label size _ log
      (λ p fits. k (Some (length s.world.blocks)) (record s { world = after_answer size true s.world }) (log ++ Grant (token_of tok label) size p ∷ []) (held_granted s.world size (token_of tok label) p log h (ranges (token_of tok label)) fits))
      (k None (record s { world = after_answer size false s.world }) (log ++ Refuse (token_of tok label) size ∷ []) (held_refused s.world size (token_of tok label) log h))

  release_keeps : (n : ℕ) (f : Unit {0} → State → Run) → Follows f → (s : State) (log : List LogEntry) → Held s.world log → Heap s.world.blocks n → S (release n f s) log
  release_keeps n f k s log h heap =
      let g = h.held n heap in
      frees (maker s.world n) _ log g.0 g.1 g.2 g.3 (k tt (record s { world = record (without_block n s.world) { asked = suc s.world.asked } }) (log ++ Release g.0 g.1 ∷ []) (held_released s.world n g.0 g.1 log h heap g.2))

  allocate_keeps : (label : Label) (size : ℕ) → Keeps (allocate label size)
  allocate_keeps label size f k s log h = request_keeps label size _ (λ block s log h. k (block_or_null block) s log h) s log h

  granted_keeps : (block : Option ℕ) (p : ℕ → M (Unit {0})) → ((n : ℕ) → Keeps (p n)) → Keeps (if_granted block p)
  granted_keeps None p h f k s log i = k (value.Ptr Null) s log i
  granted_keeps (Some n) p h f k s log i = h n _ (λ x s log i. k (value.Ptr (Object n 0)) s log i) s log i

  -- the new block is written, and then the old one is given back
  written_keeps : (span : Span) (old : ℕ) (r : Result Blocks Reason) (f : Unit {0} → State → Run) → Follows f → (s : State) (log : List LogEntry) → Held s.world log → Heap s.world.blocks old → OkIs (Wrote s.world.blocks) r
      → S (acted (with_blocks tt s.world span r) (λ (x : Unit {0}) s. release old f s) s) log
  written_keeps span old (Ok bs) f k s log h heap w =
      release_keeps old f k (record s { world = record (s.world) { blocks = bs } }) log (held_as s.world (record (s.world) { blocks = bs }) log refl refl w.0 h) (w.1 old heap)
  written_keeps span old (Err e) f k s log h heap w = ended _ _ _

  realloc_from : (span : Span) (label : Label) (size : ℕ) (o : Result ℕ Reason) (f : Value → State → Run) → Follows f → (s : State) (log : List LogEntry) → Held s.world log → OkIs (Heap s.world.blocks) o
      → S (acted (judged span o s.world) (λ old s. request label size (λ block s. if_granted block (λ n. do act (resized span n old size); release old) f s) s) s) log
  realloc_from span label size (Err e) f k s log h heap = ended _ _ _
  realloc_from span label size (Ok old) f k s log h heap =
      asks label size _ log
      (λ p fits.
      let w = after_answer size true s.world in
      let n = length s.world.blocks in
      written_keeps span old (with_reason (copy w.blocks (Object n 0) (Object old 0) (min size (size_in (slice_get w.blocks old))) false)) _ (λ x s log h. k (value.Ptr (Object n 0)) s log h) (record s { world = w }) (log ++ Grant (token_of tok label) size p ∷ [])
      (held_granted s.world size (token_of tok label) p log h (ranges (token_of tok label)) fits)
      (still_at s.world.blocks _ old heap)
      (reasoned (Wrote w.blocks) _ (copy_wrote w.blocks (Object n 0) (Object old 0) (min size (size_in (slice_get w.blocks old))) false)))
      (k (value.Ptr Null) (record s { world = after_answer size false s.world }) (log ++ Refuse (token_of tok label) size ∷ []) (held_refused s.world size (token_of tok label) log h))

  realloc_keeps : (span : Span) (label : Label) (p : Pointer) (size : ℕ) → Keeps (reallocate span label p size)
  realloc_keeps span label Null size f k s log h = allocate_keeps label size f k s log h
  realloc_keeps span label (Object n i) size f k s log h = realloc_from span label size (allocated s.world.blocks (Object n i)) f k s log h (allocated_heap s.world.blocks (Object n i))
  realloc_keeps span label (Function n) size f k s log h = realloc_from span label size (allocated s.world.blocks (Function n)) f k s log h (allocated_heap s.world.blocks (Function n))

  free_from : (span : Span) (o : Result ℕ Reason) (f : Value → State → Run) → Follows f → (s : State) (log : List LogEntry) → Held s.world log → OkIs (Heap s.world.blocks) o
      → S (acted (judged span o s.world) (λ n s. release n (λ x s. f no_value s) s) s) log
  free_from span (Err e) f k s log h heap = ended _ _ _
  free_from span (Ok n) f k s log h heap = release_keeps n _ (λ x s log h. k no_value s log h) s log h heap

  free_keeps : (span : Span) (p : Pointer) → Keeps (free span p)
  free_keeps span Null f k s log h = k no_value s log h
  free_keeps span (Object n i) f k s log h = free_from span (allocated s.world.blocks (Object n i)) f k s log h (allocated_heap s.world.blocks (Object n i))
  free_keeps span (Function n) f k s log h = free_from span (allocated s.world.blocks (Function n)) f k s log h (allocated_heap s.world.blocks (Function n))

  library_keeps : (l : LibraryFunction) (span : Span) (label : Label) (x y z : Value) → Keeps (library l span label x y z)
  library_keeps Malloc span label x y z f k s log h = allocate_keeps label (natural_in x) f k s log h
  library_keeps Calloc span label x y z f k s log h =
      request_keeps label (natural_in x * natural_in y) _ (λ block s log h. granted_keeps block _ (λ n f k s log h. acted_keeps (zeroed span n (natural_in x * natural_in y) s.world) f k s log h (zeroed_quiet span n (natural_in x * natural_in y) s.world)) f k s log h) s log h
  library_keeps Realloc span label x y z f k s log h = realloc_keeps span label (pointer_in x) (natural_in y) f k s log h
  library_keeps FreeIt span label x y z f k s log h = free_keeps span (pointer_in x) f k s log h
  library_keeps GetChar span label x y z f k s log h = acted_keeps (get_char s.world) f k s log h (get_quiet s.world)
  library_keeps PutChar span label x y z f k s log h = acted_keeps (put_byte (byte_in x) s.world) f k s log h (put_quiet (byte_in x) s.world)
  library_keeps MemCpy span label x y z f k s log h = acted_keeps (copy_bytes span false x y z s.world) f k s log h (copy_quiet span false x y z s.world)
  library_keeps MemMove span label x y z f k s log h = acted_keeps (copy_bytes span true x y z s.world) f k s log h (copy_quiet span true x y z s.world)
  library_keeps MemSet span label x y z f k s log h = acted_keeps (set_bytes span x y z s.world) f k s log h (set_quiet span x y z s.world)
  library_keeps MemCmp span label x y z f k s log h = acted_keeps (compare_bytes span x y z s.world) f k s log h (judged_quiet span _ s.world)
  library_keeps StrLen span label x y z f k s log h = acted_keeps (string_length span x s.world) f k s log h (judged_quiet span _ s.world)
  library_keeps ExitNow span label x y z f k s log h = ended _ _ _
  library_keeps AbortNow span label x y z f k s log h = ended _ _ _

  library_call_keeps : (l : Option LibraryFunction) (span : Span) (m : LibMark) (args : List Value) → Keeps (library_call l span m args)
  library_call_keeps None span m args f k s log h = ended _ _ _
  library_call_keeps (Some l) span m args f k s log h = library_keeps l span (label_of m args) (slice_index_or args 0 no_value) (slice_index_or args 1 no_value) (slice_index_or args 2 no_value) f k s log h

  judged_keeps : {A : Type 0} (span : Span) (r : Result A Reason) (f : A → State → Run) → Follows f → (s : State) (log : List LogEntry) → Held s.world log → S (acted (judged span r s.world) f s) log
  judged_keeps span r f k s log h = acted_keeps (judged span r s.world) f k s log h (judged_quiet span r s.world)

  abbrev CallsKeep : Calls → Type 0
  CallsKeep c = (v : Value) (type : List ℕ) (args : List Value) (used : Bool) (span : Span) → Keeps (c v type args used span)

  -- ---- expressions

  module _ (p : Program) (marks : ℕ → ℕ) (c : Calls) (calls : CallsKeep c) where
    mutual
      expr_keeps : (e : Expr) → Keeps (mean_expr p marks c e)
      expr_keeps (At span form) f k s log h = began _ log (form_keeps span form f k s log h)

      form_keeps : (span : Span) (form : Form) → Keeps (mean_form p marks c span form)
      form_keeps span (t.Const v) f k s log h = k v s log h
      form_keeps span (t.Text n) f k s log h = judged_keeps span (address p.fixed (place.Fixed n) s.world) f k s log h
      form_keeps span (t.Func n) f k s log h = judged_keeps span (function_address p.funcs n) f k s log h
      form_keeps span (t.Object place) f k s log h = judged_keeps span (address p.fixed place s.world) f k s log h
      form_keeps span (t.Load e kind) f k s log h = expr_keeps e _ (λ a s log h. judged_keeps span (with_reason (load s.world.blocks (pointer_in a) kind)) f k s log h) s log h
      form_keeps span (t.Store e at kind v) f k s log h =
          expr_keeps e _ (λ a s log h. expr_keeps v _ (λ v s log h. acted_keeps (store_at at (pointer_in a) kind v s.world) f k s log h (store_quiet at (pointer_in a) kind v s.world)) s log h) s log h
      form_keeps span (t.CopyRecord x to_at y from_at size) f k s log h =
          expr_keeps x _ (λ to s log h. expr_keeps y _ (λ from s log h. acted_keeps (copy_record span (pointer_in to) to_at (pointer_in from) from_at size s.world) _ (λ z s log h. k no_value s log h) s log h (record_quiet span (pointer_in to) to_at (pointer_in from) from_at size s.world)) s log h) s log h
      form_keeps span (t.Convert kind e) f k s log h = expr_keeps e _ (λ v s log h. k (convert kind v) s log h) s log h
      form_keeps span (t.Truth e negated) f k s log h = expr_keeps e _ (λ v s log h. judged_keeps span (truth s.world.blocks v negated) f k s log h) s log h
      form_keeps span (t.Arith op x y) f k s log h =
          expr_keeps x _ (λ v s log h. expr_keeps y _ (λ w s log h. judged_keeps span (arith_value op v w) f k s log h) s log h) s log h
      form_keeps span (t.ShiftBits left x y) f k s log h =
          expr_keeps x _ (λ v s log h. expr_keeps y _ (λ w s log h. judged_keeps span (shift left v w) f k s log h) s log h) s log h
      form_keeps span (t.CompareInt op x y) f k s log h =
          expr_keeps x _ (λ v s log h. expr_keeps y _ (λ w s log h. k (compare_int op v w) s log h) s log h) s log h
      form_keeps span (t.PtrAdd x y size minus) f k s log h =
          expr_keeps x _ (λ v s log h. expr_keeps y _ (λ w s log h. judged_keeps span (ptr_add s.world.blocks v w size minus) f k s log h) s log h) s log h
      form_keeps span (t.PtrDiff x y size) f k s log h =
          expr_keeps x _ (λ v s log h. expr_keeps y _ (λ w s log h. judged_keeps span (ptr_diff s.world.blocks v w size) f k s log h) s log h) s log h
      form_keeps span (t.ComparePtr op x y) f k s log h =
          expr_keeps x _ (λ v s log h. expr_keeps y _ (λ w s log h. judged_keeps span (compare_ptr op s.world.blocks v w) f k s log h) s log h) s log h
      form_keeps span (t.Both x y) f k s log h =
          expr_keeps x _ (λ v s log h. if_keeps v _ _ (λ f k s log h. expr_keeps y _ (λ w s log h. k (truth_value (holds w)) s log h) s log h) (λ f k s log h. k (truth_value false) s log h) f k s log h) s log h
      form_keeps span (t.Either x y) f k s log h =
          expr_keeps x _ (λ v s log h. if_keeps v _ _ (λ f k s log h. k (truth_value true) s log h) (λ f k s log h. expr_keeps y _ (λ w s log h. k (truth_value (holds w)) s log h) s log h) f k s log h) s log h
      form_keeps span (t.Choose x y z) f k s log h =
          expr_keeps x _ (λ v s log h. if_keeps v _ _ (expr_keeps y) (expr_keeps z) f k s log h) s log h
      form_keeps span (t.Then x y) f k s log h = expr_keeps x _ (λ v s log h. expr_keeps y f k s log h) s log h
      form_keeps span (t.Modify x at kind op y common post) f k s log h =
          expr_keeps x _ (λ a s log h.
          expr_keeps y _ (λ v s log h.
          judged_keeps at (with_reason (load s.world.blocks (pointer_in a) kind)) _ (λ old s log h.
          judged_keeps span (modified op common s.world.blocks old v) _ (λ new s log h.
          acted_keeps (store_at at (pointer_in a) kind new s.world) _ (λ stored s log h. k (if post then old else stored) s log h) s log h (store_quiet at (pointer_in a) kind new s.world)) s log h) s log h) s log h) s log h
      form_keeps span (t.Call x type es used) f k s log h =
          expr_keeps x _ (λ callee s log h. args_keep es (λ args. c callee type args used span) [] (λ args. calls callee type args used span) f k s log h) s log h
      form_keeps span (t.LibCall n es m) f k s log h =
          args_keep es (λ args. do tick; library_call (slice_get library_functions n) span m args) [] (λ args. ticked (library_call (slice_get library_functions n) span m args) (library_call_keeps (slice_get library_functions n) span m args)) f k s log h
      form_keeps span (t.Mark n) f k s log h = k (int kind.ULong (pos (marks n))) s log h

      args_keep : (es : Exprs) (m : List Value → M Value) (known : List Value) → ((args : List Value) → Keeps (m args)) → Keeps (mean_args p marks c es m known)
      args_keep no_exprs m known j f k s log h = j known f k s log h
      args_keep (one_expr e es) m known j f k s log h = expr_keeps e _ (λ v s log h. args_keep es m (known ++ v ∷ []) j f k s log h) s log h

    each_keeps : (es : Exprs) → Keeps (mean_each p marks c es)
    each_keeps no_exprs f k s log h = k tt s log h
    each_keeps (one_expr e es) f k s log h = expr_keeps e _ (λ v s log h. each_keeps es f k s log h) s log h

    step_keeps : (e : MaybeExpr) → Keeps (mean_step p marks c e)
    step_keeps NoExpr f k s log h = k tt s log h
    step_keeps (TheExpr e) f k s log h = expr_keeps e _ (λ v s log h. k tt s log h) s log h

  -- ---- statements

  if_next_keeps : (flow : Flow) (m : M Flow) → Keeps m → Keeps (if_next flow m)
  if_next_keeps Next m h = h
  if_next_keeps Broke m h = λ f k s log i. k Broke s log i
  if_next_keeps Continued m h = λ f k s log i. k Continued s log i
  if_next_keeps (Returned v) m h = λ f k s log i. k (Returned v) s log i

  after_turn_keeps : (flow : Flow) (m : M Flow) → Keeps m → Keeps (after_turn flow m)
  after_turn_keeps Next m h = h
  after_turn_keeps Continued m h = h
  after_turn_keeps Broke m h = λ f k s log i. k Next s log i
  after_turn_keeps (Returned v) m h = λ f k s log i. k (Returned v) s log i

  module _ (tc : M Value) (sc : M (Unit {0})) (bc : M Flow) (ht : Keeps tc) (hs : Keeps sc) (hb : Keeps bc) where
    turns_keep : (n : ℕ) → Keeps (turns n tc sc bc)
    turns_keep zero f k s log h = ended _ _ _
    turns_keep (suc n) f k s log h =
        paid_keeps s.ticks s log _ h (λ s h.
        hb _ (λ flow s log h. after_turn_keeps flow _ (λ f k s log h. hs _ (λ x s log h. ht _ (λ v s log h. if_keeps v _ _ (turns_keep n) (λ f k s log i. k Next s log i) f k s log h) s log h) s log h) f k s log h) s log h)

    loop_keeps : (first : Bool) (n : ℕ) → Keeps (loop first tc (turns n tc sc bc))
    loop_keeps true n f k s log h = ht _ (λ v s log h. if_keeps v _ _ (turns_keep n) (λ f k s log i. k Next s log i) f k s log h) s log h
    loop_keeps false n f k s log h = turns_keep n f k s log h

  changed_keeps : (change_of : World → World) (f : Unit {0} → State → Run) → Follows f → (s : State) (log : List LogEntry) → Held s.world log → QuietWorld s.world (change_of s.world) → S (acted (change change_of s.world) f s) log
  changed_keeps change_of f k s log h q = acted_keeps (change change_of s.world) f k s log h q

  local_keeps : (x size : ℕ) → Keeps (make_local x size)
  local_keeps x size f k s log h =
      paid_keeps s.ticks s log _ h (λ s h. acted_keeps (take_room (rounded size) s.world) _ (λ y s log h. changed_keeps (with_local x size) f k s log h (local_quiet x size s.world)) s log h (room_quiet (rounded size) s.world))

  locals_keep : (objects : List (ℕ × ℕ)) → Keeps (make_locals objects)
  locals_keep [] f k s log h = k tt s log h
  locals_keep (o ∷ objects) f k s log h = local_keeps o.0 o.1 _ (λ x s log h. locals_keep objects f k s log h) s log h

  module _ (p : Program) (marks : ℕ → ℕ) (c : Calls) (calls : CallsKeep c) (n : ℕ) where
    mutual
      begun_keeps : (x : Stmt) → Keeps (begun p marks c n x)
      begun_keeps (t.Block objects xs) f k s log h =
          locals_keep objects _ (λ y s log h. list_keeps xs _ (λ flow s log h. changed_keeps (end_locals objects) _ (λ z s log h. k flow s log h) s log h (ends_quiet objects s.world)) s log h) s log h
      begun_keeps (t.Do e) f k s log h = expr_keeps p marks c calls e _ (λ v s log h. k Next s log h) s log h
      begun_keeps (t.Init x zeros items) f k s log h =
          acted_keeps (zero_first zeros x s.world) _ (λ y s log h. each_keeps p marks c calls items _ (λ z s log h. k Next s log h) s log h) s log h (zero_quiet zeros x s.world)
      begun_keeps (t.If e x y) f k s log h =
          expr_keeps p marks c calls e _ (λ v s log h. if_keeps v _ _ (ticked _ (begun_keeps x)) (else_keeps y) f k s log h) s log h
      begun_keeps (t.Loop first e step x) f k s log h =
          loop_keeps _ _ _ (expr_keeps p marks c calls e) (step_keeps p marks c calls step) (ticked _ (begun_keeps x)) first n f k s log h
      begun_keeps t.Break f k s log h = k Broke s log h
      begun_keeps t.Continue f k s log h = k Continued s log h
      begun_keeps (t.Return NoExpr) f k s log h = k (Returned None) s log h
      begun_keeps (t.Return (TheExpr e)) f k s log h = expr_keeps p marks c calls e _ (λ v s log h. k (Returned (Some v)) s log h) s log h

      else_keeps : (x : Else) → Keeps (mean_else p marks c n x)
      else_keeps NoElse f k s log h = k Next s log h
      else_keeps (Otherwise x) f k s log h = ticked _ (begun_keeps x) f k s log h

      list_keeps : (xs : Stmts) → Keeps (mean_list p marks c n xs)
      list_keeps no_stmts f k s log h = k Next s log h
      list_keeps (one_stmt x xs) f k s log h =
          paid_keeps s.ticks s log _ h (λ s h. begun_keeps x _ (λ flow s log h. if_next_keeps flow _ (list_keeps xs) f k s log h) s log h)

    stmt_keeps : (x : Stmt) → Keeps (mean_stmt p marks c n x)
    stmt_keeps x = ticked _ (begun_keeps x)

  -- ---- calls

  within_keeps : {A : Type 0} (m : M A) → Keeps m → Keeps (within m)
  within_keeps m h f k s log i =
      h _ (λ a t log j. k a (record t { world = record (t.world) { locals = s.world.locals } }) log (held_as t.world (record (t.world) { locals = s.world.locals }) log refl refl (tame_same t.world.blocks) j)) (record s { world = record (s.world) { locals = [] } }) log (held_as s.world (record (s.world) { locals = [] }) log refl refl (tame_same s.world.blocks) i)

  parameters_keep : (span : Span) (objects : List (ℕ × ℕ)) (args : List Value) → Keeps (make_parameters span objects args)
  parameters_keep span [] args f k s log h = k tt s log h
  parameters_keep span (o ∷ objects) [] f k s log h = k tt s log h
  parameters_keep span (o ∷ objects) (v ∷ args) f k s log h =
      local_keeps o.0 o.1 _ (λ x s log h. acted_keeps (store_argument span (local_block s.world o.0) v s.world) _ (λ y s log h. parameters_keep span objects args f k s log h) s log h (argument_quiet span (local_block s.world o.0) v s.world)) s log h

  returned_keeps : (is_main used : Bool) (span : Span) (flow : Flow) → Keeps (returned is_main used span flow)
  returned_keeps is_main used span (Returned (Some v)) f k s log h = k v s log h
  returned_keeps is_main used span (Returned None) f k s log h = k no_value s log h
  returned_keeps true used span Next f k s log h = k (int kind.Int (pos 0)) s log h
  returned_keeps true used span Broke f k s log h = k (int kind.Int (pos 0)) s log h
  returned_keeps true used span Continued f k s log h = k (int kind.Int (pos 0)) s log h
  returned_keeps false true span Next f k s log h = ended _ _ _
  returned_keeps false true span Broke f k s log h = ended _ _ _
  returned_keeps false true span Continued f k s log h = ended _ _ _
  returned_keeps false false span Next f k s log h = k no_value s log h
  returned_keeps false false span Broke f k s log h = k no_value s log h
  returned_keeps false false span Continued f k s log h = k no_value s log h

  after_body : (objects : List (ℕ × ℕ)) (w : World) → QuietWorld w (give_room 64 (end_locals objects w))
  after_body objects w = let q = ends_quiet objects w in (q.0, q.1, q.2)

  body_keeps : (m : M Flow) (is_main : Bool) (objects : List (ℕ × ℕ)) (args : List Value) (used : Bool) (span : Span) → Keeps m → Keeps (run_body m is_main objects args used span)
  body_keeps m is_main objects args used span h =
      within_keeps _ (λ f k s log i.
      acted_keeps (take_room 64 s.world) _ (λ x s log i.
      parameters_keep span objects args _ (λ y s log i.
      h _ (λ flow s log i.
      changed_keeps (λ w. give_room 64 (end_locals objects w)) _ (λ z s log i. returned_keeps is_main used span flow f k s log i) s log i (after_body objects s.world)) s log i) s log i) s log i (room_quiet 64 s.world))

  callee_keeps : (callee : Option Callee) (args : List Value) (span : Span) → Keeps (run_callee callee args span)
  callee_keeps None args span f k s log h = ended _ _ _
  callee_keeps (Some callee) args span f k s log h = library_call_keeps (slice_get library_functions callee.0) span callee.1 args f k s log h

  function_keeps : (m : Stmt → M Flow) (is_main : Bool) (x : t.Function) (body : Option Stmt) (args : List Value) (used : Bool) (span : Span) → ((y : Stmt) → Keeps (m y)) → Keeps (run_function m is_main x body args used span)
  function_keeps m is_main x None args used span h = callee_keeps (callee_of x.name) args span
  function_keeps m is_main x (Some y) args used span h = body_keeps (m y) is_main _ args used span (h y)

  typed_keeps : (m : Stmt → M Flow) (is_main : Bool) (x : Option t.Function) (type : List ℕ) (args : List Value) (used : Bool) (span : Span) → ((y : Stmt) → Keeps (m y)) → Keeps (typed_call m is_main x type args used span)
  typed_keeps m is_main None type args used span h f k s log i = ended _ _ _
  typed_keeps m is_main (Some x) type args used span h f k s log i =
      elim (bytes_eq x.ty type) as (λ same. S (let r : M Value = if same then run_function m is_main x x.body args used span else stop (Trap reason.BadCall span) in r f s) log)
      [ true ↦ function_keeps m is_main x x.body args used span h f k s log i | false ↦ ended _ _ _ ]

  value_keeps : (p : Program) (m : Stmt → M Flow) (v : Value) (type : List ℕ) (args : List Value) (used : Bool) (span : Span) → ((y : Stmt) → Keeps (m y)) → Keeps (call_value p m v type args used span)
  value_keeps p m (value.Ptr (Function i)) type args used span h f k s log j = typed_keeps m (is_number p.main i) (slice_get p.funcs i) type args used span h f k s log j
  value_keeps p m (value.Ptr Null) type args used span h f k s log j = ended _ _ _
  value_keeps p m (value.Ptr (Object i o)) type args used span h f k s log j = ended _ _ _
  value_keeps p m (value.Int i) type args used span h f k s log j = ended _ _ _

  calls_keep : (p : Program) (marks : ℕ → ℕ) (n : ℕ) → CallsKeep (call_at p marks n)
  calls_keep p marks zero v type args used span f k s log h = ended _ _ _
  calls_keep p marks (suc n) v type args used span f k s log h =
      ticked _ (value_keeps p (mean_stmt p marks (call_at p marks n) n) v type args used span (λ y. stmt_keeps p marks (call_at p marks n) (calls_keep p marks n) n y)) f k s log h

  fixed_keeps : {A : Type 0} (fixed : List FixedObject) (m : M A) → Keeps m → Keeps (do make_fixed fixed; m)
  fixed_keeps [] m h f k s log i = h f k s log i
  fixed_keeps (o ∷ fixed) m h f k s log i =
      acted_keeps (take_room (if o.defined then rounded o.size else 0) s.world) _ (λ x s log i. changed_keeps (with_fixed o) _ (λ y s log i. fixed_keeps fixed m h f k s log i) s log i (fixed_quiet o s.world)) s log i (room_quiet (if o.defined then rounded o.size else 0) s.world)

  main_keeps : (p : Program) (c : Calls) (main : Option ℕ) → CallsKeep c → Keeps (call_main p c main)
  main_keeps p c None h f k s log i = ended _ _ _
  main_keeps p c (Some x) h f k s log i = h (value.Ptr (Function x)) (type_of (slice_get p.funcs x)) [] true nowhere f k s log i

  held_first : (input : List ℕ) (ticks : ℕ) → Held (let st = start input ticks in st.world) []
  held_first input ticks = record { asked = refl; count = refl; held = λ n h. absurd (let e : false ≡ true = h in cc); apart = λ n m t p ne h. absurd (let e : false ≡ true = h in cc) }

  pub run_sound : (p : Program) (marks : ℕ → ℕ) (input : List ℕ) (ticks : ℕ) → S (run_of p marks input ticks) []
  run_sound p marks input ticks =
      fixed_keeps p.fixed (call_main p (call_at p marks ticks) p.main) (main_keeps p (call_at p marks ticks) p.main (calls_keep p marks ticks)) exit (λ v s log h. ended _ _ _) (start input ticks) [] (held_first input ticks)

pub run_exists : RunExists
run_exists p tok input steps count size =
    goes tok (ranges_of count size) (run_of p tok.mark input steps) (sound_of tok (ranges_of count size) (run_of p tok.mark input steps) [] (run_sound tok (ranges_of count size) p tok.mark input steps))
