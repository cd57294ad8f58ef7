-- The numbers of functions in values and in storage stay those of the program.
use Rattle.std.proofs.Common.{◌≡◌, ℕ, zero, suc, Bool, true, false, List, [], ◌∷◌, ◌++◌, Option, Some, None, refl, ap, arith, pos}
use Rattle.std.specs.Prelude.{slice_get, slice_index_or, if◌then◌else◌, bytes_eq, length, ◌*◌}
use Rattle.tok_base.specs.declared.token.Span.{Span}
use Rattle.num_ops.specs.declared.kinds.IntKind.TheVariants as kind
use Rattle.c_core.specs.declared.values.Pointer.{Pointer}
use Rattle.c_core.specs.declared.values.Pointer.TheVariants.{Null, Object, Function}
use Rattle.c_core.specs.declared.values.Value.{Value}
use Rattle.c_core.specs.declared.values.Value.TheVariants as value
use Rattle.tok_base.specs.declared.reason.Reason.TheVariants as reason
use Rattle.c_core.specs.declared.values.End.TheVariants.{Trap}
use Rattle.c_core.specs.declared.tree.FixedObject.{FixedObject}
use Rattle.c_core.specs.declared.tree.Place.TheVariants as place
use Rattle.range_heap.specs.Blocks.{rounded}
use Rattle.c_core.specs.declared.tree.LibMark.{LibMark}
use Rattle.c_core.specs.Tree as t
use Rattle.c_core.specs.Tree.{Expr, At, Form, Exprs, no_exprs, one_expr, MaybeExpr, NoExpr, TheExpr, Stmt, Else, NoElse, Otherwise, Stmts, no_stmts, one_stmt, Program}
use Rattle.c_meaning.specs.declared.log.Flow.{Flow}
use Rattle.c_meaning.specs.declared.log.Flow.TheVariants.{Next, Broke, Continued, Returned}
use Rattle.c_meaning.specs.Run.{Run, Asks, Frees, Begins, Label}
use Rattle.c_meaning.specs.World.{World, State, M, Acted, Gives, Stops, ◌>>=◌, ◌>>◌, give, stop, paid, tick, act, acted, change, make_local, make_locals, end_locals, within, request, release, judged, after_answer, without_block, take_room, give_room, with_local, local_block, maker}
use Rattle.c_meaning.specs.Rules.{holds, natural_in, pointer_in, no_value, arith as arith_value, shift, truth, ptr_add, ptr_diff, compare_ptr, modified, int, convert, compare_int, truth_value}
use Rattle.c_meaning.specs.Storage.{load_at, store_at, copy_record, with_fixed, address, get_char, put_byte, byte_in, copy_bytes, set_bytes, compare_bytes, string_length, allocated, zeroed, resized}
use Rattle.c_core.specs.Library.{LibraryFunction, Malloc, Calloc, Realloc, FreeIt, GetChar, PutChar, MemCpy, MemMove, MemSet, MemCmp, StrLen, ExitNow, AbortNow, library_functions, Callee, callee_of}
use Rattle.c_meaning.specs.Meaning.{allocate, block_or_null, if_granted, reallocate, free, library, library_call, Calls, if_holds, mean_expr, mean_form, mean_args, mean_each, mean_step, if_next, after_turn, turns, loop, begun, mean_else, mean_list, mean_stmt, make_parameters, store_argument, returned, run_body, run_callee, run_function, typed_call, call_value, call_at, make_fixed, label_of, function_address, zero_first, is_number}
use Rattle.std.proofs.Common.{◌+◌, Result, Ok, Err, ◌∙◌}
use Rattle.std.specs.Prelude.{◌&&◌}
use Rattle.tok_base.specs.declared.reason.Reason.{Reason}
use Rattle.c_core.specs.WellFormed.{good_functions, good_fixed}
use Rattle.c_meaning.specs.Meaning.{has_meaning}
use Rattle.c_meaning.proofs.Sorted.{OkIs, ok_if}
use Rattle.meaning_laws.specs.Numbers.{ValueIn, WorldIn, StaysIn, AllNumbersStay}
use Rattle.meaning_laws.proofs.Numbers.{In, Any, judged_in, killed_blocks, placed_blocks, load_step, store_step, record_step, copy_step, set_step, zeroed_step, resized_step, zero_step, argument_step, get_step, put_step, room_step, ends_in, truth_step, diff_step, compare_step, add_step, arith_step, shift_step, modified_step, compared_step, length_step, address_in, fixed_in}
use Rattle.meaning_laws.proofs.Numbered.{Num, NumForm, NumAll, NumMaybe, NumStmt, NumElse, NumStmts, NumBody, NumFuncs, NumFixed, count_of, funcs_num, fixed_num, expr_num}
use Rattle.c_meaning.specs.Meaning.{allocate_zeroed}

module _ (p : Program) (marks : ℕ → ℕ) where
  abbrev count : ℕ
  count = length p.funcs

  abbrev Follows : {A : Type 0} → (A → Type 0) → (A → State → Run) → (A → State → Run) → Type 0
  Follows {A} Such f g = (a : A) → Such a → (s : State) → WorldIn count s.world → f a s ≡ g a s

  abbrev SameM : {A : Type 0} → (A → Type 0) → M A → M A → Type 0
  SameM {A} Such m n = (f g : A → State → Run) → Follows Such f g → (s : State) → WorldIn count s.world → m f s ≡ n g s

  abbrev V : Value → Type 0
  V v = ValueIn count v

  paid_same : (n : ℕ) (s : State) (f g : State → Run) → WorldIn count s.world → ((s : State) → WorldIn count s.world → f s ≡ g s) → paid n f s ≡ paid n g s
  paid_same zero s f g w h = refl
  paid_same (suc n) s f g w h = h (record s { ticks = n }) w

  ticked : {A : Type 0} (Such : A → Type 0) (m n : M A) → SameM Such m n → SameM Such (do tick; m) (do tick; n)
  ticked Such m n h f g k s w = paid_same s.ticks s _ _ w (λ s w. h f g k s w)

  acted_same : {A : Type 0} (Such : A → Type 0) (o : Acted A) (f g : A → State → Run) → Follows Such f g → (s : State) → In count Such o → acted o f s ≡ acted o g s
  acted_same Such (Gives a w) f g k s i = k a i.0 (record s { world = w }) i.1
  acted_same Such (Stops e) f g k s i = refl

  give_same : {A : Type 0} (Such : A → Type 0) (a : A) → Such a → SameM Such (give a) (give a)
  give_same Such a i f g k s w = k a i s w

  if_same : {A : Type 0} (Such : A → Type 0) (v : Value) (m n p q : M A) → SameM Such m n → SameM Such p q → SameM Such (if_holds v m p) (if_holds v n q)
  if_same {A} Such v m n p q h k =
      elim (holds v) as (λ x. SameM Such (let r : M A = if x then m else p in r) (let r : M A = if x then n else q in r)) [ true ↦ h | false ↦ k ]

  -- ---- requests

  answer_in : (size : ℕ) (granted : Bool) (w : World) → WorldIn count w → WorldIn count (after_answer size granted w)
  answer_in size true w h = placed_blocks count w.blocks _ size h
  answer_in size false w h = h

  request_same : (label label' : Label) (size : ℕ) → label ≡ label' → SameM (Any count) (request label size) (request label' size)
  request_same label label' size e f g h s w = λ i. Asks (e i) size 16 (λ granted. h (if granted then Some (length s.world.blocks) else None) tt (record s { world = after_answer size granted s.world }) (answer_in size granted s.world w) i)

  release_same : (n : ℕ) → SameM (Any count) (release n) (release n)
  release_same n f g h s w = ap (Frees (maker s.world n)) (h tt tt (record s { world = record (without_block n s.world) { asked = suc s.world.asked } }) (killed_blocks count s.world.blocks n w))

  granted_same : (block : Option ℕ) (p : ℕ → M (Unit {0})) → ((n : ℕ) → SameM (Any count) (p n) (p n)) → SameM V (if_granted block p) (if_granted block p)
  granted_same None p h f g k s w = k (value.Ptr Null) tt s w
  granted_same (Some n) p h f g k s w = h n _ _ (λ x i s w. k (value.Ptr (Object n 0)) tt s w) s w

  block_in : (block : Option ℕ) → V (block_or_null block)
  block_in None = tt
  block_in (Some n) = tt

  allocate_same : (label label' : Label) (size : ℕ) → label ≡ label' → SameM V (allocate label size) (allocate label' size)
  allocate_same label label' size e f g h s w = request_same label label' size e _ _ (λ block i s w. h (block_or_null block) (block_in block) s w) s w

  calloc_same : (span : Span) (label label' : Label) (size : ℕ) → label ≡ label' → SameM V (allocate_zeroed span label size) (allocate_zeroed span label' size)
  calloc_same span label label' size e f g h s w =
      request_same label label' size e _ _ (λ block i s w. granted_same block _ (λ n f g h s w. acted_same (Any count) (zeroed span n size s.world) f g h s (zeroed_step count span n size s.world w)) f g h s w) s w

  moved_same : (span : Span) (old size n : ℕ) → SameM (Any count) (do act (resized span n old size); release old) (do act (resized span n old size); release old)
  moved_same span old size n f g h s w = acted_same (Any count) (resized span n old size s.world) _ _ (λ x i s w. release_same old f g h s w) s (resized_step count span n old size s.world w)

  any_ok : {A E : Type 0} (r : Result A E) → OkIs (Any count) r
  any_ok (Ok a) = tt
  any_ok (Err e) = tt

  realloc_on : (span : Span) (label label' : Label) (p : Pointer) (size : ℕ) → label ≡ label' → SameM V (do
    old ← act (λ w. judged span (allocated w.blocks p) w)
    block ← request label size
    if_granted block (λ n. do act (resized span n old size); release old)) (do
      old ← act (λ w. judged span (allocated w.blocks p) w)
      block ← request label' size
      if_granted block (λ n. do act (resized span n old size); release old))
  realloc_on span label label' p size e f g h s w =
      acted_same (Any count) (judged span (allocated s.world.blocks p) s.world) _ _ (λ old i s w. request_same label label' size e _ _ (λ block i s w. granted_same block _ (moved_same span old size) f g h s w) s w) s (judged_in count (Any count) span (allocated s.world.blocks p) s.world w (any_ok (allocated s.world.blocks p)))

  realloc_same : (span : Span) (label label' : Label) (p : Pointer) (size : ℕ) → label ≡ label' → SameM V (reallocate span label p size) (reallocate span label' p size)
  realloc_same span label label' Null size e f g h s w = allocate_same label label' size e f g h s w
  realloc_same span label label' (Object n i) size e f g h s w = realloc_on span label label' (Object n i) size e f g h s w
  realloc_same span label label' (Function n) size e f g h s w = realloc_on span label label' (Function n) size e f g h s w

  free_on : (span : Span) (o : Result ℕ Reason) (f g : Value → State → Run) → Follows V f g → (s : State) → WorldIn count s.world
      → acted (judged span o s.world) (λ n s. release n (λ x s. f no_value s) s) s ≡ acted (judged span o s.world) (λ n s. release n (λ x s. g no_value s) s) s
  free_on span o f g h s w = acted_same (Any count) (judged span o s.world) _ _ (λ n i s w. release_same n _ _ (λ x i s w. h no_value tt s w) s w) s (judged_in count (Any count) span o s.world w (any_ok o))

  free_same : (span : Span) (p : Pointer) → SameM V (free span p) (free span p)
  free_same span Null f g h s w = h no_value tt s w
  free_same span (Object n i) f g h s w = free_on span (allocated s.world.blocks (Object n i)) f g h s w
  free_same span (Function n) f g h s w = free_on span (allocated s.world.blocks (Function n)) f g h s w

  library_same : (l : LibraryFunction) (span : Span) (label label' : Label) → label ≡ label' → (x y z : Value) → V x → SameM V (library l span label x y z) (library l span label' x y z)
  library_same Malloc span label label' e x y z i f g h s w = allocate_same label label' (natural_in x) e f g h s w
  library_same Calloc span label label' e x y z i f g h s w = calloc_same span label label' (natural_in x * natural_in y) e f g h s w
  library_same Realloc span label label' e x y z i f g h s w = realloc_same span label label' (pointer_in x) (natural_in y) e f g h s w
  library_same FreeIt span label label' e x y z i f g h s w = free_same span (pointer_in x) f g h s w
  library_same GetChar span label label' e x y z i f g h s w = acted_same V (get_char s.world) f g h s (get_step count s.world w)
  library_same PutChar span label label' e x y z i f g h s w = acted_same V (put_byte (byte_in x) s.world) f g h s (put_step count (byte_in x) s.world w)
  library_same MemCpy span label label' e x y z i f g h s w = acted_same V (copy_bytes span false x y z s.world) f g h s (copy_step count span false x y z s.world w i)
  library_same MemMove span label label' e x y z i f g h s w = acted_same V (copy_bytes span true x y z s.world) f g h s (copy_step count span true x y z s.world w i)
  library_same MemSet span label label' e x y z i f g h s w = acted_same V (set_bytes span x y z s.world) f g h s (set_step count span x y z s.world w i)
  library_same MemCmp span label label' e x y z i f g h s w = acted_same V (compare_bytes span x y z s.world) f g h s (compared_step count span x y z s.world w)
  library_same StrLen span label label' e x y z i f g h s w = acted_same V (string_length span x s.world) f g h s (length_step count span x s.world w)
  library_same ExitNow span label label' e x y z i f g h s w = refl
  library_same AbortNow span label label' e x y z i f g h s w = refl

  abbrev AllIn : List Value → Type 0
  AllIn [] = Unit {0}
  AllIn (v ∷ vs) = V v × AllIn vs

  all_more : (vs : List Value) (v : Value) → AllIn vs → V v → AllIn (vs ++ v ∷ [])
  all_more [] v h i = (i, tt)
  all_more (x ∷ vs) v h i = (h.0, all_more vs v h.1 i)

  first_in : (vs : List Value) → AllIn vs → V (slice_index_or vs 0 no_value)
  first_in [] h = tt
  first_in (v ∷ vs) h = h.0

  longer : (vs : List Value) (v : Value) (n : ℕ) → length (vs ++ v ∷ []) + n ≡ length vs + suc n
  longer [] v n = omega arith
  longer (x ∷ vs) v n = let e = longer vs v n in omega (arith, e)

  library_call_same : (l : Option LibraryFunction) (span : Span) (m : LibMark) (args : List Value) → AllIn args → SameM V (library_call l span m args) (library_call l span m args)
  library_call_same None span m args a f g h s w = refl
  library_call_same (Some l) span m args a f g h s w =
      library_same l span (label_of m args) (label_of m args) refl (slice_index_or args 0 no_value) (slice_index_or args 1 no_value) (slice_index_or args 2 no_value) (first_in args a) f g h s w

  judged_same : (span : Span) (r : Result Value Reason) (f g : Value → State → Run) → Follows V f g → (s : State) → In count V (judged span r s.world) → acted (judged span r s.world) f s ≡ acted (judged span r s.world) g s
  judged_same span r f g h s i = acted_same V (judged span r s.world) f g h s i

  if_value : (b : Bool) (x y : Value) → V x → V y → V (if b then x else y)
  if_value true x y h k = h
  if_value false x y h k = k

  abbrev SameCalls : Calls → Calls → Type 0
  SameCalls c d = (v : Value) → V v → (type : List ℕ) (args : List Value) → AllIn args → (used : Bool) (span : Span) → SameM V (c v type args used span) (d v type args used span)

  -- ---- expressions

  module _ (c d : Calls) (calls : SameCalls c d) where
    mutual
      expr_same : (e : Expr) → Num count e → SameM V (mean_expr p marks c e) (mean_expr p marks d e)
      expr_same (At span form) j f g h s w = ap Begins (form_same span form j f g h s w)

      form_same : (span : Span) (form : Form) → NumForm count form → SameM V (mean_form p marks c span form) (mean_form p marks d span form)
      form_same span (t.Const v) j f g h s w = h v j s w
      form_same span (t.Text n) j f g h s w = judged_same span (address p.fixed (place.Fixed n) s.world) f g h s (judged_in count V span _ s.world w (address_in count p.fixed (place.Fixed n) s.world))
      form_same span (t.Func n) j f g h s w = judged_same span (function_address p.funcs n) f g h s (judged_in count V span _ s.world w (ok_if V (has_meaning (slice_get p.funcs n)) (value.Ptr (Function n)) reason.NoBody j))
      form_same span (t.Object o) j f g h s w = judged_same span (address p.fixed o s.world) f g h s (judged_in count V span _ s.world w (address_in count p.fixed o s.world))
      form_same span (t.Load e kind) j f g h s w = expr_same e j _ _ (λ a i s w. acted_same V (load_at span (pointer_in a) kind s.world) f g h s (load_step count span (pointer_in a) kind s.world w)) s w
      form_same span (t.Store e at kind v) j f g h s w =
          expr_same e j.0 _ _ (λ a i s w. expr_same v j.1 _ _ (λ v i s w. acted_same V (store_at at (pointer_in a) kind v s.world) f g h s (store_step count at (pointer_in a) kind v s.world w i)) s w) s w
      form_same span (t.CopyRecord x to_at y from_at size) j f g h s w =
          expr_same x j.0 _ _ (λ to i s w. expr_same y j.1 _ _ (λ from i s w. acted_same (Any count) (copy_record span (pointer_in to) to_at (pointer_in from) from_at size s.world) _ _ (λ z i s w. h no_value tt s w) s (record_step count span (pointer_in to) to_at (pointer_in from) from_at size s.world w)) s w) s w
      form_same span (t.Convert kind e) j f g h s w = expr_same e j _ _ (λ v i s w. h (convert kind v) tt s w) s w
      form_same span (t.Truth e negated) j f g h s w = expr_same e j _ _ (λ v i s w. judged_same span (truth s.world.blocks v negated) f g h s (truth_step count span v negated s.world w)) s w
      form_same span (t.Arith op x y) j f g h s w =
          expr_same x j.0 _ _ (λ v i s w. expr_same y j.1 _ _ (λ u i s w. judged_same span (arith_value op v u) f g h s (arith_step count span op v u s.world w)) s w) s w
      form_same span (t.ShiftBits left x y) j f g h s w =
          expr_same x j.0 _ _ (λ v i s w. expr_same y j.1 _ _ (λ u i s w. judged_same span (shift left v u) f g h s (shift_step count span left v u s.world w)) s w) s w
      form_same span (t.CompareInt op x y) j f g h s w =
          expr_same x j.0 _ _ (λ v i s w. expr_same y j.1 _ _ (λ u i s w. h (compare_int op v u) tt s w) s w) s w
      form_same span (t.PtrAdd x y size minus) j f g h s w =
          expr_same x j.0 _ _ (λ v i s w. expr_same y j.1 _ _ (λ u i s w. judged_same span (ptr_add s.world.blocks v u size minus) f g h s (add_step count span v u size minus s.world w)) s w) s w
      form_same span (t.PtrDiff x y size) j f g h s w =
          expr_same x j.0 _ _ (λ v i s w. expr_same y j.1 _ _ (λ u i s w. judged_same span (ptr_diff s.world.blocks v u size) f g h s (diff_step count span v u size s.world w)) s w) s w
      form_same span (t.ComparePtr op x y) j f g h s w =
          expr_same x j.0 _ _ (λ v i s w. expr_same y j.1 _ _ (λ u i s w. judged_same span (compare_ptr op s.world.blocks v u) f g h s (compare_step count span op v u s.world w)) s w) s w
      form_same span (t.Both x y) j f g h s w =
          expr_same x j.0 _ _ (λ v i s w. if_same V v _ _ _ _ (λ f g h s w. expr_same y j.1 _ _ (λ u i s w. h (truth_value (holds u)) tt s w) s w) (give_same V (truth_value false) tt) f g h s w) s w
      form_same span (t.Either x y) j f g h s w =
          expr_same x j.0 _ _ (λ v i s w. if_same V v _ _ _ _ (give_same V (truth_value true) tt) (λ f g h s w. expr_same y j.1 _ _ (λ u i s w. h (truth_value (holds u)) tt s w) s w) f g h s w) s w
      form_same span (t.Choose x y z) j f g h s w =
          expr_same x j.0 _ _ (λ v i s w. if_same V v _ _ _ _ (expr_same y j.1) (expr_same z j.2) f g h s w) s w
      form_same span (t.Then x y) j f g h s w = expr_same x j.0 _ _ (λ v i s w. expr_same y j.1 f g h s w) s w
      form_same span (t.Modify x at kind op y common post) j f g h s w =
          expr_same x j.0 _ _ (λ a i s w.
          expr_same y j.1 _ _ (λ v i s w.
          acted_same V (load_at at (pointer_in a) kind s.world) _ _ (λ old io s w.
          judged_same span (modified op common s.world.blocks old v) _ _ (λ new ni s w.
          acted_same V (store_at at (pointer_in a) kind new s.world) _ _ (λ stored si s w. h (if post then old else stored) (if_value post old stored io si) s w) s (store_step count at (pointer_in a) kind new s.world w ni)) s (modified_step count span op common old v s.world w)) s (load_step count at (pointer_in a) kind s.world w)) s w) s w
      form_same span (t.Call x type es used) j f g h s w =
          expr_same x j.0 _ _ (λ callee ci s w. args_same es j.1 (λ args. c callee type args used span) (λ args. d callee type args used span) [] tt (λ args i l. calls callee ci type args i used span) f g h s w) s w
      form_same span (t.LibCall n es m) j f g h s w =
          args_same es j.0 (λ args. do tick; library_call (slice_get library_functions n) span m args) (λ args. do tick; library_call (slice_get library_functions n) span m args) [] tt
          (λ args a l. ticked V _ _ (library_call_same (slice_get library_functions n) span m args a)) f g h s w
      form_same span (t.Mark n) j f g h s w = h (int kind.ULong (pos (marks n))) tt s w

      args_same : (es : Exprs) → NumAll count es → (m n : List Value → M Value) (known : List Value) → AllIn known → ((args : List Value) → AllIn args → length args ≡ length known + count_of es → SameM V (m args) (n args))
          → SameM V (mean_args p marks c es m known) (mean_args p marks d es n known)
      args_same no_exprs j m n known a k f g h s w = k known a (omega arith) f g h s w
      args_same (one_expr e es) j m n known a k f g h s w =
          expr_same e j.0 _ _ (λ v i s w. args_same es j.1 m n (known ++ v ∷ []) (all_more known v a i) (λ args b l. k args b (l ∙ longer known v (count_of es))) f g h s w) s w

    each_same : (es : Exprs) → NumAll count es → SameM (Any count) (mean_each p marks c es) (mean_each p marks d es)
    each_same no_exprs j f g h s w = h tt tt s w
    each_same (one_expr e es) j f g h s w = expr_same e j.0 _ _ (λ v i s w. each_same es j.1 f g h s w) s w

    step_same : (e : MaybeExpr) → NumMaybe count e → SameM (Any count) (mean_step p marks c e) (mean_step p marks d e)
    step_same NoExpr j f g h s w = h tt tt s w
    step_same (TheExpr e) j f g h s w = expr_same e j _ _ (λ v i s w. h tt tt s w) s w

  -- ---- statements

  abbrev FlowIn : Flow → Type 0
  FlowIn (Returned (Some v)) = V v
  FlowIn (Returned None) = Unit {0}
  FlowIn Next = Unit {0}
  FlowIn Broke = Unit {0}
  FlowIn Continued = Unit {0}

  if_next_same : (flow : Flow) (m n : M Flow) → FlowIn flow → SameM FlowIn m n → SameM FlowIn (if_next flow m) (if_next flow n)
  if_next_same Next m n i h = h
  if_next_same Broke m n i h = give_same FlowIn Broke tt
  if_next_same Continued m n i h = give_same FlowIn Continued tt
  if_next_same (Returned v) m n i h = give_same FlowIn (Returned v) i

  after_turn_same : (flow : Flow) (m n : M Flow) → FlowIn flow → SameM FlowIn m n → SameM FlowIn (after_turn flow m) (after_turn flow n)
  after_turn_same Next m n i h = h
  after_turn_same Continued m n i h = h
  after_turn_same Broke m n i h = give_same FlowIn Next tt
  after_turn_same (Returned v) m n i h = give_same FlowIn (Returned v) i

  module _ (tc td : M Value) (sc sd : M (Unit {0})) (bc bd : M Flow) (ht : SameM V tc td) (hs : SameM (Any count) sc sd) (hb : SameM FlowIn bc bd) where
    turns_same : (n : ℕ) → SameM FlowIn (turns n tc sc bc) (turns n td sd bd)
    turns_same zero f g h s w = refl
    turns_same (suc n) f g h s w =
        paid_same s.ticks s _ _ w (λ s w.
        hb _ _ (λ flow i s w. after_turn_same flow _ _ i (λ f g h s w. hs _ _ (λ x i s w. ht _ _ (λ v i s w. if_same FlowIn v _ _ _ _ (turns_same n) (give_same FlowIn Next tt) f g h s w) s w) s w) f g h s w) s w)

    loop_same : (first : Bool) (n : ℕ) → SameM FlowIn (loop first tc (turns n tc sc bc)) (loop first td (turns n td sd bd))
    loop_same true n f g h s w = ht _ _ (λ v i s w. if_same FlowIn v _ _ _ _ (turns_same n) (give_same FlowIn Next tt) f g h s w) s w
    loop_same false n f g h s w = turns_same n f g h s w

  local_same : (x size : ℕ) → SameM (Any count) (make_local x size) (make_local x size)
  local_same x size f g h s w =
      paid_same s.ticks s _ _ w (λ s w. acted_same (Any count) (take_room (rounded size) s.world) _ _ (λ y i s w. acted_same (Any count) (change (with_local x size) s.world) f g h s (tt, placed_blocks count s.world.blocks _ size w)) s (room_step count (rounded size) s.world w))

  locals_same : (objects : List (ℕ × ℕ)) → SameM (Any count) (make_locals objects) (make_locals objects)
  locals_same [] f g h s w = h tt tt s w
  locals_same (o ∷ objects) f g h s w = local_same o.0 o.1 _ _ (λ x i s w. locals_same objects f g h s w) s w

  module _ (c d : Calls) (calls : SameCalls c d) (n : ℕ) where
    mutual
      begun_same : (x : Stmt) → NumStmt count x → SameM FlowIn (begun p marks c n x) (begun p marks d n x)
      begun_same (t.Block objects xs) j f g h s w =
          locals_same objects _ _ (λ y i s w. list_same xs j _ _ (λ flow i s w. acted_same (Any count) (change (end_locals objects) s.world) _ _ (λ z k s w. h flow i s w) s (tt, ends_in count objects s.world w)) s w) s w
      begun_same (t.Do e) j f g h s w = expr_same c d calls e j _ _ (λ v i s w. h Next tt s w) s w
      begun_same (t.Init x zeros items) j f g h s w =
          acted_same (Any count) (zero_first zeros x s.world) _ _ (λ y i s w. each_same c d calls items j _ _ (λ z i s w. h Next tt s w) s w) s (zero_step count zeros x s.world w)
      begun_same (t.If e x y) j f g h s w =
          expr_same c d calls e j.0 _ _ (λ v i s w. if_same FlowIn v _ _ _ _ (ticked FlowIn _ _ (begun_same x j.1)) (else_same y j.2) f g h s w) s w
      begun_same (t.Loop first e step x) j f g h s w =
          loop_same _ _ _ _ _ _ (expr_same c d calls e j.0) (step_same c d calls step j.1) (ticked FlowIn _ _ (begun_same x j.2)) first n f g h s w
      begun_same t.Break j f g h s w = h Broke tt s w
      begun_same t.Continue j f g h s w = h Continued tt s w
      begun_same (t.Return NoExpr) j f g h s w = h (Returned None) tt s w
      begun_same (t.Return (TheExpr e)) j f g h s w = expr_same c d calls e j _ _ (λ v i s w. h (Returned (Some v)) i s w) s w

      else_same : (x : Else) → NumElse count x → SameM FlowIn (mean_else p marks c n x) (mean_else p marks d n x)
      else_same NoElse j f g h s w = h Next tt s w
      else_same (Otherwise x) j f g h s w = ticked FlowIn _ _ (begun_same x j) f g h s w

      list_same : (xs : Stmts) → NumStmts count xs → SameM FlowIn (mean_list p marks c n xs) (mean_list p marks d n xs)
      list_same no_stmts j f g h s w = h Next tt s w
      list_same (one_stmt x xs) j f g h s w =
          paid_same s.ticks s _ _ w (λ s w. begun_same x j.0 _ _ (λ flow i s w. if_next_same flow _ _ i (list_same xs j.1) f g h s w) s w)

    stmt_same : (x : Stmt) → NumStmt count x → SameM FlowIn (mean_stmt p marks c n x) (mean_stmt p marks d n x)
    stmt_same x j = ticked FlowIn _ _ (begun_same x j)

  -- ---- calls

  within_same : {A : Type 0} (Such : A → Type 0) (m n : M A) → SameM Such m n → SameM Such (within m) (within n)
  within_same Such m n h f g k s w =
      h _ _ (λ a i t w. k a i (record t { world = record (t.world) { locals = s.world.locals } }) w) (record s { world = record (s.world) { locals = [] } }) w

  parameters_same : (span : Span) (objects : List (ℕ × ℕ)) (args : List Value) → AllIn args → SameM (Any count) (make_parameters span objects args) (make_parameters span objects args)
  parameters_same span [] args a f g h s w = h tt tt s w
  parameters_same span (o ∷ objects) [] a f g h s w = h tt tt s w
  parameters_same span (o ∷ objects) (v ∷ args) a f g h s w =
      local_same o.0 o.1 _ _ (λ x i s w. acted_same V (store_argument span (local_block s.world o.0) v s.world) _ _ (λ y i s w. parameters_same span objects args a.1 f g h s w) s (argument_step count span (local_block s.world o.0) v s.world w a.0)) s w

  returned_same : (is_main used : Bool) (span : Span) (flow : Flow) → FlowIn flow → SameM V (returned is_main used span flow) (returned is_main used span flow)
  returned_same is_main used span (Returned (Some v)) i f g h s w = h v i s w
  returned_same is_main used span (Returned None) i f g h s w = h no_value tt s w
  returned_same true used span Next i f g h s w = h (int kind.Int (pos 0)) tt s w
  returned_same true used span Broke i f g h s w = h (int kind.Int (pos 0)) tt s w
  returned_same true used span Continued i f g h s w = h (int kind.Int (pos 0)) tt s w
  returned_same false true span Next i f g h s w = refl
  returned_same false true span Broke i f g h s w = refl
  returned_same false true span Continued i f g h s w = refl
  returned_same false false span Next i f g h s w = h no_value tt s w
  returned_same false false span Broke i f g h s w = h no_value tt s w
  returned_same false false span Continued i f g h s w = h no_value tt s w

  body_same : (m n : M Flow) (is_main : Bool) (objects : List (ℕ × ℕ)) (args : List Value) → AllIn args → (used : Bool) (span : Span) → SameM FlowIn m n → SameM V (run_body m is_main objects args used span) (run_body n is_main objects args used span)
  body_same m n is_main objects args a used span h =
      within_same V _ _ (λ f g k s w.
      acted_same (Any count) (take_room 64 s.world) _ _ (λ x i s w.
      parameters_same span objects args a _ _ (λ y i s w.
      h _ _ (λ flow i s w.
      acted_same (Any count) (change (λ w. give_room 64 (end_locals objects w)) s.world) _ _ (λ z j s w. returned_same is_main used span flow i f g k s w) s (tt, ends_in count objects s.world w)) s w) s w) s (room_step count 64 s.world w))

  callee_same : (callee : Option Callee) (args : List Value) → AllIn args → (span : Span) → Unit {0} → SameM V (run_callee callee args span) (run_callee callee args span)
  callee_same None args a span n f g h s w = refl
  callee_same (Some callee) args a span n f g h s w = library_call_same (slice_get library_functions callee.0) span callee.1 args a f g h s w

  function_same : (m : Stmt → M Flow) (is_main : Bool) (x : t.Function) (body : Option Stmt) → NumBody count body → (args : List Value) → AllIn args → (used : Bool) (span : Span) → ((y : Stmt) → NumStmt count y → SameM FlowIn (m y) (m y))
      → SameM V (run_function m is_main x body args used span) (run_function m is_main x body args used span)
  function_same m is_main x None j args a used span h = callee_same (callee_of x.name) args a span tt
  function_same m is_main x (Some y) j args a used span h = body_same (m y) (m y) is_main _ args a used span (h y j)

  abbrev NumFunction : Option t.Function → Type 0
  NumFunction None = Unit {0}
  NumFunction (Some x) = NumBody count x.body

  typed_same : (m : Stmt → M Flow) (is_main : Bool) (x : Option t.Function) → NumFunction x → (type : List ℕ) (args : List Value) → AllIn args → (used : Bool) (span : Span) → ((y : Stmt) → NumStmt count y → SameM FlowIn (m y) (m y))
      → SameM V (typed_call m is_main x type args used span) (typed_call m is_main x type args used span)
  typed_same m is_main None j type args a used span h f g k s w = refl
  typed_same m is_main (Some x) j type args a used span h f g k s w =
      elim (bytes_eq x.ty type) as (λ same. (let r : M Value = if same then run_function m is_main x x.body args used span else stop (Trap reason.BadCall span) in r) f s ≡ (let r : M Value = if same then run_function m is_main x x.body args used span else stop (Trap reason.BadCall span) in r) g s)
      [ true ↦ function_same m is_main x x.body j args a used span h f g k s w | false ↦ refl ]

  function_at : (funcs : List t.Function) (i : ℕ) → NumFuncs count funcs → NumFunction (slice_get funcs i)
  function_at [] i h = tt
  function_at (x ∷ funcs) zero h = h.0
  function_at (x ∷ funcs) (suc i) h = function_at funcs i h.1

  module _ (funcs_ok : NumFuncs count p.funcs) where
    value_same : (m : Stmt → M Flow) (v : Value) → V v → (type : List ℕ) (args : List Value) → AllIn args → (used : Bool) (span : Span) → ((y : Stmt) → NumStmt count y → SameM FlowIn (m y) (m y))
        → SameM V (call_value p m v type args used span) (call_value p m v type args used span)
    value_same m (value.Ptr (Function i)) j type args a used span h f g k s w =
        typed_same m (is_number p.main i) (slice_get p.funcs i) (function_at p.funcs i funcs_ok) type args a used span h f g k s w
    value_same m (value.Ptr Null) j type args a used span h f g k s w = refl
    value_same m (value.Ptr (Object i o)) j type args a used span h f g k s w = refl
    value_same m (value.Int i) j type args a used span h f g k s w = refl

    calls_same : (n : ℕ) → SameCalls (call_at p marks n) (call_at p marks n)
    calls_same zero v j type args a used span f g h s w = refl
    calls_same (suc n) v j type args a used span f g h s w =
        ticked V _ _ (value_same (mean_stmt p marks (call_at p marks n) n) v j type args a used span (λ y i. stmt_same (call_at p marks n) (call_at p marks n) (calls_same n) n y i)) f g h s w

    expr_stays : (depth : ℕ) (e : Expr) → Num count e → SameM V (mean_expr p marks (call_at p marks depth) e) (mean_expr p marks (call_at p marks depth) e)
    expr_stays depth e j = expr_same (call_at p marks depth) (call_at p marks depth) (calls_same depth) e j

fixed_stays : (n : ℕ) (fixed : List FixedObject) → NumFixed n fixed → StaysIn (λ (x : Unit {0}). Unit {0}) (WorldIn n) (make_fixed fixed)
fixed_stays n [] j f g h s w = h tt tt s w
fixed_stays n (o ∷ fixed) j f g h s w =
    acted_stays (take_room (if o.defined then rounded o.size else 0) s.world) _ _ (λ x i s w. acted_stays (change (with_fixed o) s.world) _ _ (λ y i s w. fixed_stays n fixed j.1 f g h s w) s (tt, fixed_in n o s.world j.0 w)) s (room_step n (if o.defined then rounded o.size else 0) s.world w)
  where
    acted_stays : (a : Acted (Unit {0})) (f g : Unit {0} → State → Run) → ((x : Unit {0}) → Unit {0} → (s : State) → WorldIn n s.world → f x s ≡ g x s) → (s : State) → In n (Any n) a → acted a f s ≡ acted a g s
    acted_stays (Gives a w) f g k s i = k a tt (record s { world = w }) i.1
    acted_stays (Stops e) f g k s i = refl

and_parts : (a b : Bool) → (a && b) ≡ true → (a ≡ true) × (b ≡ true)
and_parts true b h = (refl, h)
and_parts false b h = absurd (let e : false ≡ true = h in cc)

pub numbers_stay : AllNumbersStay
numbers_stay c ok =
    let a = and_parts _ (good_fixed c c.fixed) ok in
    let b = and_parts _ (good_functions c c.funcs) a.0 in
    record {
      first = λ input steps. tt;
      fixed = fixed_stays (length c.funcs) c.fixed (fixed_num c c.fixed a.1);
      expressions = λ marks depth locals e right. expr_stays c marks (funcs_num c c.funcs b.1) depth e (expr_num c locals e right);
    }
