-- A run with few ticks left does not see how deep calls and loops may go.
use Rattle.std.proofs.Common.{◌≡◌, ℕ, zero, suc, ◌≤◌, Bool, true, false, List, [], ◌∷◌, ◌++◌, Option, Some, None, refl, sym, ap, arith, pos}
use Rattle.std.specs.Prelude.{slice_get, slice_index_or, if◌then◌else◌, bytes_eq, length, ◌*◌}
use Rattle.tok_base.specs.declared.token.Span.{Span}
use Rattle.num_ops.specs.declared.kinds.IntKind.TheVariants as kind
use Rattle.c_core.specs.declared.values.Pointer.{Pointer}
use Rattle.c_core.specs.declared.values.Pointer.TheVariants.{Null, Object, Function}
use Rattle.c_core.specs.declared.values.Value.{Value}
use Rattle.c_core.specs.declared.values.Value.TheVariants as value
use Rattle.tok_base.specs.declared.reason.Reason.TheVariants as reason
use Rattle.c_core.specs.declared.values.End.TheVariants.{Spent, Trap}
use Rattle.c_core.specs.declared.tree.FixedObject.{FixedObject}
use Rattle.c_core.specs.declared.tree.Place.TheVariants as place
use Rattle.range_heap.specs.Blocks.{rounded}
use Rattle.c_core.specs.declared.tree.LibMark.{LibMark}
use Rattle.c_core.specs.Tree as t
use Rattle.c_core.specs.Tree.{Expr, At, Form, Exprs, no_exprs, one_expr, MaybeExpr, NoExpr, TheExpr, Stmt, Else, NoElse, Otherwise, Stmts, no_stmts, one_stmt, Program}
use Rattle.c_meaning.specs.declared.log.Flow.{Flow}
use Rattle.c_meaning.specs.declared.log.Flow.TheVariants.{Next, Broke, Continued, Returned}
use Rattle.c_meaning.specs.Run.{Run, Asks, Frees, Begins, Label}
use Rattle.c_meaning.specs.World.{World, State, M, Acted, Gives, Stops, ◌>>=◌, ◌>>◌, give, over, stop, paid, tick, act, acted, change, make_local, make_locals, end_locals, within, request, release, judged, after_answer, without_block, take_room, give_room, with_local, local_block, maker}
use Rattle.c_meaning.specs.Rules.{holds, natural_in, pointer_in, no_value, arith as arith_value, shift, truth, ptr_add, ptr_diff, compare_ptr, modified, int, convert, compare_int, truth_value}
use Rattle.c_meaning.specs.Storage.{load_at, store_at, copy_record, with_fixed, address, get_char, put_byte, byte_in, copy_bytes, set_bytes, compare_bytes, string_length, allocated, zeroed, resized}
use Rattle.c_core.specs.Library.{LibraryFunction, Malloc, Calloc, Realloc, FreeIt, GetChar, PutChar, MemCpy, MemMove, MemSet, MemCmp, StrLen, ExitNow, AbortNow, library_functions, Callee, callee_of}
use Rattle.c_meaning.specs.Meaning.{allocate, block_or_null, if_granted, reallocate, free, library, library_call, Calls, if_holds, mean_expr, mean_form, mean_args, mean_each, mean_step, if_next, after_turn, turns, loop, begun, mean_else, mean_list, mean_stmt, make_parameters, store_argument, returned, run_body, run_callee, run_function, typed_call, call_value, call_at, make_fixed, call_main, label_of, function_address, zero_first, is_number, type_of, nowhere, exit, start}
use Rattle.c_meaning.specs.Laws.{DepthsAgree}

-- two ways to go on that agree where at most b ticks are left
abbrev pub Same : {A : Type 0} → ℕ → (A → State → Run) → (A → State → Run) → Type 0
Same {A} b f g = (a : A) (s : State) → s.ticks ≤ b → f a s ≡ g a s

-- two meanings that agree there, if what follows does
abbrev pub SameM : {A : Type 0} → ℕ → M A → M A → Type 0
SameM {A} b m n = (f g : A → State → Run) → Same b f g → (s : State) → s.ticks ≤ b → m f s ≡ n g s

abbrev pub SameCalls : ℕ → Calls → Calls → Type 0
SameCalls b c d = (v : Value) (type : List ℕ) (args : List Value) (used : Bool) (span : Span) → SameM b (c v type args used span) (d v type args used span)

pub paid_same : (n b : ℕ) (s : State) (f g : State → Run) → n ≤ b → ((a : ℕ) → suc a ≤ b → (s : State) → s.ticks ≤ a → f s ≡ g s) → paid n f s ≡ paid n g s
paid_same zero b s f g le h = refl
paid_same (suc n) b s f g le h = h n le (record s { ticks = n }) (omega arith)

-- a tick, and then what agrees with one tick less
pub ticked : {A : Type 0} (b : ℕ) (m n : M A) → ((a : ℕ) → suc a ≤ b → SameM a m n) → SameM b (do tick; m) (do tick; n)
ticked b m n h f g k s le = paid_same s.ticks b s _ _ le (λ a lt s le. h a lt f g (λ x s le. k x s (omega arith)) s le)

spent_same : (n : ℕ) (s : State) (f : State → Run) → n ≤ 0 → over Spent s ≡ paid n f s
spent_same zero s f le = refl
spent_same (suc n) s f le = absurd (omega arith)

-- a meaning that agrees with itself
abbrev Steady : {A : Type 0} → M A → Type 0
Steady m = (b : ℕ) → SameM b m m

acted_same : {A : Type 0} (b : ℕ) (o : Acted A) (f g : A → State → Run) → Same b f g → (s : State) → s.ticks ≤ b → acted o f s ≡ acted o g s
acted_same b (Gives a w) f g h s le = h a (record s { world = w }) le
acted_same b (Stops e) f g h s le = refl

act_steady : {A : Type 0} (p : World → Acted A) → Steady (act p)
act_steady p b f g h s le = acted_same b (p s.world) f g h s le

give_steady : {A : Type 0} (a : A) → Steady (give a)
give_steady a b f g h s le = h a s le

bound : {A B : Type 0} (b : ℕ) (m n : M A) (p q : A → M B) → SameM b m n → ((a : A) → SameM b (p a) (q a)) → SameM b (do x ← m; p x) (do x ← n; q x)
bound b m n p q h k f g e s le = h _ _ (λ a s le. k a f g e s le) s le

if_same : {A : Type 0} (b : ℕ) (v : Value) (m n p q : M A) → SameM b m n → SameM b p q → SameM b (if_holds v m p) (if_holds v n q)
if_same {A} b v m n p q h k =
    elim (holds v) as (λ x. SameM b (let r : M A = if x then m else p in r) (let r : M A = if x then n else q in r)) [ true ↦ h | false ↦ k ]

request_steady : (label : Label) (size : ℕ) → Steady (request label size)
request_steady label size b f g h s le = ap (Asks label size 16) (λ i granted. h (if granted then Some (length s.world.blocks) else None) (record s { world = after_answer size granted s.world }) le i)

release_steady : (n : ℕ) → Steady (release n)
release_steady n b f g h s le = ap (Frees (maker s.world n)) (h tt (record s { world = record (without_block n s.world) { asked = suc s.world.asked } }) le)

granted_steady : (block : Option ℕ) (p : ℕ → M (Unit {0})) → ((n : ℕ) → Steady (p n)) → Steady (if_granted block p)
granted_steady None p h b f g k s le = k (value.Ptr Null) s le
granted_steady (Some n) p h b f g k s le = h n b _ _ (λ x s le. k (value.Ptr (Object n 0)) s le) s le

allocate_steady : (label : Label) (size : ℕ) → Steady (allocate label size)
allocate_steady label size b f g h s le = request_steady label size b _ _ (λ block s le. h (block_or_null block) s le) s le

-- the new block, once it is granted
moved_steady : (span : Span) (old size n : ℕ) → Steady (do act (resized span n old size); release old)
moved_steady span old size n b f g h s le = acted_same b (resized span n old size s.world) _ _ (λ x s le. release_steady old b f g h s le) s le

realloc_on : (span : Span) (label : Label) (p : Pointer) (size : ℕ) → Steady (do
  old ← act (λ w. judged span (allocated w.blocks p) w)
  block ← request label size
  if_granted block (λ n. do act (resized span n old size); release old))
realloc_on span label p size b f g h s le =
    acted_same b (judged span (allocated s.world.blocks p) s.world) _ _ (λ old s le. request_steady label size b _ _ (λ block s le. granted_steady block _ (moved_steady span old size) b f g h s le) s le) s le

realloc_steady : (span : Span) (label : Label) (p : Pointer) (size : ℕ) → Steady (reallocate span label p size)
realloc_steady span label Null size b f g h s le = allocate_steady label size b f g h s le
realloc_steady span label (Object n i) size b f g h s le = realloc_on span label (Object n i) size b f g h s le
realloc_steady span label (Function n) size b f g h s le = realloc_on span label (Function n) size b f g h s le

free_steady : (span : Span) (p : Pointer) → Steady (free span p)
free_steady span Null b f g h s le = h no_value s le
free_steady span (Object n i) b f g h s le = acted_same b (judged span (allocated s.world.blocks (Object n i)) s.world) _ _ (λ n s le. release_steady n b _ _ (λ x s le. h no_value s le) s le) s le
free_steady span (Function n) b f g h s le = acted_same b (judged span (allocated s.world.blocks (Function n)) s.world) _ _ (λ n s le. release_steady n b _ _ (λ x s le. h no_value s le) s le) s le

library_steady : (l : LibraryFunction) (span : Span) (label : Label) (x y z : Value) → Steady (library l span label x y z)
library_steady Malloc span label x y z b f g h s le = allocate_steady label (natural_in x) b f g h s le
library_steady Calloc span label x y z b f g h s le =
    request_steady label (natural_in x * natural_in y) b _ _ (λ block s le. granted_steady block _ (λ n. act_steady (zeroed span n (natural_in x * natural_in y))) b f g h s le) s le
library_steady Realloc span label x y z b f g h s le = realloc_steady span label (pointer_in x) (natural_in y) b f g h s le
library_steady FreeIt span label x y z b f g h s le = free_steady span (pointer_in x) b f g h s le
library_steady GetChar span label x y z b f g h s le = act_steady (get_char) b f g h s le
library_steady PutChar span label x y z b f g h s le = act_steady (put_byte (byte_in x)) b f g h s le
library_steady MemCpy span label x y z b f g h s le = act_steady (copy_bytes span false x y z) b f g h s le
library_steady MemMove span label x y z b f g h s le = act_steady (copy_bytes span true x y z) b f g h s le
library_steady MemSet span label x y z b f g h s le = act_steady (set_bytes span x y z) b f g h s le
library_steady MemCmp span label x y z b f g h s le = act_steady (compare_bytes span x y z) b f g h s le
library_steady StrLen span label x y z b f g h s le = act_steady (string_length span x) b f g h s le
library_steady ExitNow span label x y z b f g h s le = refl
library_steady AbortNow span label x y z b f g h s le = refl

library_call_steady : (l : Option LibraryFunction) (span : Span) (m : LibMark) (args : List Value) → Steady (library_call l span m args)
library_call_steady None span m args b f g h s le = refl
library_call_steady (Some l) span m args b f g h s le = library_steady l span (label_of m args) (slice_index_or args 0 no_value) (slice_index_or args 1 no_value) (slice_index_or args 2 no_value) b f g h s le

module _ (p : Program) (marks : ℕ → ℕ) (c d : Calls) (u : ℕ) (calls : (b : ℕ) → b ≤ u → SameCalls b c d) where
  mutual
    pub expr_same : (e : Expr) (b : ℕ) → b ≤ u → SameM b (mean_expr p marks c e) (mean_expr p marks d e)
    expr_same (At span form) b bu f g h s le = ap Begins (form_same span form b bu f g h s le)

    pub form_same : (span : Span) (form : Form) (b : ℕ) → b ≤ u → SameM b (mean_form p marks c span form) (mean_form p marks d span form)
    form_same span (t.Const v) b bu f g h s le = h v s le
    form_same span (t.Text n) b bu f g h s le = acted_same b (judged span (address p.fixed (place.Fixed n) s.world) s.world) f g h s le
    form_same span (t.Func n) b bu f g h s le = acted_same b (judged span (function_address p.funcs n) s.world) f g h s le
    form_same span (t.Object place) b bu f g h s le = acted_same b (judged span (address p.fixed place s.world) s.world) f g h s le
    form_same span (t.Load e kind) b bu f g h s le = expr_same e b bu _ _ (λ a s le. acted_same b (load_at span (pointer_in a) kind s.world) f g h s le) s le
    form_same span (t.Store e at kind v) b bu f g h s le =
        expr_same e b bu _ _ (λ a s le. expr_same v b bu _ _ (λ v s le. acted_same b (store_at at (pointer_in a) kind v s.world) f g h s le) s le) s le
    form_same span (t.CopyRecord x to_at y from_at size) b bu f g h s le =
        expr_same x b bu _ _ (λ to s le. expr_same y b bu _ _ (λ from s le. acted_same b (copy_record span (pointer_in to) to_at (pointer_in from) from_at size s.world) _ _ (λ z s le. h no_value s le) s le) s le) s le
    form_same span (t.Convert kind e) b bu f g h s le = expr_same e b bu _ _ (λ v s le. h (convert kind v) s le) s le
    form_same span (t.Truth e negated) b bu f g h s le = expr_same e b bu _ _ (λ v s le. acted_same b (judged span (truth s.world.blocks v negated) s.world) f g h s le) s le
    form_same span (t.Arith op x y) b bu f g h s le =
        expr_same x b bu _ _ (λ v s le. expr_same y b bu _ _ (λ w s le. acted_same b (judged span (arith_value op v w) s.world) f g h s le) s le) s le
    form_same span (t.ShiftBits left x y) b bu f g h s le =
        expr_same x b bu _ _ (λ v s le. expr_same y b bu _ _ (λ w s le. acted_same b (judged span (shift left v w) s.world) f g h s le) s le) s le
    form_same span (t.CompareInt op x y) b bu f g h s le =
        expr_same x b bu _ _ (λ v s le. expr_same y b bu _ _ (λ w s le. h (compare_int op v w) s le) s le) s le
    form_same span (t.PtrAdd x y size minus) b bu f g h s le =
        expr_same x b bu _ _ (λ v s le. expr_same y b bu _ _ (λ w s le. acted_same b (judged span (ptr_add s.world.blocks v w size minus) s.world) f g h s le) s le) s le
    form_same span (t.PtrDiff x y size) b bu f g h s le =
        expr_same x b bu _ _ (λ v s le. expr_same y b bu _ _ (λ w s le. acted_same b (judged span (ptr_diff s.world.blocks v w size) s.world) f g h s le) s le) s le
    form_same span (t.ComparePtr op x y) b bu f g h s le =
        expr_same x b bu _ _ (λ v s le. expr_same y b bu _ _ (λ w s le. acted_same b (judged span (compare_ptr op s.world.blocks v w) s.world) f g h s le) s le) s le
    form_same span (t.Both x y) b bu f g h s le =
        expr_same x b bu _ _ (λ v s le. if_same b v _ _ _ _ (λ f g h s le. expr_same y b bu _ _ (λ w s le. h (truth_value (holds w)) s le) s le) (give_steady (truth_value false) b) f g h s le) s le
    form_same span (t.Either x y) b bu f g h s le =
        expr_same x b bu _ _ (λ v s le. if_same b v _ _ _ _ (give_steady (truth_value true) b) (λ f g h s le. expr_same y b bu _ _ (λ w s le. h (truth_value (holds w)) s le) s le) f g h s le) s le
    form_same span (t.Choose x y z) b bu f g h s le =
        expr_same x b bu _ _ (λ v s le. if_same b v _ _ _ _ (expr_same y b bu) (expr_same z b bu) f g h s le) s le
    form_same span (t.Then x y) b bu f g h s le = expr_same x b bu _ _ (λ v s le. expr_same y b bu f g h s le) s le
    form_same span (t.Modify x at kind op y common post) b bu f g h s le =
        expr_same x b bu _ _ (λ a s le.
        expr_same y b bu _ _ (λ v s le.
        acted_same b (load_at at (pointer_in a) kind s.world) _ _ (λ old s le.
        acted_same b (judged span (modified op common s.world.blocks old v) s.world) _ _ (λ new s le.
        acted_same b (store_at at (pointer_in a) kind new s.world) _ _ (λ stored s le. h (if post then old else stored) s le) s le) s le) s le) s le) s le
    form_same span (t.Call x type es used) b bu f g h s le =
        expr_same x b bu _ _ (λ callee s le. args_same es (λ args. c callee type args used span) (λ args. d callee type args used span) [] b bu (λ args. calls b bu callee type args used span) f g h s le) s le
    form_same span (t.LibCall n es m) b bu f g h s le =
        args_same es (λ args. do tick; library_call (slice_get library_functions n) span m args) (λ args. do tick; library_call (slice_get library_functions n) span m args) [] b bu (λ args. ticked b (library_call (slice_get library_functions n) span m args) (library_call (slice_get library_functions n) span m args) (λ a lt. library_call_steady (slice_get library_functions n) span m args a)) f g h s le
    form_same span (t.Mark n) b bu f g h s le = h (int kind.ULong (pos (marks n))) s le

    pub args_same : (es : Exprs) (m n : List Value → M Value) (known : List Value) (b : ℕ) → b ≤ u → ((args : List Value) → SameM b (m args) (n args)) → SameM b (mean_args p marks c es m known) (mean_args p marks d es n known)
    args_same no_exprs m n known b bu k f g h s le = k known f g h s le
    args_same (one_expr e es) m n known b bu k f g h s le =
        expr_same e b bu _ _ (λ v s le. args_same es m n (known ++ v ∷ []) b bu k f g h s le) s le

  pub each_same : (es : Exprs) (b : ℕ) → b ≤ u → SameM b (mean_each p marks c es) (mean_each p marks d es)
  each_same no_exprs b bu f g h s le = h tt s le
  each_same (one_expr e es) b bu f g h s le = expr_same e b bu _ _ (λ v s le. each_same es b bu f g h s le) s le

  pub step_same : (e : MaybeExpr) (b : ℕ) → b ≤ u → SameM b (mean_step p marks c e) (mean_step p marks d e)
  step_same NoExpr b bu f g h s le = h tt s le
  step_same (TheExpr e) b bu f g h s le = expr_same e b bu _ _ (λ v s le. h tt s le) s le

if_next_same : (b : ℕ) (flow : Flow) (m n : M Flow) → SameM b m n → SameM b (if_next flow m) (if_next flow n)
if_next_same b Next m n h = h
if_next_same b Broke m n h = give_steady Broke b
if_next_same b Continued m n h = give_steady Continued b
if_next_same b (Returned v) m n h = give_steady (Returned v) b

after_turn_same : (b : ℕ) (flow : Flow) (m n : M Flow) → SameM b m n → SameM b (after_turn flow m) (after_turn flow n)
after_turn_same b Next m n h = h
after_turn_same b Continued m n h = h
after_turn_same b Broke m n h = give_steady Next b
after_turn_same b (Returned v) m n h = give_steady (Returned v) b

-- loops that may make m and n turns more
module _ (u : ℕ) (tc td : M Value) (sc sd : M (Unit {0})) (bc bd : M Flow) (ht : (b : ℕ) → b ≤ u → SameM b tc td) (hs : (b : ℕ) → b ≤ u → SameM b sc sd) (hb : (b : ℕ) → b ≤ u → SameM b bc bd) where
  pub turns_same : (m n b : ℕ) → b ≤ u → b ≤ m → b ≤ n → SameM b (turns m tc sc bc) (turns n td sd bd)
  turns_same zero zero b bu bm bn f g h s le = refl
  turns_same zero (suc n) b bu bm bn f g h s le = spent_same s.ticks s _ (omega arith)
  turns_same (suc m) zero b bu bm bn f g h s le = sym (spent_same s.ticks s _ (omega arith))
  turns_same (suc m) (suc n) b bu bm bn f g h s le =
      paid_same s.ticks b s _ _ le (λ a lt s le.
      hb a (omega arith) _ _ (λ flow s le.
      after_turn_same a flow _ _ (λ f g h s le.
      hs a (omega arith) _ _ (λ x s le.
      ht a (omega arith) _ _ (λ v s le.
      if_same a v _ _ _ _ (turns_same m n a (omega arith) (omega arith) (omega arith)) (give_steady Next a) f g h s le) s le) s le) f g (λ x s le. h x s (omega arith)) s le) s le)

  pub loop_same : (first : Bool) (m n b : ℕ) → b ≤ u → b ≤ m → b ≤ n → SameM b (loop first tc (turns m tc sc bc)) (loop first td (turns n td sd bd))
  loop_same true m n b bu bm bn f g h s le =
      ht b bu _ _ (λ v s le. if_same b v _ _ _ _ (turns_same m n b bu bm bn) (give_steady Next b) f g h s le) s le
  loop_same false m n b bu bm bn f g h s le = turns_same m n b bu bm bn f g h s le

local_steady : (x size : ℕ) → Steady (make_local x size)
local_steady x size b = ticked b (do act (take_room (rounded size)); act (change (with_local x size))) (do act (take_room (rounded size)); act (change (with_local x size))) (λ a lt f g h s le. acted_same a (take_room (rounded size) s.world) _ _ (λ y s le. acted_same a (change (with_local x size) s.world) f g h s le) s le)

locals_steady : (objects : List (ℕ × ℕ)) → Steady (make_locals objects)
locals_steady [] b f g h s le = h tt s le
locals_steady (o ∷ objects) b f g h s le = local_steady o.0 o.1 b _ _ (λ x s le. locals_steady objects b f g h s le) s le

module _ (p : Program) (marks : ℕ → ℕ) (c d : Calls) (u : ℕ) (calls : (b : ℕ) → b ≤ u → SameCalls b c d) (m n : ℕ) (um : u ≤ m) (un : u ≤ n) where
  mutual
    pub begun_same : (x : Stmt) (b : ℕ) → b ≤ u → SameM b (begun p marks c m x) (begun p marks d n x)
    begun_same (t.Block objects xs) b bu f g h s le =
        locals_steady objects b _ _ (λ y s le. list_same xs b bu _ _ (λ flow s le. acted_same b (change (end_locals objects) s.world) _ _ (λ z s le. h flow s le) s le) s le) s le
    begun_same (t.Do e) b bu f g h s le = expr_same p marks c d u calls e b bu _ _ (λ v s le. h Next s le) s le
    begun_same (t.Init x zeros items) b bu f g h s le =
        acted_same b (zero_first zeros x s.world) _ _ (λ y s le. each_same p marks c d u calls items b bu _ _ (λ z s le. h Next s le) s le) s le
    begun_same (t.If e x y) b bu f g h s le =
        expr_same p marks c d u calls e b bu _ _ (λ v s le. if_same b v _ _ _ _ (ticked b _ _ (λ a lt. begun_same x a (omega arith))) (else_same y b bu) f g h s le) s le
    begun_same (t.Loop first e step x) b bu f g h s le =
        loop_same u _ _ _ _ _ _ (expr_same p marks c d u calls e) (step_same p marks c d u calls step) (λ b bu. ticked b _ _ (λ a lt. begun_same x a (omega arith))) first m n b bu (omega arith) (omega arith) f g h s le
    begun_same t.Break b bu f g h s le = h Broke s le
    begun_same t.Continue b bu f g h s le = h Continued s le
    begun_same (t.Return NoExpr) b bu f g h s le = h (Returned None) s le
    begun_same (t.Return (TheExpr e)) b bu f g h s le = expr_same p marks c d u calls e b bu _ _ (λ v s le. h (Returned (Some v)) s le) s le

    pub else_same : (x : Else) (b : ℕ) → b ≤ u → SameM b (mean_else p marks c m x) (mean_else p marks d n x)
    else_same NoElse b bu f g h s le = h Next s le
    else_same (Otherwise x) b bu f g h s le = ticked b _ _ (λ a lt. begun_same x a (omega arith)) f g h s le

    pub list_same : (xs : Stmts) (b : ℕ) → b ≤ u → SameM b (mean_list p marks c m xs) (mean_list p marks d n xs)
    list_same no_stmts b bu f g h s le = h Next s le
    list_same (one_stmt x xs) b bu f g h s le =
        paid_same s.ticks b s _ _ le (λ a lt s le.
        begun_same x a (omega arith) _ _ (λ flow s le. if_next_same a flow _ _ (list_same xs a (omega arith)) f g (λ y s le. h y s (omega arith)) s le) s le)

  pub stmt_same : (x : Stmt) (b : ℕ) → b ≤ u → SameM b (mean_stmt p marks c m x) (mean_stmt p marks d n x)
  stmt_same x b bu = ticked b _ _ (λ a lt. begun_same x a (omega arith))

within_same : {A : Type 0} (b : ℕ) (m n : M A) → SameM b m n → SameM b (within m) (within n)
within_same b m n h f g k s le =
    h _ _ (λ a t le. k a (record t { world = record (t.world) { locals = s.world.locals } }) le) (record s { world = record (s.world) { locals = [] } }) le

parameters_steady : (span : Span) (objects : List (ℕ × ℕ)) (args : List Value) → Steady (make_parameters span objects args)
parameters_steady span [] args b f g h s le = h tt s le
parameters_steady span (o ∷ objects) [] b f g h s le = h tt s le
parameters_steady span (o ∷ objects) (v ∷ args) b f g h s le =
    local_steady o.0 o.1 b _ _ (λ x s le. acted_same b (store_argument span (local_block s.world o.0) v s.world) _ _ (λ y s le. parameters_steady span objects args b f g h s le) s le) s le

returned_steady : (is_main used : Bool) (span : Span) (flow : Flow) → Steady (returned is_main used span flow)
returned_steady is_main used span (Returned (Some v)) b f g h s le = h v s le
returned_steady is_main used span (Returned None) b f g h s le = h no_value s le
returned_steady true used span Next b f g h s le = h (int kind.Int (pos 0)) s le
returned_steady true used span Broke b f g h s le = h (int kind.Int (pos 0)) s le
returned_steady true used span Continued b f g h s le = h (int kind.Int (pos 0)) s le
returned_steady false true span Next b f g h s le = refl
returned_steady false true span Broke b f g h s le = refl
returned_steady false true span Continued b f g h s le = refl
returned_steady false false span Next b f g h s le = h no_value s le
returned_steady false false span Broke b f g h s le = h no_value s le
returned_steady false false span Continued b f g h s le = h no_value s le

body_same : (b : ℕ) (m n : M Flow) (is_main : Bool) (objects : List (ℕ × ℕ)) (args : List Value) (used : Bool) (span : Span) → SameM b m n → SameM b (run_body m is_main objects args used span) (run_body n is_main objects args used span)
body_same b m n is_main objects args used span h =
    within_same b _ _ (λ f g k s le.
    acted_same b (take_room 64 s.world) _ _ (λ x s le.
    parameters_steady span objects args b _ _ (λ y s le.
    h _ _ (λ flow s le.
    acted_same b (change (λ w. give_room 64 (end_locals objects w)) s.world) _ _ (λ z s le. returned_steady is_main used span flow b f g k s le) s le) s le) s le) s le)

callee_steady : (callee : Option Callee) (args : List Value) (span : Span) → Steady (run_callee callee args span)
callee_steady None args span b f g h s le = refl
callee_steady (Some callee) args span b f g h s le = library_call_steady (slice_get library_functions callee.0) span callee.1 args b f g h s le

function_same : (b : ℕ) (m n : Stmt → M Flow) (is_main : Bool) (x : t.Function) (body : Option Stmt) (args : List Value) (used : Bool) (span : Span) → ((y : Stmt) → SameM b (m y) (n y)) → SameM b (run_function m is_main x body args used span) (run_function n is_main x body args used span)
function_same b m n is_main x None args used span h = callee_steady (callee_of x.name) args span b
function_same b m n is_main x (Some y) args used span h = body_same b (m y) (n y) is_main _ args used span (h y)

typed_same : (b : ℕ) (m n : Stmt → M Flow) (is_main : Bool) (x : Option t.Function) (type : List ℕ) (args : List Value) (used : Bool) (span : Span) → ((y : Stmt) → SameM b (m y) (n y)) → SameM b (typed_call m is_main x type args used span) (typed_call n is_main x type args used span)
typed_same b m n is_main None type args used span h f g k s le = refl
typed_same b m n is_main (Some x) type args used span h f g k s le =
    elim (bytes_eq x.ty type) as (λ same. (let r : M Value = if same then run_function m is_main x x.body args used span else stop (Trap reason.BadCall span) in r) f s ≡ (let r : M Value = if same then run_function n is_main x x.body args used span else stop (Trap reason.BadCall span) in r) g s)
    [ true ↦ function_same b m n is_main x x.body args used span h f g k s le | false ↦ refl ]

value_same : (p : Program) (b : ℕ) (m n : Stmt → M Flow) (v : Value) (type : List ℕ) (args : List Value) (used : Bool) (span : Span) → ((y : Stmt) → SameM b (m y) (n y)) → SameM b (call_value p m v type args used span) (call_value p n v type args used span)
value_same p b m n (value.Ptr (Function i)) type args used span h f g k s le = typed_same b m n (is_number p.main i) (slice_get p.funcs i) type args used span h f g k s le
value_same p b m n (value.Ptr Null) type args used span h f g k s le = refl
value_same p b m n (value.Ptr (Object i o)) type args used span h f g k s le = refl
value_same p b m n (value.Int i) type args used span h f g k s le = refl

-- calls that may go m and n deep
pub calls_same : (p : Program) (marks : ℕ → ℕ) (m n b : ℕ) → b ≤ m → b ≤ n → SameCalls b (call_at p marks m) (call_at p marks n)
calls_same p marks zero zero b bm bn v type args used span f g h s le = refl
calls_same p marks zero (suc n) b bm bn v type args used span f g h s le = spent_same s.ticks s _ (omega arith)
calls_same p marks (suc m) zero b bm bn v type args used span f g h s le = sym (spent_same s.ticks s _ (omega arith))
calls_same p marks (suc m) (suc n) b bm bn v type args used span f g h s le =
    ticked b _ _ (λ a lt. value_same p a (mean_stmt p marks (call_at p marks m) m) (mean_stmt p marks (call_at p marks n) n) v type args used span (λ y. stmt_same p marks (call_at p marks m) (call_at p marks n) a (λ e ea. calls_same p marks m n e (omega arith) (omega arith)) m n (omega arith) (omega arith) y a (omega arith))) f g h s le

fixed_same : {A : Type 0} (b : ℕ) (fixed : List FixedObject) (m n : M A) → SameM b m n → SameM b (do make_fixed fixed; m) (do make_fixed fixed; n)
fixed_same b [] m n h f g k s le = h f g k s le
fixed_same b (o ∷ fixed) m n h f g k s le =
    acted_same b (take_room (if o.defined then rounded o.size else 0) s.world) _ _ (λ x s le. acted_same b (change (with_fixed o) s.world) _ _ (λ y s le. fixed_same b fixed m n h f g k s le) s le) s le

main_same : (p : Program) (c d : Calls) (b : ℕ) (main : Option ℕ) → SameCalls b c d → SameM b (call_main p c main) (call_main p d main)
main_same p c d b None h f g k s le = refl
main_same p c d b (Some x) h f g k s le = h (value.Ptr (Function x)) (type_of (slice_get p.funcs x)) [] true nowhere f g k s le

pub depths_agree : DepthsAgree
depths_agree depth p marks input ticks le =
    fixed_same ticks p.fixed (call_main p (call_at p marks depth) p.main) (call_main p (call_at p marks ticks) p.main) (main_same p (call_at p marks depth) (call_at p marks ticks) ticks p.main (calls_same p marks depth ticks ticks le (omega arith))) exit exit (λ v s le. refl) (start input ticks) (omega arith)
