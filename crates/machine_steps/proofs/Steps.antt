-- Each step of the machine does what the meaning says.
use Rattle.std.proofs.Common.{◌≡◌, ℕ, zero, suc, ◌≤◌, Bool, true, false, List, [], ◌∷◌, ◌++◌, Option, Some, None, Result, Ok, Err, refl, sym, ap, ◌∙◌, arith, take, drop, length}
use Rattle.std.specs.Prelude.{slice_get, if◌then◌else◌, bytes_eq}
use Rattle.tok_base.specs.declared.token.Span.{Span}
use Rattle.tok_base.specs.declared.reason.Reason.{Reason}
use Rattle.num_ops.specs.declared.kinds.IntKind.{IntKind}
use Rattle.c_core.specs.declared.values.Pointer.TheVariants.{Null, Object, Function}
use Rattle.c_core.specs.declared.values.Value.{Value}
use Rattle.c_core.specs.declared.values.Value.TheVariants as value
use Rattle.c_core.specs.declared.values.Scalar.{Scalar}
use Rattle.c_core.specs.declared.values.End.TheVariants.{Spent}
use Rattle.c_core.specs.declared.tree.ModifyOp.{ModifyOp}
use Rattle.c_core.specs.declared.tree.FixedObject.{FixedObject}
use Rattle.c_core.specs.declared.tree.Place.TheVariants as place
use Rattle.range_heap.specs.Blocks.{rounded}
use Rattle.c_core.specs.Tree as t
use Rattle.c_core.specs.Tree.{Expr, At, Form, Exprs, no_exprs, one_expr, MaybeExpr, NoExpr, TheExpr, Stmt, Else, NoElse, Otherwise, Stmts, no_stmts, one_stmt, Program}
use Rattle.c_core.specs.Library.{library_functions, Callee, callee_of}
use Rattle.c_meaning.specs.declared.log.Flow.{Flow}
use Rattle.c_meaning.specs.declared.log.Flow.TheVariants.{Next as Onward, Broke, Continued, Returned}
use Rattle.c_meaning.specs.Run.{Run, Begins}
use Rattle.c_meaning.specs.World.{World, State, M, Acted, Gives, Stops, ◌>>=◌, ◌>>◌, give, over, paid, tick, acted, judged, end_locals, take_room, give_room}
use Rattle.c_meaning.specs.Rules.{no_value, pointer_in, holds, truth, modified, arith as arith_of, shift, ptr_add, ptr_diff, compare_ptr}
use Rattle.c_core.specs.Blocks.{load}
use Rattle.c_meaning.specs.Storage.{with_reason, load_at, store_at, copy_record, address, with_fixed}
use Rattle.c_meaning.specs.Meaning.{library_call, Calls, if_holds, mean_expr, mean_form, mean_args, mean_each, mean_step, if_next, after_turn, loop, begun, mean_else, mean_list, mean_stmt, parameters, returned, run_body, run_callee, run_function, typed_call, call_value, call_at, call_main, is_number, type_of, nowhere, zero_first, function_address, start, exit}
use Rattle.c_meaning.proofs.Depths.{SameCalls, expr_same, step_same, stmt_same, turns_same, calls_same}
use Rattle.machine_steps.specs.Frames.{Control, Eval, Give, Begin, Went, Frame, First, Second, AsTruth, Argument, Done, Item, Branch, Test, Turn, Step, Listed, GiveBack, Leave, Stacks, Next, with_frame, with_value, expr_at, exprs_from, stmt_at, stmts_from, topmost, below}
use Rattle.machine_steps.specs.Steps as m
use Rattle.machine_steps.specs.Steps.{Made, Makes, Ends, acting, paying, if_judged, old_or_new, giving, from_made, then_made, made_by, made_locals, made_parameters, inside, ended, left}
use Rattle.machine_steps.specs.Rests.{Rest, rest, rest_of, goes_on, run_from, runs_on, first_means, second_means, second_of_means, calls_through, argument_means, item_means, branch_means, turns_of, test_means, retest_means, turn_means, listed_means, leave_means}
use Rattle.machine_steps.specs.Laws.{stepped, StepsAgree, StartsAgree}
use Rattle.machine_steps.proofs.Made.{after_made, then_on, by_on, made_same, locals_on, parameters_on, fixed_on}

-- a choice between two meanings
chosen : {A : Type 0} (b : Bool) (f g : M A) (k : A → State → Run) (s : State) (r : Bool → Run) → f k s ≡ r true → g k s ≡ r false → (let h : M A = if b then f else g in h) k s ≡ r b
chosen true f g k s r x y = x
chosen false f g k s r x y = y

module _ (c : Program) (marks : ℕ → ℕ) (depth : ℕ) where
  abbrev call : Calls
  call = call_at c marks depth

  abbrev run : Next → Run
  run = run_from c marks call depth

  abbrev what_follows : Stacks → Rest
  what_follows = rest c marks call depth

  same_calls : (b : ℕ) → b ≤ depth → SameCalls b call call
  same_calls b le = calls_same c marks depth depth b le le

  acting_on : (o : Acted Value) (st : Stacks) (s : State) → acted o (what_follows st).value s ≡ run (acting o st s)
  acting_on (Gives v w) st s = refl
  acting_on (Stops e) st s = refl

  giving_on : {A : Type 0} (v : Value) (o : Acted A) (st : Stacks) (s : State) → acted o (λ a. (what_follows st).value v) s ≡ run (acting (giving v o) st s)
  giving_on v (Gives a w) st s = refl
  giving_on v (Stops e) st s = refl

  paying_on : (n : ℕ) (f : State → Run) (g : State → Next) (s : State) → n ≤ depth → ((t : ℕ) → suc t ≤ depth → f (record s { ticks = t }) ≡ run (g (record s { ticks = t }))) → paid n f s ≡ run (paying n g s)
  paying_on zero f g s le h = refl
  paying_on (suc n) f g s le h = h n le

  choosing_on : {A : Type 0} (b : Bool) (f g : M A) (k : A → State → Run) (s : State) (x y : Next) → f k s ≡ run x → g k s ≡ run y → (let h : M A = if b then f else g in h) k s ≡ run (if b then x else y)
  choosing_on true f g k s x y p q = p
  choosing_on false f g k s x y p q = q

  from_on : (o : Made) (f : State → Run) (g : State → Next) → ((s : State) → f s ≡ run (g s)) → after_made o f ≡ run (from_made o g)
  from_on (Makes s) f g h = h s
  from_on (Ends e s) f g h = refl

  -- ---- modification

  stored_on : (o : Acted Value) (post : Bool) (old : Value) (k : Value → State → Run) (s : State) → acted o (λ stored. k (if post then old else stored)) s ≡ acted (old_or_new post old o) k s
  stored_on (Gives v w) post old k s = refl
  stored_on (Stops e) post old k s = refl

  judged_on : {A : Type 0} (span : Span) (r : Result A Reason) (f : A → State → Run) (g : A → Acted Value) (k : Value → State → Run) (s : State) → ((a : A) → f a s ≡ acted (g a) k s) → acted (judged span r s.world) f s ≡ acted (if_judged span r g) k s
  judged_on span (Ok a) f g k s h = h a
  judged_on span (Err e) f g k s h = refl

  modify_on : (span at : Span) (what : Scalar) (op : ModifyOp) (p e : Expr) (common : IntKind) (post : Bool) (a x : Value) (st : Stacks) (s : State) → second_means c marks call depth span (t.Modify p at what op e common post) a x (what_follows st).value s ≡ run (acting (m.modify span at what op common post a x s.world) st s)
  modify_on span at what op p e common post a x st s =
      judged_on at (with_reason (load s.world.blocks (pointer_in a) what)) _ _ (what_follows st).value s (λ old.
      judged_on span (modified op common s.world.blocks old x) _ _ (what_follows st).value s (λ new.
      stored_on (store_at at (pointer_in a) what new s.world) post old (what_follows st).value s))
      ∙ acting_on (m.modify span at what op common post a x s.world) st s

  -- ---- calls

  returned_on : (is_main used : Bool) (span : Span) (flow : Flow) (locals : List (Option ℕ)) (k : Value → State → Run) (s : State)
      → returned is_main used span flow (λ a t. k a (record t { world = record (t.world) { locals = locals } })) s ≡ returned is_main used span flow k (record s { world = record (s.world) { locals = locals } })
  returned_on is_main used span (Returned (Some v)) locals k s = refl
  returned_on is_main used span (Returned None) locals k s = refl
  returned_on true used span Onward locals k s = refl
  returned_on true used span Broke locals k s = refl
  returned_on true used span Continued locals k s = refl
  returned_on false true span Onward locals k s = refl
  returned_on false true span Broke locals k s = refl
  returned_on false true span Continued locals k s = refl
  returned_on false false span Onward locals k s = refl
  returned_on false false span Broke locals k s = refl
  returned_on false false span Continued locals k s = refl

  saved_before : (xs ys : List (Option ℕ)) → take (length xs) (xs ++ ys) ≡ xs
  saved_before [] ys = refl
  saved_before (x ∷ xs) ys = ap (λ l. x ∷ l) (saved_before xs ys)

  saved_after : (xs ys : List (Option ℕ)) → drop (length xs) (xs ++ ys) ≡ ys
  saved_after [] ys = refl
  saved_after (x ∷ xs) ys = saved_after xs ys

  entering_on : (body : Stmt) (is_main : Bool) (params : List ℕ) (args : List Value) (used : Bool) (span : Span) (st : Stacks) (s : State)
      → run_body (mean_stmt c marks call depth body) is_main (parameters 0 params) args used span (what_follows st).value s ≡ run (m.entering body is_main params args used span st s)
  entering_on body is_main params args used span st s =
      by_on (take_room 64 (inside s).world) (inside s) _
      ∙ made_same (made_by (take_room 64 (inside s).world) (inside s)) _ _ (λ s. parameters_on span (parameters 0 params) args s _)
      ∙ sym (then_on (made_by (take_room 64 (inside s).world) (inside s)) (made_parameters span (parameters 0 params) args) _)
      ∙ from_on (then_made (made_by (take_room 64 (inside s).world) (inside s)) (made_parameters span (parameters 0 params) args)) _ _
      (λ now. ap (λ (k : Flow → State → Run). mean_stmt c marks call depth body k now) (λ i flow s'. leaves flow s' i))
    where
      leaves : (flow : Flow) (now : State)
          → returned is_main used span flow (λ a t. (what_follows st).value a (record t { world = record (t.world) { locals = s.world.locals } })) (record now { world = give_room 64 (end_locals (parameters 0 params) now.world) })
          ≡ leave_means c marks call depth params is_main used span (drop (length st.saved) (st.saved ++ s.world.locals)) (rest_of c marks call depth st.frames st.values (take (length st.saved) (st.saved ++ s.world.locals))) flow now
      leaves flow now =
          returned_on is_main used span flow s.world.locals (what_follows st).value (record now { world = give_room 64 (end_locals (parameters 0 params) now.world) })
          ∙ ap (λ saved. leave_means c marks call depth params is_main used span s.world.locals (rest_of c marks call depth st.frames st.values saved) flow now) (sym (saved_before st.saved s.world.locals))
          ∙ ap (λ locals. leave_means c marks call depth params is_main used span locals (rest_of c marks call depth st.frames st.values (take (length st.saved) (st.saved ++ s.world.locals))) flow now) (sym (saved_after st.saved s.world.locals))

  callee_on : (callee : Option Callee) (args : List Value) (span : Span) (st : Stacks) (s : State) → run_callee callee args span (what_follows st).value s ≡ run (m.calling_library callee args span st s)
  callee_on None args span st s = refl
  callee_on (Some callee) args span st s = refl

  function_on : (is_main : Bool) (f : t.Function) (body : Option Stmt) (args : List Value) (used : Bool) (span : Span) (st : Stacks) (s : State)
      → run_function (mean_stmt c marks call depth) is_main f body args used span (what_follows st).value s ≡ run (m.calling_function is_main f body args used span st s)
  function_on is_main f None args used span st s = callee_on (callee_of f.name) args span st s
  function_on is_main f (Some body) args used span st s = entering_on body is_main f.params args used span st s

  typed_on : (is_main : Bool) (f : Option t.Function) (type : List ℕ) (args : List Value) (used : Bool) (span : Span) (st : Stacks) (s : State)
      → typed_call (mean_stmt c marks call depth) is_main f type args used span (what_follows st).value s ≡ run (m.calling_typed is_main f type args used span st s)
  typed_on is_main None type args used span st s = refl
  typed_on is_main (Some f) type args used span st s = choosing_on (bytes_eq f.ty type) _ _ _ s _ _ (function_on is_main f f.body args used span st s) refl

  calling_on : (v : Value) (type : List ℕ) (args : List Value) (used : Bool) (span : Span) (st : Stacks) (s : State)
      → call_value c (mean_stmt c marks call depth) v type args used span (what_follows st).value s ≡ run (m.calling c v type args used span st s)
  calling_on (value.Ptr (Function f)) type args used span st s = typed_on (is_number c.main f) (slice_get c.funcs f) type args used span st s
  calling_on (value.Ptr Null) type args used span st s = refl
  calling_on (value.Ptr (Object n offset)) type args used span st s = refl
  calling_on (value.Int n) type args used span st s = refl

  call_on : (v : Value) (type : List ℕ) (args : List Value) (used : Bool) (span : Span) (st : Stacks) (s : State) → s.ticks ≤ depth
      → call v type args used span (what_follows st).value s ≡ run (paying s.ticks (m.calling c v type args used span st) s)
  call_on v type args used span st s le =
      calls_same c marks depth (suc depth) s.ticks le (omega arith) v type args used span _ _ (λ a s le. refl) s (omega arith)
      ∙ paying_on s.ticks _ _ s le (λ n lt. calling_on v type args used span st (record s { ticks = n }))

  through_on : (vs : List Value) (type : List ℕ) (args : List Value) (used : Bool) (span : Span) (st : Stacks) (s : State) → s.ticks ≤ depth
      → calls_through c marks call depth vs type used span args (rest_of c marks call depth st.frames (below 1 vs) st.saved).value s ≡ run (m.calling_through c marks vs type args used span st s)
  through_on [] type args used span st s le = refl
  through_on (callee ∷ vs) type args used span st s le = call_on callee type args used span (record st { values = vs }) s le

  -- ---- arguments

  abbrev argument_runs : MaybeExpr → Exprs → (List Value → M Value) → List Value → (Value → State → Run) → State → Run
  argument_runs NoExpr later f known k s = f known k s
  argument_runs (TheExpr e) later f known k s = mean_expr c marks call e (λ v. mean_args c marks call later f (known ++ v ∷ []) k) s

  args_on : (es : Exprs) (i : ℕ) (f : List Value → M Value) (known : List Value) (k : Value → State → Run) (s : State)
      → mean_args c marks call (exprs_from i es) f known k s ≡ argument_runs (expr_at i es) (exprs_from (suc i) es) f known k s
  args_on no_exprs zero f known k s = refl
  args_on no_exprs (suc i) f known k s = refl
  args_on (one_expr e es) zero f known k s = refl
  args_on (one_expr e es) (suc i) f known k s = args_on es i f known k s

  call_arguments_on : (found : MaybeExpr) (span : Span) (f : Expr) (type : List ℕ) (es : Exprs) (used : Bool) (i : ℕ) (st : Stacks) (s : State) → s.ticks ≤ depth
      → argument_runs found (exprs_from (suc i) es) (calls_through c marks call depth (below i st.values) type used span) (topmost i st.values) (rest_of c marks call depth st.frames (below 1 (below i st.values)) st.saved).value s
      ≡ run (m.argument_or_call c marks found span (t.Call f type es used) i st s)
  call_arguments_on NoExpr span f type es used i st s le = through_on (below i st.values) type (topmost i st.values) used span st s le
  call_arguments_on (TheExpr e) span f type es used i st s le = refl

  library_arguments_on : (found : MaybeExpr) (span : Span) (f : ℕ) (es : Exprs) (mark : _) (i : ℕ) (st : Stacks) (s : State) → s.ticks ≤ depth
      → argument_runs found (exprs_from (suc i) es) (λ args. do tick; library_call (slice_get library_functions f) span mark args) (topmost i st.values) (rest_of c marks call depth st.frames (below i st.values) st.saved).value s
      ≡ run (m.argument_or_call c marks found span (t.LibCall f es mark) i st s)
  library_arguments_on NoExpr span f es mark i st s le = paying_on s.ticks _ _ s le (λ n lt. refl)
  library_arguments_on (TheExpr e) span f es mark i st s le = refl

  call_next_on : (span : Span) (f : Expr) (type : List ℕ) (es : Exprs) (used : Bool) (i : ℕ) (st : Stacks) (s : State) → s.ticks ≤ depth
      → argument_means c marks call depth span (t.Call f type es used) i st.values (λ vs. rest_of c marks call depth st.frames vs st.saved) s ≡ run (m.next_argument c marks span (t.Call f type es used) i st s)
  call_next_on span f type es used i st s le = args_on es i _ _ _ s ∙ call_arguments_on (expr_at i es) span f type es used i st s le

  library_next_on : (span : Span) (f : ℕ) (es : Exprs) (mark : _) (i : ℕ) (st : Stacks) (s : State) → s.ticks ≤ depth
      → argument_means c marks call depth span (t.LibCall f es mark) i st.values (λ vs. rest_of c marks call depth st.frames vs st.saved) s ≡ run (m.next_argument c marks span (t.LibCall f es mark) i st s)
  library_next_on span f es mark i st s le = args_on es i _ _ _ s ∙ library_arguments_on (expr_at i es) span f es mark i st s le

  -- ---- expressions

  evaluating_on : (span : Span) (form : Form) (st : Stacks) (s : State) → s.ticks ≤ depth
      → mean_form c marks call span form (what_follows st).value s ≡ run (m.evaluating c marks span form st s)
  evaluating_on span (t.Const v) st s le = refl
  evaluating_on span (t.Text n) st s le = acting_on (judged span (address c.fixed (place.Fixed n) s.world) s.world) st s
  evaluating_on span (t.Func f) st s le = acting_on (judged span (function_address c.funcs f) s.world) st s
  evaluating_on span (t.Object p) st s le = acting_on (judged span (address c.fixed p s.world) s.world) st s
  evaluating_on span (t.Load p what) st s le = refl
  evaluating_on span (t.Store p at what e) st s le = refl
  evaluating_on span (t.CopyRecord p a q b size) st s le = refl
  evaluating_on span (t.Convert what e) st s le = refl
  evaluating_on span (t.Truth e negated) st s le = refl
  evaluating_on span (t.Arith op a b) st s le = refl
  evaluating_on span (t.ShiftBits to_left a b) st s le = refl
  evaluating_on span (t.CompareInt op a b) st s le = refl
  evaluating_on span (t.PtrAdd p i size minus) st s le = refl
  evaluating_on span (t.PtrDiff p q size) st s le = refl
  evaluating_on span (t.ComparePtr op p q) st s le = refl
  evaluating_on span (t.Both a b) st s le = refl
  evaluating_on span (t.Either a b) st s le = refl
  evaluating_on span (t.Choose a b d) st s le = refl
  evaluating_on span (t.Then a b) st s le = refl
  evaluating_on span (t.Modify p at what op e common post) st s le = refl
  evaluating_on span (t.Call f type es used) st s le = refl
  evaluating_on span (t.LibCall f es mark) st s le = library_next_on span f es mark 0 st s le
  evaluating_on span (t.Mark n) st s le = refl

  first_on : (span : Span) (form : Form) (v : Value) (st : Stacks) (s : State) → s.ticks ≤ depth
      → first_means c marks call depth span form v (what_follows st).value s ≡ run (m.first_given c marks span form v st s)
  first_on span (t.Const x) v st s le = refl
  first_on span (t.Text n) v st s le = refl
  first_on span (t.Func f) v st s le = refl
  first_on span (t.Object p) v st s le = refl
  first_on span (t.Load p what) v st s le = acting_on (load_at span (pointer_in v) what s.world) st s
  first_on span (t.Store p at what e) v st s le = refl
  first_on span (t.CopyRecord p a q b size) v st s le = refl
  first_on span (t.Convert what e) v st s le = refl
  first_on span (t.Truth e negated) v st s le = acting_on (judged span (truth s.world.blocks v negated) s.world) st s
  first_on span (t.Arith op a b) v st s le = refl
  first_on span (t.ShiftBits to_left a b) v st s le = refl
  first_on span (t.CompareInt op a b) v st s le = refl
  first_on span (t.PtrAdd p i size minus) v st s le = refl
  first_on span (t.PtrDiff p q size) v st s le = refl
  first_on span (t.ComparePtr op p q) v st s le = refl
  first_on span (t.Both a b) v st s le = choosing_on (holds v) _ _ _ s _ _ refl refl
  first_on span (t.Either a b) v st s le = choosing_on (holds v) _ _ _ s _ _ refl refl
  first_on span (t.Choose a b d) v st s le = choosing_on (holds v) _ _ _ s _ _ refl refl
  first_on span (t.Then a b) v st s le = refl
  first_on span (t.Modify p at what op e common post) v st s le = refl
  first_on span (t.Call f type es used) v st s le = call_next_on span f type es used 0 (with_value v st) s le
  first_on span (t.LibCall f es mark) v st s le = refl
  first_on span (t.Mark n) v st s le = refl

  second_on : (span : Span) (form : Form) (x y : Value) (st : Stacks) (s : State)
      → second_means c marks call depth span form x y (what_follows st).value s ≡ run (m.second_given c marks span form x y st s)
  second_on span (t.Const v) x y st s = refl
  second_on span (t.Text n) x y st s = refl
  second_on span (t.Func f) x y st s = refl
  second_on span (t.Object p) x y st s = refl
  second_on span (t.Load p what) x y st s = refl
  second_on span (t.Store p at what e) x y st s = acting_on (store_at at (pointer_in x) what y s.world) st s
  second_on span (t.CopyRecord p a q b size) x y st s = giving_on no_value (copy_record span (pointer_in x) a (pointer_in y) b size s.world) st s
  second_on span (t.Convert what e) x y st s = refl
  second_on span (t.Truth e negated) x y st s = refl
  second_on span (t.Arith op a b) x y st s = acting_on (judged span (arith_of op x y) s.world) st s
  second_on span (t.ShiftBits to_left a b) x y st s = acting_on (judged span (shift to_left x y) s.world) st s
  second_on span (t.CompareInt op a b) x y st s = refl
  second_on span (t.PtrAdd p i size minus) x y st s = acting_on (judged span (ptr_add s.world.blocks x y size minus) s.world) st s
  second_on span (t.PtrDiff p q size) x y st s = acting_on (judged span (ptr_diff s.world.blocks x y size) s.world) st s
  second_on span (t.ComparePtr op p q) x y st s = acting_on (judged span (compare_ptr op s.world.blocks x y) s.world) st s
  second_on span (t.Both a b) x y st s = refl
  second_on span (t.Either a b) x y st s = refl
  second_on span (t.Choose a b d) x y st s = refl
  second_on span (t.Then a b) x y st s = refl
  second_on span (t.Modify p at what op e common post) x y st s = modify_on span at what op p e common post x y st s
  second_on span (t.Call f type es used) x y st s = refl
  second_on span (t.LibCall f es mark) x y st s = refl
  second_on span (t.Mark n) x y st s = refl

  second_of_on : (vs : List Value) (e : Expr) (v : Value) (st : Stacks) (s : State)
      → (second_of_means c marks call depth vs e (λ vs. rest_of c marks call depth st.frames vs st.saved)).value v s ≡ run (m.second_of c marks vs e v st s)
  second_of_on [] e v st s = refl
  second_of_on (x ∷ vs) (At span form) v st s = second_on span form x v (record st { values = vs }) s

  -- an argument's value
  argument_on : (span : Span) (form : Form) (i : ℕ) (v : Value) (st : Stacks) (s : State) → s.ticks ≤ depth
      → argument_means c marks call depth span form (suc i) (v ∷ st.values) (λ vs. rest_of c marks call depth st.frames vs st.saved) s ≡ run (m.next_argument c marks span form (suc i) (with_value v st) s)
  argument_on span (t.Call f type es used) i v st s le = call_next_on span f type es used (suc i) (with_value v st) s le
  argument_on span (t.LibCall f es mark) i v st s le = library_next_on span f es mark (suc i) (with_value v st) s le
  argument_on span (t.Const x) i v st s le = refl
  argument_on span (t.Text n) i v st s le = refl
  argument_on span (t.Func f) i v st s le = refl
  argument_on span (t.Object p) i v st s le = refl
  argument_on span (t.Load p what) i v st s le = refl
  argument_on span (t.Store p at what e) i v st s le = refl
  argument_on span (t.CopyRecord p a q b size) i v st s le = refl
  argument_on span (t.Convert what e) i v st s le = refl
  argument_on span (t.Truth e negated) i v st s le = refl
  argument_on span (t.Arith op a b) i v st s le = refl
  argument_on span (t.ShiftBits to_left a b) i v st s le = refl
  argument_on span (t.CompareInt op a b) i v st s le = refl
  argument_on span (t.PtrAdd p q size minus) i v st s le = refl
  argument_on span (t.PtrDiff p q size) i v st s le = refl
  argument_on span (t.ComparePtr op p q) i v st s le = refl
  argument_on span (t.Both a b) i v st s le = refl
  argument_on span (t.Either a b) i v st s le = refl
  argument_on span (t.Choose a b d) i v st s le = refl
  argument_on span (t.Then a b) i v st s le = refl
  argument_on span (t.Modify p at what op e common post) i v st s le = refl
  argument_on span (t.Mark n) i v st s le = refl

  -- ---- statements

  abbrev items_run : MaybeExpr → Exprs → State → (State → Run) → Run
  items_run NoExpr later s k = k s
  items_run (TheExpr e) later s k = mean_expr c marks call e (λ v. mean_each c marks call later (λ u. k)) s

  each_on : (es : Exprs) (i : ℕ) (k : State → Run) (s : State) → mean_each c marks call (exprs_from i es) (λ u. k) s ≡ items_run (expr_at i es) (exprs_from (suc i) es) s k
  each_on no_exprs zero k s = refl
  each_on no_exprs (suc i) k s = refl
  each_on (one_expr e es) zero k s = refl
  each_on (one_expr e es) (suc i) k s = each_on es i k s

  item_or_end_on : (found : MaybeExpr) (x : ℕ) (zeros : Bool) (items : Exprs) (i : ℕ) (st : Stacks) (s : State)
      → items_run found (exprs_from (suc i) items) s ((what_follows st).flow Onward) ≡ run (m.item_or_end c marks found (t.Init x zeros items) i st s)
  item_or_end_on NoExpr x zeros items i st s = refl
  item_or_end_on (TheExpr e) x zeros items i st s = refl

  next_item_on : (x : Stmt) (i : ℕ) (st : Stacks) (s : State) → item_means c marks call depth x i (what_follows st).flow s ≡ run (m.next_item c marks x i st s)
  next_item_on (t.Init x zeros items) i st s = each_on items i _ s ∙ item_or_end_on (expr_at i items) x zeros items i st s
  next_item_on (t.Block objects xs) i st s = refl
  next_item_on (t.Do e) i st s = refl
  next_item_on (t.If e a b) i st s = refl
  next_item_on (t.Loop first e step b) i st s = refl
  next_item_on t.Break i st s = refl
  next_item_on t.Continue i st s = refl
  next_item_on (t.Return e) i st s = refl

  abbrev list_runs : Else → Stmts → (Flow → State → Run) → State → Run
  list_runs NoElse later k s = k Onward s
  list_runs (Otherwise x) later k s = mean_stmt c marks call depth x (λ flow. if_next flow (mean_list c marks call depth later) k) s

  list_on : (xs : Stmts) (i : ℕ) (k : Flow → State → Run) (s : State) → mean_list c marks call depth (stmts_from i xs) k s ≡ list_runs (stmt_at i xs) (stmts_from (suc i) xs) k s
  list_on no_stmts zero k s = refl
  list_on no_stmts (suc i) k s = refl
  list_on (one_stmt x xs) zero k s = refl
  list_on (one_stmt x xs) (suc i) k s = list_on xs i k s

  listed_or_end_on : (found : Else) (objects : List (ℕ × ℕ)) (xs : Stmts) (i : ℕ) (st : Stacks) (s : State)
      → list_runs found (stmts_from (suc i) xs) (λ flow s. (what_follows st).flow flow (ended c marks objects s)) s ≡ run (m.listed_or_end c marks found objects (t.Block objects xs) i st s)
  listed_or_end_on NoElse objects xs i st s = refl
  listed_or_end_on (Otherwise x) objects xs i st s = refl

  next_listed_on : (objects : List (ℕ × ℕ)) (xs : Stmts) (i : ℕ) (st : Stacks) (s : State)
      → mean_list c marks call depth (stmts_from i xs) (λ flow s. (what_follows st).flow flow (ended c marks objects s)) s ≡ run (m.next_listed c marks (t.Block objects xs) i st s)
  next_listed_on objects xs i st s = list_on xs i _ s ∙ listed_or_end_on (stmt_at i xs) objects xs i st s

  turn_law : (e : Expr) (step : MaybeExpr) (b : Stmt) (k : Flow → State → Run) (s : State) → s.ticks ≤ depth
      → turns_of c marks call depth e step b k s
      ≡ paid s.ticks (λ s. mean_stmt c marks call depth b (λ flow. after_turn flow (do mean_step c marks call step; v ← mean_expr c marks call e; if_holds v (turns_of c marks call depth e step b) (give Onward)) k) s) s
  turn_law e step b k s le =
      turns_same depth _ _ _ _ _ _ (expr_same c marks call call depth same_calls e) (step_same c marks call call depth same_calls step) (stmt_same c marks call call depth same_calls depth depth (omega arith) (omega arith) b) depth (suc depth) s.ticks le le (omega arith) k k (λ a s le. refl) s (omega arith)

  turning_on : (first : Bool) (e : Expr) (step : MaybeExpr) (b : Stmt) (st : Stacks) (s : State) → s.ticks ≤ depth
      → turns_of c marks call depth e step b (what_follows st).flow s ≡ run (m.turning c marks (t.Loop first e step b) b st s)
  turning_on first e step b st s le = turn_law e step b (what_follows st).flow s le ∙ paying_on s.ticks _ _ s le (λ n lt. refl)

  looping_on : (first : Bool) (e : Expr) (step : MaybeExpr) (b : Stmt) (st : Stacks) (s : State) → s.ticks ≤ depth
      → loop first (mean_expr c marks call e) (turns_of c marks call depth e step b) (what_follows st).flow s ≡ run (m.looping c marks first (t.Loop first e step b) e b st s)
  looping_on true e step b st s le = refl
  looping_on false e step b st s le = turning_on false e step b st s le

  returning_on : (e : MaybeExpr) (st : Stacks) (s : State) → begun c marks call depth (t.Return e) (what_follows st).flow s ≡ run (m.returning c marks e st s)
  returning_on NoExpr st s = refl
  returning_on (TheExpr e) st s = refl

  beginning_on : (x : Stmt) (st : Stacks) (s : State) → s.ticks ≤ depth → begun c marks call depth x (what_follows st).flow s ≡ run (m.beginning c marks x st s)
  beginning_on (t.Block objects xs) st s le =
      locals_on objects s _ ∙ from_on (made_locals objects s) _ _ (λ s. next_listed_on objects xs 0 st s)
  beginning_on (t.Do e) st s le = refl
  beginning_on (t.Init x zeros items) st s le =
      by_on (zero_first zeros x s.world) s _ ∙ from_on (made_by (zero_first zeros x s.world) s) _ _ (λ s. next_item_on (t.Init x zeros items) 0 st s)
  beginning_on (t.If e a b) st s le = refl
  beginning_on (t.Loop first e step b) st s le = looping_on first e step b st s le
  beginning_on t.Break st s le = refl
  beginning_on t.Continue st s le = refl
  beginning_on (t.Return e) st s le = returning_on e st s

  other_on : (b : Else) (st : Stacks) (s : State) → mean_else c marks call depth b (what_follows st).flow s ≡ run (m.other c marks b st s)
  other_on NoElse st s = refl
  other_on (Otherwise b) st s = refl

  branching_on : (x : Stmt) (v : Value) (st : Stacks) (s : State) → branch_means c marks call depth x v (what_follows st).flow s ≡ run (m.branching c marks x v st s)
  branching_on (t.If e a b) v st s = choosing_on (holds v) _ _ _ s _ _ refl (other_on b st s)
  branching_on (t.Block objects xs) v st s = refl
  branching_on (t.Do e) v st s = refl
  branching_on (t.Init x zeros items) v st s = refl
  branching_on (t.Loop first e step b) v st s = refl
  branching_on t.Break v st s = refl
  branching_on t.Continue v st s = refl
  branching_on (t.Return e) v st s = refl

  testing_on : (x : Stmt) (v : Value) (st : Stacks) (s : State) → s.ticks ≤ depth → test_means c marks call depth x v (what_follows st).flow s ≡ run (m.testing c marks x v st s)
  testing_on (t.Loop first e step b) v st s le = choosing_on (holds v) _ _ _ s _ _ (turning_on first e step b st s le) refl
  testing_on (t.Block objects xs) v st s le = refl
  testing_on (t.Do e) v st s le = refl
  testing_on (t.Init x zeros items) v st s le = refl
  testing_on (t.If e a b) v st s le = refl
  testing_on t.Break v st s le = refl
  testing_on t.Continue v st s le = refl
  testing_on (t.Return e) v st s le = refl

  testing_next_on : (x : Stmt) (st : Stacks) (s : State) → retest_means c marks call depth x (what_follows st).flow s ≡ run (m.testing_next c marks x st s)
  testing_next_on (t.Loop first e step b) st s = refl
  testing_next_on (t.Block objects xs) st s = refl
  testing_next_on (t.Do e) st s = refl
  testing_next_on (t.Init x zeros items) st s = refl
  testing_next_on (t.If e a b) st s = refl
  testing_next_on t.Break st s = refl
  testing_next_on t.Continue st s = refl
  testing_next_on (t.Return e) st s = refl

  turned_on : (flow : Flow) (first : Bool) (e : Expr) (step : MaybeExpr) (b : Stmt) (st : Stacks) (s : State)
      → turn_means c marks call depth (t.Loop first e step b) flow (what_follows st).flow s ≡ run (m.turned c marks flow step e (t.Loop first e step b) st s)
  turned_on Onward first e NoExpr b st s = refl
  turned_on Onward first e (TheExpr i) b st s = refl
  turned_on Continued first e NoExpr b st s = refl
  turned_on Continued first e (TheExpr i) b st s = refl
  turned_on Broke first e step b st s = refl
  turned_on (Returned v) first e step b st s = refl

  turn_ended_on : (x : Stmt) (flow : Flow) (st : Stacks) (s : State) → turn_means c marks call depth x flow (what_follows st).flow s ≡ run (m.turn_ended c marks x flow st s)
  turn_ended_on (t.Loop first e step b) flow st s = turned_on flow first e step b st s
  turn_ended_on (t.Block objects xs) flow st s = refl
  turn_ended_on (t.Do e) flow st s = refl
  turn_ended_on (t.Init x zeros items) flow st s = refl
  turn_ended_on (t.If e a b) flow st s = refl
  turn_ended_on t.Break flow st s = refl
  turn_ended_on t.Continue flow st s = refl
  turn_ended_on (t.Return e) flow st s = refl

  listed_ended_on : (x : Stmt) (i : ℕ) (flow : Flow) (st : Stacks) (s : State) → listed_means c marks call depth x (suc i) flow (what_follows st).flow s ≡ run (m.listed_ended c marks x i flow st s)
  listed_ended_on (t.Block objects xs) i Onward st s = next_listed_on objects xs (suc i) st s
  listed_ended_on (t.Block objects xs) i Broke st s = refl
  listed_ended_on (t.Block objects xs) i Continued st s = refl
  listed_ended_on (t.Block objects xs) i (Returned v) st s = refl
  listed_ended_on (t.Do e) i flow st s = refl
  listed_ended_on (t.Init x zeros items) i flow st s = refl
  listed_ended_on (t.If e a b) i flow st s = refl
  listed_ended_on (t.Loop first e step b) i flow st s = refl
  listed_ended_on t.Break i flow st s = refl
  listed_ended_on t.Continue i flow st s = refl
  listed_ended_on (t.Return e) i flow st s = refl

  giving_back_on : (is_main used : Bool) (span : Span) (flow : Flow) (st : Stacks) (s : State) → returned is_main used span flow (what_follows st).value s ≡ run (m.giving_back is_main used span flow st s)
  giving_back_on is_main used span (Returned (Some v)) st s = refl
  giving_back_on is_main used span (Returned None) st s = refl
  giving_back_on true used span Onward st s = refl
  giving_back_on true used span Broke st s = refl
  giving_back_on true used span Continued st s = refl
  giving_back_on false true span Onward st s = refl
  giving_back_on false true span Broke st s = refl
  giving_back_on false true span Continued st s = refl
  giving_back_on false false span Onward st s = refl
  giving_back_on false false span Broke st s = refl
  giving_back_on false false span Continued st s = refl

  -- ---- steps

  given_on : (f : Frame) (v : Value) (st : Stacks) (s : State) → s.ticks ≤ depth → (what_follows (with_frame f st)).value v s ≡ run (m.given c marks f v st s)
  given_on (First (At span form)) v st s le = first_on span form v st s le
  given_on (Second e) v st s le = second_of_on st.values e v st s
  given_on AsTruth v st s le = refl
  given_on (Argument (At span form) i) v st s le = argument_on span form i v st s le
  given_on Done v st s le = refl
  given_on (Item x i) v st s le = next_item_on x (suc i) st s
  given_on (Branch x) v st s le = branching_on x v st s
  given_on (Test x) v st s le = testing_on x v st s le
  given_on (Step x) v st s le = testing_next_on x st s
  given_on GiveBack v st s le = refl
  given_on (Turn x) v st s le = refl
  given_on (Listed x i) v st s le = refl
  given_on (Leave params is_main used span base) v st s le = refl

  second_flow : (vs : List Value) (e : Expr) (flow : Flow) (st : Stacks) (s : State)
      → (second_of_means c marks call depth vs e (λ vs. rest_of c marks call depth st.frames vs st.saved)).flow flow s ≡ over Spent s
  second_flow [] e flow st s = refl
  second_flow (x ∷ vs) (At span form) flow st s = refl

  told_on : (f : Frame) (flow : Flow) (st : Stacks) (s : State) → (what_follows (with_frame f st)).flow flow s ≡ run (m.told c marks f flow st s)
  told_on (Turn x) flow st s = turn_ended_on x flow st s
  told_on (Listed x i) flow st s = listed_ended_on x i flow st s
  told_on (Leave params is_main used span base) flow st s = giving_back_on is_main used span flow (record st { saved = take base st.saved }) (left params (drop base st.saved) s)
  told_on (First (At span form)) flow st s = refl
  told_on (Second e) flow st s = second_flow st.values e flow st s
  told_on AsTruth flow st s = refl
  told_on (Argument (At span form) i) flow st s = refl
  told_on Done flow st s = refl
  told_on (Item x i) flow st s = refl
  told_on (Branch x) flow st s = refl
  told_on (Test x) flow st s = refl
  told_on (Step x) flow st s = refl
  told_on GiveBack flow st s = refl

  given_to_on : (fs : List Frame) (v : Value) (vs : List Value) (saved : List (Option ℕ)) (s : State) → s.ticks ≤ depth
      → (rest_of c marks call depth fs vs saved).value v s ≡ run (m.given_to c marks fs v (record { frames = fs; values = vs; saved = saved }) s)
  given_to_on [] v vs saved s le = refl
  given_to_on (f ∷ fs) v vs saved s le = given_on f v (record { frames = fs; values = vs; saved = saved }) s le

  told_to_on : (fs : List Frame) (flow : Flow) (vs : List Value) (saved : List (Option ℕ)) (s : State)
      → (rest_of c marks call depth fs vs saved).flow flow s ≡ run (m.told_to c marks fs flow (record { frames = fs; values = vs; saved = saved }) s)
  told_to_on [] flow vs saved s = refl
  told_to_on (f ∷ fs) flow vs saved s = told_on f flow (record { frames = fs; values = vs; saved = saved }) s

  pub step_on : (control : Control) (st : Stacks) (s : State) → s.ticks ≤ depth → goes_on c marks call depth control st s ≡ stepped control (run (m.step c marks control st s))
  step_on (Eval (At span form)) st s le = ap Begins (evaluating_on span form st s le)
  step_on (Give v) st s le = given_to_on st.frames v st.values st.saved s le
  step_on (Begin x) st s le = paying_on s.ticks _ _ s le (λ n lt. beginning_on x st (record s { ticks = n }) (omega arith))
  step_on (Went flow) st s le = told_to_on st.frames flow st.values st.saved s

  abbrev empty : Stacks
  empty = record { frames = []; values = []; saved = [] }

  main_on : (main : Option ℕ) (s : State) → s.ticks ≤ depth → call_main c call main exit s ≡ run (m.calling_main c marks main empty s)
  main_on None s le = refl
  main_on (Some f) s le = call_on (value.Ptr (Function f)) (type_of (slice_get c.funcs f)) [] true nowhere empty s le

pub steps_agree : StepsAgree
steps_agree c marks depth control st s le = step_on c marks depth control st s le

-- fixed objects take no tick
fixed_ticks : (fixed : List FixedObject) (b : ℕ) (s : State) (f g : State → Run) → s.ticks ≤ b → ((s : State) → s.ticks ≤ b → f s ≡ g s) → after_made (m.made_fixed fixed s) f ≡ after_made (m.made_fixed fixed s) g
fixed_ticks [] b s f g le h = h s le
fixed_ticks (o ∷ fixed) b s f g le h = go (take_room (if o.defined then rounded o.size else 0) s.world) (λ w. fixed_ticks fixed b (record s { world = with_fixed o w }) f g le h)
  where
    go : (a : Acted (Unit {0})) → ((w : World) → after_made (m.made_fixed fixed (record s { world = with_fixed o w })) f ≡ after_made (m.made_fixed fixed (record s { world = with_fixed o w })) g)
        → after_made (then_made (made_by a s) (λ s. m.made_fixed fixed (record s { world = with_fixed o s.world }))) f ≡ after_made (then_made (made_by a s) (λ s. m.made_fixed fixed (record s { world = with_fixed o s.world }))) g
    go (Gives u w) same = same w
    go (Stops e) same = refl

from_same : (c : Program) (marks : ℕ → ℕ) (depth : ℕ) (o : Made) (g : State → Next) → after_made o (λ s. runs_on c marks depth (g s)) ≡ runs_on c marks depth (from_made o g)
from_same c marks depth (Makes s) g = refl
from_same c marks depth (Ends e s) g = refl

pub starts_agree : StartsAgree
starts_agree c marks input ticks =
    fixed_on c.fixed (start input ticks) _
    ∙ fixed_ticks c.fixed ticks (start input ticks) _ _ (omega arith) (λ s le. main_on c marks ticks c.main s le)
    ∙ from_same c marks ticks (m.made_fixed c.fixed (start input ticks)) (m.calling_main c marks c.main (record { frames = []; values = []; saved = [] }))
