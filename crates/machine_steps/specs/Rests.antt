-- What is still to do, as the stacks say it: the run from here on, in the words of the meaning.
use Rattle.std.specs.Prelude.{ℕ, suc, Bool, true, false, if◌then◌else◌, List, [], ◌∷◌, take, drop, Option, Some, slice_get}
use Rattle.tok_base.specs.declared.token.Span.{Span}
use Rattle.c_core.specs.declared.values.Value.{Value}
use Rattle.c_core.specs.declared.values.End.TheVariants.{Spent}
use Rattle.c_core.specs.Tree as t
use Rattle.c_core.specs.Tree.{Expr, At, Form, Stmt, Else, Program}
use Rattle.c_core.specs.Library.{library_functions}
use Rattle.c_meaning.specs.declared.log.Flow.{Flow}
use Rattle.c_meaning.specs.declared.log.Flow.TheVariants.{Next as Onward, Returned}
use Rattle.c_meaning.specs.Run.{Run}
use Rattle.c_meaning.specs.World.{State, M, give, ◌>>=◌, ◌>>◌, over, stop, act, tick, change, judged, end_locals}
use Rattle.c_meaning.specs.Rules.{truth_value, no_value, pointer_in, holds, convert, arith, shift, compare_int, truth, ptr_add, ptr_diff, compare_ptr, modified}
use Rattle.c_meaning.specs.Storage.{load_at, store_at, copy_record}
use Rattle.c_meaning.specs.Meaning.{library_call, Calls, if_holds, mean_expr, mean_args, mean_each, mean_step, if_next, after_turn, turns, mean_else, mean_list, mean_stmt, returned, call_at, exit}
use Rattle.machine_steps.specs.Frames.{Control, Eval, Give, Begin, Went, Frame, First, Second, AsTruth, Argument, Done, Item, Branch, Test, Turn, Step, Listed, GiveBack, Leave, Stacks, Next, On, Over, Library, exprs_from, stmts_from, topmost, below}
use Rattle.machine_steps.specs.Steps.{left}

-- what follows a value, and what follows the end of a statement
pub record Rest : Type 0 where
  pub value : Value → State → Run
  pub flow : Flow → State → Run

-- a frame that waits for a value, and one that waits for the end of a statement; neither gets anything else
abbrev pub on_value : (Value → State → Run) → Rest
on_value f = record { value = f; flow = λ flow s. over Spent s }

abbrev pub on_flow : (Flow → State → Run) → Rest
on_flow f = record { value = λ v s. over Spent s; flow = f }

-- what gets nothing
abbrev pub nothing : Rest
nothing = record { value = λ v s. over Spent s; flow = λ flow s. over Spent s }

-- when there is nothing more to do
abbrev pub last : Rest
last = record { value = exit; flow = λ flow s. over Spent s }

module _ (c : Program) (marks : ℕ → ℕ) (call : Calls) (n : ℕ) where
  -- what an expression does with the value of its first part
  abbrev pub first_means : Span → Form → Value → M Value
  first_means span (t.Load p kind) v = act (load_at span (pointer_in v) kind)
  first_means span (t.Store p at kind e) a = do
    v ← mean_expr c marks call e
    act (store_at at (pointer_in a) kind v)
  first_means span (t.CopyRecord p to_at q from_at size) to = do
    from ← mean_expr c marks call q
    act (copy_record span (pointer_in to) to_at (pointer_in from) from_at size)
    give no_value
  first_means span (t.Convert kind e) v = give (convert kind v)
  first_means span (t.Truth e negated) v = act (λ w. judged span (truth w.blocks v negated) w)
  first_means span (t.Arith op a b) x = do
    y ← mean_expr c marks call b
    act (judged span (arith op x y))
  first_means span (t.ShiftBits to_left a b) x = do
    y ← mean_expr c marks call b
    act (judged span (shift to_left x y))
  first_means span (t.CompareInt op a b) x = do
    y ← mean_expr c marks call b
    give (compare_int op x y)
  first_means span (t.PtrAdd p i size minus) x = do
    y ← mean_expr c marks call i
    act (λ w. judged span (ptr_add w.blocks x y size minus) w)
  first_means span (t.PtrDiff p q size) x = do
    y ← mean_expr c marks call q
    act (λ w. judged span (ptr_diff w.blocks x y size) w)
  first_means span (t.ComparePtr op p q) x = do
    y ← mean_expr c marks call q
    act (λ w. judged span (compare_ptr op w.blocks x y) w)
  first_means span (t.Both a b) x = if_holds x (do
    y ← mean_expr c marks call b
    give (truth_value (holds y))) (give (truth_value false))
  first_means span (t.Either a b) x = if_holds x (give (truth_value true)) (do
    y ← mean_expr c marks call b
    give (truth_value (holds y)))
  first_means span (t.Choose a b d) x = if_holds x (mean_expr c marks call b) (mean_expr c marks call d)
  first_means span (t.Then a b) x = mean_expr c marks call b
  first_means span (t.Modify p at kind op e common post) a = do
    x ← mean_expr c marks call e
    old ← act (load_at at (pointer_in a) kind)
    new ← act (λ w. judged span (modified op common w.blocks old x) w)
    stored ← act (store_at at (pointer_in a) kind new)
    give (if post then old else stored)
  first_means span (t.Call f type es used) callee = mean_args c marks call es (λ args. call callee type args used span) []
  first_means span form v = λ next s. over Spent s

  -- and with the values of both
  abbrev pub second_means : Span → Form → (first second : Value) → M Value
  second_means span (t.Store p at kind e) a v = act (store_at at (pointer_in a) kind v)
  second_means span (t.CopyRecord p to_at q from_at size) to from = do
    act (copy_record span (pointer_in to) to_at (pointer_in from) from_at size)
    give no_value
  second_means span (t.Arith op a b) x y = act (judged span (arith op x y))
  second_means span (t.ShiftBits to_left a b) x y = act (judged span (shift to_left x y))
  second_means span (t.CompareInt op a b) x y = give (compare_int op x y)
  second_means span (t.PtrAdd p i size minus) x y = act (λ w. judged span (ptr_add w.blocks x y size minus) w)
  second_means span (t.PtrDiff p q size) x y = act (λ w. judged span (ptr_diff w.blocks x y size) w)
  second_means span (t.ComparePtr op p q) x y = act (λ w. judged span (compare_ptr op w.blocks x y) w)
  second_means span (t.Modify p at kind op e common post) a x = do
    old ← act (load_at at (pointer_in a) kind)
    new ← act (λ w. judged span (modified op common w.blocks old x) w)
    stored ← act (store_at at (pointer_in a) kind new)
    give (if post then old else stored)
  second_means span form x y = λ next s. over Spent s

  -- a call of the topmost value, with these arguments
  abbrev pub calls_through : List Value → (type : List ℕ) → (used : Bool) → Span → List Value → M Value
  calls_through [] type used span args = stop Spent
  calls_through (callee ∷ vs) type used span args = call callee type args used span

  -- the arguments from a number on, and the call; the values are those before the argument, the last one first
  abbrev pub argument_means : Span → Form → (number : ℕ) → List Value → (List Value → Rest) → State → Run
  argument_means span (t.Call f type es used) i vs rest s =
      mean_args c marks call (exprs_from i es) (calls_through (below i vs) type used span) (topmost i vs) (rest (below 1 (below i vs))).value s
  argument_means span (t.LibCall f es m) i vs rest s = mean_args c marks call (exprs_from i es) (λ args. do
    tick
    library_call (slice_get library_functions f) span m args) (topmost i vs) (rest (below i vs)).value s
  argument_means span form i vs rest s = over Spent s

  abbrev pub item_means : Stmt → (number : ℕ) → M Flow
  item_means (t.Init x zeros items) i = do
    mean_each c marks call (exprs_from i items)
    give Onward
  item_means x i = λ next s. over Spent s

  abbrev pub branch_means : Stmt → Value → M Flow
  branch_means (t.If e a b) v = if_holds v (mean_stmt c marks call n a) (mean_else c marks call n b)
  branch_means x v = λ next s. over Spent s

  abbrev pub turns_of : Expr → t.MaybeExpr → Stmt → M Flow
  turns_of e step b = turns n (mean_expr c marks call e) (mean_step c marks call step) (mean_stmt c marks call n b)

  abbrev pub test_means : Stmt → Value → M Flow
  test_means (t.Loop first e step b) v = if_holds v (turns_of e step b) (give Onward)
  test_means x v = λ next s. over Spent s

  -- the condition, and what follows it
  abbrev pub retest_means : Stmt → M Flow
  retest_means (t.Loop first e step b) = do
    v ← mean_expr c marks call e
    if_holds v (turns_of e step b) (give Onward)
  retest_means x = λ next s. over Spent s

  abbrev pub turn_means : Stmt → Flow → M Flow
  turn_means (t.Loop first e step b) flow = after_turn flow (do
    mean_step c marks call step
    v ← mean_expr c marks call e
    if_holds v (turns_of e step b) (give Onward))
  turn_means x flow = λ next s. over Spent s

  -- the statements of a block from a number on, and its end
  abbrev pub listed_means : Stmt → (number : ℕ) → Flow → M Flow
  listed_means (t.Block objects xs) i flow = do
    flow ← if_next flow (mean_list c marks call n (stmts_from i xs))
    act (change (end_locals objects))
    give flow
  listed_means x i flow = λ next s. over Spent s

  -- a function's end: its objects die, and the caller's locals are there again
  abbrev pub leave_means : (params : List ℕ) → (is_main used : Bool) → Span → (locals : List (Option ℕ)) → Rest → Flow → State → Run
  leave_means params is_main used span locals rest flow s = returned is_main used span flow rest.value (left params locals s)

  -- the topmost value goes to a frame too
  abbrev pub second_of_means : List Value → Expr → (List Value → Rest) → Rest
  second_of_means [] e rest = nothing
  second_of_means (x ∷ vs) (At span form) rest = on_value (λ y. second_means span form x y (rest vs).value)

  -- a frame above a rest
  abbrev pub framed : Frame → (List Value → List (Option ℕ) → Rest) → List Value → List (Option ℕ) → Rest
  framed (First (At span form)) rest vs saved = on_value (λ v. first_means span form v (rest vs saved).value)
  framed (Second e) rest vs saved = second_of_means vs e (λ vs. rest vs saved)
  framed AsTruth rest vs saved = on_value (λ v. (rest vs saved).value (truth_value (holds v)))
  framed (Argument (At span form) i) rest vs saved = on_value (λ v. argument_means span form (suc i) (v ∷ vs) (λ vs. rest vs saved))
  framed Done rest vs saved = on_value (λ v. (rest vs saved).flow Onward)
  framed (Item x i) rest vs saved = on_value (λ v. item_means x (suc i) (rest vs saved).flow)
  framed (Branch x) rest vs saved = on_value (λ v. branch_means x v (rest vs saved).flow)
  framed (Test x) rest vs saved = on_value (λ v. test_means x v (rest vs saved).flow)
  framed (Step x) rest vs saved = on_value (λ v. retest_means x (rest vs saved).flow)
  framed (Turn x) rest vs saved = on_flow (λ flow. turn_means x flow (rest vs saved).flow)
  framed (Listed x i) rest vs saved = on_flow (λ flow. listed_means x (suc i) flow (rest vs saved).flow)
  framed GiveBack rest vs saved = on_value (λ v. (rest vs saved).flow (Returned (Some v)))
  framed (Leave params is_main used span base) rest vs saved = on_flow (leave_means params is_main used span (drop base saved) (rest vs (take base saved)))

  -- the frames, the topmost one first
  abbrev pub rest_of : List Frame → List Value → List (Option ℕ) → Rest
  rest_of [] vs saved = last
  rest_of (f ∷ fs) vs saved = framed f (rest_of fs) vs saved

  abbrev pub rest : Stacks → Rest
  rest st = rest_of st.frames st.values st.saved

  -- the run from here on
  abbrev pub goes_on : Control → Stacks → State → Run
  goes_on (Eval e) st s = mean_expr c marks call e (rest st).value s
  goes_on (Give v) st s = (rest st).value v s
  goes_on (Begin x) st s = mean_stmt c marks call n x (rest st).flow s
  goes_on (Went flow) st s = (rest st).flow flow s

  -- and from what a step leads to
  abbrev pub run_from : Next → Run
  run_from (On control st s) = goes_on control st s
  run_from (Over e s) = over e s
  run_from (Library f span m args st s) = library_call f span m args (rest st).value s

-- the run from here on, where calls and loops go `depth` deep at most
abbrev pub runs_on : Program → (marks : ℕ → ℕ) → (depth : ℕ) → Next → Run
runs_on c marks depth next = run_from c marks (call_at c marks depth) depth next
