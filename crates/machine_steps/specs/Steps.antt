-- The steps of the machine. Each does one form's own work, and leaves its parts to further steps.
use Rattle.std.specs.Prelude.{ℕ, zero, suc, Bool, true, false, if◌then◌else◌, List, [], ◌∷◌, ◌++◌, length, take, drop, Option, Some, None, Result, Ok, Err, slice_get, bytes_eq, pos}
use Rattle.tok_base.specs.declared.token.Span.{Span}
use Rattle.tok_base.specs.declared.reason.Reason.{Reason}
use Rattle.tok_base.specs.declared.reason.Reason.TheVariants as reason
use Rattle.num_ops.specs.declared.kinds.IntKind.{IntKind}
use Rattle.num_ops.specs.declared.kinds.IntKind.TheVariants as k
use Rattle.c_core.specs.declared.values.Pointer.TheVariants.{Function}
use Rattle.c_core.specs.declared.values.Value.{Value}
use Rattle.c_core.specs.declared.values.Value.TheVariants as value
use Rattle.c_core.specs.declared.values.Scalar.{Scalar}
use Rattle.c_core.specs.declared.values.End.{End}
use Rattle.c_core.specs.declared.values.End.TheVariants.{Exit, Trap, Spent}
use Rattle.c_core.specs.declared.tree.ModifyOp.{ModifyOp}
use Rattle.c_core.specs.declared.tree.FixedObject.{FixedObject}
use Rattle.c_core.specs.declared.tree.Place.TheVariants as place
use Rattle.c_core.specs.Tree as t
use Rattle.c_core.specs.Tree.{Expr, At, Form, Exprs, no_exprs, one_expr, MaybeExpr, NoExpr, TheExpr, Stmt, Else, NoElse, Otherwise, Stmts, no_stmts, one_stmt, Program}
use Rattle.c_core.specs.Library.{library_functions, Callee, callee_of}
use Rattle.range_heap.specs.Blocks.{rounded}
use Rattle.c_meaning.specs.declared.log.Flow.{Flow}
use Rattle.c_meaning.specs.declared.log.Flow.TheVariants.{Next as Onward, Broke, Continued, Returned}
use Rattle.c_meaning.specs.World.{World, State, Acted, Gives, Stops, judged, take_room, give_room, with_local, local_block, end_locals}
use Rattle.c_meaning.specs.Rules.{int, truth_value, no_value, pointer_in, exit_code, holds, convert, arith, shift, compare_int, truth, ptr_add, ptr_diff, compare_ptr, modified}
use Rattle.c_core.specs.Blocks.{load}
use Rattle.c_meaning.specs.Storage.{with_reason, load_at, store_at, copy_record, with_fixed, address}
use Rattle.c_meaning.specs.Meaning.{function_address, nowhere, zero_first, parameters, store_argument, is_number, type_of, start}
use Rattle.machine_steps.specs.Frames.{Control, Eval, Give, Begin, Went, Frame, First, Second, AsTruth, Argument, Done, Item, Branch, Test, Turn, Step, Listed, GiveBack, Leave, Stacks, Next, On, Over, Library, with_frame, with_value, expr_at, stmt_at, topmost, below}

-- a quiet step whose value goes to what waits
abbrev pub acting : Acted Value → Stacks → State → Next
acting (Gives v w) st s = On (Give v) st (record s { world = w })
acting (Stops e) st s = Over e s

-- a tick, and what follows
abbrev pub paying : ℕ → (State → Next) → State → Next
paying zero go s = Over Spent s
paying (suc t) go s = go (record s { ticks = t })

-- a quiet step with this value in place of its own
abbrev pub giving : {A : Type 0} → Value → Acted A → Acted Value
giving v (Gives a w) = Gives v w
giving v (Stops e) = Stops e

-- what follows a value, or a trap at the span
abbrev pub if_judged : {A : Type 0} → Span → Result A Reason → (A → Acted Value) → Acted Value
if_judged span (Ok a) f = f a
if_judged span (Err reason) f = Stops (Trap reason span)

-- the old value, or the one that is given
abbrev pub old_or_new : (post : Bool) → Value → Acted Value → Acted Value
old_or_new post old (Gives v w) = Gives (if post then old else v) w
old_or_new post old (Stops e) = Stops e

-- 6.5.16.2: load, operate, store; the old value or the stored one
abbrev pub modify : Span → (at : Span) → Scalar → ModifyOp → (common : IntKind) → (post : Bool) → (place operand : Value) → World → Acted Value
modify span at kind op common post a x w =
    if_judged at (with_reason (load w.blocks (pointer_in a) kind)) (λ old.
    if_judged span (modified op common w.blocks old x) (λ new. old_or_new post old (store_at at (pointer_in a) kind new w)))

-- ---- objects

-- what is made before the machine goes on: it takes ticks, and can end the run
pub data Made : Type 0 where
  Makes : State → Made
  Ends : End → State → Made

abbrev pub from_made : Made → (State → Next) → Next
from_made (Makes s) go = go s
from_made (Ends e s) go = Over e s

abbrev pub then_made : Made → (State → Made) → Made
then_made (Makes s) go = go s
then_made (Ends e s) go = Ends e s

abbrev pub made_by : {A : Type 0} → Acted A → State → Made
made_by (Gives a w) s = Makes (record s { world = w })
made_by (Stops e) s = Ends e s

abbrev pub made_paid : ℕ → (State → Made) → State → Made
made_paid zero go s = Ends Spent s
made_paid (suc t) go s = go (record s { ticks = t })

abbrev pub made_room : (local size : ℕ) → State → Made
made_room x size s = then_made (made_by (take_room (rounded size) s.world) s) (λ s. Makes (record s { world = with_local x size s.world }))

abbrev pub made_local : (local size : ℕ) → State → Made
made_local x size s = made_paid s.ticks (made_room x size) s

abbrev pub made_locals : List (ℕ × ℕ) → State → Made
made_locals [] s = Makes s
made_locals (o ∷ objects) s = then_made (made_local o.0 o.1 s) (made_locals objects)

abbrev pub made_argument : Span → (local : ℕ) → Value → State → Made
made_argument span x v s = made_by (store_argument span (local_block s.world x) v s.world) s

abbrev pub made_parameters : Span → List (ℕ × ℕ) → List Value → State → Made
made_parameters span [] args s = Makes s
made_parameters span (o ∷ objects) [] s = Makes s
made_parameters span (o ∷ objects) (v ∷ args) s =
    then_made (made_local o.0 o.1 s) (λ s. then_made (made_argument span o.0 v s) (made_parameters span objects args))

abbrev pub made_fixed : List FixedObject → State → Made
made_fixed [] s = Makes s
made_fixed (o ∷ fixed) s =
    then_made (made_by (take_room (if o.defined then rounded o.size else 0) s.world) s) (λ s. made_fixed fixed (record s { world = with_fixed o s.world }))

-- ---- calls

-- the world of a function that begins, with no locals yet
abbrev pub inside : State → State
inside s = record s { world = record (s.world) { locals = [] } }

-- the locals of the caller are saved
abbrev pub leaving : Frame → (locals : List (Option ℕ)) → Stacks → Stacks
leaving f locals st = record st { frames = f ∷ st.frames; saved = st.saved ++ locals }

abbrev pub entering : Stmt → (is_main : Bool) → (params : List ℕ) → List Value → (used : Bool) → Span → Stacks → State → Next
entering body is_main params args used span st s =
    from_made (then_made (made_by (take_room 64 (inside s).world) (inside s)) (made_parameters span (parameters 0 params) args))
    (On (Begin body) (leaving (Leave params is_main used span (length st.saved)) s.world.locals st))

abbrev pub calling_library : Option Callee → List Value → Span → Stacks → State → Next
calling_library None args span st s = Over (Trap reason.NoBody span) s
calling_library (Some callee) args span st s = Library (slice_get library_functions callee.0) span callee.1 args st s

abbrev pub calling_function : (is_main : Bool) → t.Function → Option Stmt → List Value → (used : Bool) → Span → Stacks → State → Next
calling_function is_main f None args used span st s = calling_library (callee_of f.name) args span st s
calling_function is_main f (Some body) args used span st s = entering body is_main f.params args used span st s

abbrev pub calling_typed : (is_main : Bool) → Option t.Function → (type : List ℕ) → List Value → (used : Bool) → Span → Stacks → State → Next
calling_typed is_main None type args used span st s = Over (Trap reason.NoFunction span) s
calling_typed is_main (Some f) type args used span st s =
    if bytes_eq f.ty type then calling_function is_main f f.body args used span st s else Over (Trap reason.BadCall span) s

-- a call whose tick is paid
abbrev pub calling : Program → Value → (type : List ℕ) → List Value → (used : Bool) → Span → Stacks → State → Next
calling c (value.Ptr (Function f)) type args used span st s = calling_typed (is_number c.main f) (slice_get c.funcs f) type args used span st s
calling c v type args used span st s = Over (Trap reason.NoFunction span) s

-- what a call gives whose function ended in this way
abbrev pub giving_back : (is_main used : Bool) → Span → Flow → Stacks → State → Next
giving_back is_main used span (Returned (Some v)) st s = On (Give v) st s
giving_back is_main used span (Returned None) st s = On (Give no_value) st s
giving_back is_main used span flow st s =
    if is_main then On (Give (int k.Int (pos 0))) st s
    else (if used then Over (Trap reason.NoReturn span) s else On (Give no_value) st s)

-- the objects of a function die, and the caller's locals are there again
abbrev pub left : (params : List ℕ) → (locals : List (Option ℕ)) → State → State
left params locals s = record s { world = record (give_room 64 (end_locals (parameters 0 params) s.world)) { locals = locals } }

module _ (c : Program) (marks : ℕ → ℕ) where
  -- a call through a value, or of the library, whose arguments are known
  abbrev pub calling_through : List Value → (type : List ℕ) → List Value → (used : Bool) → Span → Stacks → State → Next
  calling_through [] type args used span st s = Over Spent s
  calling_through (callee ∷ vs) type args used span st s =
      paying s.ticks (calling c callee type args used span (record st { values = vs })) s

  abbrev pub calling_now : Span → Form → (number : ℕ) → Stacks → State → Next
  calling_now span (t.Call f type es used) n st s = calling_through (below n st.values) type (topmost n st.values) used span st s
  calling_now span (t.LibCall f es m) n st s =
      paying s.ticks (Library (slice_get library_functions f) span m (topmost n st.values) (record st { values = below n st.values })) s
  calling_now span form n st s = Over Spent s

  abbrev pub arguments_of : Form → Exprs
  arguments_of (t.Call f type es used) = es
  arguments_of (t.LibCall f es m) = es
  arguments_of form = no_exprs

  abbrev pub argument_or_call : MaybeExpr → Span → Form → (number : ℕ) → Stacks → State → Next
  argument_or_call NoExpr span form n st s = calling_now span form n st s
  argument_or_call (TheExpr e) span form n st s = On (Eval e) (with_frame (Argument (At span form) n) st) s

  -- the argument with this number, or the call, where there is none; the arguments before it are the topmost values
  abbrev pub next_argument : Span → Form → (number : ℕ) → Stacks → State → Next
  next_argument span form n st s = argument_or_call (expr_at n (arguments_of form)) span form n st s

  -- ---- expressions

  -- an expression's first part
  abbrev pub parting : Span → Form → Expr → Stacks → State → Next
  parting span form e st s = On (Eval e) (with_frame (First (At span form)) st) s

  -- its second part, behind the value of the first
  abbrev pub second_part : Span → Form → Value → Expr → Stacks → State → Next
  second_part span form x e st s = On (Eval e) (with_frame (Second (At span form)) (with_value x st)) s

  -- an expression begins
  abbrev pub evaluating : Span → Form → Stacks → State → Next
  evaluating span (t.Const v) st s = On (Give v) st s
  evaluating span (t.Text n) st s = acting (judged span (address c.fixed (place.Fixed n) s.world) s.world) st s
  evaluating span (t.Func f) st s = acting (judged span (function_address c.funcs f) s.world) st s
  evaluating span (t.Object p) st s = acting (judged span (address c.fixed p s.world) s.world) st s
  evaluating span (t.Load p kind) st s = parting span (t.Load p kind) p st s
  evaluating span (t.Store p at kind e) st s = parting span (t.Store p at kind e) p st s
  evaluating span (t.CopyRecord p a q b size) st s = parting span (t.CopyRecord p a q b size) p st s
  evaluating span (t.Convert kind e) st s = parting span (t.Convert kind e) e st s
  evaluating span (t.Truth e negated) st s = parting span (t.Truth e negated) e st s
  evaluating span (t.Arith op a b) st s = parting span (t.Arith op a b) a st s
  evaluating span (t.ShiftBits to_left a b) st s = parting span (t.ShiftBits to_left a b) a st s
  evaluating span (t.CompareInt op a b) st s = parting span (t.CompareInt op a b) a st s
  evaluating span (t.PtrAdd p i size minus) st s = parting span (t.PtrAdd p i size minus) p st s
  evaluating span (t.PtrDiff p q size) st s = parting span (t.PtrDiff p q size) p st s
  evaluating span (t.ComparePtr op p q) st s = parting span (t.ComparePtr op p q) p st s
  evaluating span (t.Both a b) st s = parting span (t.Both a b) a st s
  evaluating span (t.Either a b) st s = parting span (t.Either a b) a st s
  evaluating span (t.Choose a b d) st s = parting span (t.Choose a b d) a st s
  evaluating span (t.Then a b) st s = parting span (t.Then a b) a st s
  evaluating span (t.Modify p at kind op e common post) st s = parting span (t.Modify p at kind op e common post) p st s
  evaluating span (t.Call f type es used) st s = parting span (t.Call f type es used) f st s
  evaluating span (t.LibCall f es m) st s = next_argument span (t.LibCall f es m) 0 st s
  evaluating span (t.Mark n) st s = On (Give (int k.ULong (pos (marks n)))) st s

  -- the first part of an expression has a value
  abbrev pub first_given : Span → Form → Value → Stacks → State → Next
  first_given span (t.Load p kind) v st s = acting (load_at span (pointer_in v) kind s.world) st s
  first_given span (t.Store p at kind e) v st s = second_part span (t.Store p at kind e) v e st s
  first_given span (t.CopyRecord p a q b size) v st s = second_part span (t.CopyRecord p a q b size) v q st s
  first_given span (t.Convert kind e) v st s = On (Give (convert kind v)) st s
  first_given span (t.Truth e negated) v st s = acting (judged span (truth s.world.blocks v negated) s.world) st s
  first_given span (t.Arith op a b) v st s = second_part span (t.Arith op a b) v b st s
  first_given span (t.ShiftBits to_left a b) v st s = second_part span (t.ShiftBits to_left a b) v b st s
  first_given span (t.CompareInt op a b) v st s = second_part span (t.CompareInt op a b) v b st s
  first_given span (t.PtrAdd p i size minus) v st s = second_part span (t.PtrAdd p i size minus) v i st s
  first_given span (t.PtrDiff p q size) v st s = second_part span (t.PtrDiff p q size) v q st s
  first_given span (t.ComparePtr op p q) v st s = second_part span (t.ComparePtr op p q) v q st s
  first_given span (t.Both a b) v st s = if holds v then On (Eval b) (with_frame AsTruth st) s else On (Give (truth_value false)) st s
  first_given span (t.Either a b) v st s = if holds v then On (Give (truth_value true)) st s else On (Eval b) (with_frame AsTruth st) s
  first_given span (t.Choose a b d) v st s = if holds v then On (Eval b) st s else On (Eval d) st s
  first_given span (t.Then a b) v st s = On (Eval b) st s
  first_given span (t.Modify p at kind op e common post) v st s = second_part span (t.Modify p at kind op e common post) v e st s
  first_given span (t.Call f type es used) v st s = next_argument span (t.Call f type es used) 0 (with_value v st) s
  first_given span form v st s = Over Spent s

  -- both parts have values
  abbrev pub second_given : Span → Form → (first second : Value) → Stacks → State → Next
  second_given span (t.Store p at kind e) x y st s = acting (store_at at (pointer_in x) kind y s.world) st s
  second_given span (t.CopyRecord p a q b size) x y st s = acting (giving no_value (copy_record span (pointer_in x) a (pointer_in y) b size s.world)) st s
  second_given span (t.Arith op a b) x y st s = acting (judged span (arith op x y) s.world) st s
  second_given span (t.ShiftBits to_left a b) x y st s = acting (judged span (shift to_left x y) s.world) st s
  second_given span (t.CompareInt op a b) x y st s = On (Give (compare_int op x y)) st s
  second_given span (t.PtrAdd p i size minus) x y st s = acting (judged span (ptr_add s.world.blocks x y size minus) s.world) st s
  second_given span (t.PtrDiff p q size) x y st s = acting (judged span (ptr_diff s.world.blocks x y size) s.world) st s
  second_given span (t.ComparePtr op p q) x y st s = acting (judged span (compare_ptr op s.world.blocks x y) s.world) st s
  second_given span (t.Modify p at kind op e common post) x y st s = acting (modify span at kind op common post x y s.world) st s
  second_given span form x y st s = Over Spent s

  -- a value for the second part, the first part's being the topmost one
  abbrev pub second_of : List Value → Expr → Value → Stacks → State → Next
  second_of [] e v st s = Over Spent s
  second_of (x ∷ vs) (At span form) v st s = second_given span form x v (record st { values = vs }) s

  -- ---- statements

  abbrev pub item_or_end : MaybeExpr → Stmt → (number : ℕ) → Stacks → State → Next
  item_or_end NoExpr x n st s = On (Went Onward) st s
  item_or_end (TheExpr e) x n st s = On (Eval e) (with_frame (Item x n) st) s

  abbrev pub next_item : Stmt → (number : ℕ) → Stacks → State → Next
  next_item (t.Init x zeros items) n st s = item_or_end (expr_at n items) (t.Init x zeros items) n st s
  next_item x n st s = Over Spent s

  -- the objects of a block die
  abbrev pub ended : List (ℕ × ℕ) → State → State
  ended objects s = record s { world = end_locals objects s.world }

  abbrev pub listed_or_end : Else → (objects : List (ℕ × ℕ)) → Stmt → (number : ℕ) → Stacks → State → Next
  listed_or_end NoElse objects x n st s = On (Went Onward) st (ended objects s)
  listed_or_end (Otherwise y) objects x n st s = On (Begin y) (with_frame (Listed x n) st) s

  abbrev pub next_listed : Stmt → (number : ℕ) → Stacks → State → Next
  next_listed (t.Block objects xs) n st s = listed_or_end (stmt_at n xs) objects (t.Block objects xs) n st s
  next_listed x n st s = Over Spent s

  abbrev pub turning : Stmt → (body : Stmt) → Stacks → State → Next
  turning x b st s = paying s.ticks (On (Begin b) (with_frame (Turn x) st)) s

  abbrev pub looping : (test_first : Bool) → Stmt → (condition : Expr) → (body : Stmt) → Stacks → State → Next
  looping true x e b st s = On (Eval e) (with_frame (Test x) st) s
  looping false x e b st s = turning x b st s

  abbrev pub returning : MaybeExpr → Stacks → State → Next
  returning NoExpr st s = On (Went (Returned None)) st s
  returning (TheExpr e) st s = On (Eval e) (with_frame GiveBack st) s

  -- a statement begins, and its tick is paid
  abbrev pub beginning : Stmt → Stacks → State → Next
  beginning (t.Block objects xs) st s = from_made (made_locals objects s) (next_listed (t.Block objects xs) 0 st)
  beginning (t.Do e) st s = On (Eval e) (with_frame Done st) s
  beginning (t.Init x zeros items) st s = from_made (made_by (zero_first zeros x s.world) s) (next_item (t.Init x zeros items) 0 st)
  beginning (t.If e a b) st s = On (Eval e) (with_frame (Branch (t.If e a b)) st) s
  beginning (t.Loop first e step b) st s = looping first (t.Loop first e step b) e b st s
  beginning t.Break st s = On (Went Broke) st s
  beginning t.Continue st s = On (Went Continued) st s
  beginning (t.Return e) st s = returning e st s

  -- the other branch of an `if`
  abbrev pub other : Else → Stacks → State → Next
  other NoElse st s = On (Went Onward) st s
  other (Otherwise b) st s = On (Begin b) st s

  abbrev pub branching : Stmt → Value → Stacks → State → Next
  branching (t.If e a b) v st s = if holds v then On (Begin a) st s else other b st s
  branching x v st s = Over Spent s

  abbrev pub testing : Stmt → Value → Stacks → State → Next
  testing (t.Loop first e step b) v st s = if holds v then turning (t.Loop first e step b) b st s else On (Went Onward) st s
  testing x v st s = Over Spent s

  abbrev pub testing_next : Stmt → Stacks → State → Next
  testing_next (t.Loop first e step b) st s = On (Eval e) (with_frame (Test (t.Loop first e step b)) st) s
  testing_next x st s = Over Spent s

  abbrev pub stepping : MaybeExpr → (condition : Expr) → Stmt → Stacks → State → Next
  stepping NoExpr e x st s = On (Eval e) (with_frame (Test x) st) s
  stepping (TheExpr i) e x st s = On (Eval i) (with_frame (Step x) st) s

  -- what follows the body of a loop
  abbrev pub turned : Flow → MaybeExpr → (condition : Expr) → Stmt → Stacks → State → Next
  turned Onward step e x st s = stepping step e x st s
  turned Continued step e x st s = stepping step e x st s
  turned Broke step e x st s = On (Went Onward) st s
  turned (Returned v) step e x st s = On (Went (Returned v)) st s

  abbrev pub turn_ended : Stmt → Flow → Stacks → State → Next
  turn_ended (t.Loop first e step b) flow st s = turned flow step e (t.Loop first e step b) st s
  turn_ended x flow st s = Over Spent s

  -- what follows a statement of a block
  abbrev pub listed_ended : Stmt → (number : ℕ) → Flow → Stacks → State → Next
  listed_ended (t.Block objects xs) n Onward st s = next_listed (t.Block objects xs) (suc n) st s
  listed_ended (t.Block objects xs) n flow st s = On (Went flow) st (ended objects s)
  listed_ended x n flow st s = Over Spent s

  -- ---- steps

  -- a value is given to the topmost frame, which was taken off
  abbrev pub given : Frame → Value → Stacks → State → Next
  given (First (At span form)) v st s = first_given span form v st s
  given (Second e) v st s = second_of st.values e v st s
  given AsTruth v st s = On (Give (truth_value (holds v))) st s
  given (Argument (At span form) n) v st s = next_argument span form (suc n) (with_value v st) s
  given Done v st s = On (Went Onward) st s
  given (Item x n) v st s = next_item x (suc n) st s
  given (Branch x) v st s = branching x v st s
  given (Test x) v st s = testing x v st s
  given (Step x) v st s = testing_next x st s
  given GiveBack v st s = On (Went (Returned (Some v))) st s
  given (Turn x) v st s = Over Spent s
  given (Listed x n) v st s = Over Spent s
  given (Leave params is_main used span base) v st s = Over Spent s

  -- the topmost frame, which was taken off, is told how a statement went
  abbrev pub told : Frame → Flow → Stacks → State → Next
  told (Turn x) flow st s = turn_ended x flow st s
  told (Listed x n) flow st s = listed_ended x n flow st s
  told (Leave params is_main used span base) flow st s =
      giving_back is_main used span flow (record st { saved = take base st.saved }) (left params (drop base st.saved) s)
  told frame flow st s = Over Spent s

  abbrev pub given_to : List Frame → Value → Stacks → State → Next
  given_to [] v st s = Over (Exit (exit_code v)) s
  given_to (f ∷ fs) v st s = given f v (record st { frames = fs }) s

  abbrev pub told_to : List Frame → Flow → Stacks → State → Next
  told_to [] flow st s = Over Spent s
  told_to (f ∷ fs) flow st s = told f flow (record st { frames = fs }) s

  -- one step
  abbrev pub step : Control → Stacks → State → Next
  step (Eval (At span form)) st s = evaluating span form st s
  step (Give v) st s = given_to st.frames v st s
  step (Begin x) st s = paying s.ticks (beginning x st) s
  step (Went flow) st s = told_to st.frames flow st s

  -- the call of `main`
  abbrev pub calling_main : Option ℕ → Stacks → State → Next
  calling_main None st s = Over (Trap reason.NoBody nowhere) s
  calling_main (Some f) st s = paying s.ticks (calling c (value.Ptr (Function f)) (type_of (slice_get c.funcs f)) [] true nowhere st) s

  -- where a run begins: fixed objects are made, and `main` is called
  abbrev pub first_step : (input : List ℕ) → (ticks : ℕ) → Next
  first_step input ticks = from_made (made_fixed c.fixed (start input ticks)) (calling_main c.main (record { frames = []; values = []; saved = [] }))
