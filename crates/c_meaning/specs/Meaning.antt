-- What a program means, by structure: each form has one clause, with the meanings of its parts from left to right.
use Rattle.std.specs.Prelude.{ℕ, zero, suc, ◌+◌, ◌*◌, Bool, true, false, ◌==◌, if◌then◌else◌, List, [], ◌∷◌, ◌++◌, Option, Some, None, is_some, ◌||◌, Result, Ok, Err, slice_get, slice_index_or, bytes_eq, pos}
use Rattle.tok_base.specs.declared.token.Span.{Span}
use Rattle.num_ops.specs.declared.kinds.IntKind.TheVariants as k
use Rattle.c_core.specs.declared.values.Pointer.{Pointer}
use Rattle.c_core.specs.declared.values.Pointer.TheVariants.{Null, Object, Function}
use Rattle.c_core.specs.declared.values.Value.{Value}
use Rattle.c_core.specs.declared.values.Value.TheVariants as value
use Rattle.tok_base.specs.declared.reason.Reason.{Reason}
use Rattle.tok_base.specs.declared.reason.Reason.TheVariants as reason
use Rattle.c_core.specs.declared.values.End.TheVariants.{Exit, Trap, Spent}
use Rattle.c_core.specs.declared.tree.LibMark.{LibMark}
use Rattle.c_core.specs.declared.tree.LibMark.TheVariants as mark
use Rattle.c_core.specs.declared.tree.FixedObject.{FixedObject}
use Rattle.c_core.specs.declared.tree.Place.TheVariants as place
use Rattle.c_core.specs.Tree as t
use Rattle.c_core.specs.Tree.{Expr, At, Form, Exprs, no_exprs, one_expr, MaybeExpr, NoExpr, TheExpr, Stmt, Else, NoElse, Otherwise, Stmts, no_stmts, one_stmt, Program}
use Rattle.c_core.specs.Values.{kind_of}
use Rattle.range_heap.specs.Blocks.{rounded}
use Rattle.c_meaning.specs.declared.log.Flow.{Flow}
use Rattle.c_meaning.specs.declared.log.Flow.TheVariants.{Next, Broke, Continued, Returned}
use Rattle.c_meaning.specs.Run.{Run, Label, Site, Plain, Token, Result as Outcome, answered}
use Rattle.c_meaning.specs.World.{World, State, M, Acted, Gives, Stops, give, ◌>>=◌, ◌>>◌, over, stop, tick, begins, act, change, judged, take_room, give_room, make_local, make_locals, end_locals, within, local_block, request, release}
use Rattle.c_meaning.specs.Rules.{int, truth_value, no_value, pointer_in, natural_in, exit_code, holds, convert, arith, shift, compare_int, truth, ptr_add, ptr_diff, compare_ptr, modified, size_in}
use Rattle.c_core.specs.Library.{LibraryFunction, Malloc, Calloc, Realloc, FreeIt, GetChar, PutChar, MemCpy, MemMove, MemSet, MemCmp, StrLen, ExitNow, AbortNow, library_functions, Callee, callee_of}
use Rattle.c_meaning.specs.Storage.{load_at, store_at, copy_record, with_fixed, address, get_char, put_byte, byte_in, copy_bytes, set_bytes, compare_bytes, string_length, allocated, zeroed, resized}

-- ---- library calls

abbrev pub last_of : List Value → Value
last_of [] = no_value
last_of (v ∷ []) = v
last_of (v ∷ vs) = last_of vs

-- for which token a call asks
abbrev pub label_of : LibMark → List Value → Label
label_of (mark.Site k) args = Site k
label_of mark.Untagged args = Plain
label_of mark.Given args = Token (natural_in (last_of args))
label_of (mark.Fixed token) args = Token token

abbrev pub block_or_null : Option ℕ → Value
block_or_null None = value.Ptr Null
block_or_null (Some n) = value.Ptr (Object n 0)

-- 7.22.3.4: a block of undefined cells, or null
abbrev pub allocate : Label → ℕ → M Value
allocate label size = do
  block ← request label size
  give (block_or_null block)

abbrev pub if_granted : Option ℕ → (ℕ → M (Unit {0})) → M Value
if_granted None f = give (value.Ptr Null)
if_granted (Some n) f = do
  f n
  give (value.Ptr (Object n 0))

-- 7.22.3.2: the size is the exact product
abbrev pub allocate_zeroed : Span → Label → ℕ → M Value
allocate_zeroed span label size = do
  block ← request label size
  if_granted block (λ n. act (zeroed span n size))

-- 7.22.3.5: a new block is asked for first; the old one is given back only where it was granted
abbrev pub reallocate : Span → Label → Pointer → ℕ → M Value
reallocate span label Null size = allocate label size
reallocate span label p size = do
  old ← act (λ w. judged span (allocated w.blocks p) w)
  block ← request label size
  if_granted block (λ n. do
    act (resized span n old size)
    release old)

-- 7.22.3.3
abbrev pub free : Span → Pointer → M Value
free span Null = give no_value
free span p = do
  n ← act (λ w. judged span (allocated w.blocks p) w)
  release n
  give no_value

-- a library function's value, once the call has begun
abbrev pub library : LibraryFunction → Span → Label → (a b c : Value) → M Value
library Malloc span label a b c = allocate label (natural_in a)
library Calloc span label a b c = allocate_zeroed span label (natural_in a * natural_in b)
library Realloc span label a b c = reallocate span label (pointer_in a) (natural_in b)
library FreeIt span label a b c = free span (pointer_in a)
library GetChar span label a b c = act get_char
library PutChar span label a b c = act (put_byte (byte_in a))
library MemCpy span label a b c = act (copy_bytes span false a b c)
library MemMove span label a b c = act (copy_bytes span true a b c)
library MemSet span label a b c = act (set_bytes span a b c)
library MemCmp span label a b c = act (compare_bytes span a b c)
library StrLen span label a b c = act (string_length span a)
library ExitNow span label a b c = stop (Exit (exit_code a))
library AbortNow span label a b c = stop (Trap reason.Abort span)

abbrev pub library_call : Option LibraryFunction → Span → LibMark → List Value → M Value
library_call None span m args = stop (Trap reason.NoBody span)
library_call (Some f) span m args =
    library f span (label_of m args) (slice_index_or args 0 no_value) (slice_index_or args 1 no_value) (slice_index_or args 2 no_value)

-- ---- expressions

-- what a call through a value means: the called value, the type of the call, the arguments, whether its value is
-- used, and its span
abbrev pub Calls : Type 0
Calls = Value → List ℕ → List Value → Bool → Span → M Value

abbrev pub if_holds : {A : Type 0} → Value → M A → M A → M A
if_holds v a b = if holds v then a else b

-- a function that has a body, or is the library's
abbrev pub has_meaning : Option t.Function → Bool
has_meaning None = false
has_meaning (Some f) = is_some f.body || is_some (callee_of f.name)

-- 6.9, paragraph 5: the address of a function that has a definition
abbrev pub function_address : List t.Function → ℕ → Result Value Reason
function_address funcs f = if has_meaning (slice_get funcs f) then Ok (value.Ptr (Function f)) else Err reason.NoBody

module _ (c : Program) (marks : ℕ → ℕ) (call : Calls) where
  abbrev mutual
    pub mean_expr : Expr → M Value
    mean_expr (At span form) = do
      begins
      mean_form span form

    pub mean_form : Span → Form → M Value
    mean_form span (t.Const v) = give v
    mean_form span (t.Text n) = act (λ w. judged span (address c.fixed (place.Fixed n) w) w)
    mean_form span (t.Func f) = act (judged span (function_address c.funcs f))
    mean_form span (t.Object place) = act (λ w. judged span (address c.fixed place w) w)
    mean_form span (t.Load p kind) = do
      a ← mean_expr p
      act (load_at span (pointer_in a) kind)
    mean_form span (t.Store p at kind e) = do
      a ← mean_expr p
      v ← mean_expr e
      act (store_at at (pointer_in a) kind v)
    mean_form span (t.CopyRecord p to_at q from_at size) = do
      to ← mean_expr p
      from ← mean_expr q
      act (copy_record span (pointer_in to) to_at (pointer_in from) from_at size)
      give no_value
    mean_form span (t.Convert kind e) = do
      v ← mean_expr e
      give (convert kind v)
    mean_form span (t.Truth e negated) = do
      v ← mean_expr e
      act (λ w. judged span (truth w.blocks v negated) w)
    mean_form span (t.Arith op a b) = do
      x ← mean_expr a
      y ← mean_expr b
      act (judged span (arith op x y))
    mean_form span (t.ShiftBits left a b) = do
      x ← mean_expr a
      y ← mean_expr b
      act (judged span (shift left x y))
    mean_form span (t.CompareInt op a b) = do
      x ← mean_expr a
      y ← mean_expr b
      give (compare_int op x y)
    mean_form span (t.PtrAdd p i size minus) = do
      x ← mean_expr p
      y ← mean_expr i
      act (λ w. judged span (ptr_add w.blocks x y size minus) w)
    mean_form span (t.PtrDiff p q size) = do
      x ← mean_expr p
      y ← mean_expr q
      act (λ w. judged span (ptr_diff w.blocks x y size) w)
    mean_form span (t.ComparePtr op p q) = do
      x ← mean_expr p
      y ← mean_expr q
      act (λ w. judged span (compare_ptr op w.blocks x y) w)
    mean_form span (t.Both a b) = do
      x ← mean_expr a
      if_holds x (do
        y ← mean_expr b
        give (truth_value (holds y))) (give (truth_value false))
    mean_form span (t.Either a b) = do
      x ← mean_expr a
      if_holds x (give (truth_value true)) (do
        y ← mean_expr b
        give (truth_value (holds y)))
    mean_form span (t.Choose a b d) = do
      x ← mean_expr a
      if_holds x (mean_expr b) (mean_expr d)
    mean_form span (t.Then a b) = do
      x ← mean_expr a
      mean_expr b
    mean_form span (t.Modify p at kind op e common post) = do
      a ← mean_expr p
      x ← mean_expr e
      old ← act (load_at at (pointer_in a) kind)
      new ← act (λ w. judged span (modified op common w.blocks old x) w)
      stored ← act (store_at at (pointer_in a) kind new)
      give (if post then old else stored)
    mean_form span (t.Call f type es used) = do
      callee ← mean_expr f
      mean_args es (λ args. call callee type args used span) []
    mean_form span (t.LibCall n es m) = mean_args es (λ args. do
      tick
      library_call (slice_get library_functions n) span m args) []
    mean_form span (t.Mark n) = give (int k.ULong (pos (marks n)))

    -- the arguments from left to right, behind those that are known
    pub mean_args : Exprs → (List Value → M Value) → List Value → M Value
    mean_args no_exprs f known = f known
    mean_args (one_expr e es) f known = do
      v ← mean_expr e
      mean_args es f (known ++ v ∷ [])

  abbrev pub mean_each : Exprs → M (Unit {0})
  mean_each no_exprs = give tt
  mean_each (one_expr e es) = do
    v ← mean_expr e
    mean_each es

  -- the third clause of a `for`
  abbrev pub mean_step : MaybeExpr → M (Unit {0})
  mean_step NoExpr = give tt
  mean_step (TheExpr e) = do
    v ← mean_expr e
    give tt

-- ---- statements

-- the span of what no expression of the program does
abbrev pub nowhere : Span
nowhere = record { start = 0; end = 0 }

-- 6.8.6: the statement behind one that ended in this way
abbrev pub if_next : Flow → M Flow → M Flow
if_next Next m = m
if_next flow m = give flow

-- 6.8.6.2, 6.8.6.3: what follows a turn of a loop
abbrev pub after_turn : Flow → M Flow → M Flow
after_turn Next m = m
after_turn Continued m = m
after_turn Broke m = give Next
after_turn (Returned v) m = give (Returned v)

-- 6.8.5: a turn of a loop and those behind it, n at most
abbrev pub turns : ℕ → (test : M Value) → (step : M (Unit {0})) → (body : M Flow) → M Flow
turns zero test step body = stop Spent
turns (suc n) test step body = do
  tick
  flow ← body
  after_turn flow (do
    step
    v ← test
    if_holds v (turns n test step body) (give Next))

-- 6.8.5.1, 6.8.5.2: the test stands before the first turn, or behind it
abbrev pub loop : (test_first : Bool) → M Value → M Flow → M Flow
loop true test turning = do
  v ← test
  if_holds v turning (give Next)
loop false test turning = turning

-- 6.7.9, paragraph 21: an aggregate is zero where its initialiser says nothing
abbrev pub zero_block : (block : Option ℕ) → World → Acted (Unit {0})
zero_block None w = Stops (Trap reason.NoBody nowhere)
zero_block (Some n) w = zeroed nowhere n (size_in (slice_get w.blocks n)) w

abbrev pub zero_first : Bool → (local : ℕ) → World → Acted (Unit {0})
zero_first false x w = Gives tt w
zero_first true x w = zero_block (local_block w x) w

module _ (c : Program) (marks : ℕ → ℕ) (call : Calls) (n : ℕ) where
  abbrev mutual
    -- what a statement does, once its tick is paid
    pub begun : Stmt → M Flow
    begun (t.Block objects ss) = do
      make_locals objects
      flow ← mean_list ss
      act (change (end_locals objects))
      give flow
    begun (t.Do e) = do
      v ← mean_expr c marks call e
      give Next
    begun (t.Init x zeros items) = do
      act (zero_first zeros x)
      mean_each c marks call items
      give Next
    begun (t.If e a b) = do
      v ← mean_expr c marks call e
      if_holds v (do
        tick
        begun a) (mean_else b)
    begun (t.Loop test_first e step b) =
        loop test_first (mean_expr c marks call e) (turns n (mean_expr c marks call e) (mean_step c marks call step) (do
          tick
          begun b))
    begun t.Break = give Broke
    begun t.Continue = give Continued
    begun (t.Return NoExpr) = give (Returned None)
    begun (t.Return (TheExpr e)) = do
      v ← mean_expr c marks call e
      give (Returned (Some v))

    pub mean_else : Else → M Flow
    mean_else NoElse = give Next
    mean_else (Otherwise b) = do
      tick
      begun b

    pub mean_list : Stmts → M Flow
    mean_list no_stmts = give Next
    mean_list (one_stmt s ss) = do
      tick
      flow ← begun s
      if_next flow (mean_list ss)

  abbrev pub mean_stmt : Stmt → M Flow
  mean_stmt s = do
    tick
    begun s

-- ---- calls

-- the parameters are the first locals
abbrev pub parameters : (first : ℕ) → (sizes : List ℕ) → List (ℕ × ℕ)
parameters x [] = []
parameters x (size ∷ sizes) = (x, size) ∷ parameters (x + 1) sizes

abbrev pub store_argument : Span → (block : Option ℕ) → Value → World → Acted Value
store_argument span None v w = Stops (Trap reason.NoBody span)
store_argument span (Some n) v w = store_at span (Object n 0) (kind_of v) v w

-- 6.9.1, paragraph 10: each is made, and gets the value of its argument
abbrev pub make_parameters : Span → List (ℕ × ℕ) → List Value → M (Unit {0})
make_parameters span [] args = give tt
make_parameters span (o ∷ objects) [] = give tt
make_parameters span (o ∷ objects) (v ∷ args) = do
  make_local o.0 o.1
  stored ← act (λ w. store_argument span (local_block w o.0) v w)
  make_parameters span objects args

-- 6.9.1, paragraph 12; 5.1.2.2.3: the value of a call whose function ended in this way
abbrev pub returned : (is_main used : Bool) → Span → Flow → M Value
returned is_main used span (Returned (Some v)) = give v
returned is_main used span (Returned None) = give no_value
returned is_main used span flow =
    if is_main then give (int k.Int (pos 0))
    else (if used then stop (Trap reason.NoReturn span) else give no_value)

-- 6.5.2.2, 6.9.1: room for the call, the parameters, the body
abbrev pub run_body : (body : M Flow) → (is_main : Bool) → List (ℕ × ℕ) → List Value → (used : Bool) → Span → M Value
run_body body is_main objects args used span = within (do
  act (take_room 64)
  make_parameters span objects args
  flow ← body
  act (change (λ w. give_room 64 (end_locals objects w)))
  returned is_main used span flow)

abbrev pub is_number : Option ℕ → ℕ → Bool
is_number None f = false
is_number (Some m) f = m == f

-- a function without a body is the library's, or has no meaning
abbrev pub run_callee : Option Callee → List Value → Span → M Value
run_callee None args span = stop (Trap reason.NoBody span)
run_callee (Some callee) args span = library_call (slice_get library_functions callee.0) span callee.1 args

abbrev pub run_function : (Stmt → M Flow) → (is_main : Bool) → t.Function → Option Stmt → List Value → Bool → Span → M Value
run_function mean is_main f None args used span = run_callee (callee_of f.name) args span
run_function mean is_main f (Some body) args used span = run_body (mean body) is_main (parameters 0 f.params) args used span

-- 6.3.2.3, paragraph 8; 6.5.2.2, paragraph 9: a function is called, through its own type
abbrev pub typed_call : (Stmt → M Flow) → (is_main : Bool) → Option t.Function → List ℕ → List Value → Bool → Span → M Value
typed_call mean is_main None type args used span = stop (Trap reason.NoFunction span)
typed_call mean is_main (Some f) type args used span =
    if bytes_eq f.ty type then run_function mean is_main f f.body args used span else stop (Trap reason.BadCall span)

abbrev pub call_value : Program → (Stmt → M Flow) → Value → List ℕ → List Value → Bool → Span → M Value
call_value c mean (value.Ptr (Function f)) type args used span = typed_call mean (is_number c.main f) (slice_get c.funcs f) type args used span
call_value c mean v type args used span = stop (Trap reason.NoFunction span)

module _ (c : Program) (marks : ℕ → ℕ) where
  -- a call, n deep at most
  abbrev pub call_at : ℕ → Calls
  call_at zero v type args used span = stop Spent
  call_at (suc n) v type args used span = do
    tick
    call_value c (mean_stmt c marks (call_at n) n) v type args used span

-- ---- programs

-- 5.1.2, paragraph 1: all objects with static storage duration are made before the program starts
abbrev pub make_fixed : List FixedObject → M (Unit {0})
make_fixed [] = give tt
make_fixed (o ∷ fixed) = do
  act (take_room (if o.defined then rounded o.size else 0))
  act (change (with_fixed o))
  make_fixed fixed

abbrev pub type_of : Option t.Function → List ℕ
type_of None = []
type_of (Some f) = f.ty

-- 5.1.2.2.1: the call of `main`
abbrev pub call_main : Program → Calls → Option ℕ → M Value
call_main c call None = stop (Trap reason.NoBody nowhere)
call_main c call (Some f) = call (value.Ptr (Function f)) (type_of (slice_get c.funcs f)) [] true nowhere

abbrev pub exit : Value → State → Run
exit v s = over (Exit (exit_code v)) s

abbrev pub start : (input : List ℕ) → (ticks : ℕ) → State
start input ticks = record {
  ticks = ticks;
  world = record { blocks = []; grants = []; locals = []; input = input; output = []; room = 4194304; asked = 0 };
}

-- the run with so many ticks, where calls and loops go `depth` deep at most
abbrev pub run_within : (depth : ℕ) → Program → (marks : ℕ → ℕ) → (input : List ℕ) → (ticks : ℕ) → Run
run_within depth c marks input ticks =
    (do
      make_fixed c.fixed
      call_main c (call_at c marks depth) c.main) exit (start input ticks)

-- what a program does with an input and so many ticks, whatever it is answered
abbrev pub run_of : Program → (marks : ℕ → ℕ) → (input : List ℕ) → (ticks : ℕ) → Run
run_of c marks input ticks = run_within ticks c marks input ticks

-- which token a label is for: that of each site and each mark, and the fallback
pub record Tokens : Type 0 where
  pub site : ℕ → ℕ
  pub mark : ℕ → ℕ
  pub fallback : ℕ

abbrev pub token_of : Tokens → Label → ℕ
token_of tok (Site k) = tok.site k
token_of tok Plain = tok.fallback
token_of tok (Token token) = token

-- the output, the end and the requests of a program; None where the answers are not just as many as the run needs
abbrev pub meaning : Program → Tokens → (input : List ℕ) → (answers : List Bool) → (ticks : ℕ) → Option Outcome
meaning c tok input answers ticks = answered (run_of c tok.mark input ticks) answers
