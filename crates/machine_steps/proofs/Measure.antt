-- What is left to do becomes less with each step.
use Rattle.std.proofs.Common.{◌≡◌, ℕ, zero, suc, ◌+◌, ◌*◌, ◌<◌, ◌≤◌, Bool, true, false, List, [], ◌∷◌, Option, Some, None, refl, ap, arith, length}
use Rattle.std.specs.Prelude.{slice_get, if◌then◌else◌, bytes_eq, take, drop}
use Rattle.tok_base.specs.declared.token.Span.{Span}
use Rattle.c_core.specs.declared.values.Pointer.TheVariants.{Null, Object, Function}
use Rattle.c_core.specs.declared.values.Value.{Value}
use Rattle.c_core.specs.declared.values.Value.TheVariants as value
use Rattle.c_core.specs.declared.tree.Place.TheVariants as place
use Rattle.range_heap.specs.Blocks.{rounded}
use Rattle.c_core.specs.Tree as t
use Rattle.c_core.specs.Tree.{Expr, At, Form, MaybeExpr, NoExpr, TheExpr, Stmt, Else, NoElse, Otherwise, Program}
use Rattle.c_core.specs.Library.{Callee, callee_of}
use Rattle.c_meaning.specs.declared.log.Flow.{Flow}
use Rattle.c_meaning.specs.declared.log.Flow.TheVariants.{Next as Onward, Broke, Continued, Returned}
use Rattle.c_meaning.specs.World.{World, State, Acted, Gives, Stops, judged, take_room, local_block}
use Rattle.c_meaning.specs.Rules.{pointer_in, holds, truth, arith as arith_of, shift, ptr_add, ptr_diff, compare_ptr, no_value}
use Rattle.c_meaning.specs.Storage.{load_at, store_at, copy_record, address}
use Rattle.c_meaning.specs.Meaning.{parameters, is_number, zero_first, function_address, store_argument}
use Rattle.machine_steps.specs.Frames.{Eval, Give, Begin, Went, Frame, First, Second, AsTruth, Argument, Done, Item, Branch, Test, Turn, Step, Listed, GiveBack, Leave, Stacks, Next, On, Over, Library, with_frame, with_value, expr_at, stmt_at, topmost, below}
use Rattle.machine_steps.specs.Steps as m
use Rattle.machine_steps.specs.Steps.{Made, Makes, Ends, acting, paying, from_made, then_made, made_by, made_locals, made_parameters, giving, inside, left}
use Rattle.machine_steps.specs.Measure.{beginnings, busy, weight, left_in, ticks_in, StepsFall, TicksFall}
use Rattle.machine_steps.specs.Rests.{runs_on}
use Rattle.machine_steps.proofs.Steps.{steps_agree}

-- a step's weight and ticks, from a stack of so many frames and so many ticks
abbrev pub Within : (frames ticks : ℕ) → Next → Type 0
Within n t (On control st s) = (weight st s + busy control ≤ n + 2 * t + 1) × (s.ticks ≤ t)
Within n t (Over e s) = s.ticks ≤ t
Within n t (Library f span mark args st s) = (weight st s + 1 ≤ n + 2 * t + 1) × (s.ticks ≤ t)

pushed : (n t : ℕ) → (suc n + 2 * t + 0 ≤ n + 2 * t + 1) × (t ≤ t)
pushed n t = (omega arith, omega arith)

idle : (n t : ℕ) → (n + 2 * t + 0 ≤ n + 2 * t + 1) × (t ≤ t)
idle n t = (omega arith, omega arith)

full : (n t : ℕ) → (n + 2 * t + 1 ≤ n + 2 * t + 1) × (t ≤ t)
full n t = (omega arith, omega arith)

same_ticks : (t : ℕ) → t ≤ t
same_ticks t = omega arith

-- fewer ticks than there were
fewer : (n t u : ℕ) (next : Next) → t ≤ u → Within n t next → Within n u next
fewer n t u (On control st s) le h = (let a = h.0 in omega (arith, a), let b = h.1 in omega (arith, b))
fewer n t u (Over e s) le h = omega (arith, h)
fewer n t u (Library f span mark args st s) le h = (let a = h.0 in omega (arith, a), let b = h.1 in omega (arith, b))

abbrev Kept : ℕ → Made → Type 0
Kept t (Makes s) = s.ticks ≤ t
Kept t (Ends e s) = s.ticks ≤ t

kept_less : (t u : ℕ) (o : Made) → t ≤ u → Kept t o → Kept u o
kept_less t u (Makes s) le h = omega (arith, h)
kept_less t u (Ends e s) le h = omega (arith, h)

by_kept : {A : Type 0} (o : Acted A) (s : State) → Kept s.ticks (made_by o s)
by_kept (Gives a w) s = same_ticks s.ticks
by_kept (Stops e) s = same_ticks s.ticks

then_kept : (t : ℕ) (o : Made) (f : State → Made) → Kept t o → ((s : State) → s.ticks ≤ t → Kept t (f s)) → Kept t (then_made o f)
then_kept t (Makes s) f h k = k s h
then_kept t (Ends e s) f h k = h

paid_kept : (n t : ℕ) (f : State → Made) (s : State) → s.ticks ≤ t → n ≤ t → ((s : State) → s.ticks ≤ t → Kept t (f s)) → Kept t (m.made_paid n f s)
paid_kept zero t f s h le k = h
paid_kept (suc n) t f s h le k = k (record s { ticks = n }) (omega arith)

local_kept : (x size t : ℕ) (s : State) → s.ticks ≤ t → Kept t (m.made_local x size s)
local_kept x size t s h =
    paid_kept s.ticks t (m.made_room x size) s h h (λ s le. then_kept t (made_by (take_room (rounded size) s.world) s) _ (kept_less s.ticks t (made_by (take_room (rounded size) s.world) s) le (by_kept (take_room (rounded size) s.world) s)) (λ s le. le))

locals_kept : (objects : List (ℕ × ℕ)) (t : ℕ) (s : State) → s.ticks ≤ t → Kept t (made_locals objects s)
locals_kept [] t s h = h
locals_kept (o ∷ objects) t s h = then_kept t (m.made_local o.0 o.1 s) (made_locals objects) (local_kept o.0 o.1 t s h) (λ s le. locals_kept objects t s le)

parameters_kept : (span : Span) (objects : List (ℕ × ℕ)) (args : List Value) (t : ℕ) (s : State) → s.ticks ≤ t → Kept t (made_parameters span objects args s)
parameters_kept span [] args t s h = h
parameters_kept span (o ∷ objects) [] t s h = h
parameters_kept span (o ∷ objects) (v ∷ args) t s h =
    then_kept t (m.made_local o.0 o.1 s) _ (local_kept o.0 o.1 t s h) (λ s le.
    then_kept t (m.made_argument span o.0 v s) (made_parameters span objects args) (kept_less s.ticks t (m.made_argument span o.0 v s) le (by_kept (store_argument span (local_block s.world o.0) v s.world) s)) (λ s le. parameters_kept span objects args t s le))

from_within : (n t : ℕ) (o : Made) (f : State → Next) → Kept t o → ((s : State) → s.ticks ≤ t → Within n t (f s)) → Within n t (from_made o f)
from_within n t (Makes s) f h k = k s h
from_within n t (Ends e s) f h k = h

acting_within : (o : Acted Value) (st : Stacks) (s : State) → Within (length st.frames) s.ticks (acting o st s)
acting_within (Gives v w) st s = full (length st.frames) s.ticks
acting_within (Stops e) st s = same_ticks s.ticks

chosen : (b : Bool) (n t : ℕ) (x y : Next) → Within n t x → Within n t y → Within n t (if b then x else y)
chosen true n t x y p q = p
chosen false n t x y p q = q

-- a tick is paid, and at most two more are on the stacks
paying_within : (k n t : ℕ) (f : State → Next) (s : State) → s.ticks ≤ t → k ≤ t → ((u : ℕ) → suc u ≤ t → Within (suc n) u (f (record s { ticks = u }))) → Within n t (paying k f s)
paying_within zero n t f s h le k = h
paying_within (suc u) n t f s h le k = go (f (record s { ticks = u })) (k u le)
  where
    go : (next : Next) → Within (suc n) u next → Within n t next
    go (On control st s) h = (let a = h.0 in omega (arith, a, le), let b = h.1 in omega (arith, b, le))
    go (Over e s) h = omega (arith, h, le)
    go (Library f span mark args st s) h = (let a = h.0 in omega (arith, a, le), let b = h.1 in omega (arith, b, le))

one_more : (n t : ℕ) (next : Next) → Within n t next → Within (suc n) t next
one_more n t (On control st s) h = (let a = h.0 in omega (arith, a), h.1)
one_more n t (Over e s) h = h
one_more n t (Library f span mark args st s) h = (let a = h.0 in omega (arith, a), h.1)

-- ---- calls

giving_back_within : (is_main used : Bool) (span : Span) (flow : Flow) (st : Stacks) (s : State) → Within (length st.frames) s.ticks (m.giving_back is_main used span flow st s)
giving_back_within is_main used span (Returned (Some v)) st s = full (length st.frames) s.ticks
giving_back_within is_main used span (Returned None) st s = full (length st.frames) s.ticks
giving_back_within true used span Onward st s = full (length st.frames) s.ticks
giving_back_within true used span Broke st s = full (length st.frames) s.ticks
giving_back_within true used span Continued st s = full (length st.frames) s.ticks
giving_back_within false true span Onward st s = same_ticks s.ticks
giving_back_within false true span Broke st s = same_ticks s.ticks
giving_back_within false true span Continued st s = same_ticks s.ticks
giving_back_within false false span Onward st s = full (length st.frames) s.ticks
giving_back_within false false span Broke st s = full (length st.frames) s.ticks
giving_back_within false false span Continued st s = full (length st.frames) s.ticks

entering_within : (body : Stmt) (is_main : Bool) (params : List ℕ) (args : List Value) (used : Bool) (span : Span) (st : Stacks) (s : State)
    → Within (length st.frames) s.ticks (m.entering body is_main params args used span st s)
entering_within body is_main params args used span st s =
    from_within (length st.frames) s.ticks (then_made (made_by (take_room 64 (inside s).world) (inside s)) (made_parameters span (parameters 0 params) args)) _
    (then_kept s.ticks (made_by (take_room 64 (inside s).world) (inside s)) _ (by_kept (take_room 64 (inside s).world) (inside s)) (λ now le. parameters_kept span (parameters 0 params) args s.ticks now le))
    (λ now le. (omega (arith, le), le))

callee_within : (callee : Option Callee) (args : List Value) (span : Span) (st : Stacks) (s : State) → Within (length st.frames) s.ticks (m.calling_library callee args span st s)
callee_within None args span st s = same_ticks s.ticks
callee_within (Some callee) args span st s = full (length st.frames) s.ticks

function_within : (is_main : Bool) (f : t.Function) (body : Option Stmt) (args : List Value) (used : Bool) (span : Span) (st : Stacks) (s : State)
    → Within (length st.frames) s.ticks (m.calling_function is_main f body args used span st s)
function_within is_main f None args used span st s = callee_within (callee_of f.name) args span st s
function_within is_main f (Some body) args used span st s = entering_within body is_main f.params args used span st s

typed_within : (is_main : Bool) (f : Option t.Function) (type : List ℕ) (args : List Value) (used : Bool) (span : Span) (st : Stacks) (s : State)
    → Within (length st.frames) s.ticks (m.calling_typed is_main f type args used span st s)
typed_within is_main None type args used span st s = same_ticks s.ticks
typed_within is_main (Some f) type args used span st s = chosen (bytes_eq f.ty type) (length st.frames) s.ticks _ _ (function_within is_main f f.body args used span st s) (same_ticks s.ticks)

calling_within : (c : Program) (v : Value) (type : List ℕ) (args : List Value) (used : Bool) (span : Span) (st : Stacks) (s : State)
    → Within (length st.frames) s.ticks (m.calling c v type args used span st s)
calling_within c (value.Ptr (Function f)) type args used span st s = typed_within (is_number c.main f) (slice_get c.funcs f) type args used span st s
calling_within c (value.Ptr Null) type args used span st s = same_ticks s.ticks
calling_within c (value.Ptr (Object n offset)) type args used span st s = same_ticks s.ticks
calling_within c (value.Int n) type args used span st s = same_ticks s.ticks

module _ (c : Program) (marks : ℕ → ℕ) where
  through_within : (vs : List Value) (type : List ℕ) (args : List Value) (used : Bool) (span : Span) (st : Stacks) (s : State)
      → Within (length st.frames) s.ticks (m.calling_through c marks vs type args used span st s)
  through_within [] type args used span st s = same_ticks s.ticks
  through_within (callee ∷ vs) type args used span st s =
      paying_within s.ticks (length st.frames) s.ticks _ s (omega arith) (omega arith) (λ u lt. one_more (length st.frames) u _ (calling_within c callee type args used span (record st { values = vs }) (record s { ticks = u })))

  now_within : (span : Span) (form : Form) (n : ℕ) (st : Stacks) (s : State) → Within (length st.frames) s.ticks (m.calling_now c marks span form n st s)
  now_within span (t.Call f type es used) n st s = through_within (below n st.values) type (topmost n st.values) used span st s
  now_within span (t.LibCall f es mark) n st s =
      paying_within s.ticks (length st.frames) s.ticks _ s (omega arith) (omega arith) (λ u lt. (omega arith, omega arith))
  now_within span (t.Const x) n st s = same_ticks s.ticks
  now_within span (t.Text x) n st s = same_ticks s.ticks
  now_within span (t.Func f) n st s = same_ticks s.ticks
  now_within span (t.Object p) n st s = same_ticks s.ticks
  now_within span (t.Load p what) n st s = same_ticks s.ticks
  now_within span (t.Store p at what e) n st s = same_ticks s.ticks
  now_within span (t.CopyRecord p a q b size) n st s = same_ticks s.ticks
  now_within span (t.Convert what e) n st s = same_ticks s.ticks
  now_within span (t.Truth e negated) n st s = same_ticks s.ticks
  now_within span (t.Arith op a b) n st s = same_ticks s.ticks
  now_within span (t.ShiftBits to_left a b) n st s = same_ticks s.ticks
  now_within span (t.CompareInt op a b) n st s = same_ticks s.ticks
  now_within span (t.PtrAdd p q size minus) n st s = same_ticks s.ticks
  now_within span (t.PtrDiff p q size) n st s = same_ticks s.ticks
  now_within span (t.ComparePtr op p q) n st s = same_ticks s.ticks
  now_within span (t.Both a b) n st s = same_ticks s.ticks
  now_within span (t.Either a b) n st s = same_ticks s.ticks
  now_within span (t.Choose a b d) n st s = same_ticks s.ticks
  now_within span (t.Then a b) n st s = same_ticks s.ticks
  now_within span (t.Modify p at what op e common post) n st s = same_ticks s.ticks
  now_within span (t.Mark x) n st s = same_ticks s.ticks

  argument_within : (found : MaybeExpr) (span : Span) (form : Form) (n : ℕ) (st : Stacks) (s : State) → Within (length st.frames) s.ticks (m.argument_or_call c marks found span form n st s)
  argument_within NoExpr span form n st s = now_within span form n st s
  argument_within (TheExpr e) span form n st s = pushed (length st.frames) s.ticks

  next_within : (span : Span) (form : Form) (n : ℕ) (st : Stacks) (s : State) → Within (length st.frames) s.ticks (m.next_argument c marks span form n st s)
  next_within span form n st s = argument_within (expr_at n (m.arguments_of c marks form)) span form n st s

  -- ---- expressions

  evaluating_within : (span : Span) (form : Form) (st : Stacks) (s : State) → Within (length st.frames) s.ticks (m.evaluating c marks span form st s)
  evaluating_within span (t.Const v) st s = full (length st.frames) s.ticks
  evaluating_within span (t.Text n) st s = acting_within (judged span (address c.fixed (place.Fixed n) s.world) s.world) st s
  evaluating_within span (t.Func f) st s = acting_within (judged span (function_address c.funcs f) s.world) st s
  evaluating_within span (t.Object p) st s = acting_within (judged span (address c.fixed p s.world) s.world) st s
  evaluating_within span (t.Load p what) st s = pushed (length st.frames) s.ticks
  evaluating_within span (t.Store p at what e) st s = pushed (length st.frames) s.ticks
  evaluating_within span (t.CopyRecord p a q b size) st s = pushed (length st.frames) s.ticks
  evaluating_within span (t.Convert what e) st s = pushed (length st.frames) s.ticks
  evaluating_within span (t.Truth e negated) st s = pushed (length st.frames) s.ticks
  evaluating_within span (t.Arith op a b) st s = pushed (length st.frames) s.ticks
  evaluating_within span (t.ShiftBits to_left a b) st s = pushed (length st.frames) s.ticks
  evaluating_within span (t.CompareInt op a b) st s = pushed (length st.frames) s.ticks
  evaluating_within span (t.PtrAdd p q size minus) st s = pushed (length st.frames) s.ticks
  evaluating_within span (t.PtrDiff p q size) st s = pushed (length st.frames) s.ticks
  evaluating_within span (t.ComparePtr op p q) st s = pushed (length st.frames) s.ticks
  evaluating_within span (t.Both a b) st s = pushed (length st.frames) s.ticks
  evaluating_within span (t.Either a b) st s = pushed (length st.frames) s.ticks
  evaluating_within span (t.Choose a b d) st s = pushed (length st.frames) s.ticks
  evaluating_within span (t.Then a b) st s = pushed (length st.frames) s.ticks
  evaluating_within span (t.Modify p at what op e common post) st s = pushed (length st.frames) s.ticks
  evaluating_within span (t.Call f type es used) st s = pushed (length st.frames) s.ticks
  evaluating_within span (t.LibCall f es mark) st s = next_within span (t.LibCall f es mark) 0 st s
  evaluating_within span (t.Mark n) st s = full (length st.frames) s.ticks

  first_within : (span : Span) (form : Form) (v : Value) (st : Stacks) (s : State) → Within (length st.frames) s.ticks (m.first_given c marks span form v st s)
  first_within span (t.Const x) v st s = same_ticks s.ticks
  first_within span (t.Text n) v st s = same_ticks s.ticks
  first_within span (t.Func f) v st s = same_ticks s.ticks
  first_within span (t.Object p) v st s = same_ticks s.ticks
  first_within span (t.Load p what) v st s = acting_within (load_at span (pointer_in v) what s.world) st s
  first_within span (t.Store p at what e) v st s = pushed (length st.frames) s.ticks
  first_within span (t.CopyRecord p a q b size) v st s = pushed (length st.frames) s.ticks
  first_within span (t.Convert what e) v st s = full (length st.frames) s.ticks
  first_within span (t.Truth e negated) v st s = acting_within (judged span (truth s.world.blocks v negated) s.world) st s
  first_within span (t.Arith op a b) v st s = pushed (length st.frames) s.ticks
  first_within span (t.ShiftBits to_left a b) v st s = pushed (length st.frames) s.ticks
  first_within span (t.CompareInt op a b) v st s = pushed (length st.frames) s.ticks
  first_within span (t.PtrAdd p q size minus) v st s = pushed (length st.frames) s.ticks
  first_within span (t.PtrDiff p q size) v st s = pushed (length st.frames) s.ticks
  first_within span (t.ComparePtr op p q) v st s = pushed (length st.frames) s.ticks
  first_within span (t.Both a b) v st s = chosen (holds v) (length st.frames) s.ticks _ _ (pushed (length st.frames) s.ticks) (full (length st.frames) s.ticks)
  first_within span (t.Either a b) v st s = chosen (holds v) (length st.frames) s.ticks _ _ (full (length st.frames) s.ticks) (pushed (length st.frames) s.ticks)
  first_within span (t.Choose a b d) v st s = chosen (holds v) (length st.frames) s.ticks _ _ (idle (length st.frames) s.ticks) (idle (length st.frames) s.ticks)
  first_within span (t.Then a b) v st s = idle (length st.frames) s.ticks
  first_within span (t.Modify p at what op e common post) v st s = pushed (length st.frames) s.ticks
  first_within span (t.Call f type es used) v st s = next_within span (t.Call f type es used) 0 (with_value v st) s
  first_within span (t.LibCall f es mark) v st s = same_ticks s.ticks
  first_within span (t.Mark n) v st s = same_ticks s.ticks

  second_within : (span : Span) (form : Form) (x y : Value) (st : Stacks) (s : State) → Within (length st.frames) s.ticks (m.second_given c marks span form x y st s)
  second_within span (t.Store p at what e) x y st s = acting_within (store_at at (pointer_in x) what y s.world) st s
  second_within span (t.CopyRecord p a q b size) x y st s = acting_within (giving no_value (copy_record span (pointer_in x) a (pointer_in y) b size s.world)) st s
  second_within span (t.Arith op a b) x y st s = acting_within (judged span (arith_of op x y) s.world) st s
  second_within span (t.ShiftBits to_left a b) x y st s = acting_within (judged span (shift to_left x y) s.world) st s
  second_within span (t.CompareInt op a b) x y st s = full (length st.frames) s.ticks
  second_within span (t.PtrAdd p q size minus) x y st s = acting_within (judged span (ptr_add s.world.blocks x y size minus) s.world) st s
  second_within span (t.PtrDiff p q size) x y st s = acting_within (judged span (ptr_diff s.world.blocks x y size) s.world) st s
  second_within span (t.ComparePtr op p q) x y st s = acting_within (judged span (compare_ptr op s.world.blocks x y) s.world) st s
  second_within span (t.Modify p at what op e common post) x y st s = acting_within (m.modify span at what op common post x y s.world) st s
  second_within span (t.Const v) x y st s = same_ticks s.ticks
  second_within span (t.Text n) x y st s = same_ticks s.ticks
  second_within span (t.Func f) x y st s = same_ticks s.ticks
  second_within span (t.Object p) x y st s = same_ticks s.ticks
  second_within span (t.Load p what) x y st s = same_ticks s.ticks
  second_within span (t.Convert what e) x y st s = same_ticks s.ticks
  second_within span (t.Truth e negated) x y st s = same_ticks s.ticks
  second_within span (t.Both a b) x y st s = same_ticks s.ticks
  second_within span (t.Either a b) x y st s = same_ticks s.ticks
  second_within span (t.Choose a b d) x y st s = same_ticks s.ticks
  second_within span (t.Then a b) x y st s = same_ticks s.ticks
  second_within span (t.Call f type es used) x y st s = same_ticks s.ticks
  second_within span (t.LibCall f es mark) x y st s = same_ticks s.ticks
  second_within span (t.Mark n) x y st s = same_ticks s.ticks

  second_of_within : (vs : List Value) (e : Expr) (v : Value) (st : Stacks) (s : State) → Within (length st.frames) s.ticks (m.second_of c marks vs e v st s)
  second_of_within [] e v st s = same_ticks s.ticks
  second_of_within (x ∷ vs) (At span form) v st s = second_within span form x v (record st { values = vs }) s

  -- ---- statements

  item_within : (found : MaybeExpr) (x : Stmt) (n : ℕ) (st : Stacks) (s : State) → Within (length st.frames) s.ticks (m.item_or_end c marks found x n st s)
  item_within NoExpr x n st s = full (length st.frames) s.ticks
  item_within (TheExpr e) x n st s = pushed (length st.frames) s.ticks

  next_item_within : (x : Stmt) (n : ℕ) (st : Stacks) (s : State) → Within (length st.frames) s.ticks (m.next_item c marks x n st s)
  next_item_within (t.Init x zeros items) n st s = item_within (expr_at n items) (t.Init x zeros items) n st s
  next_item_within (t.Block objects xs) n st s = same_ticks s.ticks
  next_item_within (t.Do e) n st s = same_ticks s.ticks
  next_item_within (t.If e a b) n st s = same_ticks s.ticks
  next_item_within (t.Loop first e step b) n st s = same_ticks s.ticks
  next_item_within t.Break n st s = same_ticks s.ticks
  next_item_within t.Continue n st s = same_ticks s.ticks
  next_item_within (t.Return e) n st s = same_ticks s.ticks

  listed_within : (found : Else) (objects : List (ℕ × ℕ)) (x : Stmt) (n : ℕ) (st : Stacks) (s : State) → Within (length st.frames) s.ticks (m.listed_or_end c marks found objects x n st s)
  listed_within NoElse objects x n st s = full (length st.frames) s.ticks
  listed_within (Otherwise y) objects x n st s = pushed (length st.frames) s.ticks

  turning_within : (x b : Stmt) (st : Stacks) (s : State) → Within (length st.frames) s.ticks (m.turning c marks x b st s)
  turning_within x b st s = paying_within s.ticks (length st.frames) s.ticks _ s (omega arith) (omega arith) (λ u lt. (omega arith, omega arith))

  looping_within : (first : Bool) (x : Stmt) (e : Expr) (b : Stmt) (st : Stacks) (s : State) → Within (length st.frames) s.ticks (m.looping c marks first x e b st s)
  looping_within true x e b st s = pushed (length st.frames) s.ticks
  looping_within false x e b st s = turning_within x b st s

  returning_within : (e : MaybeExpr) (st : Stacks) (s : State) → Within (length st.frames) s.ticks (m.returning c marks e st s)
  returning_within NoExpr st s = full (length st.frames) s.ticks
  returning_within (TheExpr e) st s = pushed (length st.frames) s.ticks

  beginning_within : (x : Stmt) (st : Stacks) (s : State) → Within (length st.frames) s.ticks (m.beginning c marks x st s)
  beginning_within (t.Block objects xs) st s =
      from_within (length st.frames) s.ticks (made_locals objects s) _ (locals_kept objects s.ticks s (omega arith))
      (λ now le. fewer (length st.frames) now.ticks s.ticks _ le (listed_within (stmt_at 0 xs) objects (t.Block objects xs) 0 st now))
  beginning_within (t.Do e) st s = pushed (length st.frames) s.ticks
  beginning_within (t.Init x zeros items) st s =
      from_within (length st.frames) s.ticks (made_by (zero_first zeros x s.world) s) _ (by_kept (zero_first zeros x s.world) s)
      (λ now le. fewer (length st.frames) now.ticks s.ticks _ le (next_item_within (t.Init x zeros items) 0 st now))
  beginning_within (t.If e a b) st s = pushed (length st.frames) s.ticks
  beginning_within (t.Loop first e step b) st s = looping_within first (t.Loop first e step b) e b st s
  beginning_within t.Break st s = full (length st.frames) s.ticks
  beginning_within t.Continue st s = full (length st.frames) s.ticks
  beginning_within (t.Return e) st s = returning_within e st s

  other_within : (b : Else) (st : Stacks) (s : State) → Within (length st.frames) s.ticks (m.other c marks b st s)
  other_within NoElse st s = full (length st.frames) s.ticks
  other_within (Otherwise b) st s = idle (length st.frames) s.ticks

  branching_within : (x : Stmt) (v : Value) (st : Stacks) (s : State) → Within (length st.frames) s.ticks (m.branching c marks x v st s)
  branching_within (t.If e a b) v st s = chosen (holds v) (length st.frames) s.ticks _ _ (idle (length st.frames) s.ticks) (other_within b st s)
  branching_within (t.Block objects xs) v st s = same_ticks s.ticks
  branching_within (t.Do e) v st s = same_ticks s.ticks
  branching_within (t.Init x zeros items) v st s = same_ticks s.ticks
  branching_within (t.Loop first e step b) v st s = same_ticks s.ticks
  branching_within t.Break v st s = same_ticks s.ticks
  branching_within t.Continue v st s = same_ticks s.ticks
  branching_within (t.Return e) v st s = same_ticks s.ticks

  testing_within : (x : Stmt) (v : Value) (st : Stacks) (s : State) → Within (length st.frames) s.ticks (m.testing c marks x v st s)
  testing_within (t.Loop first e step b) v st s = chosen (holds v) (length st.frames) s.ticks _ _ (turning_within (t.Loop first e step b) b st s) (full (length st.frames) s.ticks)
  testing_within (t.Block objects xs) v st s = same_ticks s.ticks
  testing_within (t.Do e) v st s = same_ticks s.ticks
  testing_within (t.Init x zeros items) v st s = same_ticks s.ticks
  testing_within (t.If e a b) v st s = same_ticks s.ticks
  testing_within t.Break v st s = same_ticks s.ticks
  testing_within t.Continue v st s = same_ticks s.ticks
  testing_within (t.Return e) v st s = same_ticks s.ticks

  testing_next_within : (x : Stmt) (st : Stacks) (s : State) → Within (length st.frames) s.ticks (m.testing_next c marks x st s)
  testing_next_within (t.Loop first e step b) st s = pushed (length st.frames) s.ticks
  testing_next_within (t.Block objects xs) st s = same_ticks s.ticks
  testing_next_within (t.Do e) st s = same_ticks s.ticks
  testing_next_within (t.Init x zeros items) st s = same_ticks s.ticks
  testing_next_within (t.If e a b) st s = same_ticks s.ticks
  testing_next_within t.Break st s = same_ticks s.ticks
  testing_next_within t.Continue st s = same_ticks s.ticks
  testing_next_within (t.Return e) st s = same_ticks s.ticks

  stepping_within : (step : MaybeExpr) (e : Expr) (x : Stmt) (st : Stacks) (s : State) → Within (length st.frames) s.ticks (m.stepping c marks step e x st s)
  stepping_within NoExpr e x st s = pushed (length st.frames) s.ticks
  stepping_within (TheExpr i) e x st s = pushed (length st.frames) s.ticks

  turned_within : (flow : Flow) (step : MaybeExpr) (e : Expr) (x : Stmt) (st : Stacks) (s : State) → Within (length st.frames) s.ticks (m.turned c marks flow step e x st s)
  turned_within Onward step e x st s = stepping_within step e x st s
  turned_within Continued step e x st s = stepping_within step e x st s
  turned_within Broke step e x st s = full (length st.frames) s.ticks
  turned_within (Returned v) step e x st s = full (length st.frames) s.ticks

  turn_ended_within : (x : Stmt) (flow : Flow) (st : Stacks) (s : State) → Within (length st.frames) s.ticks (m.turn_ended c marks x flow st s)
  turn_ended_within (t.Loop first e step b) flow st s = turned_within flow step e (t.Loop first e step b) st s
  turn_ended_within (t.Block objects xs) flow st s = same_ticks s.ticks
  turn_ended_within (t.Do e) flow st s = same_ticks s.ticks
  turn_ended_within (t.Init x zeros items) flow st s = same_ticks s.ticks
  turn_ended_within (t.If e a b) flow st s = same_ticks s.ticks
  turn_ended_within t.Break flow st s = same_ticks s.ticks
  turn_ended_within t.Continue flow st s = same_ticks s.ticks
  turn_ended_within (t.Return e) flow st s = same_ticks s.ticks

  listed_ended_within : (x : Stmt) (n : ℕ) (flow : Flow) (st : Stacks) (s : State) → Within (length st.frames) s.ticks (m.listed_ended c marks x n flow st s)
  listed_ended_within (t.Block objects xs) n Onward st s = listed_within (stmt_at (suc n) xs) objects (t.Block objects xs) (suc n) st s
  listed_ended_within (t.Block objects xs) n Broke st s = full (length st.frames) s.ticks
  listed_ended_within (t.Block objects xs) n Continued st s = full (length st.frames) s.ticks
  listed_ended_within (t.Block objects xs) n (Returned v) st s = full (length st.frames) s.ticks
  listed_ended_within (t.Do e) n flow st s = same_ticks s.ticks
  listed_ended_within (t.Init x zeros items) n flow st s = same_ticks s.ticks
  listed_ended_within (t.If e a b) n flow st s = same_ticks s.ticks
  listed_ended_within (t.Loop first e step b) n flow st s = same_ticks s.ticks
  listed_ended_within t.Break n flow st s = same_ticks s.ticks
  listed_ended_within t.Continue n flow st s = same_ticks s.ticks
  listed_ended_within (t.Return e) n flow st s = same_ticks s.ticks

  -- ---- frames

  given_within : (f : Frame) (v : Value) (st : Stacks) (s : State) → Within (length st.frames) s.ticks (m.given c marks f v st s)
  given_within (First (At span form)) v st s = first_within span form v st s
  given_within (Second e) v st s = second_of_within st.values e v st s
  given_within AsTruth v st s = full (length st.frames) s.ticks
  given_within (Argument (At span form) n) v st s = next_within span form (suc n) (with_value v st) s
  given_within Done v st s = full (length st.frames) s.ticks
  given_within (Item x n) v st s = next_item_within x (suc n) st s
  given_within (Branch x) v st s = branching_within x v st s
  given_within (Test x) v st s = testing_within x v st s
  given_within (Step x) v st s = testing_next_within x st s
  given_within GiveBack v st s = full (length st.frames) s.ticks
  given_within (Turn x) v st s = same_ticks s.ticks
  given_within (Listed x n) v st s = same_ticks s.ticks
  given_within (Leave params is_main used span base) v st s = same_ticks s.ticks

  told_within : (f : Frame) (flow : Flow) (st : Stacks) (s : State) → Within (length st.frames) s.ticks (m.told c marks f flow st s)
  told_within (Turn x) flow st s = turn_ended_within x flow st s
  told_within (Listed x n) flow st s = listed_ended_within x n flow st s
  told_within (Leave params is_main used span base) flow st s = giving_back_within is_main used span flow (record st { saved = take base st.saved }) (left params (drop base st.saved) s)
  told_within (First e) flow st s = same_ticks s.ticks
  told_within (Second e) flow st s = same_ticks s.ticks
  told_within AsTruth flow st s = same_ticks s.ticks
  told_within (Argument e n) flow st s = same_ticks s.ticks
  told_within Done flow st s = same_ticks s.ticks
  told_within (Item x n) flow st s = same_ticks s.ticks
  told_within (Branch x) flow st s = same_ticks s.ticks
  told_within (Test x) flow st s = same_ticks s.ticks
  told_within (Step x) flow st s = same_ticks s.ticks
  told_within GiveBack flow st s = same_ticks s.ticks

-- ---- steps

-- what is left after a step within a weight, where the run goes on with no more beginnings
falls : (c : Program) (marks : ℕ → ℕ) (depth n t b : ℕ) (next : Next) → Within n t next → beginnings (runs_on c marks depth next) ≤ b → left_in c marks depth next < 2 * b + (n + 2 * t + 1) + 2
falls c marks depth n t b (On control st s) h le = let a = h.0 in omega (arith, a, le)
falls c marks depth n t b (Over e s) h le = omega arith
falls c marks depth n t b (Library f span mark args st s) h le = let a = h.0 in omega (arith, a, le)

ticks_within : (n t : ℕ) (next : Next) → Within n t next → ticks_in next ≤ t
ticks_within n t (On control st s) h = h.1
ticks_within n t (Over e s) h = h
ticks_within n t (Library f span mark args st s) h = h.1

given_falls : (c : Program) (marks : ℕ → ℕ) (depth : ℕ) (v : Value) (fs : List Frame) (vs : List Value) (saved : List (Option ℕ)) (s : State) → s.ticks ≤ depth
    → left_in c marks depth (m.given_to c marks fs v (record { frames = fs; values = vs; saved = saved }) s) < left_in c marks depth (On (Give v) (record { frames = fs; values = vs; saved = saved }) s)
given_falls c marks depth v [] vs saved s le = omega arith
given_falls c marks depth v (g ∷ fs) vs saved s le =
    let st : Stacks = record { frames = fs; values = vs; saved = saved } in
    let e = ap beginnings (steps_agree c marks depth (Give v) (with_frame g st) s le) in
    let f = falls c marks depth (length fs) s.ticks (beginnings (runs_on c marks depth (m.given c marks g v st s))) (m.given c marks g v st s) (given_within c marks g v st s) (omega arith) in
    omega (arith, e, f)

told_falls : (c : Program) (marks : ℕ → ℕ) (depth : ℕ) (flow : Flow) (fs : List Frame) (vs : List Value) (saved : List (Option ℕ)) (s : State) → s.ticks ≤ depth
    → left_in c marks depth (m.told_to c marks fs flow (record { frames = fs; values = vs; saved = saved }) s) < left_in c marks depth (On (Went flow) (record { frames = fs; values = vs; saved = saved }) s)
told_falls c marks depth flow [] vs saved s le = omega arith
told_falls c marks depth flow (g ∷ fs) vs saved s le =
    let st : Stacks = record { frames = fs; values = vs; saved = saved } in
    let e = ap beginnings (steps_agree c marks depth (Went flow) (with_frame g st) s le) in
    let f = falls c marks depth (length fs) s.ticks (beginnings (runs_on c marks depth (m.told c marks g flow st s))) (m.told c marks g flow st s) (told_within c marks g flow st s) (omega arith) in
    omega (arith, e, f)

begun_falls : (c : Program) (marks : ℕ → ℕ) (depth : ℕ) (x : Stmt) (st : Stacks) (n : ℕ) (w : World) → n ≤ depth
    → left_in c marks depth (paying n (m.beginning c marks x st) (record { ticks = n; world = w })) < left_in c marks depth (On (Begin x) st (record { ticks = n; world = w }))
begun_falls c marks depth x st zero w le = omega arith
begun_falls c marks depth x st (suc n) w le =
    let s : State = record { ticks = n; world = w } in
    let e = ap beginnings (steps_agree c marks depth (Begin x) st (record { ticks = suc n; world = w }) le) in
    let f = falls c marks depth (length st.frames) n (beginnings (runs_on c marks depth (m.beginning c marks x st s))) (m.beginning c marks x st s) (beginning_within c marks x st s) (omega arith) in
    omega (arith, e, f)

pub steps_fall : StepsFall
steps_fall c marks depth (Eval (At span form)) st s le =
    let e = ap beginnings (steps_agree c marks depth (Eval (At span form)) st s le) in
    let f = falls c marks depth (length st.frames) s.ticks (beginnings (runs_on c marks depth (m.evaluating c marks span form st s))) (m.evaluating c marks span form st s) (evaluating_within c marks span form st s) (omega arith) in
    omega (arith, e, f)
steps_fall c marks depth (Give v) st s le = given_falls c marks depth v st.frames st.values st.saved s le
steps_fall c marks depth (Went flow) st s le = told_falls c marks depth flow st.frames st.values st.saved s le
steps_fall c marks depth (Begin x) st s le = begun_falls c marks depth x st s.ticks s.world le

given_ticks : (c : Program) (marks : ℕ → ℕ) (v : Value) (fs : List Frame) (st : Stacks) (s : State) → ticks_in (m.given_to c marks fs v st s) ≤ s.ticks
given_ticks c marks v [] st s = same_ticks s.ticks
given_ticks c marks v (g ∷ fs) st s = ticks_within (length fs) s.ticks (m.given c marks g v (record st { frames = fs }) s) (given_within c marks g v (record st { frames = fs }) s)

told_ticks : (c : Program) (marks : ℕ → ℕ) (flow : Flow) (fs : List Frame) (st : Stacks) (s : State) → ticks_in (m.told_to c marks fs flow st s) ≤ s.ticks
told_ticks c marks flow [] st s = same_ticks s.ticks
told_ticks c marks flow (g ∷ fs) st s = ticks_within (length fs) s.ticks (m.told c marks g flow (record st { frames = fs }) s) (told_within c marks g flow (record st { frames = fs }) s)

begun_ticks : (c : Program) (marks : ℕ → ℕ) (x : Stmt) (st : Stacks) (n : ℕ) (s : State) → n ≡ s.ticks → ticks_in (paying n (m.beginning c marks x st) s) ≤ s.ticks
begun_ticks c marks x st zero s e = same_ticks s.ticks
begun_ticks c marks x st (suc n) s e =
    let h = ticks_within (length st.frames) n (m.beginning c marks x st (record s { ticks = n })) (beginning_within c marks x st (record s { ticks = n })) in
    omega (arith, h, e)

pub ticks_fall : TicksFall
ticks_fall c marks (Eval (At span form)) st s = ticks_within (length st.frames) s.ticks (m.evaluating c marks span form st s) (evaluating_within c marks span form st s)
ticks_fall c marks (Give v) st s = given_ticks c marks v st.frames st s
ticks_fall c marks (Went flow) st s = told_ticks c marks flow st.frames st s
ticks_fall c marks (Begin x) st s = begun_ticks c marks x st s.ticks s refl
