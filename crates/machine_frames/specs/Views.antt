-- What of the machine the stacks and the state in memory are.
use Rattle.std.specs.Prelude.{ℕ, suc, Bool, true, false, List, [], ◌∷◌, take, drop, length, Some, None, slice_get}
use Rattle.c_core.specs.declared.values.Value.{Value}
use Rattle.c_core.specs.Blocks.{Blocks}
use Rattle.c_core.specs.Tree.{Expr, Stmt}
use Rattle.c_core.specs.Library.{library_functions}
use Rattle.c_core.specs.View.{expr_of, stmt_of}
use Rattle.c_meaning.specs.declared.log.LogEntry.{LogEntry}
use Rattle.c_meaning.specs.declared.log.LogEntry.TheVariants.{Grant, Refuse, Release}
use Rattle.c_meaning.specs.declared.log.Flow.TheVariants.{Next as Onward}
use Rattle.c_meaning.specs.World.{State, end_locals}
use Rattle.machine_steps.specs.Frames as m
use Rattle.machine_steps.specs.Frames.{topmost, below}
use Rattle.machine_steps.specs.Steps.{entering, from_made, made_locals, giving_back, left}
use Rattle.machine_frames.specs.declared.frames.Control.{Control}
use Rattle.machine_frames.specs.declared.frames.Control.TheVariants.{Eval, Give, Begin, Went}
use Rattle.machine_frames.specs.declared.frames.Frame.{Frame}
use Rattle.machine_frames.specs.declared.frames.Frame.TheVariants.{OfExpr, OfStmt, AsTruth, Done, GiveBack, Leave}
use Rattle.machine_frames.specs.declared.frames.ExprWait.{ExprWait}
use Rattle.machine_frames.specs.declared.frames.ExprWait.TheVariants as expr
use Rattle.machine_frames.specs.declared.frames.StmtWait.{StmtWait}
use Rattle.machine_frames.specs.declared.frames.StmtWait.TheVariants as stmt
use Rattle.machine_frames.specs.declared.frames.Turned.{Turned}
use Rattle.machine_frames.specs.declared.frames.Turned.TheVariants as turned
use Rattle.machine_frames.specs.declared.state.Rest.{Rest}

abbrev pub control_of : Control → m.Control
control_of (Eval e) = m.Eval (expr_of e.now)
control_of (Give v) = m.Give v
control_of (Begin x) = m.Begin (stmt_of x.now)
control_of (Went flow) = m.Went flow

abbrev pub expr_frame : Expr → ExprWait → m.Frame
expr_frame e expr.First = m.First e
expr_frame e expr.Second = m.Second e
expr_frame e (expr.Argument n) = m.Argument e n

abbrev pub stmt_frame : Stmt → StmtWait → m.Frame
stmt_frame x (stmt.Item n) = m.Item x n
stmt_frame x stmt.Branch = m.Branch x
stmt_frame x stmt.Test = m.Test x
stmt_frame x stmt.Turn = m.Turn x
stmt_frame x stmt.Step = m.Step x
stmt_frame x (stmt.Listed n) = m.Listed x n

abbrev pub frame_of : Frame → m.Frame
frame_of (OfExpr e wait) = expr_frame (expr_of e.now) wait
frame_of (OfStmt x wait) = stmt_frame (stmt_of x.now) wait
frame_of AsTruth = m.AsTruth
frame_of Done = m.Done
frame_of GiveBack = m.GiveBack
frame_of (Leave l) = m.Leave l.params.now l.is_main l.used l.span l.base

-- the stacks in memory grow at their ends; the topmost element is the first one here
abbrev pub topmost_first : {A B : Type 0} → (A → B) → List B → List A → List B
topmost_first f done [] = done
topmost_first f done (x ∷ xs) = topmost_first f (f x ∷ done) xs

abbrev pub frames_of : List Frame → List m.Frame
frames_of fs = topmost_first frame_of [] fs

abbrev pub values_of : List Value → List Value
values_of vs = topmost_first (λ v. v) [] vs

abbrev pub stacks_of : List Frame → List Value → Rest → m.Stacks
stacks_of fs vs r = record { frames = frames_of fs; values = values_of vs; saved = take r.base r.locals.items }

-- the numbers of the requests that were granted
abbrev pub grants_from : ℕ → List LogEntry → List ℕ
grants_from n [] = []
grants_from n (Grant t s p ∷ log) = n ∷ grants_from (suc n) log
grants_from n (Refuse t s ∷ log) = grants_from (suc n) log
grants_from n (Release t p ∷ log) = grants_from (suc n) log

abbrev pub state_of : Blocks → Rest → State
state_of bs r = record {
  ticks = r.ticks;
  world = record {
    blocks = bs;
    grants = grants_from 0 r.log.items;
    locals = drop r.base r.locals.items;
    input = drop r.read r.input.items;
    output = r.output.items;
    room = r.room;
    asked = length r.log.items;
  };
}

-- without the arguments of a call, and the called value below them where it is made through one
abbrev pub without_called : (through : Bool) → List Value → List Value
without_called true vs = below 1 vs
without_called false vs = vs

abbrev pub behind_call : (through : Bool) → (args : ℕ) → m.Stacks → m.Stacks
behind_call through args st = record st { values = without_called through (below args st.values) }

-- the objects of a block die
abbrev pub closed : List (ℕ × ℕ) → State → State
closed objects s = record s { world = end_locals objects s.world }

-- what a step led to; the arguments of a call are the topmost values
abbrev pub next_of : Turned → m.Stacks → State → m.Next
next_of (turned.On control) st s = m.On (control_of control) st s
next_of (turned.Over e) st s = m.Over e s
next_of (turned.Library x) st s = m.Library (slice_get library_functions x.function) x.span x.mark (topmost x.args st.values) (behind_call x.through x.args st) s
next_of (turned.Enter x) st s = entering (stmt_of x.body.now) x.is_main x.params.now (topmost x.args st.values) x.used x.span (behind_call x.through x.args st) s
next_of (turned.Open objects (Some x)) st s = from_made (made_locals objects.now s) (m.On (m.Begin (stmt_of x.now)) st)
next_of (turned.Open objects None) st s = from_made (made_locals objects.now s) (λ s. m.On (m.Went Onward) st (closed objects.now s))
next_of (turned.Close objects flow) st s = m.On (m.Went flow) st (closed objects.now s)
next_of (turned.Leave x flow) st s = giving_back x.is_main x.used x.span flow (record st { saved = take x.base st.saved }) (left x.params.now (drop x.base st.saved) s)
