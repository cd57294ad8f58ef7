-- That the machine comes to an end: what is left to do becomes less with each step.
use Rattle.std.specs.Prelude.{ℕ, suc, ◌+◌, ◌*◌, ◌<◌, ◌≤◌, max, true, false, length}
use Rattle.c_core.specs.Tree.{Program}
use Rattle.c_meaning.specs.Run.{Run, Ended, Asks, Frees, Begins}
use Rattle.c_meaning.specs.World.{State}
use Rattle.machine_steps.specs.Frames.{Control, Eval, Give, Begin, Went, Stacks, Next, On, Over, Library}
use Rattle.machine_steps.specs.Steps.{step}
use Rattle.machine_steps.specs.Rests.{runs_on}

-- the most expressions that a run still begins, whatever it is answered
abbrev pub beginnings : Run → ℕ
beginnings (Ended output end) = 0
beginnings (Asks label size align go) = max (beginnings (go true)) (beginnings (go false))
beginnings (Frees j r) = beginnings r
beginnings (Begins r) = suc (beginnings r)

-- a value, or the end of a statement, that what waits is given
abbrev pub busy : Control → ℕ
busy (Eval e) = 0
busy (Give v) = 1
busy (Begin x) = 0
busy (Went flow) = 1

-- what is on the stacks and can be paid
abbrev pub weight : Stacks → State → ℕ
weight st s = length st.frames + 2 * s.ticks

-- what is left to do: an expression that begins counts twice, a tick twice, a frame once
abbrev pub left_in : Program → (marks : ℕ → ℕ) → (depth : ℕ) → Next → ℕ
left_in c marks depth (On control st s) = 2 * beginnings (runs_on c marks depth (On control st s)) + (weight st s + busy control) + 1
left_in c marks depth (Over e s) = 0
left_in c marks depth (Library f span m args st s) = 2 * beginnings (runs_on c marks depth (Library f span m args st s)) + (weight st s + 1) + 1

-- the ticks that are left
abbrev pub ticks_in : Next → ℕ
ticks_in (On control st s) = s.ticks
ticks_in (Over e s) = s.ticks
ticks_in (Library f span m args st s) = s.ticks

abbrev pub StepsFall : Type 0
StepsFall =
    (c : Program) (marks : ℕ → ℕ) (depth : ℕ) (control : Control) (st : Stacks) (s : State) → s.ticks ≤ depth
    → left_in c marks depth (step c marks control st s) < left_in c marks depth (On control st s)

-- no step makes ticks
abbrev pub TicksFall : Type 0
TicksFall = (c : Program) (marks : ℕ → ℕ) (control : Control) (st : Stacks) (s : State) → ticks_in (step c marks control st s) ≤ s.ticks
