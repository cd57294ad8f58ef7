-- That the machine does what the meaning says.
use Rattle.std.specs.Prelude.{◌≡◌, ℕ, ◌≤◌, List}
use Rattle.c_core.specs.Tree.{Program}
use Rattle.c_meaning.specs.Run.{Run, Begins}
use Rattle.c_meaning.specs.World.{State}
use Rattle.c_meaning.specs.Meaning.{run_of}
use Rattle.machine_steps.specs.Frames.{Control, Eval, Give, Begin, Went, Stacks, On}
use Rattle.machine_steps.specs.Steps.{step, first_step}
use Rattle.machine_steps.specs.Rests.{runs_on}

-- what one step of the machine does of a run: it begins an expression, or nothing that is seen
abbrev pub stepped : Control → Run → Run
stepped (Eval e) r = Begins r
stepped (Give v) r = r
stepped (Begin x) r = r
stepped (Went flow) r = r

-- the run from here on is what a step does, and the run from there on
abbrev pub StepsAgree : Type 0
StepsAgree =
    (c : Program) (marks : ℕ → ℕ) (depth : ℕ) (control : Control) (st : Stacks) (s : State) → s.ticks ≤ depth
    → runs_on c marks depth (On control st s) ≡ stepped control (runs_on c marks depth (step c marks control st s))

-- the whole run is that from the first step on
abbrev pub StartsAgree : Type 0
StartsAgree = (c : Program) (marks : ℕ → ℕ) (input : List ℕ) (ticks : ℕ) → run_of c marks input ticks ≡ runs_on c marks ticks (first_step c marks input ticks)
