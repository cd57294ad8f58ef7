-- Which pointers the stacks hold: into blocks that were given, by the sizes of the blocks.
use Rattle.std.specs.Prelude.{ℕ, List, [], ◌∷◌, Option, Some, None}
use Rattle.c_core.specs.declared.values.Pointer.TheVariants.{Object}
use Rattle.c_core.specs.declared.values.Value.{Value}
use Rattle.c_meaning.specs.declared.log.Flow.{Flow}
use Rattle.c_meaning.specs.declared.log.Flow.TheVariants.{Returned}
use Rattle.block_memory.specs.Given.{IsGiven, IsGivenValue}
use Rattle.machine_frames.specs.declared.frames.Control.{Control}
use Rattle.machine_frames.specs.declared.frames.Control.TheVariants.{Give, Went}
use Rattle.machine_frames.specs.declared.frames.Turned.{Turned}
use Rattle.machine_frames.specs.declared.frames.Turned.TheVariants.{On, Close, Leave}

abbrev pub AreGivenValues : (sizes : List ℕ) → List Value → Type 0
AreGivenValues sizes [] = Unit {0}
AreGivenValues sizes (v ∷ vs) = IsGivenValue sizes v × AreGivenValues sizes vs

-- the blocks of locals; one that was not made has none
abbrev pub AreGivenLocals : (sizes : List ℕ) → List (Option ℕ) → Type 0
AreGivenLocals sizes [] = Unit {0}
AreGivenLocals sizes (None ∷ locals) = AreGivenLocals sizes locals
AreGivenLocals sizes (Some n ∷ locals) = IsGiven sizes (Object n 0) × AreGivenLocals sizes locals

abbrev pub IsGivenFlow : (sizes : List ℕ) → Flow → Type 0
IsGivenFlow sizes (Returned (Some v)) = IsGivenValue sizes v
IsGivenFlow sizes flow = Unit {0}

-- the value that is on its way
abbrev pub IsGivenControl : (sizes : List ℕ) → Control → Type 0
IsGivenControl sizes (Give v) = IsGivenValue sizes v
IsGivenControl sizes (Went flow) = IsGivenFlow sizes flow
IsGivenControl sizes control = Unit {0}

abbrev pub IsGivenTurned : (sizes : List ℕ) → Turned → Type 0
IsGivenTurned sizes (On control) = IsGivenControl sizes control
IsGivenTurned sizes (Close objects flow) = IsGivenFlow sizes flow
IsGivenTurned sizes (Leave x flow) = IsGivenFlow sizes flow
IsGivenTurned sizes turned = Unit {0}
