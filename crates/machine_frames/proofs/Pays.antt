-- A tick that is paid.
use Rattle.std.proofs.Common.{◌≡◌, ℕ, zero, suc, ◌-◌, ◌<◌, refl, arith}
use Rattle.c_core.specs.declared.values.End.TheVariants.{Spent}
use Rattle.c_meaning.specs.World.{State}
use Rattle.machine_steps.specs.Frames.{Next, Over}
use Rattle.machine_steps.specs.Steps.{paying}

pub paid_on : (n : ℕ) (go : State → Next) (s : State) → 0 < n → paying n go s ≡ go (record s { ticks = n - 1 })
paid_on zero go s h = absurd (omega arith)
paid_on (suc n) go s h = let e : suc n - 1 ≡ n = omega arith in rw e refl

pub spent_on : (n : ℕ) (go : State → Next) (s : State) → n ≡ 0 → paying n go s ≡ Over Spent s
spent_on n go s e = rw e refl
