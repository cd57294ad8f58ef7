-- How many blocks a memory has after an answer.
use Rattle.std.specs.Prelude.{ℕ, ◌+◌}
use Rattle.memory_checks.specs.declared.call.Answer.{Answer}
use Rattle.memory_checks.specs.declared.call.Answer.TheVariants.{Placed}

abbrev pub counted : ℕ → Answer → ℕ
counted count (Placed number) = count + 1
counted count answer = count
