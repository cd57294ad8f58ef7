use Rattle.std.proofs.Common.{ℕ, ◌<◌}
use Rattle.c_types.specs.Table.{AllBelow}
use Rattle.type_checks.proofs.make.so_many.Given as goal

abbrev pub invariant-loop : goal.invariant-loop
invariant-loop l = (n : ℕ) → l.id.0 < n → AllBelow n l.ids
