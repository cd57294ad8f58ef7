use Rattle.std.proofs.Common.{sym, ◌∙◌}
use Rattle.machine_values.proofs.Outcomes.{ok_outcome, err_outcome}
use Rattle.machine_values.proofs.numbers.shift.Goals as goal

pub returns-in-Ok : goal.returns-in-Ok
returns-in-Ok c = rw (← c.number_in.ensures, ← c.number_in-2.ensures) (sym (ok_outcome _ _ c.in-Ok.number (sym c.shift.ensures ∙ c.in-Ok.is)))

pub returns-in-Err : goal.returns-in-Err
returns-in-Err c = rw (← c.number_in.ensures, ← c.number_in-2.ensures, c.reason_of.ensures) (sym (err_outcome _ _ c.in-Err.cause (sym c.shift.ensures ∙ c.in-Err.is)))
