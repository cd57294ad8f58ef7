use Rattle.machine_steps.proofs.Measure as lemmas
use Rattle.machine_steps.proofs.laws.steps_fall.Goals as goal

pub returns-clause-less : goal.returns-clause-less
returns-clause-less c = lemmas.steps_fall

pub returns-clause-ticks : goal.returns-clause-ticks
returns-clause-ticks c = lemmas.ticks_fall
