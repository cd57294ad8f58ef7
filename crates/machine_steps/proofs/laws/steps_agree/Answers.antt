use Rattle.machine_steps.proofs.Steps as lemmas
use Rattle.machine_steps.proofs.laws.steps_agree.Goals as goal

pub returns-clause-step : goal.returns-clause-step
returns-clause-step c = lemmas.steps_agree

pub returns-clause-start : goal.returns-clause-start
returns-clause-start c = lemmas.starts_agree
