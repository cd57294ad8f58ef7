use Rattle.machine_log.proofs.Reached as lemmas
use Rattle.machine_log.proofs.laws.runs_begin.Goals as goal

pub returns : goal.returns
returns c = lemmas.runs_begin
