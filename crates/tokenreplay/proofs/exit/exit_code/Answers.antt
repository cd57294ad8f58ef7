use Rattle.tokenreplay.specs.Exit as exit
use Rattle.tokenreplay.proofs.exit.exit_code.Goals as goal

pub returns-in-Ok : goal.returns-in-Ok
returns-in-Ok g c = exit.ran c.in-Ok.words c.replay_main.result c.in-Ok.ensures c.replay_main.ensures.runs c.exit_of.ensures
