use Rattle.alloctoken.specs.Exit as exit
use Rattle.alloctoken.proofs.exit.exit_code.Goals as goal

pub returns-in-Ok : goal.returns-in-Ok
returns-in-Ok g c = exit.ran c.in-Ok.words c.alloctoken_main.result c.in-Ok.ensures c.alloctoken_main.ensures.runs c.exit_of.ensures
