use Rattle.meaning_laws.proofs.Sound as sound
use Rattle.meaning_laws.proofs.laws.run_exists.Goals as goal

pub returns : goal.returns
returns c = sound.run_exists
