use Rattle.std.proofs.Common.{ap}
use Rattle.c_meaning.specs.Storage as storage
use Rattle.machine_expressions.proofs.whole.local_address.Goals as goal

pub returns-in-Some-clause-value : goal.returns-in-Some-clause-value
returns-in-Some-clause-value c = λ bs. ap storage.local_address (c.in-Some.ensures.block bs)

pub returns-in-None-clause-value : goal.returns-in-None-clause-value
returns-in-None-clause-value c = λ bs. ap storage.local_address (c.in-None.ensures.block bs)
