use Rattle.machine_expressions.proofs.Integers.{ok_then}
use Rattle.machine_statements.proofs.loops.looping.Goals as goal

pub returns-else-test_first-clause-run : goal.returns-else-test_first-clause-run
returns-else-test_first-clause-run c = ok_then c.turning.result c.turning.ensures.run (λ t h p marks bs. rw (c.if-test_first.false) (h p marks bs))
