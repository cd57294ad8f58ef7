use Rattle.machine_expressions.proofs.Integers.{ok_then}
use Rattle.machine_statements.proofs.loops.tested.Goals as goal

pub returns-then-holds-clause-run : goal.returns-then-holds-clause-run
returns-then-holds-clause-run c =
    ok_then c.turning.result c.turning.ensures.run (λ t h p marks bs. rw (← c.holds.ensures, c.if-holds.true) (h p marks bs))
