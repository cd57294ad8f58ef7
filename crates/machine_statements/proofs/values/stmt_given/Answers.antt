use Rattle.machine_frames.specs.Views.{state_of}
use Rattle.machine_expressions.proofs.Integers.{ok_then}
use Rattle.machine_statements.proofs.values.stmt_given.Goals as goal

pub returns-in-Test-clause-run : goal.returns-in-Test-clause-run
returns-in-Test-clause-run c = ok_then c.testing.result c.testing.ensures.run (λ t h p marks bs. rw (c.in-Test.is) (h p marks bs))

pub returns-in-Step-clause-run : goal.returns-in-Step-clause-run
returns-in-Step-clause-run c =
    ok_then c.testing_next.result c.testing_next.ensures.run (λ t h p marks bs. rw (c.in-Step.is) (h p marks c.args.rest.now (state_of bs c.args.rest.now)))
