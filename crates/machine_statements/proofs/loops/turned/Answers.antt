use Rattle.machine_expressions.proofs.Integers.{ok_then}
use Rattle.machine_statements.proofs.loops.turned.Goals as goal

pub returns-in-Next-clause-run : goal.returns-in-Next-clause-run
returns-in-Next-clause-run c = ok_then c.stepping.result c.stepping.ensures.run (λ t h p marks r s. rw (c.in-Next.is) (h p marks r s))

pub returns-in-Continued-clause-run : goal.returns-in-Continued-clause-run
returns-in-Continued-clause-run c =
    ok_then c.stepping-in-Continued.result c.stepping-in-Continued.ensures.run (λ t h p marks r s. rw (c.in-Continued.is) (h p marks r s))
