use Rattle.machine_expressions.proofs.Integers.{ok_then}
use Rattle.machine_statements.proofs.initial.next_item.Goals as goal

pub returns-in-Init-clause-run : goal.returns-in-Init-clause-run
returns-in-Init-clause-run c =
    ok_then c.item_or_end.result c.item_or_end.ensures.run (λ t h p marks r s. rw (c.in-Init.is) (rw (c.in-Init.is, c.as_slice.ensures) at (h p marks r s)))
