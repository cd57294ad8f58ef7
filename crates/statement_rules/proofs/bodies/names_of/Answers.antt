use Rattle.statement_rules.proofs.Names.{names_first}
use Rattle.statement_rules.proofs.bodies.names_of.Goals as goal

pub returns-in-Some-clause-are : goal.returns-in-Some-clause-are
returns-in-Some-clause-are c = λ ts.
    names_first ts c.in-Some.layer.now c.args.laid.now.layers _ (rw c.as_slice.ensures at c.in-Some.ensures.value) (c.names_in.ensures.are ts)
