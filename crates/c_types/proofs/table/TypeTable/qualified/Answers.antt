use Rattle.std.proofs.lemmas.Nat.{or_lt}
use Rattle.c_types.proofs.Qualifying.{joined_some}
use Rattle.c_types.proofs.table.TypeTable.qualified.Goals as goal

pub with_qualifiers-requires-clause-roots : goal.with_qualifiers-requires-clause-roots
with_qualifiers-requires-clause-roots c =
    let roots = rw c.in-Qualified.is at c.root_term.ensures.roots in
    (roots.0, joined_some c.args.qualifiers c.in-Qualified.present roots.1, roots.2)

pub with_qualifiers-requires-clause-small : goal.with_qualifiers-requires-clause-small
with_qualifiers-requires-clause-small c =
    let numbers = rw c.in-Qualified.is at c.root_term.ensures.numbers in
    or_lt 3 c.args.qualifiers c.in-Qualified.present c.requires.small numbers
