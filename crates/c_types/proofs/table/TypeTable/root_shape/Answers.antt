use Rattle.c_types.proofs.Keeping.{root_term_below}
use Rattle.c_types.proofs.Shaping.{root_shape_is}
use Rattle.c_types.proofs.table.TypeTable.root_shape.Goals as goal

pub plain_of-qualifiers-requires-clause-parts : goal.plain_of-qualifiers-requires-clause-parts
plain_of-qualifiers-requires-clause-parts c = root_term_below c.args.self.now.terms c.args.term.now c.requires.roots

pub returns : goal.returns
returns c = root_shape_is c.args.self.now.terms c.args.term.now c.args.ints _ c.requires.new c.requires.other c.requires.own c.len.ensures c.unwrap_or-ints.ensures
    c.plain_of-qualifiers.ensures.below c.plain_of-qualifiers.ensures.plain c.plain_of-qualifiers.ensures.qualifiers c.plain_of-qualifiers.ensures.small
