use Rattle.std.proofs.Common.{refl}
use Rattle.c_types.proofs.Shaping.{shape_behind_is}
use Rattle.c_types.proofs.table.TypeTable.shape_behind.Goals as goal

pub returns : goal.returns
returns c = shape_behind_is c.args.self.now.terms c.args.term.now c.args.root.0 c.shape.result _ c.requires.root c.requires.canonical c.shape.ensures refl refl
    c.plain_of-qualifiers.ensures.below c.plain_of-qualifiers.ensures.plain c.plain_of-qualifiers.ensures.qualifiers c.plain_of-qualifiers.ensures.small
