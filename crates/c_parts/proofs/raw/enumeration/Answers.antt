use Rattle.c_parts.proofs.Listed.{made_enum}
use Rattle.c_parts.proofs.raw.enumeration.Goals as goal

pub returns : goal.returns
returns c = made_enum c.enumeration.result c.args.at c.args.tag c.enumerator_list.result c.args.list c.args.has_comma c.enumeration.ensures c.enumerator_list.ensures
