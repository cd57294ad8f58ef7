use Rattle.c_parts.proofs.Listed.{made_enum_tag}
use Rattle.c_parts.proofs.specifier.enum_tag.Goals as goal

pub returns : goal.returns
returns c = made_enum_tag c.enumeration.result c.args.at c.args.tag c.enumeration.ensures
