use Rattle.c_parts.proofs.Listed.{made_braces}
use Rattle.c_parts.proofs.raw.braces.Goals as goal

pub returns : goal.returns
returns c = made_braces c.braces.result c.args.at c.args.list c.args.has_comma c.braces.ensures
