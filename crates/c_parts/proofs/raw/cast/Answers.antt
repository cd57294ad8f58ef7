use Rattle.c_parts.proofs.Listed.{made_cast}
use Rattle.c_parts.proofs.raw.cast.Goals as goal

pub returns : goal.returns
returns c = made_cast c.args.at c.args.ty c.args.a
