use Rattle.c_parts.proofs.Listed.{made_sizeof_type}
use Rattle.c_parts.proofs.raw.sizeof_type.Goals as goal

pub returns : goal.returns
returns c = made_sizeof_type c.args.at c.args.ty
