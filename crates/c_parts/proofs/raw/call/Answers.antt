use Rattle.c_parts.proofs.Listed.{called}
use Rattle.c_parts.proofs.raw.call.Goals as goal

pub returns : goal.returns
returns c = called c.args.at c.args.f c.args.args
