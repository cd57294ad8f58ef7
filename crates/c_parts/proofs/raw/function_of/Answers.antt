use Rattle.c_parts.proofs.Listed.{made_function}
use Rattle.c_parts.proofs.raw.function_of.Goals as goal

pub returns : goal.returns
returns c = made_function c.args.at c.args.d c.args.params
