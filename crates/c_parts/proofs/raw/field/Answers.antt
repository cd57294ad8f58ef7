use Rattle.c_parts.proofs.Listed.{made_field}
use Rattle.c_parts.proofs.raw.field.Goals as goal

pub returns : goal.returns
returns c = made_field c.args.at c.args.specs c.args.declarators
