use Rattle.c_parts.proofs.Listed.{defined}
use Rattle.c_parts.proofs.raw.defines.Goals as goal

pub returns : goal.returns
returns c = defined c.args.at c.args.specs c.args.declarator c.args.body_at c.args.items
