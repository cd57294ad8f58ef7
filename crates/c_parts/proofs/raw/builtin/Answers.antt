use Rattle.c_parts.proofs.Listed.{called_builtin}
use Rattle.c_parts.proofs.raw.builtin.Goals as goal

pub returns : goal.returns
returns c = called_builtin c.builtin.result c.args.at c.args.args c.builtin.ensures
