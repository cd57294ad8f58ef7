use Rattle.c_parts.proofs.Listed.{specs_same}
use Rattle.c_parts.proofs.specifier.all_specs.Goals as goal

pub returns : goal.returns
returns c = specs_same c.args.specs
