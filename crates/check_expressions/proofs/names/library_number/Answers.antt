use Rattle.std.proofs.Common.{◌∙◌}
use Rattle.c_rules.specs.Names.{library}
use Rattle.check_expressions.proofs.Places.{number_is}
use Rattle.check_expressions.proofs.names.library_number.Goals as goal

pub returns : goal.returns
unfolding library
returns c = c.place_in.ensures ∙ number_is 0 c.args.name.now library
