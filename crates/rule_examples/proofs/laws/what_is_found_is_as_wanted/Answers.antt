use Rattle.rule_examples.proofs.Computed.{mains_law, bound_law, noted_law}
use Rattle.rule_examples.proofs.laws.what_is_found_is_as_wanted.Goals as goal

pub returns : goal.returns
returns c = record { mains = mains_law; bound = bound_law; noted = noted_law }
