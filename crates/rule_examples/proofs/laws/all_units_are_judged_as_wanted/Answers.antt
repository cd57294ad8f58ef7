use Rattle.rule_examples.proofs.Computed.{kept1_law, kept2_law, brokennames_law, brokendeclarations_law, brokenoperators_law, brokenuses_law, documented_law}
use Rattle.rule_examples.proofs.laws.all_units_are_judged_as_wanted.Goals as goal

pub returns : goal.returns
returns c = record { kept_1 = kept1_law; kept_2 = kept2_law; broken_names = brokennames_law; broken_declarations = brokendeclarations_law; broken_operators = brokenoperators_law; broken_uses = brokenuses_law; documented = documented_law }
