use Rattle.lower_rules.proofs.ValueSorts as lemmas
use Rattle.lower_rules.proofs.laws.every_expression_gives_what_it_says.Goals as goal

pub returns : goal.returns
returns c = record { values = λ p n scope there used e. lemmas.value_good p n scope there used e; places = λ p n scope there e. lemmas.place_good p n scope there e }
