use Rattle.tag_rules.proofs.Numbers.{numbers_count}
use Rattle.tag_rules.proofs.Trees.{tree_kept}
use Rattle.tag_rules.proofs.laws.numbers_law.Goals as goal

pub returns : goal.returns
returns c = record { numbers = numbers_count; kept = tree_kept }
