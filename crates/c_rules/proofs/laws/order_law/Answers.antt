use Rattle.c_rules.proofs.Units.{trials_in_order}
use Rattle.c_rules.proofs.laws.order_law.Goals as goal

pub returns : goal.returns
returns c = trials_in_order
