use Rattle.lower_rules.proofs.FixedSorts as lemmas
use Rattle.lower_rules.proofs.laws.every_core_is_well_formed.Goals as goal

pub returns : goal.returns
returns c = record { any = lemmas.cores_good; own = lemmas.core_of_good }
