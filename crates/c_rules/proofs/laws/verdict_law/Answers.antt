use Rattle.c_rules.proofs.Verdicts.{fine_is_all_kept, all_kept_is_fine, broke_is_first, first_is_broke}
use Rattle.c_rules.proofs.laws.verdict_law.Goals as goal

pub returns : goal.returns
returns c = record { kept = fine_is_all_kept; fine = all_kept_is_fine; first = broke_is_first; broke = first_is_broke }
