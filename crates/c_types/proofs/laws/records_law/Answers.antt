use Rattle.c_types.proofs.Recording.{empty_has_types, records_stay, record_declared, record_finished, members_are_seen, names_are_seen}
use Rattle.c_types.proofs.laws.records_law.Goals as goal

pub returns : goal.returns
returns c = record { empty = empty_has_types; stay = records_stay; declared = record_declared; finished = record_finished; members = members_are_seen; names = names_are_seen }
