use Rattle.c_world.proofs.Numbering.{map_none, map_some, number_there}
use Rattle.c_world.proofs.Growth.{extends_self}
use Rattle.c_world.proofs.state.World.record_number.Goals as goal

pub returns-in-Some-clause-is : goal.returns-in-Some-clause-is
returns-in-Some-clause-is c = number_there _ _ _ c.in-Some.ensures.is

pub returns-in-Some-clause-seen : goal.returns-in-Some-clause-seen
returns-in-Some-clause-seen c = rw (map_some _ _ _ c.in-Some.ensures.is)

pub returns-in-Some-clause-extends : goal.returns-in-Some-clause-extends
returns-in-Some-clause-extends c = extends_self _

pub returns-in-None-clause-is : goal.returns-in-None-clause-is
returns-in-None-clause-is c = rw (map_none _ _ c.in-None.ensures.is) c.new_record.ensures.is

pub returns-in-None-clause-seen : goal.returns-in-None-clause-seen
returns-in-None-clause-seen c = rw (map_none _ _ c.in-None.ensures.is) c.new_record.ensures.seen
