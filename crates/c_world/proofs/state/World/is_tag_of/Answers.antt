use Rattle.std.proofs.Common.{◌∙◌}
use Rattle.c_world.proofs.Numbering.{map_none, sort_found}
use Rattle.c_world.proofs.state.World.is_tag_of.Goals as goal

pub returns-in-None : goal.returns-in-None
returns-in-None c = rw (map_none _ _ c.in-None.ensures.is)

pub returns-in-Some : goal.returns-in-Some
returns-in-Some c = c.is_same_sort.ensures ∙ sort_found _ _ _ c.in-Some.ensures.is
