use Rattle.std.proofs.Common.{ap, ◌∙◌}
use Rattle.c_world.proofs.Numbering.{open_enum_is, open_by}
use Rattle.c_world.proofs.state.World.is_open_enum.Goals as goal

pub returns-in-None : goal.returns-in-None
returns-in-None c = ap open_by c.in-None.ensures.value ∙ rw (← c.self.view_is) (open_enum_is _ c.args.number c.self.invariant.enums)

pub returns-in-Some : goal.returns-in-Some
returns-in-Some c = ap open_by c.in-Some.ensures.value ∙ rw (← c.self.view_is) (open_enum_is _ c.args.number c.self.invariant.enums)
