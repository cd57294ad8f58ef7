use Rattle.std.proofs.Common.{sym}
use Rattle.c_types.specs.Table.{type_at}
use Rattle.c_world.proofs.Numbering.{offset_missing, offset_found}
use Rattle.c_world.proofs.state.World.offset_of.Goals as goal

pub returns-in-None : goal.returns-in-None
returns-in-None c = offset_missing c.args.self.now (type_at c.args.self.now.table.terms c.args.id.0) c.args.name.now (sym c.in-None.ensures.is)

pub returns-in-Some : goal.returns-in-Some
returns-in-Some c = rw (← offset_found c.args.self.now (type_at c.args.self.now.table.terms c.args.id.0) c.args.name.now c.in-Some.place (sym c.in-Some.ensures.is)) c.offset_at.ensures
