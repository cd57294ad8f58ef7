use Rattle.std.proofs.Common.{◌-◌, arith, sym}
use Rattle.machine_state.specs.State.{state_in}
use Rattle.machine_objects.proofs.Making.{made_whole}
use Rattle.machine_objects.proofs.locals.make_local.Goals as goal

pub returns-clause-run : goal.returns-clause-run
returns-clause-run g c =
    let r = c.args.ledger.now.rest in
    made_whole (g.M.Memory.blocks c.args.memory.now) r c.take_room.new.rest (state_in (g.M.Memory.blocks c.new_local.new.memory) c.new_local.new.ledger) c.args.local c.args.size (r.ticks - 1)
    (omega arith) (sym c.if-not-take_room.ensures.result) c.take_room.ensures.rest c.in_ok-new_local.ensures.run
