use Rattle.c_meaning.specs.World.{without_local, local_block}
use Rattle.range_heap.specs.Blocks.{rounded}
use Rattle.machine_state.specs.State.{state_in}
use Rattle.machine_objects.proofs.Dying.{given_state}
use Rattle.machine_objects.proofs.ending.end_local.Goals as goal

pub returns-clause-run : goal.returns-clause-run
returns-clause-run g c =
    let s = state_in (g.M.Memory.blocks c.args.memory.now) c.args.ledger.now in
    given_state (g.M.Memory.blocks c.kill_local.new.memory) c.args.ledger.now.rest c.give_room.new.rest s (without_local (local_block s.world c.args.local) s.world) (rounded c.args.size) c.kill_local.ensures.run c.in_ok-give_room.ensures.rest
