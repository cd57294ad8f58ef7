use Rattle.std.proofs.Common.{refl}
use Rattle.machine_objects.proofs.Making.{local_state}
use Rattle.machine_objects.proofs.locals.new_local.Goals as goal

pub returns-clause-run : goal.returns-clause-run
returns-clause-run g c =
    local_state (g.M.Memory.blocks c.args.memory.now) (g.M.Memory.blocks c.place.new.memory) c.args.ledger.now.rest c.place.new.ledger.rest (record (c.place.new.ledger.rest) { locals = c.set_local.new.locals }) c.args.local c.args.size c.in_ok-number.number
    c.in_ok-number.ensures.placed.rest refl c.in_ok-number.ensures.placed.blocks c.in_ok-number.ensures.number c.in_ok-set_local.ensures.set
