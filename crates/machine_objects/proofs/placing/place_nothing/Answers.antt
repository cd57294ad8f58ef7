use Rattle.std.proofs.Common.{arith, refl}
use Rattle.machine_objects.proofs.Standing.{placed_nothing, none_free}
use Rattle.machine_objects.proofs.placing.place_nothing.Goals as goal

pub place-requires-clause-free : goal.place-requires-clause-free
place-requires-clause-free g c = none_free (g.M.Memory.blocks c.args.memory.now) (g.M.Memory.starts c.args.memory.now) (g.M.Memory.top c.args.memory.now) c.args.ledger.now c.args.kind c.from.result c.args.size 0 c.requires.sound c.from.ensures c.requires.taken

pub returns-clause-placed : goal.returns-clause-placed
returns-clause-placed g c =
    placed_nothing (g.M.Memory.blocks c.args.memory.now) (g.M.Memory.blocks c.place.new.self) (g.M.Memory.sizes c.args.memory.now) (g.M.Memory.sizes c.place.new.self) (g.M.Memory.starts c.args.memory.now) (g.M.Memory.starts c.place.new.self)
    (g.M.Memory.top c.args.memory.now) (g.M.Memory.top c.place.new.self) c.args.ledger.now _ c.requires.sound c.args.kind c.args.size c.from.result 0 c.requires.kind (omega arith) c.from.ensures
    c.in_ok-number.ensures.placed c.in_ok-number.ensures.sizes c.in_ok-number.ensures.starts c.place.ensures.top c.requires.taken refl
