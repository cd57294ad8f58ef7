use Rattle.std.proofs.Common.{◌+◌, arith, refl, ◌∙◌}
use Rattle.machine_state.specs.State.{spots_of}
use Rattle.machine_objects.proofs.Region.{low_given}
use Rattle.machine_objects.proofs.Standing.{placed_behind, behind_free}
use Rattle.machine_objects.proofs.placing.place_behind.Goals as goal

pub drop_dead-requires : goal.drop_dead-requires
drop_dead-requires g c = low_given _ _ _ c.args.ledger.now c.requires.sound

pub place-requires-clause-free : goal.place-requires-clause-free
place-requires-clause-free g c =
    let l = c.args.ledger.now in
    behind_free (g.M.Memory.blocks c.args.memory.now) (g.M.Memory.starts c.args.memory.now) (g.M.Memory.top c.args.memory.now) l c.args.kind (spots_of c.drop_dead.new.region.items) c.from-2.result c.from.result c.args.size c.args.taken
    (c.drop_dead.ensures.stands (g.M.Memory.top c.args.memory.now) l.ranges l.rest.log.items c.requires.sound.stands)
    (c.from-2.ensures ∙ c.end_of-at.ensures) c.from.ensures c.requires.taken (omega arith)

pub returns-clause-placed : goal.returns-clause-placed
returns-clause-placed g c =
    let l = c.args.ledger.now in
    placed_behind (g.M.Memory.blocks c.args.memory.now) (g.M.Memory.blocks c.place.new.self) (g.M.Memory.sizes c.args.memory.now) (g.M.Memory.sizes c.place.new.self) (g.M.Memory.starts c.args.memory.now) (g.M.Memory.starts c.place.new.self)
    (g.M.Memory.top c.args.memory.now) (g.M.Memory.top c.place.new.self) l _ c.requires.sound c.args.kind c.args.size c.from.result c.from-2.result c.requires.kind (omega arith) c.from.ensures
    c.in_ok-number.ensures.placed c.in_ok-number.ensures.sizes c.in_ok-number.ensures.starts c.place.ensures.top
    (spots_of c.drop_dead.new.region.items) (c.end_of-at.result + c.args.taken)
    (c.drop_dead.ensures.stands (g.M.Memory.top c.args.memory.now) l.ranges l.rest.log.items c.requires.sound.stands)
    (c.from-2.ensures ∙ c.end_of-at.ensures) (omega arith) (omega arith) c.in_ok-note.ensures refl
