use Rattle.heap_checks.proofs.Held.{take_noted}
use Rattle.heap_checks.proofs.listed.Listed.take.Goals as goal

pub invariant_of-self-2 : goal.invariant_of-self-2
invariant_of-self-2 c =
    let i = c.self.inside in
    let place = c.in-Some.ensures.place in
    take_noted i.holes c.take.new.self i.pieces.items c.self.invariant c.in-Some.place c.args.units c.requires.positive place.0 place.1 c.in-Some.ensures.lowest c.in-Some.ensures.taken
