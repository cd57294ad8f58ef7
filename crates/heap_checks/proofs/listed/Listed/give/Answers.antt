use Rattle.std.proofs.Common.{◌/◌, ◌∙◌, arith}
use Rattle.heap_checks.proofs.Held.{give_noted, held_same, is_entry, piece_taken}
use Rattle.heap_checks.proofs.listed.Listed.give.Goals as goal

pub give-requires-clause-taken : goal.give-requires-clause-taken
give-requires-clause-taken c = λ k ge lt.
    let i = c.self.inside in
    piece_taken i.holes i.pieces.items c.self.invariant (c.args.place / 16) c.index-units.result.now (is_entry i.pieces.items (c.args.place / 16) c.index-units.result.now c.index-units.ensures (omega (arith, c.if-at-len.false, c.len.ensures, i.pieces.ok.0))) k ge lt

pub invariant_of-self : goal.invariant_of-self
invariant_of-self c =
    let i = c.self.inside in
    let inside = c.if-at-len.false in
    give_noted i.holes c.give.new.self i.pieces.items c.self.invariant (c.args.place / 16) c.index-units.result.now (is_entry i.pieces.items (c.args.place / 16) c.index-units.result.now c.index-units.ensures (omega (arith, inside, c.len.ensures, i.pieces.ok.0))) c.if-units-gt0.true (omega (arith, inside, c.len.ensures, i.pieces.ok.0)) c.give.ensures

pub invariant_of-self-else-units-gt0 : goal.invariant_of-self-else-units-gt0
invariant_of-self-else-units-gt0 c =
    let i = c.self.inside in
    let is = is_entry i.pieces.items (c.args.place / 16) c.index-units.result.now c.index-units.ensures (omega (arith, c.if-at-len.false, c.len.ensures, i.pieces.ok.0)) in
    held_same i.holes i.pieces.items (c.args.place / 16) c.self.invariant (omega (arith, is, c.if-units-gt0.false))
