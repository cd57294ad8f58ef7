use Rattle.std.proofs.Common.{◌+◌, sym, ap, ◌∙◌, arith}
use Rattle.range_heap.specs.Blocks.{rounded, live}
use Rattle.range_heap.specs.Seen.{Kept}
use Rattle.range_heap.proofs.Clear.{rounded_some}
use Rattle.range_heap.proofs.Histories.{clear_not_live}
use Rattle.range_heap.proofs.Keeping.{sound_refuse, sound_grant, fresh_place}
use Rattle.range_heap.proofs.heap.RangeHeap.grant.Goals as goal

pub invariant_of-self : goal.invariant_of-self
invariant_of-self c =
    let i = c.self.inside in
    rw (c.push_reserved.ensures.items, c.in_default.ensures.unchanged)
    (sound_refuse i.first i.size i.holes i.sizes.items i.calls.items c.self.invariant c.args.who c.args.size c.in_default.ensures.none)

pub returns-in_default-clause-legal : goal.returns-in_default-clause-legal
returns-in_default-clause-legal c =
    let i = c.self.inside in
    let s = sound_refuse i.first i.size i.holes i.sizes.items i.calls.items c.self.invariant c.args.who c.args.size c.in_default.ensures.none in
    rw c.push_reserved.ensures.items s.legal

pub invariant_of-self-2 : goal.invariant_of-self-2
invariant_of-self-2 c =
    let i = c.self.inside in
    let place = c.in-Some.ensures.place in
    let s = sound_grant i.first i.size i.holes i.sizes.items i.calls.items c.self.invariant c.args.who c.args.size c.in-Some.at c.take_rounded.new.holes place.0 place.1 c.in-Some.ensures.lowest c.in-Some.ensures.taken in
    rw (c.push_reserved-2.ensures.items, c.from.ensures) s

pub returns-clause-legal : goal.returns-clause-legal
returns-clause-legal c =
    let i = c.self.inside in
    let place = c.in-Some.ensures.place in
    let s = sound_grant i.first i.size i.holes i.sizes.items i.calls.items c.self.invariant c.args.who c.args.size c.in-Some.at c.take_rounded.new.holes place.0 place.1 c.in-Some.ensures.lowest c.in-Some.ensures.taken in
    rw (c.push_reserved-2.ensures.items, c.from.ensures) s.legal

pub returns-clause-fresh : goal.returns-clause-fresh
returns-clause-fresh c =
    let i = c.self.inside in
    let place = c.in-Some.ensures.place in
    let f = fresh_place i.first i.size i.holes i.sizes.items i.calls.items c.self.invariant c.args.who c.args.size c.in-Some.at c.take_rounded.new.holes place.0 place.1 c.in-Some.ensures.lowest c.in-Some.ensures.taken in
    let e = clear_not_live i.calls.items (i.first + c.in-Some.at) (rounded c.args.size) (omega (arith, rounded_some c.args.size)) f in
    ap (λ (v : Kept). live (i.first + c.from.result) v.history) (sym c.self.view_is) ∙ ap (λ q. live (i.first + q) i.calls.items) c.from.ensures ∙ e
