use Rattle.std.proofs.Common.{map, subst}
use Rattle.range_heap.specs.Ranges.{AllLegal, StayApart}
use Rattle.range_heap.specs.Steps.{histories}
use Rattle.range_heap.proofs.Apart.{stay_apart}
use Rattle.range_heap.proofs.Noting.{history_of, standing_legal}
use Rattle.range_heap.proofs.ranges.Ranges.stands.Goals as goal

pub returns-clause-legal : goal.returns-clause-legal
returns-clause-legal c =
    let i = c.self.inside in
    subst (λ all. AllLegal all.size (histories all)) c.self.view_is (standing_legal i.size i.heaps.items c.self.invariant)

pub returns-clause-apart : goal.returns-clause-apart
returns-clause-apart c =
    let i = c.self.inside in
    subst (λ all. StayApart (histories all)) c.self.view_is (stay_apart i.size (map history_of i.heaps.items) (standing_legal i.size i.heaps.items c.self.invariant))
