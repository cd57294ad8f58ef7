use Rattle.std.proofs.Common.{ℕ, ◌+◌, ◌-◌, ◌*◌, ◌/◌, List, length, take, drop, sym, subst}
use Rattle.range_heap.specs.declared.call.HeapCall.{HeapCall}
use Rattle.trace_replay.specs.Report.{RangesLegal}
use Rattle.trace_replay.proofs.Halves.{legal_take, legal_drop}
use Rattle.trace_replay.proofs.report.upper.Goals as goal

pub granted_in_all-requires-clause-legal : goal.granted_in_all-requires-clause-legal
granted_in_all-requires-clause-legal c =
    let h = c.args.histories.now in
    let half = length h.ranges / 2 in
    subst (λ (rows : List (List HeapCall)). RangesLegal h.size (h.first + length rows / 2 * c.from.result) (take (2 * (length rows / 2) - length rows / 2) (drop (length rows / 2) rows))) (sym c.as_slice-ranges.ensures)
    (subst (λ (size : ℕ). RangesLegal h.size (h.first + half * size) (take (2 * half - half) (drop half h.ranges))) (sym c.from.ensures)
    (legal_take h.size (h.first + half * h.size) (2 * half - half) (drop half h.ranges) (legal_drop h.size h.first half h.ranges c.requires.legal)))
