use Rattle.std.proofs.Common.{◌/◌, List, length, take, sym, subst}
use Rattle.range_heap.specs.declared.call.HeapCall.{HeapCall}
use Rattle.trace_replay.specs.Report.{RangesLegal}
use Rattle.trace_replay.proofs.Halves.{legal_take}
use Rattle.trace_replay.proofs.report.lower.Goals as goal

pub granted_in_all-requires-clause-legal : goal.granted_in_all-requires-clause-legal
granted_in_all-requires-clause-legal c =
    let h = c.args.histories.now in
    subst (λ (rows : List (List HeapCall)). RangesLegal h.size h.first (take (length rows / 2) rows)) (sym c.as_slice-ranges.ensures)
    (legal_take h.size h.first (length h.ranges / 2) h.ranges c.requires.legal)
