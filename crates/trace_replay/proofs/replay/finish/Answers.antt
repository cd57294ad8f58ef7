use Rattle.std.proofs.Common.{ℕ, List, sym, subst}
use Rattle.range_heap.specs.declared.call.HeapCall.{HeapCall}
use Rattle.range_heap.specs.Ranges.{AllLegal}
use Rattle.range_heap.specs.Steps.{histories}
use Rattle.trace_replay.specs.Due.{Alone}
use Rattle.trace_replay.specs.Replayed.{Replayed}
use Rattle.trace_replay.specs.Report.{Reportable}
use Rattle.trace_replay.proofs.Steps.{alone, replayed, reportable, histories_of}
use Rattle.trace_replay.proofs.replay.finish.Goals as goal

pub returns-clause-alone : goal.returns-clause-alone
returns-clause-alone c =
    let t = c.args.trace.now in
    let hs = histories c.args.ranges in
    subst (λ (rows : List (List HeapCall)). Alone t (histories_of t rows)) (sym c.in_ok-rows.ensures)
    (alone t c.args._fates.now.items hs c.requires.going (subst (λ (size : ℕ). AllLegal size hs) c.requires.size c.stands.ensures.legal))

pub returns-clause-replayed : goal.returns-clause-replayed
returns-clause-replayed c =
    let t = c.args.trace.now in
    let hs = histories c.args.ranges in
    subst (λ (rows : List (List HeapCall)). Replayed t (histories_of t rows)) (sym c.in_ok-rows.ensures)
    (replayed t (histories_of t hs) (alone t c.args._fates.now.items hs c.requires.going (subst (λ (size : ℕ). AllLegal size hs) c.requires.size c.stands.ensures.legal)))

pub returns-clause-reportable : goal.returns-clause-reportable
returns-clause-reportable c =
    let t = c.args.trace.now in
    let hs = histories c.args.ranges in
    subst (λ (rows : List (List HeapCall)). Reportable (histories_of t rows)) (sym c.in_ok-rows.ensures)
    (reportable t hs c.requires.trace c.requires.going.ranges (subst (λ (size : ℕ). AllLegal size hs) c.requires.size c.stands.ensures.legal))
