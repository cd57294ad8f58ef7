use Rattle.std.proofs.Common.{◌≡◌, ◌+◌, ◌≤◌, List, [], ◌∷◌, ◌++◌, ℕ, length, sym, ap, ◌∙◌, subst, arith, length-append}
use Rattle.std.specs.Prelude.{Result}
use Rattle.trace_format.proofs.Notes.{all_fit_more}
use Rattle.trace_format.specs.Lines.{lines}
use Rattle.trace_format.specs.Reading.{events_from, then_}
use Rattle.trace_format.specs.WellFormed.{AllFit}
use Rattle.trace_format.specs.declared.trace.Event.{Event}
use Rattle.trace_format.specs.declared.trace.TraceEnd.{TraceEnd}
use Rattle.trace_format.proofs.reader.read_events.Goals as goal

pub loop-line-preserved : goal.loop-line-preserved
loop-line-preserved c =
    let at = c.loop-line.number in
    let before = c.loop-line.notes.events in
    let behind = lines c.in-Some.behind.now in
    let long = length-append before (c.in_ok-event.event ∷ []) in
    let few = c.loop-line.invariant.few in
    record {
      same = c.loop-line.invariant.same
          ∙ ap (λ (ls : List (List ℕ)). events_from c.args.count c.args.workers at before ls) c.in-Some.ensures.lines
          ∙ ap (λ (r : Result Event TraceEnd). then_ r (λ e. events_from c.args.count c.args.workers (at + 1) (before ++ e ∷ []) behind)) (sym c.in_ok-event.ensures.value)
          ∙ ap (λ (es : List Event). events_from c.args.count c.args.workers (at + 1) es behind) (sym c.in_ok-push.ensures.events);
      noted = c.in_ok-push.ensures.noted;
      fit = subst (λ (es : List Event). AllFit c.args.count c.args.workers [] es) (sym c.in_ok-push.ensures.events) (all_fit_more c.args.count c.args.workers [] before c.in_ok-event.event c.loop-line.invariant.fit c.in_ok-event.ensures.fits);
      few = (let e = ap length c.in_ok-push.ensures.events in omega (arith, e, long, few));
      small = omega (arith, c.in_ok-push.ensures.small);
      limit = omega (arith, c.in_ok-event.ensures.within);
    }
