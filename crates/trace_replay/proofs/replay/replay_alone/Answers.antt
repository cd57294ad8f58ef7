use Rattle.std.proofs.Common.{ℕ, List, [], Option, sym, ◌∙◌, subst, arith}
use Rattle.std.proofs.lemmas.List.{take_all}
use Rattle.range_heap.specs.declared.call.HeapCall.{HeapCall}
use Rattle.range_heap.specs.Steps.{histories}
use Rattle.trace_format.specs.declared.trace.Event.{Event}
use Rattle.trace_replay.specs.Going.{Going}
use Rattle.trace_replay.proofs.Steps.{going_none}
use Rattle.trace_replay.proofs.replay.replay_alone.Goals as goal

pub loop-at-init : goal.loop-at-init
loop-at-init c =
    let t = c.args.trace.now in
    record {
      size = c.make_room.ensures.size ∙ c.in_ok-ranges.ensures.size;
      room = omega (arith, c.in_ok-fates.ensures.1);
      going =
          subst (λ (fates : List (Option ℕ)). Going t.count t.events [] fates (histories c.make_room.new.ranges)) (sym c.in_ok-fates.ensures.0)
          (subst (λ (hs : List (List HeapCall)). Going t.count t.events [] [] hs) (sym c.make_room.ensures.kept)
          (going_none t.count t.events c.in_ok-ranges.ranges c.in_ok-ranges.ensures.count c.in_ok-ranges.ensures.empty));
    }

pub finish-requires-clause-going : goal.finish-requires-clause-going
finish-requires-clause-going c =
    let t = c.args.trace.now in
    subst (λ (done : List Event). Going t.count t.events done c.loop-at.fates.items (histories c.loop-at.ranges)) (take_all c.loop-at.at t.events (omega arith)) c.loop-at.invariant.going
