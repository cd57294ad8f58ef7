use Rattle.std.proofs.Common.{subst}
use Rattle.range_heap.specs.declared.call.RangeCall.{RangeCall}
use Rattle.range_heap.specs.Steps.{Made, histories}
use Rattle.trace_replay.proofs.replay.allocate.Goals as goal

pub returns-clause-asked : goal.returns-clause-asked
returns-clause-asked c = record {
  fate = c.in_ok-fate.fate;
  fates_are = c.push.ensures.items;
  made = subst (λ (call : RangeCall). Made call c.in_ok-fate.fate (histories c.args.ranges.now) (histories c.make.new.self)) c.ask-call.ensures c.in_ok-fate.ensures.made;
  legal = c.stands.ensures.legal;
}
