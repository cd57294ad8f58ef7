use Rattle.std.proofs.Common.{subst}
use Rattle.range_heap.specs.declared.call.RangeCall.{RangeCall}
use Rattle.range_heap.specs.Steps.{Made, histories}
use Rattle.trace_replay.proofs.replay.give_back.Goals as goal

pub returns-clause-given : goal.returns-clause-given
returns-clause-given c = (c.in_ok-make.field-0, subst (λ (call : RangeCall). Made call c.in_ok-make.field-0 (histories c.args.ranges.now) (histories c.make.new.self)) c.back-call.ensures c.in_ok-make.ensures.made)
