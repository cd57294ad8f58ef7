use Rattle.range_heap.proofs.Noting.{reserved}
use Rattle.trace_replay.proofs.replay.room.Goals as goal

pub returns-clause-size : goal.returns-clause-size
returns-clause-size c = (reserved c.args.token c.args.ranges.now c.reserve.new.self (λ le. (c.reserve.ensures.outside le).1) c.reserve.ensures.inside).1

pub returns-clause-kept : goal.returns-clause-kept
returns-clause-kept c = (reserved c.args.token c.args.ranges.now c.reserve.new.self (λ le. (c.reserve.ensures.outside le).1) c.reserve.ensures.inside).0
