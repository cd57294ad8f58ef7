use Rattle.range_heap.proofs.Apart.{stay_apart}
use Rattle.range_heap.proofs.laws.ranges_stay_apart.Goals as goal

pub returns : goal.returns
returns c = stay_apart
