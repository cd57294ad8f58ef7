use Rattle.range_heap.proofs.Apart.{live_starts}
use Rattle.range_heap.proofs.laws.live_starts_differ.Goals as goal

pub returns : goal.returns
returns c = live_starts
