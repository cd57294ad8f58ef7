use Rattle.range_heap.proofs.Histories.{legal-snoc, legal-last, legal-front}
use Rattle.range_heap.proofs.laws.histories_grow.Goals as goal

pub returns : goal.returns
returns c = record { entry = legal-snoc; last = legal-last; front = legal-front }
