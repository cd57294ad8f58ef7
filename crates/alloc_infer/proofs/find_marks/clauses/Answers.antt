use Rattle.alloc_infer.proofs.Kept.{kept}
use Rattle.alloc_infer.proofs.find_marks.clauses.Goals as goal

pub returns-clause-valid : goal.returns-clause-valid
returns-clause-valid c = kept _ _ _ c.maybe-2.result c.maybe-2.ensures.valid (λ h. c.in_ok-maybe.ensures.valid (c.in_ok-for_first.ensures.valid h))
