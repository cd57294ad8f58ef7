use Rattle.specifier_rules.proofs.Growing.{below_more}
use Rattle.specifier_rules.proofs.specified.Specified.put_type.Goals as goal

pub returns-clause-valid : goal.returns-clause-valid
returns-clause-valid c = λ n v h. rw c.in_ok-push.ensures.ok (below_more n c.args.self.now.types c.args.ty v h)
