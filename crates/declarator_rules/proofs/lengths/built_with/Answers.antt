use Rattle.c_world.specs.Seen.{seen}
use Rattle.declarator_rules.proofs.Oversizing.{length_over}
use Rattle.declarator_rules.proofs.lengths.built_with.Goals as goal

pub returns-in-Oversized-clause-is : goal.returns-in-Oversized-clause-is
returns-in-Oversized-clause-is c = λ base ls h f.
    rw c.oversized.ensures (length_over (seen c.args.world.now) c.in-Oversized.field-0 c.args.count base ls (rw c.in-Oversized.is at h) f)
