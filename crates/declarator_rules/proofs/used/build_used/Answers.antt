use Rattle.c_world.specs.Seen.{seen}
use Rattle.declarator_rules.specs.Layers.{layers_of}
use Rattle.declarator_rules.proofs.Oversizing.{used_over}
use Rattle.declarator_rules.proofs.used.build_used.Goals as goal

pub returns-in-Oversized-clause-is : goal.returns-in-Oversized-clause-is
returns-in-Oversized-clause-is c =
    rw c.used_oversized.ensures (used_over (seen c.build.new.world) (seen c.args.world.now) c.in-Oversized.field-0 _ (layers_of c.args.world.now.table.terms c.args.layers.now) (rw c.in-Oversized.is at c.in_ok-built.ensures.is))
