use Rattle.std.proofs.Common.{length}
use Rattle.declarator_rules.proofs.layering.+build.Given as goal

abbrev pub decreases-build : goal.decreases-build
decreases-build l = length l.layers.now
