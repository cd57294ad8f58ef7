use Rattle.std.proofs.Common.{◌≡◌, drop}
use Rattle.num_ops.specs.Constants as constants
use Rattle.num_ops.proofs.constants.first_kind.Given as goal

abbrev pub invariant-loop-kind : goal.invariant-loop-kind
invariant-loop-kind l = constants.first_kind l.value l.list ≡ constants.first_kind l.value (drop l.kind-index l.list)
