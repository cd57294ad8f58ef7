use Rattle.std.proofs.lemmas.Nat.{or_lt, xor_lt}
use Rattle.num_ops.specs.Kinds.{width}
use Rattle.num_ops.proofs.arithmetic.compute.Goals as goal

pub from_residue-requires-in-BitOr : goal.from_residue-requires-in-BitOr
from_residue-requires-in-BitOr c = or_lt (width c.args.kind) _ _ c.bits-in-BitOr.ensures.bound c.bits-in-BitOr-2.ensures.bound

pub from_residue-requires-in-BitXor : goal.from_residue-requires-in-BitXor
from_residue-requires-in-BitXor c = xor_lt (width c.args.kind) _ _ c.bits-in-BitXor.ensures.bound c.bits-in-BitXor-2.ensures.bound
