use Rattle.std.proofs.Common.{FitsSigned}
use Rattle.std.specs.Int.{w128}
use Rattle.std.proofs.lemmas.Int.{to_z-of_z}
use Rattle.constant_values.proofs.Values.{complement_result}
use Rattle.constant_values.proofs.integers.complement_at.Goals as goal

pub returns : goal.returns
returns c =
    let a_fits : FitsSigned w128 c.args.a = c.ranges.a in
    complement_result c.args.kind c.promote.result c.args.a c.arithmetic_at.result c.promote.ensures (simp to_z-of_z at c.arithmetic_at.ensures)
