use Rattle.std.proofs.Common.{FitsSigned, ◌-ℤ◌}
use Rattle.std.specs.Int.{w128}
use Rattle.std.proofs.lemmas.Int.{to_z-of_z}
use Rattle.num_ops.proofs.Bounds.{difference_fits}
use Rattle.num_ops.proofs.arithmetic.subtract.Goals as goal

pub returns : goal.returns
returns c =
    let a_fits : FitsSigned w128 c.args.a = c.ranges.a in
    let b_fits : FitsSigned w128 c.args.b = c.ranges.b in
    let fits : FitsSigned w128 (c.args.a -ℤ c.args.b) = difference_fits c.args.kind c.args.a c.args.b c.requires.left c.requires.right in
    simp to_z-of_z at c.fit.ensures
