use Rattle.std.proofs.Common.{FitsSigned, ◌*ℤ◌}
use Rattle.std.specs.Int.{w128}
use Rattle.std.proofs.lemmas.Int.{to_z-of_z}
use Rattle.constant_values.proofs.Values.{power_fits}
use Rattle.constant_values.proofs.integers.shift_left.Goals as goal

pub returns : goal.returns
returns c =
    let a_fits : FitsSigned w128 c.args.a = c.ranges.a in
    let p_fits : FitsSigned w128 c.args.power = c.ranges.power in
    let fits : FitsSigned w128 (c.args.a *ℤ c.args.power) = power_fits c.args.a c.args.power c.requires.bounded c.requires.low c.requires.high in
    simp to_z-of_z at c.fit_left.ensures
