use Rattle.std.proofs.Common.{FitsSigned, ◌-ℤ◌, pos}
use Rattle.std.specs.Int.{w128}
use Rattle.std.proofs.lemmas.Int.{to_z-of_z}
use Rattle.constant_values.proofs.Values.{minus_fits}
use Rattle.constant_values.proofs.integers.minus_at.Goals as goal

pub returns : goal.returns
returns c =
    let a_fits : FitsSigned w128 c.args.a = c.ranges.a in
    let fits : FitsSigned w128 (pos 0 -ℤ c.args.a) = minus_fits c.args.a c.requires in
    simp to_z-of_z at c.fit.ensures
