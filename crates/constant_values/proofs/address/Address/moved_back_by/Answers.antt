use Rattle.std.proofs.Common.{FitsSigned, ◌-ℤ◌, pos}
use Rattle.std.specs.Int.{w128}
use Rattle.std.proofs.lemmas.Int.{to_z-of_z}
use Rattle.constant_values.proofs.Values.{minus_fits}
use Rattle.constant_values.proofs.address.Address.moved_back_by.Goals as goal

pub returns : goal.returns
returns c =
    let e_fits : FitsSigned w128 c.args.elements = c.ranges.elements in
    let fits : FitsSigned w128 (pos 0 -ℤ c.args.elements) = minus_fits c.args.elements c.requires in
    simp to_z-of_z at c.moved_by.ensures
