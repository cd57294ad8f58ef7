use Rattle.std.proofs.Common.{FitsSigned}
use Rattle.std.specs.Int.{w128}
use Rattle.std.proofs.lemmas.Int.{to_z-of_z}
use Rattle.constant_values.proofs.Values.{bounded_quotient}
use Rattle.constant_values.proofs.integers.shift_right.Goals as goal

pub is-requires : goal.is-requires
is-requires c =
    let a_fits : FitsSigned w128 c.args.a = c.ranges.a in
    let p_fits : FitsSigned w128 c.args.power = c.ranges.power in
    let quotient = simp to_z-of_z at c.div_euclid.ensures in
    let fits : FitsSigned w128 c.div_euclid.result = record { sfits = c.div_euclid.type_inv } in
    simp to_z-of_z (rw quotient (bounded_quotient c.args.a c.args.power c.requires.bounded c.requires.low))
