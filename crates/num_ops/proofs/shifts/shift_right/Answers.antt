use Rattle.std.proofs.Common.{FitsSigned}
use Rattle.std.specs.Int.{w128}
use Rattle.std.proofs.lemmas.Int.{to_z-of_z}
use Rattle.num_ops.proofs.Bounds as bounds
use Rattle.num_ops.proofs.shifts.shift_right.Goals as goal

pub exact-requires : goal.exact-requires
exact-requires c =
    let a_fits : FitsSigned w128 c.args.a = c.ranges.a in
    let power_fits : FitsSigned w128 c.args.power = c.ranges.power in
    let quotient = simp to_z-of_z at c.div_euclid.ensures in
    let fits : FitsSigned w128 c.div_euclid.result = record { sfits = c.div_euclid.type_inv } in
    simp to_z-of_z (rw quotient (bounds.holds_shifted c.args.kind c.args.a c.args.power c.requires.holds c.requires.low))
