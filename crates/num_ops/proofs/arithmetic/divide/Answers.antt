use Rattle.std.proofs.Common.{◌≡◌, false, FitsSigned}
use Rattle.std.specs.Int.{w128}
use Rattle.std.specs.Prelude.{int_div}
use Rattle.std.proofs.lemmas.Int.{to_z-of_z}
use Rattle.num_ops.specs.Conversions.{is_zero}
use Rattle.num_ops.proofs.Bounds as bounds
use Rattle.num_ops.proofs.arithmetic.divide.Goals as goal

pub returns : goal.returns
returns c =
    let a_fits : FitsSigned w128 c.args.a = c.ranges.a in
    let b_fits : FitsSigned w128 c.args.b = c.ranges.b in
    let fits : FitsSigned w128 (int_div c.args.a c.args.b) = bounds.quotient_fits c.args.kind c.args.a c.args.b c.requires.left in
    let some : is_zero c.args.b ≡ false = bounds.not_zero c.args.b c.ranges.b c.if-b-eq0.false in
    rw some (simp to_z-of_z at c.fit.ensures)
