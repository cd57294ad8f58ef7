use Rattle.std.proofs.Common.{◌∙◌, ap, FitsSigned}
use Rattle.std.specs.Int.{w128}
use Rattle.std.proofs.lemmas.Int.{to_z-of_z}
use Rattle.constant_values.specs.Forms.{of_result}
use Rattle.constant_values.proofs.Values.{outcome_is}
use Rattle.constant_values.proofs.integers.arithmetic_at.Goals as goal

pub returns : goal.returns
returns c =
    let a_fits : FitsSigned w128 c.args.a = c.ranges.a in
    let b_fits : FitsSigned w128 c.args.b = c.ranges.b in
    let first = simp to_z-of_z at c.converted.ensures in
    let second = simp to_z-of_z at c.converted-2.ensures in
    let outcome = rw (first, second) at c.arith.ensures in
    c.of_result.ensures ∙ ap of_result outcome ∙ outcome_is _ _
