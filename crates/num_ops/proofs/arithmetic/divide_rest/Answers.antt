use Rattle.std.proofs.Common.{◌≡◌, ◌∙◌, false, sym, refl, FitsSigned, arith}
use Rattle.std.specs.Int.{w128}
use Rattle.std.specs.Prelude.{int_div, int_rem}
use Rattle.std.proofs.lemmas.Int.{to_z-of_z}
use Rattle.num_ops.specs.Conversions.{is_zero}
use Rattle.num_ops.proofs.Bounds as bounds
use Rattle.num_ops.proofs.arithmetic.divide_rest.Goals as goal

pub nonzero_rem-a : goal.nonzero_rem-a
nonzero_rem-a c =
    let a_fits : FitsSigned w128 c.args.a = c.ranges.a in
    let b_fits : FitsSigned w128 c.args.b = c.ranges.b in
    let fits : FitsSigned w128 (int_div c.args.a c.args.b) = bounds.quotient_fits c.args.kind c.args.a c.args.b c.requires.left in
    (omega arith, simp to_z-of_z fits)

pub exact-requires : goal.exact-requires
exact-requires c =
    let a_fits : FitsSigned w128 c.args.a = c.ranges.a in
    let b_fits : FitsSigned w128 c.args.b = c.ranges.b in
    let fits : FitsSigned w128 (int_rem c.args.a c.args.b) = bounds.rest_fits c.args.kind c.args.a c.args.b c.requires.left in
    simp to_z-of_z (bounds.holds_rest c.args.kind c.args.a c.args.b c.requires.left)

pub returns-then-holds : goal.returns-then-holds
returns-then-holds c =
    let a_fits : FitsSigned w128 c.args.a = c.ranges.a in
    let b_fits : FitsSigned w128 c.args.b = c.ranges.b in
    let fits : FitsSigned w128 (int_rem c.args.a c.args.b) = bounds.rest_fits c.args.kind c.args.a c.args.b c.requires.left in
    let quotient_fits : FitsSigned w128 (int_div c.args.a c.args.b) = bounds.quotient_fits c.args.kind c.args.a c.args.b c.requires.left in
    let some : is_zero c.args.b ≡ false = bounds.not_zero c.args.b c.ranges.b c.if-b-eq0.false in
    let holds = simp to_z-of_z at c.holds.ensures in
    let exact = simp to_z-of_z at c.exact.ensures in
    rw (some, sym holds ∙ c.if-holds.true) (rw exact refl)

pub returns-else-holds : goal.returns-else-holds
returns-else-holds c =
    let a_fits : FitsSigned w128 c.args.a = c.ranges.a in
    let b_fits : FitsSigned w128 c.args.b = c.ranges.b in
    let quotient_fits : FitsSigned w128 (int_div c.args.a c.args.b) = bounds.quotient_fits c.args.kind c.args.a c.args.b c.requires.left in
    let some : is_zero c.args.b ≡ false = bounds.not_zero c.args.b c.ranges.b c.if-b-eq0.false in
    let holds = simp to_z-of_z at c.holds.ensures in
    rw (some, sym holds ∙ c.if-holds.false) refl
