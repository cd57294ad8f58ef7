use Rattle.std.proofs.Common.{◌∙◌, sym, FitsSigned, ◌*ℤ◌}
use Rattle.std.specs.Int.{w128}
use Rattle.std.proofs.lemmas.Int.{to_z-of_z}
use Rattle.num_ops.specs.Conversions.{wrapped}
use Rattle.num_ops.specs.declared.arithmetic.Undefined.TheVariants as undefined
use Rattle.num_ops.proofs.Bounds as bounds
use Rattle.num_ops.proofs.Outcomes as outcomes
use Rattle.num_ops.proofs.shifts.shift_left.Goals as goal
use Rattle.num_ops.proofs.shifts.shift_left.Goals.{else-a-ge0-via-then-a-ge0+else-holds, else-a-ge0-via-else-a-ge0}

pub returns-then-not-is_signed : goal.returns-then-not-is_signed
returns-then-not-is_signed c =
    let a_fits : FitsSigned w128 c.args.a = c.ranges.a in
    let power_fits : FitsSigned w128 c.args.power = c.ranges.power in
    let fits : FitsSigned w128 (c.args.a *ℤ c.args.power) = bounds.power_fits c.args.kind c.args.a c.args.power c.requires.holds c.requires.low c.requires.high in
    let unsigned = sym c.is_signed.ensures ∙ c.if-not-is_signed.true in
    let wrap = simp to_z-of_z at c.wrap.ensures in
    outcomes.ok_outcome c.args.kind (wrapped c.args.kind (c.args.a *ℤ c.args.power)) _ _ wrap (outcomes.left_unsigned c.args.kind c.args.a (c.args.a *ℤ c.args.power) unsigned)

pub returns-then-holds : goal.returns-then-holds
returns-then-holds c =
    let a_fits : FitsSigned w128 c.args.a = c.ranges.a in
    let power_fits : FitsSigned w128 c.args.power = c.ranges.power in
    let fits : FitsSigned w128 (c.args.a *ℤ c.args.power) = bounds.power_fits c.args.kind c.args.a c.args.power c.requires.holds c.requires.low c.requires.high in
    let signed = sym c.is_signed.ensures ∙ c.if-not-is_signed.false in
    let low = simp to_z-of_z at c.if-a-ge0.true in
    let holds = simp to_z-of_z at c.holds.ensures in
    let exact = simp to_z-of_z at c.exact.ensures in
    outcomes.ok_outcome c.args.kind (c.args.a *ℤ c.args.power) _ _ exact (outcomes.left_held c.args.kind c.args.a (c.args.a *ℤ c.args.power) signed low (sym holds ∙ c.if-holds.true))

pub returns-else-a-ge0 : goal.returns-else-a-ge0
returns-else-a-ge0 c =
    let a_fits : FitsSigned w128 c.args.a = c.ranges.a in
    let power_fits : FitsSigned w128 c.args.power = c.ranges.power in
    let fits : FitsSigned w128 (c.args.a *ℤ c.args.power) = bounds.power_fits c.args.kind c.args.a c.args.power c.requires.holds c.requires.low c.requires.high in
    let signed = sym c.is_signed.ensures ∙ c.if-not-is_signed.false in
    elim c.else-a-ge0.branch [
      | else-a-ge0-via-then-a-ge0+else-holds w ↦
          let holds = simp to_z-of_z at w.holds.ensures in
          outcomes.err_outcome c.args.kind undefined.Shift _ (outcomes.left_past c.args.kind c.args.a (c.args.a *ℤ c.args.power) signed (sym holds ∙ w.if-holds.false))
      | else-a-ge0-via-else-a-ge0 w ↦
          let low = simp to_z-of_z at w.if-a-ge0.false in
          outcomes.err_outcome c.args.kind undefined.Shift _ (outcomes.left_negative c.args.kind c.args.a (c.args.a *ℤ c.args.power) signed low)
    ]
