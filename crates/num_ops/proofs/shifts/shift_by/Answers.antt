use Rattle.std.proofs.Common.{◌∙◌, ap, sym, FitsSigned}
use Rattle.std.specs.Int.{w128, int_div_euclid}
use Rattle.std.proofs.lemmas.Int.{to_z-of_z}
use Rattle.num_ops.specs.Arithmetic.{outcome}
use Rattle.num_ops.proofs.Outcomes as outcomes
use Rattle.num_ops.proofs.shifts.shift_by.Goals as goal

pub returns-then-left : goal.returns-then-left
returns-then-left c =
    let count_fits : FitsSigned w128 c.args.count = c.ranges.count in
    let a_fits : FitsSigned w128 c.args.a = c.ranges.a in
    let low = simp to_z-of_z at c.if-count-lt0.false in
    let high = simp to_z-of_z at (rw (c.width.ensures, outcomes.width_is c.args.kind) at c.if-width-count.false) in
    let counts = outcomes.count_is c.args.kind c.args.count low high in
    let power = simp to_z-of_z at c.power_of_two-power.ensures.value in
    let power_fits : FitsSigned w128 c.power_of_two-power.result = record { sfits = c.power_of_two-power.type_inv } in
    let moved = simp to_z-of_z at c.shift_left.ensures in
    moved ∙ ap (outcome c.args.kind) (sym (outcomes.shifted_by_left c.args.left c.args.kind c.args.a c.args.count c.power_of_two-power.result counts c.if-left.true power))

pub returns-else-left : goal.returns-else-left
returns-else-left c =
    let count_fits : FitsSigned w128 c.args.count = c.ranges.count in
    let a_fits : FitsSigned w128 c.args.a = c.ranges.a in
    let low = simp to_z-of_z at c.if-count-lt0.false in
    let high = simp to_z-of_z at (rw (c.width.ensures, outcomes.width_is c.args.kind) at c.if-width-count.false) in
    let counts = outcomes.count_is c.args.kind c.args.count low high in
    let power = simp to_z-of_z at c.power_of_two-power.ensures.value in
    let power_fits : FitsSigned w128 c.power_of_two-power.result = record { sfits = c.power_of_two-power.type_inv } in
    let moved = simp to_z-of_z at c.shift_right.ensures in
    outcomes.ok_outcome c.args.kind (int_div_euclid c.args.a c.power_of_two-power.result) _ _ moved (outcomes.shifted_by_right c.args.left c.args.kind c.args.a c.args.count c.power_of_two-power.result counts c.if-left.false power)
