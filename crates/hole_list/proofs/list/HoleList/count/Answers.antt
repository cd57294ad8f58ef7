use Rattle.std.proofs.Common.{length, sym, ap, ◌∙◌, arith}
use Rattle.hole_list.specs.Units.{run_count}
use Rattle.hole_list.proofs.Gaps.{count_is, count_bound, length_units}
use Rattle.hole_list.proofs.list.HoleList.count.Goals as goal

pub overflow_cast-result : goal.overflow_cast-result
overflow_cast-result c =
    let b = count_bound 0 c.self.inside.units c.self.inside.list.items (omega arith) c.self.invariant.2 in
    omega (arith, b, c.self.invariant.0, c.len.ensures, c.self.inside.list.ok.0)

pub returns-clause-runs : goal.returns-clause-runs
returns-clause-runs c =
    let e = count_is c.self.inside.units c.self.inside.list.items c.self.invariant.2 in
    let v = ap run_count c.self.view_is in
    c.len.ensures ∙ c.self.inside.list.ok.0 ∙ sym e ∙ v

pub returns-clause-bound : goal.returns-clause-bound
returns-clause-bound c =
    let b = count_bound 0 c.self.inside.units c.self.inside.list.items (omega arith) c.self.invariant.2 in
    let l = length_units 0 c.self.inside.units c.self.inside.list.items (omega arith) c.self.invariant.2 in
    let v = ap length c.self.view_is in
    omega (arith, b, l, v, c.len.ensures, c.self.inside.list.ok.0)
