use Rattle.std.proofs.Common.{◌≡◌, ◌∙◌, ap, arith}
use Rattle.hole_list.specs.Units.{run_count}
use Rattle.hole_list.proofs.Free.{runs_are, run_bound}
use Rattle.hole_list.proofs.tags.Holes.count.Goals as goal

pub returns-clause-runs : goal.returns-clause-runs
returns-clause-runs c = runs_are c.self.inside.lens c.self.inside.ends.items c.self.inside.count c.self.invariant ∙ ap run_count c.self.view_is

pub returns-clause-bound : goal.returns-clause-bound
returns-clause-bound c =
    let runs : c.self.inside.count ≡ run_count c.args.self.now = runs_are c.self.inside.lens c.self.inside.ends.items c.self.inside.count c.self.invariant ∙ ap run_count c.self.view_is in
    let bound = run_bound c.args.self.now in
    omega (arith, runs, bound)
