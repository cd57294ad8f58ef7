use Rattle.c_core.proofs.Views.{view_load, view_convert, view_truth, view_both, view_either, view_choose, view_then, view_call}
use Rattle.machine_frames.specs.Views.{state_of}
use Rattle.machine_expressions.proofs.Integers.{same_given, ok_then}
use Rattle.machine_expressions.proofs.first.first_acts.Goals as goal

pub returns-in-Load-clause-run : goal.returns-in-Load-clause-run
returns-in-Load-clause-run g c = λ marks. rw (c.in-Load.is, view_load) (c.load.ensures.run c.args.rest.now _)

pub returns-in-Convert-clause-run : goal.returns-in-Convert-clause-run
returns-in-Convert-clause-run g c = λ marks. rw (c.in-Convert.is, view_convert, ← c.convert.ensures) (c.gives.ensures.run _ _)

pub returns-in-Convert-clause-given : goal.returns-in-Convert-clause-given
returns-in-Convert-clause-given g c =
    let sizes = g.M.Memory.sizes c.args.memory.now in
    c.gives.ensures.given sizes (same_given sizes c.convert.result _ c.convert.ensures tt)

pub returns-in-Truth-clause-run : goal.returns-in-Truth-clause-run
returns-in-Truth-clause-run g c = λ marks. rw (c.in-Truth.is, view_truth) (c.truth_of.ensures.run c.args.rest.now _)

pub returns-in-Both-clause-run : goal.returns-in-Both-clause-run
returns-in-Both-clause-run g c =
    ok_then c.both.result c.both.ensures.run (λ t h marks. rw (c.in-Both.is, view_both, ← c.get.ensures) (h c.args.rest.now (state_of (g.M.Memory.blocks c.args.memory.now) c.args.rest.now)))

pub returns-in-Either-clause-run : goal.returns-in-Either-clause-run
returns-in-Either-clause-run g c =
    ok_then c.either.result c.either.ensures.run (λ t h marks. rw (c.in-Either.is, view_either, ← c.get-in-Either.ensures) (h c.args.rest.now (state_of (g.M.Memory.blocks c.args.memory.now) c.args.rest.now)))

pub returns-in-Choose-clause-run : goal.returns-in-Choose-clause-run
returns-in-Choose-clause-run g c = λ marks. rw (c.in-Choose.is, view_choose, ← c.get-in-Choose.ensures, ← c.get-in-Choose-2.ensures) (c.choose.ensures.run _ _)

pub returns-in-Choose-clause-given : goal.returns-in-Choose-clause-given
returns-in-Choose-clause-given g c = c.choose.ensures.given (g.M.Memory.sizes c.args.memory.now)

pub returns-in-Then-clause-run : goal.returns-in-Then-clause-run
returns-in-Then-clause-run g c = λ marks. rw (c.in-Then.is, view_then, ← c.get-in-Then.ensures)

pub returns-in-Call-clause-run : goal.returns-in-Call-clause-run
returns-in-Call-clause-run g c =
    ok_then c.call_given.result c.call_given.ensures.run (λ t h marks. rw (c.in-Call.is, view_call) (rw (c.in-Call.is, view_call) at (h marks (g.M.Memory.blocks c.args.memory.now))))
