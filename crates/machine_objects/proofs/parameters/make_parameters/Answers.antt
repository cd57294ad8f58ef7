use Rattle.std.proofs.Common.{length, ap, sym, ◌∙◌}
use Rattle.machine_state.specs.State.{state_in}
use Rattle.machine_state.proofs.Sound.{keeps_then}
use Rattle.machine_objects.specs.Made.{made_of}
use Rattle.machine_objects.proofs.Arguments.{given_at, values_more, argument_made, arguments_end, min_left, min_right, min_end}
use Rattle.machine_objects.proofs.parameters.make_parameters.Goals as goal

pub make_parameter-requires-clause-given : goal.make_parameter-requires-clause-given
make_parameter-requires-clause-given g c = given_at (g.M.Memory.sizes c.loop-at.memory) c.args.args.now c.loop-at.at c.value_at.result.now (min_right (length c.args.sizes.now) (length c.args.args.now) c.min-count.result c.loop-at.at c.min-count.ensures c.loop-at-test.true) c.value_at.ensures c.loop-at.invariant.given

pub loop-at-preserved : goal.loop-at-preserved
loop-at-preserved g c =
    let i = c.loop-at.at in
    let sizes = c.args.sizes.now in
    let args = c.args.args.now in
    let h = min_left (length sizes) (length args) c.min-count.result i c.min-count.ensures c.loop-at-test.true in
    let k = min_right (length sizes) (length args) c.min-count.result i c.min-count.ensures c.loop-at-test.true in
    let s = state_in (g.M.Memory.blocks c.loop-at.memory) c.loop-at.ledger in
    let now = state_in (g.M.Memory.blocks c.make_parameter.new.memory) c.make_parameter.new.ledger in
    record {
      run = argument_made c.args.span sizes args i c.size_at-size.result c.value_at.result.now s now h k c.size_at-size.ensures c.value_at.ensures (ap (λ e. made_of e now) (sym c.in-None.is) ∙ c.in_ok-end.ensures.run) ∙ c.loop-at.invariant.run;
      sound = c.in_ok-end.ensures.sound;
      given = values_more (g.M.Memory.sizes c.loop-at.memory) (g.M.Memory.sizes c.make_parameter.new.memory) args c.in_ok-end.ensures.keeps.sizes c.loop-at.invariant.given;
      keeps = keeps_then (g.M.Memory.sizes c.args.memory.now) (g.M.Memory.sizes c.loop-at.memory) (g.M.Memory.sizes c.make_parameter.new.memory) c.args.ledger.now c.loop-at.ledger c.make_parameter.new.ledger c.loop-at.invariant.keeps c.in_ok-end.ensures.keeps;
      log = c.make_parameter.ensures.log ∙ c.loop-at.invariant.log;
    }

pub returns-clause-run : goal.returns-clause-run
returns-clause-run g c =
    arguments_end c.args.span c.args.sizes.now c.args.args.now c.loop-at.at (state_in (g.M.Memory.blocks c.loop-at.memory) c.loop-at.ledger) (min_end (length c.args.sizes.now) (length c.args.args.now) c.min-count.result c.loop-at.at c.min-count.ensures c.loop-at-test.false)
    ∙ c.loop-at.invariant.run
