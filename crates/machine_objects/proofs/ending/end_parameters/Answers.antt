use Rattle.std.proofs.Common.{◌≡◌, ℕ, ◌+◌, ◌-◌, take, arith, ap, ◌∙◌}
use Rattle.c_meaning.specs.Meaning.{parameters}
use Rattle.c_meaning.specs.World.{State, end_local}
use Rattle.machine_state.specs.State.{state_in}
use Rattle.machine_state.proofs.Sound.{keeps_then}
use Rattle.machine_objects.specs.Made.{ending}
use Rattle.machine_objects.proofs.Dying.{ending_parameter}
use Rattle.machine_objects.proofs.ending.end_parameters.Goals as goal

pub ending-preserved : goal.ending-preserved
ending-preserved g c =
    let left = c.ending.left in
    let sizes = c.args.sizes.now in
    let s = state_in (g.M.Memory.blocks c.ending.memory) c.ending.ledger in
    let more : left - 1 + 1 ≡ left = omega arith in
    let z = c.size_at-size.result in
    let ended = c.in_ok-end_local.ensures.run ∙ ap (λ (k : ℕ). let t : State = record s { world = end_local (left - 1) k s.world } in t) c.from.ensures in
    record {
      within = omega arith;
      run = ending_parameter sizes (left - 1) z s (state_in (g.M.Memory.blocks c.end_local.new.memory) c.end_local.new.ledger) (omega arith) c.size_at-size.ensures ended
          ∙ ap (λ (n : ℕ). ending (parameters 0 (take n sizes)) s) more ∙ c.ending.invariant.run;
      sound = c.in_ok-end_local.ensures.sound;
      keeps = keeps_then (g.M.Memory.sizes c.args.memory.now) (g.M.Memory.sizes c.ending.memory) (g.M.Memory.sizes c.end_local.new.memory) c.args.ledger.now c.ending.ledger c.end_local.new.ledger c.ending.invariant.keeps c.in_ok-end_local.ensures.keeps;
      log = c.end_local.ensures.log ∙ c.ending.invariant.log;
    }
