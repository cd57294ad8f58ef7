use Rattle.std.proofs.Common.{length, ap, ◌∙◌}
use Rattle.c_meaning.specs.Meaning.{store_argument}
use Rattle.machine_steps.specs.Steps.{made_by}
use Rattle.machine_state.specs.State.{state_in}
use Rattle.machine_objects.proofs.parameters.store_argument.Goals as goal

pub store_value-requires-clause-number : goal.store_value-requires-clause-number
store_value-requires-clause-number g c = c.in-Some.ensures.given (length (g.M.Memory.blocks c.args.memory.now)) c.requires.sound.locals

pub returns-in-Some-clause-run : goal.returns-in-Some-clause-run
returns-in-Some-clause-run g c =
    let s = state_in (g.M.Memory.blocks c.args.memory.now) c.args.ledger.now in
    c.store_value.ensures.run ∙ ap (λ o. made_by (store_argument c.args.span o c.args.v.now s.world) s) (c.in-Some.ensures.block (g.M.Memory.blocks c.args.memory.now))

pub returns-in-None-clause-run : goal.returns-in-None-clause-run
returns-in-None-clause-run g c =
    let s = state_in (g.M.Memory.blocks c.args.memory.now) c.args.ledger.now in
    ap (λ o. made_by (store_argument c.args.span o c.args.v.now s.world) s) (c.in-None.ensures.block (g.M.Memory.blocks c.args.memory.now))
