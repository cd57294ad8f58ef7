use Rattle.std.proofs.Common.{sym, ◌∙◌}
use Rattle.c_core.specs.View.{form_of, program_of}
use Rattle.machine_frames.specs.Views.{stacks_of, state_of}
use Rattle.machine_calls.proofs.Calls.{next_there}
use Rattle.machine_calls.proofs.arguments.next_argument.Goals as goal

pub returns-in_ok-wait-in-Some-clause-run : goal.returns-in_ok-wait-in-Some-clause-run
returns-in_ok-wait-in-Some-clause-run c = λ marks bs.
    let st = stacks_of c.args.stacks.now.frames.items c.args.stacks.now.values.items c.args.rest.now in
    let there = next_there (program_of c.args.loaded.core.now) marks c.args.e.now.span (form_of c.args.e.now.form) c.args.number st (state_of bs c.args.rest.now) c.arguments_of.result.now _ c.arguments_of.ensures c.in-Some.ensures in
    rw (c.in_ok-wait-in-Some.ensures.frames, c.wait.ensures.values) (sym there)

pub returns-in-None-clause-run : goal.returns-in-None-clause-run
returns-in-None-clause-run c = λ marks bs.
    let st = stacks_of c.args.stacks.now.frames.items c.args.stacks.now.values.items c.args.rest.now in
    c.calling_now.ensures.run marks bs ∙ sym (next_there (program_of c.args.loaded.core.now) marks c.args.e.now.span (form_of c.args.e.now.form) c.args.number st (state_of bs c.args.rest.now) c.arguments_of.result.now _ c.arguments_of.ensures c.in-None.ensures)
