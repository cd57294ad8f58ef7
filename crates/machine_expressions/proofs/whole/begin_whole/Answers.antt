use Rattle.std.proofs.Common.{List, length, ◌≤◌, ap, sym, subst, ◌∙◌}
use Rattle.c_core.specs.declared.tree.FixedObject.{FixedObject}
use Rattle.c_core.specs.View.{program_of}
use Rattle.c_core.proofs.Views.{view_lib_call}
use Rattle.c_meaning.specs.World as world
use Rattle.machine_frames.specs.Views.{stacks_of, state_of}
use Rattle.machine_steps.specs.Steps as steps
use Rattle.machine_expressions.proofs.Integers.{function_given, ok_then}
use Rattle.machine_expressions.proofs.whole.begin_whole.Goals as goal

pub returns-in-Text-clause-run : goal.returns-in-Text-clause-run
returns-in-Text-clause-run c = λ bs.
    let s = state_of bs c.args.rest.now in
    let st = stacks_of c.args.stacks.now.frames.items c.args.stacks.now.values.items c.args.rest.now in
    rw (c.in-Text.is) (c.judged.ensures.run st s ∙ ap (λ a. steps.acting (world.judged c.args.e.now.span a s.world) st s) (rw c.as_slice.ensures at (c.fixed_address.ensures.value s.world)))

pub returns-in-Text-clause-given : goal.returns-in-Text-clause-given
returns-in-Text-clause-given c = λ sizes long locals.
    c.judged.ensures.given sizes (c.fixed_address.ensures.given sizes (subst (λ (xs : List FixedObject). length xs ≤ length sizes) (sym c.as_slice.ensures) long))

pub returns-in-Func-clause-given : goal.returns-in-Func-clause-given
returns-in-Func-clause-given c = λ sizes long locals. c.judged-in-Func.ensures.given sizes (function_given sizes (program_of c.args.loaded.core.now).funcs c.in-Func.f c.function_address.result c.function_address.ensures)

pub returns-in-Object-clause-given : goal.returns-in-Object-clause-given
returns-in-Object-clause-given c = λ sizes long locals.
    c.judged-in-Object.ensures.given sizes (c.address.ensures.given sizes (subst (λ (xs : List FixedObject). length xs ≤ length sizes) (sym c.as_slice-in-Object.ensures) long) locals)

pub returns-in-LibCall-clause-run : goal.returns-in-LibCall-clause-run
returns-in-LibCall-clause-run c =
    ok_then c.next_argument.result c.next_argument.ensures.run (λ t h bs. rw (c.in-LibCall.is, view_lib_call) (rw (c.in-LibCall.is, view_lib_call) at (h (λ n. c.args.loaded.fallback) bs)))

pub returns-in-Mark-clause-given : goal.returns-in-Mark-clause-given
returns-in-Mark-clause-given c = λ sizes long locals. c.mark.ensures.given sizes
