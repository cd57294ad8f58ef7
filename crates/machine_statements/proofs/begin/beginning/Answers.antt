use Rattle.c_core.proofs.Views.{view_block, view_loop}
use Rattle.machine_frames.specs.Views.{state_of}
use Rattle.machine_expressions.proofs.Integers.{ok_then}
use Rattle.machine_statements.proofs.Listed.{view_choice}
use Rattle.machine_statements.proofs.begin.beginning.Goals as goal

pub block_begins-requires : goal.block_begins-requires
block_begins-requires g c = rw (c.in-Block.is, view_block, c.as_slice.ensures, c.as_slice-in-Block.ensures)

pub returns-in_ok-wait-in-If-clause-run : goal.returns-in_ok-wait-in-If-clause-run
returns-in_ok-wait-in-If-clause-run g c = λ p marks. rw (c.in_ok-wait-in-If.ensures.frames, c.wait-in-If.ensures.values, c.in-If.is, view_choice)

pub returns-in-Loop-clause-run : goal.returns-in-Loop-clause-run
returns-in-Loop-clause-run g c =
    ok_then c.looping.result c.looping.ensures.run (λ t h p marks. rw (c.in-Loop.is, view_loop) (rw (c.in-Loop.is, view_loop, c.get.ensures) at (h p marks (g.M.Memory.blocks c.args.memory.now))))

pub returns-in-Return-clause-run : goal.returns-in-Return-clause-run
returns-in-Return-clause-run g c =
    ok_then c.returning.result c.returning.ensures.run (λ t h p marks. rw (c.in-Return.is) (rw (c.as_ref.ensures.value) at (h p marks c.args.rest.now (state_of (g.M.Memory.blocks c.args.memory.now) c.args.rest.now))))

pub returns-in-Init-clause-run : goal.returns-in-Init-clause-run
returns-in-Init-clause-run g c = ok_then c.initial.result c.initial.ensures.run (λ t h p marks. rw (c.in-Init.is) (rw (c.in-Init.is) at (h p marks)))
