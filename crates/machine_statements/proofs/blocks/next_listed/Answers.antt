use Rattle.std.proofs.Common.{sym}
use Rattle.c_core.specs.View.{stmt_of}
use Rattle.machine_frames.specs.Views.{stacks_of}
use Rattle.machine_statements.proofs.Listed.{listed_there}
use Rattle.machine_statements.proofs.blocks.next_listed.Goals as goal

pub returns-in_ok-wait-in-Some-clause-run : goal.returns-in_ok-wait-in-Some-clause-run
returns-in_ok-wait-in-Some-clause-run c = λ p marks r s.
    rw (c.in_ok-wait-in-Some.ensures.frames, c.wait.ensures.values)
    (sym (listed_there p marks c.args.objects.now c.args.statements.now _ (stmt_of c.args.x.now) c.args.number (stacks_of c.args.stacks.now.frames.items c.args.stacks.now.values.items r) s c.requires c.in-Some.ensures))

pub returns-in-None-clause-run : goal.returns-in-None-clause-run
returns-in-None-clause-run c = λ p marks r s.
    sym (listed_there p marks c.args.objects.now c.args.statements.now _ (stmt_of c.args.x.now) c.args.number (stacks_of c.args.stacks.now.frames.items c.args.stacks.now.values.items r) s c.requires c.in-None.ensures)
