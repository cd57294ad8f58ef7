use Rattle.std.proofs.Common.{sym, ◌∙◌}
use Rattle.c_core.specs.View.{stmt_of}
use Rattle.machine_frames.specs.Views.{stacks_of}
use Rattle.machine_expressions.proofs.Integers.{ok_then}
use Rattle.machine_statements.proofs.Listed.{goes_on}
use Rattle.machine_statements.proofs.blocks.list_goes_on.Goals as goal

pub returns-in-Next-clause-run : goal.returns-in-Next-clause-run
returns-in-Next-clause-run c =
    ok_then c.next_behind.result c.next_behind.ensures.run (λ t h p marks r s. h p marks r s
    ∙ sym (goes_on p marks c.args.objects.now c.args.statements.now (stmt_of c.args.x.now) c.args.number c.args.flow (stacks_of c.args.stacks.now.frames.items c.args.stacks.now.values.items r) s c.requires c.in-Next.is))
