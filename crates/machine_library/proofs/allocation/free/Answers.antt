use Rattle.std.proofs.Common.{sym, subst}
use Rattle.c_core.specs.declared.values.Pointer.{Pointer}
use Rattle.c_core.specs.declared.values.Value.{Value}
use Rattle.c_meaning.specs.Meaning.{free}
use Rattle.machine_library.specs.Leads.{Runs}
use Rattle.machine_library.proofs.allocation.free.Goals as goal

pub returns-in-Object-clause-run : goal.returns-in-Object-clause-run
returns-in-Object-clause-run g c = λ tok.
    subst (λ (p : Pointer). Runs Value tok (free c.args.span p) (g.M.Memory.blocks c.args.memory.now) c.args.ledger.now (g.M.Memory.blocks c.free_block.new.memory) c.free_block.new.ledger c.free_block.result) (sym c.in-Object.is) (c.free_block.ensures.run tok)
