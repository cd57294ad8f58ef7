use Rattle.tok_base.proofs.Writing.{goes_on}
use Rattle.tok_base.proofs.sink.write_whole.Goals as goal

pub loop-done-preserved : goal.loop-done-preserved
loop-done-preserved g c =
    goes_on _ _ _ _ _ _ c.args.bytes.now c.behind.result.now c.loop-done.done c.in-Ok.count c.loop-done.invariant c.behind.ensures c.in-Ok.ensures.bound c.in-Ok.ensures.bytes c.in-Ok.ensures.cause.kept
