use Rattle.std.proofs.Common.{length, ◌-◌}
use Rattle.tok_base.specs.Sink.{HasWritten}
use Rattle.tok_base.proofs.sink.write_whole.Given as goal

abbrev pub invariant-loop-done : goal.invariant-loop-done
invariant-loop-done g l = HasWritten (g.S.Sink.faults l.initial.sink) (g.S.Sink.faults l.sink) (g.S.Sink.written l.initial.sink) (g.S.Sink.written l.sink) l.bytes l.done

abbrev pub decreases-loop-done : goal.decreases-loop-done
decreases-loop-done g l = length l.bytes - l.done
