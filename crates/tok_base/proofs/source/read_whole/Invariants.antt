use Rattle.std.proofs.Common.{length, ◌-◌}
use Rattle.tok_base.specs.Source.{HasRead}
use Rattle.tok_base.proofs.source.read_whole.Given as goal

abbrev pub invariant-loop-bytes : goal.invariant-loop-bytes
invariant-loop-bytes g l = HasRead (g.S.Source.faults l.initial.source) (g.S.Source.faults l.source) (g.S.Source.rest l.initial.source) (g.S.Source.rest l.source) l.bytes.items l.limit

abbrev pub decreases-loop-bytes : goal.decreases-loop-bytes
decreases-loop-bytes g l = l.limit - length l.bytes.items
