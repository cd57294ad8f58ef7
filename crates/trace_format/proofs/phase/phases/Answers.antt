use Rattle.std.proofs.Common.{List, [], sym, subst}
use Rattle.trace_format.specs.Cut.{IsCut}
use Rattle.trace_format.specs.declared.phase.Owner.{Owner}
use Rattle.trace_format.specs.declared.phase.Phase.{Phase}
use Rattle.trace_format.proofs.Cutting.{cut_none}
use Rattle.trace_format.proofs.phase.phases.Goals as goal

pub loop-at-init : goal.loop-at-init
loop-at-init c =
    let es = c.args.trace.now.events in
    subst (λ (owners : List Owner). IsCut es 0 0 owners c.new-2.result 0) (sym c.new.ensures)
    (subst (λ (found : List Phase). IsCut es 0 0 [] found 0) (sym c.new-2.ensures) (cut_none es))
