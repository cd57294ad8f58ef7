use Rattle.std.proofs.Common.{◌+◌, List, refl, sym, subst}
use Rattle.trace_format.specs.Cut.{IsCut}
use Rattle.trace_format.specs.declared.phase.Phase.{Phase}
use Rattle.trace_format.proofs.Cutting.{cut_turn}
use Rattle.trace_format.proofs.phase.Cutting.turn.Goals as goal

pub returns : goal.returns
returns c =
    subst (λ (found : List Phase). IsCut c.args.trace.now.events c.args.at (c.args.at + 1) c.args.self.now.owners found c.args.at) (sym c.in_ok-push.ensures.ok)
    (cut_turn c.args.trace.now.events c.args.at c.args.self.now.start c.args.self.now.owners c.args.self.now.found c.requires.within c.requires.cut (c.if-not-clashes.ensures.yes refl))
