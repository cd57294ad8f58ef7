use Rattle.std.proofs.Common.{ℕ, ◌∷◌, ◌++◌, [], List, length, refl, sym, subst, arith}
use Rattle.trace_format.specs.Cut.{phase}
use Rattle.trace_format.specs.Phases.{PhasesFrom}
use Rattle.trace_format.specs.declared.phase.Phase.{Phase}
use Rattle.trace_format.proofs.Cutting.{cut_last, cut_whole}
use Rattle.trace_format.proofs.phase.Cutting.finish.Goals as goal

pub returns-then-start-end : goal.returns-then-start-end
returns-then-start-end c =
    let es = c.args.trace.now.events in
    cut_whole es (length es) c.args.self.start c.args.self.owners c.args.self.found c.requires.cut refl (omega arith)

pub returns : goal.returns
returns c =
    let es = c.args.trace.now.events in
    subst (λ (found : List Phase). PhasesFrom es 0 found) (sym c.in_ok-push.ensures.ok)
    (subst (λ (end : ℕ). PhasesFrom es 0 (c.args.self.found ++ phase c.args.self.start end ∷ [])) (sym c.len-end.ensures)
    (cut_last es (length es) c.args.self.start c.args.self.owners c.args.self.found c.requires.cut refl (omega arith)))
