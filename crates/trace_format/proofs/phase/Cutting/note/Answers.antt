use Rattle.std.proofs.Common.{◌+◌, List, [], ◌∷◌, ◌++◌, sym, subst}
use Rattle.trace_format.specs.Cut.{owner, IsCut}
use Rattle.trace_format.specs.declared.phase.Owner.{Owner}
use Rattle.trace_format.proofs.Cutting.{alloc_noted, free_noted}
use Rattle.trace_format.proofs.phase.Cutting.note.Goals as goal

pub returns-in_ok-push-in-Alloc : goal.returns-in_ok-push-in-Alloc
returns-in_ok-push-in-Alloc c =
    let noted : IsCut c.args.trace.now.events (c.args.at + 1) (c.args.at + 1) (c.args.self.now.owners ++ owner c.in-Alloc.worker c.args.at ∷ []) c.args.self.now.found c.args.self.now.start =
    alloc_noted c.args.trace.now c.args.at c.args.self.now.start c.args.self.now.owners c.args.self.now.found c.in-Alloc.worker c.in-Alloc.name c.in-Alloc.token c.in-Alloc.size c.requires.trace c.requires.within c.requires.cut c.in-Alloc.ensures in
    subst (λ (owners : List Owner). IsCut c.args.trace.now.events (c.args.at + 1) (c.args.at + 1) owners c.args.self.now.found c.args.self.now.start) (sym c.in_ok-push-in-Alloc.ensures.ok) noted

pub returns-in-Free : goal.returns-in-Free
returns-in-Free c =
    free_noted c.args.trace.now c.args.at c.args.self.now.start c.args.self.now.owners c.args.self.now.found _ _ c.requires.trace c.requires.within c.requires.cut c.in-Free.ensures
