use Rattle.std.proofs.Common.{sym, ◌∙◌}
use Rattle.trace_format.proofs.Cutting.{name_within, free_clashes, free_is_calm, alloc_is_calm}
use Rattle.trace_format.proofs.phase.Cutting.clashes.Goals as goal

pub owner_at-requires : goal.owner_at-requires
owner_at-requires c = name_within c.args.trace.now c.args.at c.args.self.now.start c.args.self.now.owners c.args.self.now.found c.in-Free.worker c.in-Free.name c.requires.trace c.requires.within c.requires.cut c.in-Free.ensures

pub returns-in-Alloc-clause-no : goal.returns-in-Alloc-clause-no
returns-in-Alloc-clause-no c = λ none.
    alloc_is_calm c.args.trace.now c.args.at c.args.self.now.start c.args.self.now.owners c.args.self.now.found c.in-Alloc.worker c.in-Alloc.name c.in-Alloc.token c.in-Alloc.size c.requires.trace c.requires.within c.requires.cut c.in-Alloc.ensures

pub returns-in-Free-clause-yes : goal.returns-in-Free-clause-yes
returns-in-Free-clause-yes c = λ test.
    free_clashes c.args.trace.now c.args.at c.args.self.now.start c.args.self.now.owners c.args.self.now.found c.in-Free.worker c.in-Free.name c.owner_at.result c.requires.trace c.requires.within c.requires.cut c.in-Free.ensures c.owner_at.ensures
    (sym c.is_other.ensures ∙ test)

pub returns-in-Free-clause-no : goal.returns-in-Free-clause-no
returns-in-Free-clause-no c = λ test.
    free_is_calm c.args.trace.now c.args.at c.args.self.now.start c.args.self.now.owners c.args.self.now.found c.in-Free.worker c.in-Free.name c.owner_at.result c.requires.trace c.requires.within c.requires.cut c.in-Free.ensures c.owner_at.ensures
    (sym c.is_other.ensures ∙ test)
