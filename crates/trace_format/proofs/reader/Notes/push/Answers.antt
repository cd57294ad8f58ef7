use Rattle.std.proofs.Common.{List, [], ◌∷◌, ◌++◌, Bool, sym, subst}
use Rattle.trace_format.proofs.Notes.{noted_more}
use Rattle.trace_format.specs.Noted.{Noted}
use Rattle.trace_format.specs.declared.trace.Event.{Event}
use Rattle.trace_format.proofs.reader.Notes.push.Goals as goal

pub returns-clause-noted : goal.returns-clause-noted
returns-clause-noted c =
    subst (λ (es : List Event). Noted c.flag.new.freed es) (sym c.in_ok-push.ensures.ok)
    (subst (λ (flags : List Bool). Noted flags (c.args.self.now.events ++ c.args.event ∷ [])) (sym c.in_ok-flag.ensures)
    (noted_more c.args.count c.args.workers c.args.self.now.freed c.args.self.now.events c.args.event c.requires.noted c.requires.fits))
