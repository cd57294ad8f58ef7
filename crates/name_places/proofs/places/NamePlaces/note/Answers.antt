use Rattle.std.proofs.Common.{◌∙◌, sym}
use Rattle.name_places.specs.Placed.{placed}
use Rattle.name_places.proofs.Noting.{there}
use Rattle.name_places.proofs.places.NamePlaces.note.Goals as goal

pub returns-in-Some-clause-noted : goal.returns-in-Some-clause-noted
returns-in-Some-clause-noted c = λ other. there (placed c.args.self.now) c.args.name.now c.args.place c.in-Some._was other (sym c.find.ensures ∙ c.in-Some.is)
