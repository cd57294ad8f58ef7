use Rattle.std.proofs.Common.{rules}
use Rattle.name_places.specs.Placed.{placed}
use Rattle.name_places.proofs.places.NamePlaces.find.Goals as goal

pub returns : goal.returns
unfolding placed
returns c = search rules
