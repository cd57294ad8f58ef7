use Rattle.std.proofs.Common.{refl}
use Rattle.name_places.specs.Placed.{placed}
use Rattle.name_places.proofs.places.NamePlaces.new.Goals as goal

pub returns : goal.returns
unfolding placed
returns c = λ name. rw c.new.ensures.empty refl
