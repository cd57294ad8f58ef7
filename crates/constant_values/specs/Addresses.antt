-- What an address's fields mean.
use Rattle.std.specs.Prelude.{pos, unsigned_abs, ◌≡◌, refl}
use Rattle.c_rules.specs.Typed.{Address, no_address, null_address, function_address, text_address, in_object}
use Rattle.constant_values.specs.declared.address.Place.{Place}
use Rattle.constant_values.specs.declared.address.Place.TheVariants as place

abbrev pub placed : Place → Address
placed place.Nowhere = no_address
placed place.Null = null_address
placed (place.Function b) = function_address b
placed (place.Text node) = text_address node
placed (place.Object number size offset) = in_object number size (pos offset)

abbrev pub place_of : Address → Place
place_of no_address = place.Nowhere
place_of null_address = place.Null
place_of (function_address b) = place.Function b
place_of (text_address node) = place.Text node
place_of (in_object number size offset) = place.Object number size (unsigned_abs offset)

pub place_back : (p : Place) → place_of (placed p) ≡ p
place_back place.Nowhere = refl
place_back place.Null = refl
place_back (place.Function b) = refl
place_back (place.Text node) = refl
place_back (place.Object number size offset) = refl
