-- Whether a declarator declares a function, by what stands next to its name.
use Rattle.std.proofs.Common.{◌≡◌, Bool, true, false, if◌then◌else◌, refl}
use Rattle.c_tree.specs.Marked as t
use Rattle.c_types.specs.CTypes.{CType}
use Rattle.c_types.specs.Plain.{plain, is_function}
use Rattle.c_rules.specs.Unit.{next_to_name}
use Rattle.body_rules.specs.Calls.{calls}

pub calls_is : (has_layer is_call : Bool) (base : CType) (d : t.Declarator)
    → next_to_name has_layer is_call base d ≡ calls (if has_layer then is_call else is_function (plain base)) d
calls_is true is_call base (t.Declared at n) = refl
calls_is false is_call base (t.Declared at n) = refl
calls_is h is_call base (t.Group at d) = calls_is h is_call base d
calls_is h is_call base (t.PointerTo at qs d) = calls_is true false base d
calls_is h is_call base (t.ArrayOf at d n) = calls_is true false base d
calls_is h is_call base (t.FunctionOf at d ps) = calls_is true true base d
