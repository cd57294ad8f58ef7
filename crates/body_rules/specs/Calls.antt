-- Whether a declarator declares a function, by what stands next to its name.
use Rattle.std.specs.Prelude.{Bool, true, false}
use Rattle.c_tree.specs.Marked as t

-- `is_call`: whether what stands around it is a function's layer, or is the base type and a function
abbrev pub calls : (is_call : Bool) → t.Declarator → Bool
calls is_call (t.Declared at n) = is_call
calls is_call (t.Group at d) = calls is_call d
calls is_call (t.PointerTo at qs d) = calls false d
calls is_call (t.ArrayOf at d n) = calls false d
calls is_call (t.FunctionOf at d ps) = calls true d
