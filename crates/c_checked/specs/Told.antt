-- What is known of a node by its number, and of objects and functions by theirs.
use Rattle.std.specs.Prelude.{ℕ, List, Option, option_and_then, slice_get}
use Rattle.c_types.specs.CTypes.{CType}
use Rattle.c_rules.specs.Known.{Known}
use Rattle.c_rules.specs.World.{ObjectOf, FunctionOf}
use Rattle.c_rules.specs.declared.known.Binding.{Binding}
use Rattle.c_rules.specs.declared.known.ConstantValue.{ConstantValue}

-- what was noted of a node, if anything was
abbrev pub at_node : {A : Type 0} → List (Option A) → ℕ → Option A
at_node notes node = option_and_then (λ note. note) (slice_get notes node)

-- of an expression as written, a type name or a declared name
abbrev pub type_of : Known → ℕ → Option CType
type_of k node = at_node k.types node

-- to which an expression is converted as by assignment
abbrev pub target_of : Known → ℕ → Option CType
target_of k node = at_node k.targets node

-- of a name in an expression, or of the declared name of an object or a function
abbrev pub binding_of : Known → ℕ → Option Binding
binding_of k node = at_node k.bindings node

-- of a constant, or of an expression that initialises a static scalar
abbrev pub constant_of : Known → ℕ → Option ConstantValue
constant_of k node = at_node k.constants node

abbrev pub object_at : Known → ℕ → Option ObjectOf
object_at k number = slice_get k.objects number

abbrev pub function_at : Known → ℕ → Option FunctionOf
function_at k number = slice_get k.functions number
