-- The type of a parameter, which a void that stands alone doesn't have.
use Rattle.std.specs.Prelude.{List, [], ◌∷◌, Option, Some, None}
use Rattle.c_types.specs.declared.terms.Term.{Term}
use Rattle.c_types.specs.declared.terms.TypeId.{TypeId}
use Rattle.c_types.specs.CTypes.{CType}
use Rattle.c_types.specs.Table.{type_at}

abbrev pub maybe_type : List Term → Option TypeId → List CType
maybe_type ts None = []
maybe_type ts (Some i) = type_at ts i.0 ∷ []
