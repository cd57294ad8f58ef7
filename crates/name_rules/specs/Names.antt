-- The type with which a name is declared, if there is one.
use Rattle.std.specs.Prelude.{◌≡◌, ℕ, ◌<◌, List, Option, Some, None}
use Rattle.c_types.specs.declared.terms.Term.{Term}
use Rattle.c_types.specs.declared.terms.TypeId.{TypeId}
use Rattle.c_types.specs.CTypes.{CType}
use Rattle.c_types.specs.Compatible.{is_same}
use Rattle.c_types.specs.Table.{type_at}

-- a type that is the same as t to all others
abbrev pub IsSameAs : List Term → Option TypeId → CType → Type 0
IsSameAs ts None t = Unit {0}
IsSameAs ts (Some i) t = (u : CType) → is_same (type_at ts i.0) u ≡ is_same t u

abbrev pub TypeBelow : ℕ → Option TypeId → Type 0
TypeBelow n None = Unit {0}
TypeBelow n (Some i) = i.0 < n
