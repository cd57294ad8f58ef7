-- What code knows of the type that a declarator makes.
use Rattle.std.specs.Prelude.{◌≡◌, ℕ, ◌<◌, true, false, List}
use Rattle.c_tree.specs.declared.operator.At.{At}
use Rattle.c_types.specs.declared.terms.Term.{Term}
use Rattle.c_types.specs.CTypes.{CType, is_flexible}
use Rattle.c_types.specs.Table.{type_at}
use Rattle.c_rules.specs.Declarators.{Built}
use Rattle.c_rules.specs.Trials.{M, give, ◌>>◌}
use Rattle.c_rules.specs.Walk.{judge_built}
use Rattle.c_rules.specs.World.{World, is_complete}
use Rattle.c_rules.specs.declared.known.Declares.{Declares}
use Rattle.declarator_rules.specs.declared.built.Built as r
use Rattle.declarator_rules.specs.declared.built.Built.TheVariants as v
use Rattle.declarator_rules.specs.declared.built.Made.{Made}
use Rattle.declarator_rules.specs.declared.built.Oversized.{Oversized}

-- what is made
abbrev pub made_of : List Term → Made → Built
made_of ts m = record { type = type_at ts m.ty.0; is_complete = true; is_sized = true; is_callable = m.is_callable; is_closed = m.is_closed }

-- all elements have sizes, but some array breaks 5
pub record IsOversized (w : World) (o : Oversized) (b : Built) : Type 0 where
  pub complete : b.is_complete ≡ true
  pub sized : b.is_sized ≡ false
  pub size : is_complete w b.type ≡ o.has_size
  pub flexible : is_flexible b.type ≡ o.is_flexible

abbrev pub IsBuilt : World → List Term → r.Built → Built → Type 0
IsBuilt w ts (v.Made m) b = b ≡ made_of ts m
IsBuilt w ts v.Incomplete b = b.is_complete ≡ false
IsBuilt w ts (v.Oversized o) b = IsOversized w o b

-- the type's number is below n
abbrev pub BuiltBelow : ℕ → r.Built → Type 0
BuiltBelow n (v.Made m) = m.ty.0 < n
BuiltBelow n v.Incomplete = Unit {0}
BuiltBelow n (v.Oversized o) = Unit {0}

-- 4, 5, 6 and 8, and then the type
abbrev pub judged_type : At → Declares → Built → M CType
judged_type at what b = do
  judge_built at what b
  give b.type
