-- What the state says in the words of the rules: types are trees.
use Rattle.std.specs.Prelude.{◌≡◌, ℕ, Bool, List, [], ◌∷◌, map, Option, option_map, Result, Ok, Err}
use Rattle.c_types.specs.CTypes.{CType}
use Rattle.c_types.specs.declared.terms.Term.{Term}
use Rattle.c_types.specs.declared.terms.TypeId.{TypeId}
use Rattle.c_types.specs.Records.{MemberOf}
use Rattle.c_types.specs.Table.{type_at, records_of}
use Rattle.c_rules.specs.World.{World, Entry, EnumOf, ObjectOf, FunctionOf}
use Rattle.c_rules.specs.Trials.{Trials, M, verdict, broke}
use Rattle.c_world.specs.declared.names.Bound.{Bound}
use Rattle.c_world.specs.declared.names.NameEntry.{NameEntry}
use Rattle.c_world.specs.declared.state.ObjectEntry.{ObjectEntry}
use Rattle.c_world.specs.declared.state.FunctionEntry.{FunctionEntry}
use Rattle.c_world.specs.declared.end.CheckEnd.{CheckEnd}
use Rattle.c_world.specs.declared.end.CheckEnd.TheVariants.{Rule, NoMemory}
use Rattle.c_world.specs.Inner.{Inner}

-- what a name stands for
abbrev pub entry_named : List Term → List ℕ → Bound → Entry
entry_named ts name b = record { name = name; sort = b.sort; type = type_at ts b.ty.0; depth = b.depth }

abbrev pub entry_of : List Term → NameEntry → Entry
entry_of ts e = entry_named ts e.name e.bound

abbrev pub object_of : List Term → ObjectEntry → ObjectOf
object_of ts o = record { type = type_at ts o.ty.0; local = o.local; is_defined = o.is_defined }

abbrev pub function_of : List Term → FunctionEntry → FunctionOf
function_of ts f = record { name = f.name; type = type_at ts f.ty.0; has_body = f.has_body }

-- a member that was found by its name
abbrev pub member_named : List Term → List ℕ → TypeId → MemberOf
member_named ts name t = record { name = name; type = type_at ts t.0 }

abbrev pub noted : List Term → Option TypeId → Option CType
noted ts t = option_map (λ i. type_at ts i.0) t

abbrev pub enums_of : List (List ℕ) → List Bool → List EnumOf
enums_of [] bs = []
enums_of (n ∷ ns) [] = []
enums_of (n ∷ ns) (b ∷ bs) = record { name = n; is_defined = b } ∷ enums_of ns bs

-- the state, with types as trees
unfoldable pub seen : Inner → World
seen v = record {
  names = map (entry_of v.table.terms) v.names;
  depth = v.depth;
  tags = v.tags;
  records = records_of v.table;
  enums = enums_of v.table.enums v.defined;
  unnamed = v.unnamed;
  objects = map (object_of v.table.terms) v.objects;
  functions = map (function_of v.table.terms) v.functions;
  locals = v.locals;
  completed = v.completed;
  others = v.others;
  types = map (noted v.table.terms) v.types;
  targets = map (noted v.table.terms) v.targets;
  bindings = v.bindings;
  constants = v.constants;
}

-- what a part of the check gives is what its definition gives, unless memory ran out: then nothing is said
abbrev pub Gives : {A B : Type 0} → M A → World → Result B CheckEnd → (B → A) → World → Type 0
Gives m old (Ok x) read new = (next : _ → World → Trials) → verdict (m next old) ≡ verdict (next (read x) new)
Gives m old (Err (Rule rule at)) read new = (next : _ → World → Trials) → verdict (m next old) ≡ broke rule at
Gives m old (Err NoMemory) read new = Unit {0}
