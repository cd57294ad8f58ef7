-- A declarator that was read, by the numbers of its types, in the words of the rules.
use Rattle.std.specs.Prelude.{ℕ, ◌<◌, List, [], ◌∷◌, map}
use Rattle.c_types.specs.declared.terms.Term.{Term}
use Rattle.c_types.specs.declared.terms.TypeId.{TypeId}
use Rattle.c_types.specs.CTypes.{CType}
use Rattle.c_types.specs.Table.{type_at, AllBelow}
use Rattle.c_rules.specs.Declarators as rules
use Rattle.c_rules.specs.World.{Entry}
use Rattle.c_world.specs.declared.names.NameEntry.{NameEntry}
use Rattle.c_world.specs.Inner.{NamesBelow}
use Rattle.c_world.specs.Seen.{entry_of}
use Rattle.declarator_rules.specs.declared.layers.Layer.{Layer}
use Rattle.declarator_rules.specs.declared.layers.Layer.TheVariants as l
use Rattle.declarator_rules.specs.declared.layers.Laid.{Laid}

abbrev pub all_types : List Term → List TypeId → List CType
all_types ts is = map (λ (i : TypeId). type_at ts i.0) is

abbrev pub all_names : List Term → List NameEntry → List Entry
all_names ts es = map (entry_of ts) es

abbrev pub layer_of : List Term → Layer → rules.Layer
layer_of ts (l.Pointer q) = rules.pointer q
layer_of ts (l.Array c) = rules.array c
layer_of ts l.Unsized = rules.unsized
layer_of ts (l.Function ps es) = rules.function (all_types ts ps) (all_names ts es)

abbrev pub layers_of : List Term → List Layer → List rules.Layer
layers_of ts ls = map (layer_of ts) ls

abbrev pub laid_of : List Term → Laid → rules.Laid
laid_of ts d = record { name = d.name; name_at = d.name_at; layers = layers_of ts d.layers }

-- the types of a layer have numbers below n, and its qualifiers are below 8
abbrev pub LayerBelow : ℕ → Layer → Type 0
LayerBelow n (l.Pointer q) = q < 8
LayerBelow n (l.Array c) = Unit {0}
LayerBelow n l.Unsized = Unit {0}
LayerBelow n (l.Function ps es) = AllBelow n ps × NamesBelow n es

abbrev pub LayersBelow : ℕ → List Layer → Type 0
LayersBelow n [] = Unit {0}
LayersBelow n (l ∷ ls) = LayerBelow n l × LayersBelow n ls
