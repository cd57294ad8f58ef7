-- The state by numbers of types.
use Rattle.std.specs.Prelude.{◌≡◌, ℕ, ◌<◌, Bool, List, [], length, slice_get, Option, Some, None, All}
use Rattle.c_types.specs.declared.terms.TypeId.{TypeId}
use Rattle.c_types.specs.declared.terms.Term.{Term}
use Rattle.c_types.specs.declared.records.Layout.{Layout}
use Rattle.c_types.specs.declared.records.Member.{Member}
use Rattle.c_types.specs.CTypes as c
use Rattle.c_types.specs.Layout.{layout_at}
use Rattle.c_types.specs.Records.{members_at}
use Rattle.c_types.specs.Table.{Table, type_at}
use Rattle.c_types.specs.RecordSteps.{HasMemberTypes}
use Rattle.c_rules.specs.World.{Tag}
use Rattle.c_rules.specs.declared.known.Binding.{Binding}
use Rattle.c_rules.specs.declared.known.ConstantValue.{ConstantValue}
use Rattle.c_rules.specs.declared.known.TagSort.TheVariants.{Struct, Union, Enumeration}
use Rattle.c_rules.specs.declared.known.TagSort.{TagSort}
use Rattle.c_world.specs.declared.names.NameEntry.{NameEntry}
use Rattle.c_world.specs.declared.state.ObjectEntry.{ObjectEntry}
use Rattle.c_world.specs.declared.state.FunctionEntry.{FunctionEntry}

pub record Inner : Type 0 where
  pub table : Table
  pub names : List NameEntry
  pub depth : ℕ
  pub tags : List Tag
  -- the types of the records, by their numbers
  pub record_types : List TypeId
  -- which enumerations are defined, by their numbers
  pub defined : List Bool
  pub unnamed : ℕ
  pub objects : List ObjectEntry
  pub functions : List FunctionEntry
  pub locals : ℕ
  pub completed : List (List ℕ)
  pub others : List (List ℕ)
  pub types : List (Option TypeId)
  pub targets : List (Option TypeId)
  pub bindings : List (Option Binding)
  pub constants : List (Option ConstantValue)

-- ---- the numbers of types are in the table

abbrev pub IsBelow : ℕ → Option TypeId → Type 0
IsBelow n None = Unit {0}
IsBelow n (Some t) = t.0 < n

abbrev pub AllBelow : ℕ → List (Option TypeId) → Type 0
AllBelow n ts = All (IsBelow n) ts

abbrev pub NamesBelow : ℕ → List NameEntry → Type 0
NamesBelow n es = All (λ e. e.bound.ty.0 < n) es

-- a tag's number is among the records, or among the enumerations
abbrev pub TagBelow : (records enums : ℕ) → TagSort → ℕ → Type 0
TagBelow records enums Struct k = k < records
TagBelow records enums Union k = k < records
TagBelow records enums Enumeration k = k < enums

abbrev pub TagsBelow : (records enums : ℕ) → List Tag → Type 0
TagsBelow records enums ts = All (λ t. TagBelow records enums t.sort t.number) ts

-- each number is that of the record's type
abbrev pub AreRecordTypes : List Term → List TypeId → Type 0
AreRecordTypes ts is = (k : ℕ) (i : TypeId) → slice_get is k ≡ Some i → (i.0 < length ts) × (type_at ts i.0 ≡ c.Record k)

-- a record that isn't finished has no members
abbrev pub AreOpen : List (Option Layout) → List (List Member) → Type 0
AreOpen ls mss = (k : ℕ) → layout_at ls k ≡ None → members_at mss k ≡ []

pub record IsSound (v : Inner) : Type 0 where
  pub names_below : NamesBelow (length v.table.terms) v.names
  pub tags_below : TagsBelow (length v.table.records) (length v.table.enums) v.tags
  pub layouts : length v.table.layouts ≡ length v.table.records
  pub members : HasMemberTypes v.table
  pub unfinished : AreOpen v.table.layouts v.table.members
  pub record_types : AreRecordTypes v.table.terms v.record_types
  pub records : length v.record_types ≡ length v.table.records
  pub enums : length v.defined ≡ length v.table.enums
  pub objects_below : All (λ o. o.ty.0 < length v.table.terms) v.objects
  pub functions_below : All (λ f. f.ty.0 < length v.table.terms) v.functions
  pub types_below : AllBelow (length v.table.terms) v.types
  pub targets_below : AllBelow (length v.table.terms) v.targets
