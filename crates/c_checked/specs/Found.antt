-- What is kept of a unit that keeps all rules, by the numbers of types.
use Rattle.std.specs.Prelude.{◌≡◌, ◌<◌, Bool, List, length, map, Option, All}
use Rattle.c_types.specs.declared.terms.TypeId.{TypeId}
use Rattle.c_types.specs.Table.{Table, records_of}
use Rattle.c_rules.specs.Known.{Known}
use Rattle.c_rules.specs.declared.known.Binding.{Binding}
use Rattle.c_rules.specs.declared.known.ConstantValue.{ConstantValue}
use Rattle.c_world.specs.Inner.{AllBelow}
use Rattle.c_world.specs.declared.state.findings.Findings.{Findings}
use Rattle.c_world.specs.Seen.{enums_of, object_of, function_of, noted}
use Rattle.c_world.specs.declared.state.ObjectEntry.{ObjectEntry}
use Rattle.c_world.specs.declared.state.FunctionEntry.{FunctionEntry}

pub record Found : Type 0 where
  pub table : Table
  -- which enumerations are defined, by their numbers
  pub defined : List Bool
  pub objects : List ObjectEntry
  pub functions : List FunctionEntry
  -- by the numbers of nodes
  pub types : List (Option TypeId)
  pub targets : List (Option TypeId)
  pub bindings : List (Option Binding)
  pub constants : List (Option ConstantValue)

-- the same in the words of the rules, where types are trees
unfoldable pub known_of : Found → Known
known_of f = record {
  records = records_of f.table;
  enums = enums_of f.table.enums f.defined;
  objects = map (object_of f.table.terms) f.objects;
  functions = map (function_of f.table.terms) f.functions;
  types = map (noted f.table.terms) f.types;
  targets = map (noted f.table.terms) f.targets;
  bindings = f.bindings;
  constants = f.constants;
}

-- the numbers of types are in the table
pub record AreBelow (f : Found) : Type 0 where
  pub objects : All (λ o. o.ty.0 < length f.table.terms) f.objects
  pub functions : All (λ g. g.ty.0 < length f.table.terms) f.functions
  pub types : AllBelow (length f.table.terms) f.types
  pub targets : AllBelow (length f.table.terms) f.targets

-- it is what the check found
abbrev pub Holds : Findings → Found → Type 0
Holds f v = v ≡ record {
  table = f.table;
  defined = f.defined;
  objects = f.objects;
  functions = f.functions;
  types = f.types;
  targets = f.targets;
  bindings = f.bindings;
  constants = f.constants;
}
