-- What is kept of a state when the check is over.
use Rattle.std.specs.Prelude.{◌≡◌, ◌<◌, length, All}
use Rattle.c_world.specs.declared.state.findings.Findings.{Findings}
use Rattle.c_world.specs.Inner.{Inner, AllBelow}

-- all but the names in scope
pub record Keeps (v : Inner) (f : Findings) : Type 0 where
  pub table : f.table ≡ v.table
  pub defined : f.defined ≡ v.defined
  pub objects : f.objects ≡ v.objects
  pub functions : f.functions ≡ v.functions
  pub types : f.types ≡ v.types
  pub targets : f.targets ≡ v.targets
  pub bindings : f.bindings ≡ v.bindings
  pub constants : f.constants ≡ v.constants

-- the numbers of types are in the table
pub record AreBelow (f : Findings) : Type 0 where
  pub objects : All (λ o. o.ty.0 < length f.table.terms) f.objects
  pub functions : All (λ g. g.ty.0 < length f.table.terms) f.functions
  pub types : AllBelow (length f.table.terms) f.types
  pub targets : AllBelow (length f.table.terms) f.targets
