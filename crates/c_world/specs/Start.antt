-- What is there before a unit.
use Rattle.std.specs.Prelude.{◌≡◌, ℕ, [], replicate, None}
use Rattle.c_world.specs.declared.state.start.Types.{Types}
use Rattle.c_world.specs.declared.state.start.NamesOnly.{NamesOnly}
use Rattle.c_world.specs.declared.state.start.Notes.{Notes}

pub record HasNoTypes (t : Types) : Type 0 where
  pub terms : t.table.terms ≡ []
  pub records : t.table.records ≡ []
  pub layouts : t.table.layouts ≡ []
  pub members : t.table.members ≡ []
  pub enums : t.table.enums ≡ []
  pub record_types : t.record_types.items ≡ []
  pub defined : t.defined.items ≡ []

pub record HasNoNames (n : NamesOnly) : Type 0 where
  pub tags : n.tags ≡ []
  pub completed : n.completed ≡ []
  pub others : n.others ≡ []

pub record HasNoNotes (nodes : ℕ) (n : Notes) : Type 0 where
  pub types : n.types ≡ replicate nodes None
  pub targets : n.targets ≡ replicate nodes None
  pub bindings : n.bindings ≡ replicate nodes None
  pub constants : n.constants ≡ replicate nodes None
