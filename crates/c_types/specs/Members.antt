-- The names of a record's members.
use Rattle.std.specs.Prelude.{ℕ, List, map}
use Rattle.c_types.specs.declared.records.Member.{Member}

abbrev pub names_in : List Member → List (List ℕ)
names_in ms = map (λ m. m.name) ms
