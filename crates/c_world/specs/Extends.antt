-- How the table of types grows.
use Rattle.std.specs.Prelude.{◌≤◌, length}
use Rattle.c_types.specs.Table.{Table, Grows}

-- types keep their numbers, and so do records and enumerations
pub record Extends (old new : Table) : Type 0 where
  pub grows : Grows old.terms new.terms
  pub records : length old.records ≤ length new.records
  pub enums : length old.enums ≤ length new.enums
