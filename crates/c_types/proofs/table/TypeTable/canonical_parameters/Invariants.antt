use Rattle.std.proofs.Common.{◌≡◌, take}
use Rattle.c_types.specs.Canonical.{canonical_parameters}
use Rattle.c_types.specs.Roots.{AreParameters}
use Rattle.c_types.specs.Table.{types_at}
use Rattle.c_types.proofs.table.TypeTable.canonical_parameters.Given as goal

abbrev pub invariant-loop-parameter : goal.invariant-loop-parameter
invariant-loop-parameter l = record {
  roots : AreParameters l.self.terms l.roots;
  are : types_at l.self.terms l.roots ≡ canonical_parameters (types_at l.self.terms (take l.parameter-index l.parameters));
}
