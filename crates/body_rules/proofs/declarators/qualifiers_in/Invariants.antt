use Rattle.std.proofs.Common.{◌≡◌, ◌<◌, map, drop, bit_or}
use Rattle.c_tree.specs.View.{view_qualifier}
use Rattle.c_rules.specs.Specifiers as specifiers
use Rattle.body_rules.proofs.declarators.qualifiers_in.Given as goal

abbrev pub invariant-loop-qualifier : goal.invariant-loop-qualifier
invariant-loop-qualifier l = record {
  is : specifiers.qualifiers_in (map view_qualifier l.qualifier-items) ≡ bit_or l.met (specifiers.qualifiers_in (map view_qualifier (drop l.qualifier-index l.qualifier-items)));
  small : l.met < 8;
}
