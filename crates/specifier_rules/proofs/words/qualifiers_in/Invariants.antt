use Rattle.std.proofs.Common.{◌≡◌, ◌<◌, map, drop, bit_or}
use Rattle.c_tree.specs.View.{view_keyword}
use Rattle.c_rules.specs.Specifiers as rules
use Rattle.specifier_rules.proofs.words.qualifiers_in.Given as goal

abbrev pub invariant-loop-word : goal.invariant-loop-word
invariant-loop-word l = record {
  is : rules.qualifiers_in (map view_keyword l.words) ≡ bit_or l.met (rules.qualifiers_in (map view_keyword (drop l.word-index l.words)));
  small : l.met < 8;
}
