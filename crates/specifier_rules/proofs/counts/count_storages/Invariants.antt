use Rattle.std.proofs.Common.{◌≡◌, ◌≤◌, ◌+◌, map, drop}
use Rattle.c_tree.specs.View.{view_keyword}
use Rattle.c_rules.specs.Specifiers as rules
use Rattle.specifier_rules.proofs.counts.count_storages.Given as goal

abbrev pub invariant-loop-word : goal.invariant-loop-word
invariant-loop-word l = record {
  is : rules.how_many rules.is_storage (map view_keyword l.words) ≡ l.count + rules.how_many rules.is_storage (map view_keyword (drop l.word-index l.words));
  low : l.count ≤ l.word-index;
}
