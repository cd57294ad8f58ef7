-- A struct or union whose members keep the rules.
use Rattle.std.specs.Prelude.{ℕ, nat_lt, Bool, ◌&&◌, List, Option}
use Rattle.c_tree.specs.declared.operator.At.{At}
use Rattle.c_types.specs.CTypes.{CType, Record}
use Rattle.c_types.specs.Layout.{record_size}
use Rattle.c_types.specs.Records.{limit, MemberOf}
use Rattle.c_rules.specs.Names.{all_differ, is_tag_of}
use Rattle.c_rules.specs.Trials.{M, change, give, keep, world, ◌>>◌, ◌>>=◌}
use Rattle.c_rules.specs.Walk.{ends_well, finish_record, is_unfinished, member_types, tag_found, tag_sort}

abbrev pub finished_record : ℕ → List MemberOf → M CType
finished_record n ms = do
  change (finish_record n ms)
  give (Record n)

-- 5: the size of the record; 7: one sort, and defined once; 8: its members
abbrev pub tried_record : At → Bool → Option (List ℕ) → ℕ → List MemberOf → M (Unit {0})
tried_record at is_union tag n ms = do
  w ← world
  keep 5 at (nat_lt (record_size w.records.layouts is_union (member_types ms)) limit)
  keep 7 at (is_tag_of (tag_sort is_union) (tag_found w tag) && is_unfinished w n)
  keep 8 at (all_differ ms && ends_well is_union 0 ms)
