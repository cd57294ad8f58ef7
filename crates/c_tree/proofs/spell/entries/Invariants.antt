use Rattle.std.proofs.Common.{map}
use Rattle.c_tree.specs.Bare.{bare_entry}
use Rattle.c_tree.specs.Put.{put_entry, put_more}
use Rattle.c_tree.specs.View.{view_entry}
use Rattle.c_tree.specs.Spelling.{Left}
use Rattle.c_tree.proofs.spell.entries.Given as goal

abbrev pub invariant-loop-e : goal.invariant-loop-e
invariant-loop-e l = Left (λ es. put_more put_entry (map bare_entry (map view_entry es))) l.initial.out l.out l.more l.e-index
