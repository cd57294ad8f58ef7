use Rattle.std.proofs.Common.{◌≡◌, List, drop, map}
use Rattle.std.specs.Prelude.{is_some}
use Rattle.name_places.specs.Placed.{placed}
use Rattle.c_types.specs.declared.terms.Term.{Term}
use Rattle.c_types.specs.Table.{member_of}
use Rattle.c_rules.specs.Names.{all_differ}
use Rattle.declarator_rules.specs.Members.{differ_by}
use Rattle.declarator_rules.proofs.members.all_differ.Given as goal

abbrev pub invariant-loop-member : goal.invariant-loop-member
invariant-loop-member l =
    (ts : List Term) → all_differ (map (member_of ts) l.members) ≡ differ_by (λ n. is_some (placed l.places n)) (map (member_of ts) (drop l.member-index l.members))
