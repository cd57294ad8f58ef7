use Rattle.std.proofs.Common.{[], map, sym, ap, ◌∙◌}
use Rattle.c_types.specs.Table.{member_of, type_at}
use Rattle.c_world.proofs.Numbering.{none_given, seen_members}
use Rattle.c_world.proofs.state.World.members.Goals as goal

pub returns-then-is_finished-clause-are : goal.returns-then-is_finished-clause-are
returns-then-is_finished-clause-are c =
    rw (← c.self.view_is) (ap (map (member_of c.self.inside.table.terms)) (c.as_slice.ensures ∙ c.members.ensures.are)
    ∙ sym (seen_members _ (type_at c.self.inside.table.terms c.args.id.0) []))

pub returns-else-is_finished-clause-are : goal.returns-else-is_finished-clause-are
returns-else-is_finished-clause-are c =
    rw (← c.self.view_is) (sym (seen_members _ (type_at c.self.inside.table.terms c.args.id.0) []
    ∙ ap (map (member_of c.self.inside.table.terms)) (none_given _ (type_at c.self.inside.table.terms c.args.id.0) [] c.self.invariant (sym c.is_finished.ensures ∙ c.if-is_finished.false))))
