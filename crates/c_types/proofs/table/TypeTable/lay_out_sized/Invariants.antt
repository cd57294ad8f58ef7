use Rattle.std.proofs.Common.{drop}
use Rattle.c_types.specs.Table.{member_types}
use Rattle.c_types.proofs.Laying.{IsLaid}
use Rattle.c_types.proofs.table.TypeTable.lay_out_sized.Given as goal

abbrev pub invariant-loop-member : goal.invariant-loop-member
invariant-loop-member l = IsLaid l.self.layouts l.is_union (member_types l.self.terms l.members) (member_types l.self.terms (drop l.member-index l.members)) l.offsets l.so_far.end l.so_far.align l.so_far.has_pointer l.so_far.has_const
