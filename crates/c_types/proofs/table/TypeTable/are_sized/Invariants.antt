use Rattle.std.proofs.Common.{◌≡◌, drop}
use Rattle.c_types.specs.Layout.{are_sized}
use Rattle.c_types.specs.Table.{member_types}
use Rattle.c_types.proofs.table.TypeTable.are_sized.Given as goal

abbrev pub invariant-loop-i : goal.invariant-loop-i
invariant-loop-i l = are_sized l.self.layouts (member_types l.self.terms l.members) ≡ are_sized l.self.layouts (member_types l.self.terms (drop l.i l.members))
