use Rattle.c_types.proofs.table.TypeTable.canonical_of.Goals as goal

pub made-requires-clause-fact : goal.made-requires-clause-fact
made-requires-clause-fact c = c.without_size.ensures.void c.args.self.now.layouts

pub made-requires-in-Int-clause-fact : goal.made-requires-in-Int-clause-fact
made-requires-in-Int-clause-fact c = c.of_int.ensures c.args.self.now.layouts

pub made-requires-in-Enum-clause-fact : goal.made-requires-in-Enum-clause-fact
made-requires-in-Enum-clause-fact c = c.of_enum.ensures c.args.self.now.layouts c.in-Enum.number

pub made-requires-in-Pointer-clause-fact : goal.made-requires-in-Pointer-clause-fact
made-requires-in-Pointer-clause-fact c = c.of_pointer.ensures c.args.self.now.layouts _

pub made-requires-in-Record-clause-fact : goal.made-requires-in-Record-clause-fact
made-requires-in-Record-clause-fact c = c.of_record.ensures c.args.self.now.layouts
