use Rattle.c_types.proofs.table.TypeTable.push_enum.Goals as goal

pub put_root-requires-clause-fact : goal.put_root-requires-clause-fact
put_root-requires-clause-fact c = c.of_int.ensures c.args.self.now.layouts

pub put_root-requires-2-clause-fact : goal.put_root-requires-2-clause-fact
put_root-requires-2-clause-fact c = c.of_enum.ensures c.push_name.new.self.layouts c.count_enums-number.result
