use Rattle.c_types.proofs.table.TypeTable.fact_of.Goals as goal

pub returns-in-Void-clause-ok : goal.returns-in-Void-clause-ok
returns-in-Void-clause-ok c = rw c.in-Void.is (c.without_size.ensures.void c.args.self.now.layouts)

pub returns-in-Int-clause-ok : goal.returns-in-Int-clause-ok
returns-in-Int-clause-ok c = rw c.in-Int.is (c.of_int.ensures c.args.self.now.layouts)

pub returns-in-Enum-clause-ok : goal.returns-in-Enum-clause-ok
returns-in-Enum-clause-ok c = rw c.in-Enum.is (c.of_enum.ensures c.args.self.now.layouts c.in-Enum.field-0)

pub returns-in-Pointer-clause-ok : goal.returns-in-Pointer-clause-ok
returns-in-Pointer-clause-ok c = rw c.in-Pointer.is (c.of_pointer.ensures c.args.self.now.layouts _)

pub returns-in-Function-clause-ok : goal.returns-in-Function-clause-ok
returns-in-Function-clause-ok c = rw c.in-Function.is (c.without_size-in-Function.ensures.function c.args.self.now.layouts _ _)

pub returns-in-Record-clause-ok : goal.returns-in-Record-clause-ok
returns-in-Record-clause-ok c = rw c.in-Record.is (c.of_record.ensures c.args.self.now.layouts)
