use Rattle.c_core.proofs.Views.{view_load, view_store, view_copy_record, view_convert, view_truth, view_arith, view_shift_bits, view_compare_int, view_ptr_add, view_ptr_diff, view_compare_ptr, view_both, view_either, view_choose, view_then, view_modify, view_call}
use Rattle.machine_expressions.proofs.parts.second_part.Goals as goal

pub returns-in-Store : goal.returns-in-Store
returns-in-Store c = rw (c.get.ensures, c.in-Store.is, view_store)

pub returns-in-CopyRecord : goal.returns-in-CopyRecord
returns-in-CopyRecord c = rw (c.get-in-CopyRecord.ensures, c.in-CopyRecord.is, view_copy_record)

pub returns-in-Arith : goal.returns-in-Arith
returns-in-Arith c = rw (c.get-in-Arith.ensures, c.in-Arith.is, view_arith)

pub returns-in-ShiftBits : goal.returns-in-ShiftBits
returns-in-ShiftBits c = rw (c.get-in-ShiftBits.ensures, c.in-ShiftBits.is, view_shift_bits)

pub returns-in-CompareInt : goal.returns-in-CompareInt
returns-in-CompareInt c = rw (c.get-in-CompareInt.ensures, c.in-CompareInt.is, view_compare_int)

pub returns-in-PtrAdd : goal.returns-in-PtrAdd
returns-in-PtrAdd c = rw (c.get-in-PtrAdd.ensures, c.in-PtrAdd.is, view_ptr_add)

pub returns-in-PtrDiff : goal.returns-in-PtrDiff
returns-in-PtrDiff c = rw (c.get-in-PtrDiff.ensures, c.in-PtrDiff.is, view_ptr_diff)

pub returns-in-ComparePtr : goal.returns-in-ComparePtr
returns-in-ComparePtr c = rw (c.get-in-ComparePtr.ensures, c.in-ComparePtr.is, view_compare_ptr)

pub returns-in-Modify : goal.returns-in-Modify
returns-in-Modify c = rw (c.get-in-Modify.ensures, c.in-Modify.is, view_modify)

pub returns-in-Load : goal.returns-in-Load
returns-in-Load c = rw (c.in-Load.is, view_load)

pub returns-in-Convert : goal.returns-in-Convert
returns-in-Convert c = rw (c.in-Convert.is, view_convert)

pub returns-in-Truth : goal.returns-in-Truth
returns-in-Truth c = rw (c.in-Truth.is, view_truth)

pub returns-in-Both : goal.returns-in-Both
returns-in-Both c = rw (c.in-Both.is, view_both)

pub returns-in-Either : goal.returns-in-Either
returns-in-Either c = rw (c.in-Either.is, view_either)

pub returns-in-Choose : goal.returns-in-Choose
returns-in-Choose c = rw (c.in-Choose.is, view_choose)

pub returns-in-Then : goal.returns-in-Then
returns-in-Then c = rw (c.in-Then.is, view_then)

pub returns-in-Call : goal.returns-in-Call
returns-in-Call c = rw (c.in-Call.is, view_call)
