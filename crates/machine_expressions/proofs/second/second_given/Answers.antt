use Rattle.c_core.proofs.Views.{view_arith, view_shift_bits, view_compare_int, view_ptr_add, view_ptr_diff, view_compare_ptr, view_store, view_copy_record, view_modify}
use Rattle.c_meaning.specs.Rules as rules
use Rattle.machine_frames.specs.Views.{state_of}
use Rattle.machine_expressions.proofs.Integers.{same_given}
use Rattle.machine_expressions.proofs.second.second_given.Goals as goal

pub returns-in-Arith-clause-run : goal.returns-in-Arith-clause-run
returns-in-Arith-clause-run g c = λ p marks r st. rw (c.in-Arith.is, view_arith) (c.compute.ensures.run st (state_of (g.M.Memory.blocks c.args.memory.now) r))

pub returns-in-Arith-clause-given : goal.returns-in-Arith-clause-given
returns-in-Arith-clause-given g c = c.compute.ensures.given (g.M.Memory.sizes c.args.memory.now)

pub returns-in-ShiftBits-clause-run : goal.returns-in-ShiftBits-clause-run
returns-in-ShiftBits-clause-run g c = λ p marks r st. rw (c.in-ShiftBits.is, view_shift_bits) (c.move_bits.ensures.run st (state_of (g.M.Memory.blocks c.args.memory.now) r))

pub returns-in-ShiftBits-clause-given : goal.returns-in-ShiftBits-clause-given
returns-in-ShiftBits-clause-given g c = c.move_bits.ensures.given (g.M.Memory.sizes c.args.memory.now)

pub returns-in-CompareInt-clause-run : goal.returns-in-CompareInt-clause-run
returns-in-CompareInt-clause-run g c = λ p marks r st. rw (c.in-CompareInt.is, view_compare_int, ← c.compare_int.ensures) (c.gives.ensures.run st (state_of (g.M.Memory.blocks c.args.memory.now) r))

pub returns-in-CompareInt-clause-given : goal.returns-in-CompareInt-clause-given
returns-in-CompareInt-clause-given g c =
    let sizes = g.M.Memory.sizes c.args.memory.now in
    c.gives.ensures.given sizes (same_given sizes c.compare_int.result (rules.compare_int _ c.args.x c.args.y) c.compare_int.ensures tt)

pub returns-in-PtrAdd-clause-run : goal.returns-in-PtrAdd-clause-run
returns-in-PtrAdd-clause-run g c = λ p marks r st. rw (c.in-PtrAdd.is, view_ptr_add) (c.add.ensures.run r st)

pub returns-in-PtrDiff-clause-run : goal.returns-in-PtrDiff-clause-run
returns-in-PtrDiff-clause-run g c = λ p marks r st. rw (c.in-PtrDiff.is, view_ptr_diff) (c.subtract.ensures.run r st)

pub returns-in-ComparePtr-clause-run : goal.returns-in-ComparePtr-clause-run
returns-in-ComparePtr-clause-run g c = λ p marks r st. rw (c.in-ComparePtr.is, view_compare_ptr) (c.compare.ensures.run r st)

pub returns-in-Store-clause-run : goal.returns-in-Store-clause-run
returns-in-Store-clause-run g c = λ p marks r st. rw (c.in-Store.is, view_store) (c.store.ensures.run r st)

pub returns-in-CopyRecord-clause-run : goal.returns-in-CopyRecord-clause-run
returns-in-CopyRecord-clause-run g c = λ p marks r st. rw (c.in-CopyRecord.is, view_copy_record) (c.copy.ensures.run r st)

pub returns-in-Modify-clause-run : goal.returns-in-Modify-clause-run
returns-in-Modify-clause-run g c = λ p marks r st. rw (c.in-Modify.is, view_modify) (c.assign.ensures.run r st)
