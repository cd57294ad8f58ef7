use Rattle.c_core.proofs.Views.{view_load, view_store, view_copy_record, view_convert, view_truth, view_arith, view_shift_bits, view_compare_int, view_ptr_add, view_ptr_diff, view_compare_ptr, view_both, view_either, view_choose, view_then, view_modify, view_call, view_lib_call, view_block, view_if, view_if_else, view_loop}
use Rattle.c_core.proofs.rows.each_form_is_seen.Goals as goal

pub returns-clause-expressions : goal.returns-clause-expressions
returns-clause-expressions c = record {
  load = view_load;
  store = view_store;
  copy_record = view_copy_record;
  convert = view_convert;
  truth = view_truth;
  arith = view_arith;
  shift_bits = view_shift_bits;
  compare_int = view_compare_int;
  ptr_add = view_ptr_add;
  ptr_diff = view_ptr_diff;
  compare_ptr = view_compare_ptr;
  both = view_both;
  either = view_either;
  choose = view_choose;
  then = view_then;
  modify = view_modify;
  call = view_call;
  lib_call = view_lib_call;
}

pub returns-clause-statements : goal.returns-clause-statements
returns-clause-statements c = record { block = view_block; choice = view_if; choice_else = view_if_else; loop = view_loop }
