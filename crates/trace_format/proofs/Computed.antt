-- The worked examples, by computation.
use Rattle.std.proofs.Common.{refl}
use Rattle.trace_format.specs.Examples.{Examples}

pub examples_hold : Examples
examples_hold = record {
  first = refl;
  no_last_end = refl;
  second = refl;
  no_name = refl;
  freed_twice = refl;
  never_allocated = refl;
  too_many = refl;
  many_before_form = refl;
  as_many_as_may_be = refl;
  name_skipped = refl;
  name_again = refl;
  no_such_worker = refl;
  no_such_token = refl;
  leading_zero = refl;
  largest_size = refl;
  too_large_a_number = refl;
  empty_line = refl;
  empty = refl;
  header_cut = refl;
  no_range = refl;
  not_whole_units = refl;
  ranges_too_large = refl;
}
