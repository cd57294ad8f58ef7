-- The worked examples, by computation.
use Rattle.std.proofs.Common.{refl}
use Rattle.command_line.specs.OptionExamples.{OptionExamples}

pub examples_hold : OptionExamples
examples_hold = record {
  file_last = refl;
  file_first = refl;
  file_between = refl;
  default = refl;
  max_lowest = refl;
  max_highest = refl;
  max_zero = refl;
  max_above = refl;
  max_leading_zero = refl;
  max_signed = refl;
  max_no_number = refl;
  max_empty = refl;
  max_last = refl;
  max_twice = refl;
  max_equals = refl;
  mode_twice = refl;
  mode_other = refl;
  mode_missing = refl;
  mode_option = refl;
  help = refl;
  dashes = refl;
  dash = refl;
  two_files = refl;
  no_file = refl;
  empty_word = refl;
  other_command = refl;
  command_alone = refl;
  no_words = refl;
  file_then_mode = refl;
  max_then_file = refl;
  file_named_as_mode = refl;
  file_named_as_command = refl;
  file_of_any_bytes = refl;
  max_above_32_bits = refl;
  max_above_64_bits = refl;
  max_two_zeros = refl;
  max_negative = refl;
  max_blank = refl;
  max_hexadecimal = refl;
  max_word = refl;
  mode_last = refl;
  mode_shorter = refl;
  mode_longer = refl;
  mode_empty = refl;
  mode_equals = refl;
  max_without_mode = refl;
  help_alone = refl;
  one_file_twice = refl;
  command_later = refl;
  one_empty_word = refl;
}
