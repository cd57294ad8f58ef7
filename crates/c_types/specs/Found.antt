-- The number of a key.
use Rattle.std.specs.Prelude.{ℕ, List, Option}
use Rattle.std.specs.Ordering.{nat_cmp}
use Rattle.std.specs.Cmp.Lexicographic.{slice_cmp}
use Rattle.std.specs.BTreeMap.{get_by}
use Rattle.c_types.specs.declared.numbers.Numbers.{Numbers}

unfoldable pub found : Numbers → List ℕ → Option ℕ
found numbers key = get_by (λ k. slice_cmp nat_cmp key k.items) numbers.by_key
