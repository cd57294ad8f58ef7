-- The function with a number.
use Rattle.std.specs.Prelude.{ℕ, List, Option, Some, None, slice_get}
use Rattle.c_core.specs.Library.{Callee}

abbrev pub found_callee : Option (Option Callee) → Option Callee
found_callee None = None
found_callee (Some callee) = callee

abbrev pub callee_at : List (Option Callee) → ℕ → Option Callee
callee_at callees n = found_callee (slice_get callees n)
