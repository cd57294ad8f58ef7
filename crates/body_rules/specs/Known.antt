-- The known attributes in three parts.
use Rattle.std.specs.Prelude.{ℕ, Bool, true, if◌then◌else◌, List, codes}
use Rattle.c_rules.specs.Attributes.{is_name_of}

abbrev pub is_known_first : List ℕ → Bool
is_known_first n =
    if is_name_of n (codes "no_sanitize") then true
    else if is_name_of n (codes "disable_sanitizer_instrumentation") then true
    else if is_name_of n (codes "unused") then true
    else is_name_of n (codes "noinline")

abbrev pub is_known_second : List ℕ → Bool
is_known_second n =
    if is_name_of n (codes "noreturn") then true
    else if is_name_of n (codes "malloc") then true
    else if is_name_of n (codes "alloc_size") then true
    else is_name_of n (codes "nothrow")

abbrev pub is_known_third : List ℕ → Bool
is_known_third n =
    if is_name_of n (codes "leaf") then true
    else if is_name_of n (codes "pure") then true
    else if is_name_of n (codes "nonnull") then true
    else is_name_of n (codes "warn_unused_result")
