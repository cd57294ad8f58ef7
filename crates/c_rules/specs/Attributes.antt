-- Rule 9: the attributes that are known, each also written `__name__`.
use Rattle.std.specs.Prelude.{ℕ, Bool, true, ◌&&◌, ◌||◌, List, [], ◌∷◌, ◌++◌, codes}
use Rattle.std.specs.List.{list_any}
use Rattle.c_tree.specs.Text.{same_text}
use Rattle.c_tree.specs.Marked.{Entry}

unfoldable pub attributes : List (List ℕ)
attributes =
    codes "no_sanitize" ∷ codes "disable_sanitizer_instrumentation" ∷ codes "unused" ∷ codes "noinline" ∷ codes "noreturn"
    ∷ codes "malloc" ∷ codes "alloc_size" ∷ codes "nothrow" ∷ codes "leaf" ∷ codes "pure" ∷ codes "nonnull"
    ∷ codes "warn_unused_result" ∷ []

abbrev pub is_name_of : List ℕ → List ℕ → Bool
is_name_of n a = same_text n a || same_text n (codes "__" ++ (a ++ codes "__"))

abbrev pub is_attribute : List ℕ → Bool
is_attribute n = list_any (is_name_of n) attributes

abbrev pub all_known : List Entry → Bool
all_known [] = true
all_known (e ∷ es) = is_attribute e.name && all_known es
