-- The parts together are the lists.
use Rattle.std.proofs.Common.{◌≡◌, ℕ, List, refl}
use Rattle.c_tree.specs.Lexeme.{spelled_so, words, marks}
use Rattle.c_symbol.specs.Chunks.{first_words, first_marks}

pub all_words : (s : List ℕ) → first_words s ≡ spelled_so s words
unfolding words
all_words s = refl

pub all_marks : (s : List ℕ) → first_marks s ≡ spelled_so s marks
unfolding marks
all_marks s = refl
