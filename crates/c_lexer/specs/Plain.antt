-- Names, words and marks by a test, for token lists that are written out.
use Rattle.std.specs.Prelude.{ℕ, Bool, false, not, ◌&&◌, List, [], ◌∷◌}
use Rattle.std.specs.List.{list_all}
use Rattle.c_lexer.specs.Bytes.{is_letter, is_name_byte}
use Rattle.c_lexer.specs.Name.{is_word}
use Rattle.c_lexer.specs.Mark.{is_mark}
use Rattle.tok_base.specs.declared.token.Kind.{Kind}
use Rattle.tok_base.specs.declared.token.Kind.TheVariants.{Name, Word, Number, Char, Text, Mark}
use Rattle.tok_base.specs.declared.token.Lexeme.{Lexeme}

-- identifier (6.4.2.1), or a keyword
abbrev pub is_name : List ℕ → Bool
is_name [] = false
is_name (b ∷ bs) = is_letter b && list_all is_name_byte bs

-- a token of one of these kinds
abbrev pub is_plain : Kind → List ℕ → Bool
is_plain Name w = is_name w && not (is_word w)
is_plain Word w = is_word w
is_plain Number w = false
is_plain Char w = false
is_plain Text w = false
is_plain Mark w = is_mark w

abbrev pub are_plain : List Lexeme → Bool
are_plain ls = list_all (λ l. is_plain l.kind l.text) ls
