-- Tokens written in lines.
use Rattle.std.specs.Prelude.{ℕ, List, [], ◌∷◌, ◌++◌, flat_map}
use Rattle.std.specs.List.{join_by}
use Rattle.tok_base.specs.declared.token.Lexeme.{Lexeme}

-- the tokens with one space between two, and LF behind the last
abbrev pub line_text : List Lexeme → List ℕ
line_text line = join_by (λ l. l.text) (32 ∷ []) line ++ 10 ∷ []

abbrev pub text_of_lines : List (List Lexeme) → List ℕ
text_of_lines lines = flat_map line_text lines
