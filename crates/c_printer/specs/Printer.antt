-- What a text reads as.
use Rattle.std.specs.Prelude.{ℕ, List}
use Rattle.tok_base.specs.declared.token.Lexeme.{Lexeme}
use Rattle.c_lexer.specs.Lexeme.{LexesTo}
use Rattle.c_tree.specs.Tree.{External}
use Rattle.c_tree.specs.Reading.{Reads}

-- the text is tokens with separators between them, and u is a well-formed unit that spells these tokens
abbrev pub ReadsAs : List ℕ → List External → Type 0
ReadsAs text u = (ls : List Lexeme) × LexesTo text ls × Reads ls u
