-- Tokens apart from their places in a text.
use Rattle.std.specs.Prelude.{◌≡◌, ℕ, List, map}
use Rattle.c_lexer.specs.Token.{IsToken}
use Rattle.c_lexer.specs.Cut.{Lexes}
use Rattle.tok_base.specs.declared.token.Token.{Token}
use Rattle.tok_base.specs.declared.token.Lexeme.{Lexeme}

-- the token's kind and spelling
abbrev pub lexeme_of : Token → Lexeme
lexeme_of t = record { kind = t.kind; text = t.text }

-- a token of C by its kind and spelling
abbrev pub IsLexeme : Lexeme → Type 0
IsLexeme l = IsToken l.kind l.text

-- the text is these tokens, wherever in it they stand, with separators between them
pub record LexesTo (text : List ℕ) (lexemes : List Lexeme) : Type 0 where
  pub tokens : List Token
  pub lexes : Lexes text tokens
  pub are : map lexeme_of tokens ≡ lexemes
