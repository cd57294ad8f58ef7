-- The tokens (ISO/IEC 9899:2018, 6.4): preprocessing tokens, of which those of the language are picked by their kind.
use Rattle.std.specs.Prelude.{◌≡◌, ℕ, true, false, List}
use Rattle.c_lexer.specs.Name.{IsName, is_word}
use Rattle.c_lexer.specs.Number.{IsNumber, IsConstant}
use Rattle.c_lexer.specs.Literal.{IsChar, IsText}
use Rattle.c_lexer.specs.Mark.{is_mark}
use Rattle.tok_base.specs.declared.token.Kind.{Kind}
use Rattle.tok_base.specs.declared.token.Kind.TheVariants.{Name, Word, Number, Char, Text, Mark}

-- preprocessing-token (6.4): what is taken from a text as one; every number is taken whole, and only an integer constant is a token
pub data IsSpelling (w : List ℕ) : Type 0 where
  name : IsName w → IsSpelling w
  number : IsNumber w → IsSpelling w
  char : IsChar w → IsSpelling w
  text : IsText w → IsSpelling w
  mark : is_mark w ≡ true → IsSpelling w

-- token (6.4): w spells one of this kind; a keyword is no identifier (6.4.1, 2)
abbrev pub IsToken : Kind → List ℕ → Type 0
IsToken Name w = IsName w × (is_word w ≡ false)
IsToken Word w = is_word w ≡ true
IsToken Number w = IsConstant w
IsToken Char w = IsChar w
IsToken Text w = IsText w
IsToken Mark w = is_mark w ≡ true
