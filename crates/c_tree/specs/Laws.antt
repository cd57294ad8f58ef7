-- What holds of the definitions: statements that the functions of src/promises.rt carry.
use Rattle.std.specs.Prelude.{◌≡◌, List, [], IsSome, Some}
use Rattle.tok_base.specs.declared.token.Lexeme.{Lexeme}
use Rattle.c_lexer.specs.Lexeme.{IsLexeme}
use Rattle.c_tree.specs.Tok.{Tok}
use Rattle.c_tree.specs.Lexeme.{lexeme, classify}
use Rattle.c_tree.specs.Marked.{External}
use Rattle.c_tree.specs.Bare.{bare_unit}
use Rattle.c_tree.specs.Put.{toks}
use Rattle.c_tree.specs.Pieces.{pieces_unit, tokens_of}

-- each token is told by its kind and text
abbrev pub TokensAreTold : Type 0
TokensAreTold = (t : Tok) → classify (lexeme t) ≡ Some t

-- what is told from a kind and a text has this kind and this text
abbrev pub LexemesAreKept : Type 0
LexemesAreKept = (l : Lexeme) (t : Tok) → classify l ≡ Some t → lexeme t ≡ l

-- each kind and text that is a token of C is one of the grammar's
abbrev pub LexemesAreTold : Type 0
LexemesAreTold = (l : Lexeme) → IsLexeme l → IsSome (classify l)

-- the nodes of a unit begin and end between the tokens that it spells
abbrev pub PiecesAreTokens : Type 0
PiecesAreTokens = (u : List External) → tokens_of (pieces_unit u []) ≡ toks (bare_unit u)
