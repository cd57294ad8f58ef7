-- The text of a unit: the tokens of each external declaration joined by one space, then LF. And what holds of it.
use Rattle.std.specs.Prelude.{◌≡◌, ℕ, List, [], ◌++◌, map, flat_map, All}
use Rattle.tok_base.specs.declared.token.Lexeme.{Lexeme}
use Rattle.c_lexer.specs.Lexeme.{IsLexeme, LexesTo}
use Rattle.c_lexer.specs.Lines.{text_of_lines}
use Rattle.c_tree.specs.Tok.{Tok}
use Rattle.c_tree.specs.Tree.{External}
use Rattle.c_tree.specs.Put.{put_external, toks}
use Rattle.c_tree.specs.Lexeme.{lexeme}
use Rattle.c_tree.specs.Wf.{WfUnit}
use Rattle.c_tree.specs.Reading.{spelled}

-- a line of tokens for each external declaration
abbrev pub unit_lines : List External → List (List Lexeme)
unit_lines u = map (λ e. map lexeme (put_external e [])) u

abbrev pub unit_text : List External → List ℕ
unit_text u = text_of_lines (unit_lines u)

-- what an external declaration spells stands before the rest, whatever that is
abbrev pub RestFollows : Type 0
RestFollows = (e : External) (rest : List Tok) → put_external e rest ≡ put_external e [] ++ rest

-- a unit spells what its external declarations spell, one after another
abbrev pub UnitIsEach : Type 0
UnitIsEach = (u : List External) → flat_map (λ e. put_external e []) u ≡ toks u

abbrev pub LinesAreUnit : Type 0
LinesAreUnit = (u : List External) → flat_map (λ line. line) (unit_lines u) ≡ spelled u

-- a well-formed unit spells tokens of C only
abbrev pub SpellsTokens : Type 0
SpellsTokens = (u : List External) → WfUnit [] u → All IsLexeme (spelled u)

abbrev pub LinesAreTokens : Type 0
LinesAreTokens = (u : List External) → WfUnit [] u → All (All IsLexeme) (unit_lines u)

-- the text of a well-formed unit is read as the tokens that it spells
abbrev pub TextLexes : Type 0
TextLexes = (u : List External) → WfUnit [] u → LexesTo (unit_text u) (spelled u)
