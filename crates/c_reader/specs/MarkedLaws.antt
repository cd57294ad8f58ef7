-- What the marked machine owes: the bare machine's answer, with the numbers and places that the nodes should have.
use Rattle.std.specs.Prelude.{◌≡◌, List, [], ◌∷◌, ◌++◌, map, Option, Some, None, IsSome, All}
use Rattle.tok_base.specs.declared.token.Token.{Token}
use Rattle.tok_base.specs.declared.token.Lexeme.{Lexeme}
use Rattle.c_lexer.specs.Token.{IsToken}
use Rattle.c_lexer.specs.Lexeme.{lexeme_of}
use Rattle.c_tree.specs.Tok.{Tok}
use Rattle.c_tree.specs.Tree as b
use Rattle.c_tree.specs.Lexeme.{lexeme, classify}
use Rattle.c_tree.specs.Marked.{External}
use Rattle.c_tree.specs.Bare.{bare_unit}
use Rattle.c_tree.specs.Reading.{Reads, IsUnit, Begins, IsPlace, IsDeep}
use Rattle.c_tree.specs.Depth.{IsFlat}
use Rattle.c_tree.specs.Places.{IsNumbered, IsPlaced}
use Rattle.c_reader.specs.Machine as m
use Rattle.c_reader.specs.Reader as r

abbrev pub with_tok : Option Tok → List Tok → List Tok
with_tok None ts = ts
with_tok (Some t) ts = t ∷ ts

-- the grammar's tokens, apart from their places
abbrev pub toks_of : List Token → List Tok
toks_of [] = []
toks_of (x ∷ xs) = with_tok (classify (lexeme_of x)) (toks_of xs)

-- each is one of the grammar's
abbrev pub AreToks : List Token → Type 0
AreToks xs = All (λ x. IsSome (classify (lexeme_of x))) xs

-- tokens of C
abbrev pub AreTokens : List Token → Type 0
AreTokens xs = All (λ x. IsToken x.kind x.text) xs

-- tokens of C are the grammar's, with the same kinds and texts
abbrev pub TokensAreToks : Type 0
TokensAreToks = (xs : List Token) → AreTokens xs → AreToks xs × (map lexeme (toks_of xs) ≡ map lexeme_of xs)

-- the machine gives the same answer, of the same tokens, but that the reader stops where they are too deep
abbrev pub Erases : r.Answer → m.Answer → Type 0
Erases (r.unit u) a = a ≡ m.unit (bare_unit u)
Erases (r.wrong xs) a = a ≡ m.wrong (toks_of xs)
Erases (r.deep xs) a = Unit {0}

-- without places and numbers it is the machine
abbrev pub IsMachine : Type 0
IsMachine = (xs : List Token) → AreToks xs → Erases (r.read xs) (m.read (toks_of xs))

-- the nodes of the unit that is read have the numbers 0, 1, 2 .. in the order of their ends, and go from their first token to their last
abbrev pub IsMarked : Type 0
IsMarked = (xs : List Token) (u : List External) → r.read xs ≡ r.unit u → IsNumbered u × IsPlaced (map (λ x. x.span) xs) u

-- ---- the answer about tokens of C

-- a flat well-formed unit that the tokens spell, with the numbers and places of its nodes
pub record IsUnitOf (xs : List Token) (u : List External) : Type 0 where
  pub reads : Reads (map lexeme_of xs) (bare_unit u)
  pub flat : IsFlat (bare_unit u)
  pub numbered : IsNumbered u
  pub placed : IsPlaced (map (λ x. x.span) xs) u

-- the tokens go wrong there: those before begin a unit, and with the one there they begin none
pub record IsWrongAt (xs rest : List Token) : Type 0 where
  pub done : List Token
  pub is : xs ≡ done ++ rest
  pub place : IsPlace (map lexeme_of done) (map lexeme_of rest)
  pub none : IsUnit (map lexeme_of xs) → ⊥

-- why tokens are too deep: the unit that they spell is not flat; or they go wrong, and no flat unit begins with those before that place
pub data IsTooDeep (xs : List Token) : Type 0 where
  not_flat : (v : List b.External) → Reads (map lexeme_of xs) v → (IsFlat v → ⊥) → IsTooDeep xs
  goes_deep : (first rest : List Lexeme) → map lexeme_of xs ≡ first ++ rest → IsPlace first rest → (IsUnit (map lexeme_of xs) → ⊥) → IsDeep first → IsTooDeep xs

-- the tokens before those that are left begin a unit, but no flat one
pub record IsDeepAt (xs rest : List Token) : Type 0 where
  pub done : List Token
  pub is : xs ≡ done ++ rest
  pub begins : Begins (map lexeme_of done)
  pub deep : IsDeep (map lexeme_of done)
  pub why : IsTooDeep xs

abbrev pub TellsTokens : List Token → r.Answer → Type 0
TellsTokens xs (r.unit u) = IsUnitOf xs u
TellsTokens xs (r.wrong rest) = IsWrongAt xs rest
TellsTokens xs (r.deep rest) = IsDeepAt xs rest

-- the reader's answer is right
abbrev pub TokensAreRead : Type 0
TokensAreRead = (xs : List Token) → AreTokens xs → TellsTokens xs (r.read xs)

-- the flat unit that they spell is the one that is answered
abbrev pub UnitsAreAnswered : Type 0
UnitsAreAnswered =
    (xs : List Token) (v : List b.External) → AreTokens xs → Reads (map lexeme_of xs) v → IsFlat v → (u : List External) × (r.read xs ≡ r.unit u) × (bare_unit u ≡ v)
