-- What the lexer answers about a text.
use Rattle.std.specs.Prelude.{◌≡◌, ℕ, ◌+◌, List, length, Result, Ok, Err}
use Rattle.c_lexer.specs.Cut.{Lexes, IsBad}
use Rattle.tok_base.specs.declared.token.Kind.{Kind}
use Rattle.tok_base.specs.declared.token.Token.{Token}
use Rattle.c_lexer.specs.declared.token.LexEnd.{LexEnd}
use Rattle.c_lexer.specs.declared.token.LexEnd.TheVariants.{Bad, NoMemory}

-- what lex answers: the text's tokens, or where it is none, unless memory ran out
abbrev pub Outcome : List ℕ → Result (List Token) LexEnd → Type 0
Outcome bytes (Ok ts) = Lexes bytes ts
Outcome bytes (Err (Bad p)) = IsBad bytes p
Outcome bytes (Err NoMemory) = Unit {0}

-- these tokens, unless memory ran out
abbrev pub Gives : List Token → Result (List Token) LexEnd → Type 0
Gives ts (Ok us) = us ≡ ts
Gives ts (Err (Bad p)) = ⊥
Gives ts (Err NoMemory) = Unit {0}

-- this place, unless memory ran out
abbrev pub Refuses : ℕ → Result (List Token) LexEnd → Type 0
Refuses p (Ok us) = ⊥
Refuses p (Err (Bad q)) = q ≡ p
Refuses p (Err NoMemory) = Unit {0}

-- a token of this kind that begins at a byte and is these bytes
pub record IsTokenOf (t : Token) (kind : Kind) (start : ℕ) (bytes : List ℕ) : Type 0 where
  pub kind_is : t.kind ≡ kind
  pub text_is : t.text ≡ bytes
  pub start_is : t.span.start ≡ start
  pub end_is : t.span.end ≡ start + length bytes
