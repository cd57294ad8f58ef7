-- A text as separators and tokens in turn, each the longest (ISO/IEC 9899:2018, 6.4, 3 and 4).
use Rattle.std.specs.Prelude.{◌≡◌, ◌≢◌, ℕ, ◌+◌, Bool, true, List, [], ◌∷◌, ◌++◌, length}
use Rattle.c_lexer.specs.Separator.{IsSeparator, leads_after}
use Rattle.c_lexer.specs.Longest.{Longest, NoneBegins}
use Rattle.c_lexer.specs.Token.{IsSpelling, IsToken}
use Rattle.tok_base.specs.declared.token.Token.{Token}

-- a place in the text: how many bytes stand before it, whether these are only spaces and tabs in its line, what follows
pub record Spot : Type 0 where
  pub at : ℕ
  pub lead : Bool
  pub rest : List ℕ

-- the place behind these bytes
pub record Behind (s : Spot) (w : List ℕ) (after : Spot) : Type 0 where
  pub at : after.at ≡ s.at + length w
  pub lead : after.lead ≡ leads_after s.lead w
  pub rest : s.rest ≡ w ++ after.rest

-- a separator stands at s, the longest, and ends at after
pub record SeparatorAt (s after : Spot) : Type 0 where
  pub bytes : List ℕ
  pub is : Longest (IsSeparator s.lead) s.rest bytes after.rest
  pub behind : Behind s bytes after

-- where no separator begins, not even a comment that stays open: 47 42 is /*
pub record NoSeparatorAt (s : Spot) : Type 0 where
  pub whole : NoneBegins (IsSeparator s.lead) s.rest
  pub unclosed : (more : List ℕ) → s.rest ≡ 47 ∷ 42 ∷ more → ⊥

-- the token stands at s, the longest spelling there, and ends at after
pub record TokenAt (s : Spot) (t : Token) (after : Spot) : Type 0 where
  pub apart : NoSeparatorAt s
  pub is : Longest IsSpelling s.rest t.text after.rest
  pub kind : IsToken t.kind t.text
  pub behind : Behind s t.text after
  pub start : t.span.start ≡ s.at
  pub end : t.span.end ≡ after.at

-- separators and tokens in turn, from one place to another
pub data Cuts : Spot → List Token → Spot → Type 0 where
  stop : (s : Spot) → Cuts s [] s
  separator : (s next after : Spot) (ts : List Token) → SeparatorAt s next → Cuts next ts after → Cuts s ts after
  token : (s next after : Spot) (t : Token) (ts : List Token) → TokenAt s t next → Cuts next ts after → Cuts s (t ∷ ts) after

-- the front of a text
abbrev pub begin : List ℕ → Spot
begin bytes = record { at = 0; lead = true; rest = bytes }

-- the text is these tokens, with separators before, between and behind them
pub record Lexes (text : List ℕ) (ts : List Token) : Type 0 where
  pub after : Spot
  pub cut : Cuts (begin text) ts after
  pub all : after.rest ≡ []

-- neither a separator nor a token stands at s
pub record IsStuck (s : Spot) : Type 0 where
  pub separator : (after : Spot) → SeparatorAt s after → ⊥
  pub token : (t : Token) (after : Spot) → TokenAt s t after → ⊥

-- up to p the text is separators and tokens; it goes on there, and neither stands at p
pub record IsBad (text : List ℕ) (p : ℕ) : Type 0 where
  pub ts : List Token
  pub spot : Spot
  pub cut : Cuts (begin text) ts spot
  pub place : spot.at ≡ p
  pub more : spot.rest ≢ []
  pub stuck : IsStuck spot
