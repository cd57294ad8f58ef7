-- Tokens written one behind another, each with a space or LF behind it.
use Rattle.std.specs.Prelude.{◌≡◌, ℕ, ◌+◌, true, ◌||◌, ◌==◌, List, [], ◌∷◌, ◌++◌, length}
use Rattle.c_lexer.specs.Token.{IsToken}
use Rattle.tok_base.specs.declared.token.Kind.{Kind}
use Rattle.tok_base.specs.declared.token.Token.{Token}

-- a blank that ends a token: space or LF
abbrev pub IsGap : ℕ → Type 0
IsGap b = (b == 32 || b == 10) ≡ true

-- a token, by its kind and spelling, and the blank behind it
pub record Written : Type 0 where
  pub kind : Kind
  pub bytes : List ℕ
  pub gap : ℕ

abbrev pub AreTokens : List Written → Type 0
AreTokens [] = Unit {0}
AreTokens (x ∷ xs) = IsToken x.kind x.bytes × IsGap x.gap × AreTokens xs

-- the text that they are written as
abbrev pub print : List Written → List ℕ
print [] = []
print (x ∷ xs) = x.bytes ++ x.gap ∷ print xs

-- the tokens, the first of which begins at this byte
abbrev pub placed : ℕ → List Written → List Token
placed at [] = []
placed at (x ∷ xs) = record { kind = x.kind; span = record { start = at; end = at + length x.bytes }; text = x.bytes } ∷ placed (at + length x.bytes + 1) xs
