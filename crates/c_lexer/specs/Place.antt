-- Where in a text a token stands.
use Rattle.std.specs.Prelude.{◌≡◌, ◌≢◌, ℕ, ◌+◌, List, [], ◌++◌, length}
use Rattle.tok_base.specs.declared.token.Token.{Token}

-- the bytes of its span are its text, which is not empty
pub record StandsIn (text : List ℕ) (t : Token) : Type 0 where
  pub before : List ℕ
  pub behind : List ℕ
  pub is : text ≡ before ++ (t.text ++ behind)
  pub start : t.span.start ≡ length before
  pub end : t.span.end ≡ length before + length t.text
  pub some : t.text ≢ []
