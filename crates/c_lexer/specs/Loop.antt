-- What the loop over a text keeps.
use Rattle.std.specs.Prelude.{ℕ, ◌≤◌, Bool, List, ◌++◌, drop, length}
use Rattle.c_lexer.specs.Cut.{Spot, Cuts, begin}
use Rattle.tok_base.specs.declared.token.Token.{Token}

abbrev pub spot : ℕ → Bool → List ℕ → Spot
spot at lead bytes = record { at = at; lead = lead; rest = drop at bytes }

-- whatever the rest is cut into, the whole is cut into that behind the tokens so far
pub record Kept (bytes : List ℕ) (tokens : List Token) (lead : Bool) (at : ℕ) : Type 0 where
  pub within : at ≤ length bytes
  pub joins : (ts : List Token) (after : Spot) → Cuts (spot at lead bytes) ts after → Cuts (begin bytes) (tokens ++ ts) after
