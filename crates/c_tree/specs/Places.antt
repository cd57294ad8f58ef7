-- The numbers and the places of the nodes.
use Rattle.std.specs.Prelude.{◌≡◌, ℕ, suc, List, [], ◌∷◌}
use Rattle.tok_base.specs.declared.token.Span.{Span}
use Rattle.c_tree.specs.Marked.{External}
use Rattle.c_tree.specs.Pieces.{Piece, token, opens, closes, absent, pieces_unit}

-- the nodes have the numbers n, n + 1, .. in the order of their ends: the parts before the whole, in text order
abbrev pub Numbered : ℕ → List Piece → Type 0
Numbered n [] = Unit {0}
Numbered n (token t ∷ ps) = Numbered n ps
Numbered n (opens at ∷ ps) = Numbered n ps
Numbered n (closes at ∷ ps) = (at.id ≡ n) × Numbered (suc n) ps
Numbered n (absent at ∷ ps) = (at.id ≡ n) × Numbered (suc n) ps

abbrev pub IsNumbered : List External → Type 0
IsNumbered u = Numbered 0 (pieces_unit u [])

-- the next token begins at this byte
abbrev pub Starts : List Span → ℕ → Type 0
Starts [] byte = ⊥
Starts (s ∷ ss) byte = byte ≡ s.start

-- the tokens stand at these spans, behind one that ends at this byte: a node goes from the start of its first token
-- to the end of its last, and one without tokens has both ends at the start of the next token
abbrev pub Placed : ℕ → List Span → List Piece → Type 0
Placed byte ss [] = ss ≡ []
Placed byte [] (token t ∷ ps) = ⊥
Placed byte (s ∷ ss) (token t ∷ ps) = Placed s.end ss ps
Placed byte ss (opens at ∷ ps) = Starts ss at.span.start × Placed byte ss ps
Placed byte ss (closes at ∷ ps) = (at.span.end ≡ byte) × Placed byte ss ps
Placed byte ss (absent at ∷ ps) = Starts ss at.span.start × (at.span.end ≡ at.span.start) × Placed byte ss ps

-- the tokens of the unit stand at these spans
abbrev pub IsPlaced : List Span → List External → Type 0
IsPlaced ss u = Placed 0 ss (pieces_unit u [])
