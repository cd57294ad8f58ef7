-- What a run does, as the heap sees it: a tree of requests, which branches at each answer.
use Rattle.std.specs.Prelude.{ℕ, Bool, List, [], ◌∷◌, Option, Some, None}
use Rattle.c_core.specs.declared.values.End.{End}

-- for which token a request is made: that of an allocation site, the fallback token, or a token by its number
pub data Label : Type 0 where
  Site : (site : ℕ) → Label
  Plain : Label
  Token : (token : ℕ) → Label

-- a request for storage, or the release of the block that the request with this number made, from 0
pub data Request : Type 0 where
  Alloc : Label → (size align : ℕ) → Request
  Free : (request : ℕ) → Request

-- what a run does from here on: it ends, it asks for storage, it gives a block back, or it begins one more
-- expression, which nobody outside sees
pub data Run : Type 0 where
  Ended : (output : List ℕ) (end : End) → Run
  Asks : Label → (size align : ℕ) → (granted : Bool → Run) → Run
  Frees : (request : ℕ) → Run → Run
  Begins : Run → Run

pub record Result : Type 0 where
  pub output : List ℕ
  pub end : End
  pub requests : List Request

-- one request more, before the others
abbrev pub after : Request → Option Result → Option Result
after q None = None
after q (Some r) = Some (record r { requests = q ∷ r.requests })

-- a run with these answers, true where granted; it is defined where there are just as many as it needs
abbrev pub answered : Run → List Bool → Option Result
answered (Ended output end) [] = Some (record { output = output; end = end; requests = [] })
answered (Ended output end) (a ∷ later) = None
answered (Asks label size align go) [] = None
answered (Asks label size align go) (a ∷ later) = after (Alloc label size align) (answered (go a) later)
answered (Frees j r) answers = after (Free j) (answered r answers)
answered (Begins r) answers = answered r answers
