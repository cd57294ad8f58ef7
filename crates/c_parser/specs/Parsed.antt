-- What parse answers.
use Rattle.std.specs.Prelude.{◌≡◌, ◌≤◌, ◌<◌, ℕ, Bool, true, false, List, [], ◌∷◌, ◌++◌, length, take, drop, map, Option, Some, None, Result, Ok, Err}
use Rattle.tok_base.specs.declared.token.Token.{Token}
use Rattle.tok_base.specs.declared.token.Lexeme.{Lexeme}
use Rattle.c_tree.specs.Tree as b
use Rattle.c_tree.specs.Bare.{bare_unit}
use Rattle.c_tree.specs.Depth.{IsFlat}
use Rattle.c_tree.specs.Reading.{Reads, IsUnit, Begins, IsPlace, IsDeep}
use Rattle.c_tree.specs.View.{view_unit}
use Rattle.c_tree.specs.declared.statement.Unit.{Unit}
use Rattle.c_reader.specs.MarkedInside as r
use Rattle.c_reader.specs.Reader as reader
use Rattle.c_state.specs.Held.{view_held}
use Rattle.c_parser.specs.declared.reader.State.{State}
use Rattle.c_parser.specs.declared.reader.Refused.{Refused}
use Rattle.c_parser.specs.declared.reader.Refused as no
use Rattle.c_parser.specs.declared.reader.ParseEnd as end
use Rattle.c_parser.specs.declared.reader.ParseEnd.{ParseEnd}

-- a flat well-formed unit that spells these tokens
pub record IsParsed (ls : List Lexeme) (u : List b.External) : Type 0 where
  pub reads : Reads ls u
  pub flat : IsFlat u

-- u is answered, unless memory ran out
abbrev pub Answers : List b.External → Result Unit ParseEnd → Type 0
Answers u (Ok v) = bare_unit (view_unit v) ≡ u
Answers u (Err (end.TheVariants.Syntax k)) = ⊥
Answers u (Err end.TheVariants.TooDeep) = ⊥
Answers u (Err end.TheVariants.NoMemory) = Prim.Unit {0}

-- the first k tokens begin a unit, and with the one behind them they begin none; and all are no unit
pub record IsWrongAt (ls : List Lexeme) (k : ℕ) : Type 0 where
  pub within : k ≤ length ls
  pub place : IsPlace (take k ls) (drop k ls)
  pub none : IsUnit ls → ⊥

-- the unit that they spell is not flat; or they go wrong, and no flat unit begins with those before that place
pub data IsNotFlat (ls : List Lexeme) : Type 0 where
  not_flat : (u : List b.External) → Reads ls u → (IsFlat u → ⊥) → IsNotFlat ls
  goes_deep : (first rest : List Lexeme) → ls ≡ first ++ rest → IsPlace first rest → (IsUnit ls → ⊥) → IsDeep first → IsNotFlat ls

-- the first of them begin a unit, but no flat one
pub record IsTooDeep (ls : List Lexeme) : Type 0 where
  pub first : List Lexeme
  pub rest : List Lexeme
  pub is : ls ≡ first ++ rest
  pub begins : Begins first
  pub deep : IsDeep first
  pub why : IsNotFlat ls

-- ---- inside

abbrev pub view_state : State → r.Next
view_state s = record { id = s.id; env = s.names; mode = view_held s.mode }

abbrev pub IsHigh : Option r.Next → Type 0
IsHigh None = ⊥
IsHigh (Some a) = reader.is_low a ≡ false

-- what a token leads to
abbrev pub Takes : Result State Refused → Option r.Next → Type 0
Takes (Ok s) o = (o ≡ Some (view_state s)) × (reader.is_low (view_state s) ≡ true)
Takes (Err no.TheVariants.Wrong) o = o ≡ None
Takes (Err no.TheVariants.TooDeep) o = IsHigh o
Takes (Err no.TheVariants.NoMemory) o = Prim.Unit {0}

abbrev pub run_all : List Token → reader.Read
run_all ts = reader.run reader.begin 0 ts

-- where all tokens lead
abbrev pub Reached : Result State ParseEnd → List Token → Type 0
Reached (Ok s) ts = run_all ts ≡ reader.reached (view_state s)
Reached (Err (end.TheVariants.Syntax k)) ts = (k ≤ length ts) × (run_all ts ≡ reader.stuck (drop k ts))
Reached (Err end.TheVariants.TooDeep) ts = (rest : List Token) × (run_all ts ≡ reader.too_deep rest)
Reached (Err end.TheVariants.NoMemory) ts = Prim.Unit {0}

-- the unit that ends there, or the count of the tokens
abbrev pub Ended : Result Unit ParseEnd → ℕ → r.Mode → Type 0
Ended (Ok u) n m = reader.unit_at m ≡ Some (view_unit u)
Ended (Err (end.TheVariants.Syntax k)) n m = (k ≡ n) × (reader.unit_at m ≡ None)
Ended (Err end.TheVariants.TooDeep) n m = ⊥
Ended (Err end.TheVariants.NoMemory) n m = ⊥

abbrev pub Finished : Result State ParseEnd → ℕ → Result Unit ParseEnd → Type 0
Finished (Ok s) n r = Ended r n (view_held s.mode)
Finished (Err e) n r = r ≡ Err e

-- the reader's answer, unless memory ran out
abbrev pub Parsed : Result Unit ParseEnd → List Token → Type 0
Parsed (Ok u) ts = reader.read ts ≡ reader.unit (view_unit u)
Parsed (Err (end.TheVariants.Syntax k)) ts = (k ≤ length ts) × (reader.read ts ≡ reader.wrong (drop k ts))
Parsed (Err end.TheVariants.TooDeep) ts = (rest : List Token) × (reader.read ts ≡ reader.deep rest)
Parsed (Err end.TheVariants.NoMemory) ts = Prim.Unit {0}
