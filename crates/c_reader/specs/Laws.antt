-- What holds of the machine: statements that the functions of src/promises.rt carry.
use Rattle.std.specs.Prelude.{◌≡◌, ◌≤◌, ◌<◌, List, [], ◌++◌, map, All, Some}
use Rattle.c_lexer.specs.Lexeme.{IsLexeme}
use Rattle.c_tree.specs.Tok.{Tok}
use Rattle.c_tree.specs.Tree.{External}
use Rattle.c_tree.specs.Lexeme.{lexeme}
use Rattle.c_tree.specs.Wf.{WfUnit}
use Rattle.c_tree.specs.Reading.{spelled, Reads, IsUnit, IsPlace, IsDeep}
use Rattle.c_tree.specs.Depth.{unit_depth}
use Rattle.c_reader.specs.Inside.{Mode, State}
use Rattle.c_reader.specs.Above.{so_far, height_of}
use Rattle.c_reader.specs.Machine.{Answer, unit, wrong, read, run, reached, begin, unit_at}

-- each kind and text is a token of C
abbrev pub AreLexemes : List Tok → Type 0
AreLexemes ts = All IsLexeme (map lexeme ts)

-- a unit that the tokens spell, or the place where they go wrong: those before it begin a unit, and with the one there they begin none
abbrev pub Tells : List Tok → Answer → Type 0
Tells ts (unit u) = Reads (map lexeme ts) u
Tells ts (wrong rest) = (done : List Tok) × (ts ≡ done ++ rest) × IsPlace (map lexeme done) (map lexeme rest) × (IsUnit (map lexeme ts) → ⊥)

-- what a well-formed unit spells is read as that unit
abbrev pub UnitsAreKept : Type 0
UnitsAreKept = (ts : List Tok) (u : List External) → Reads (map lexeme ts) u → read ts ≡ unit u

-- the machine's answer is right
abbrev pub AnswersAreRight : Type 0
AnswersAreRight = (ts : List Tok) → AreLexemes ts → Tells ts (read ts)

-- two well-formed units do not spell the same
abbrev pub UnitsAreUnique : Type 0
UnitsAreUnique = (u v : List External) → WfUnit [] u → WfUnit [] v → spelled u ≡ spelled v → u ≡ v

-- where the least depth of the state is too great, no flat unit begins with the tokens
abbrev pub DeepIsKnown : Type 0
DeepIsKnown = (ts : List Tok) (s : State) → run begin ts ≡ reached s → 200 < so_far s.mode → IsDeep (map lexeme ts)

-- at the end the least depth is the unit's
abbrev pub DepthIsKnown : Type 0
DepthIsKnown = (s : State) (u : List External) → unit_at s.mode ≡ Some u → so_far s.mode ≡ unit_depth u

-- the nodes that are open are no more than the least depth
abbrev pub OpenNodesCount : Type 0
OpenNodesCount = (m : Mode) → height_of m ≤ so_far m
