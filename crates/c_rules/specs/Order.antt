-- The order of trials: by the nodes' ends, a part before the whole, and at one node by the rules' numbers. The rule on
-- specifiers is tried as if its node ended with them.
use Rattle.std.specs.Prelude.{ℕ, suc, ◌+◌, ◌*◌, ◌≤◌, false, List}
use Rattle.c_tree.specs.Marked.{External}
use Rattle.c_tree.specs.Places.{IsNumbered}
use Rattle.c_rules.specs.Trials.{Trials, tried, over}
use Rattle.c_rules.specs.Unit.{trials}

-- where a trial stands: by its moment, and then by its rule, of which there are fewer than 64
abbrev pub place_of : (moment rule : ℕ) → ℕ
place_of moment rule = 64 * moment + rule

-- the trials stand at ascending places, none below this one
abbrev pub InOrder : ℕ → Trials → Type 0
InOrder least (over w) = Unit {0}
InOrder least (tried moment rule at kept more) = (least ≤ place_of moment rule) × InOrder (suc (place_of moment rule)) more

-- of a unit whose nodes are numbered in the order of their ends
abbrev pub TrialsInOrder : Type 0
TrialsInOrder = (u : List External) (nodes : ℕ) → IsNumbered u → InOrder 0 (trials false nodes u)
