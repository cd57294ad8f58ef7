-- What a verdict says: that every rule is kept, or which broken one is the first.
use Rattle.std.specs.Prelude.{◌≡◌, ℕ}
use Rattle.c_tree.specs.declared.operator.At.{At}
use Rattle.c_rules.specs.World.{World}
use Rattle.c_rules.specs.Trials.{Trials, AllKept, FirstBroken, fine, broke, verdict}

abbrev pub FineIsAllKept : Type 0
FineIsAllKept = (ts : Trials) (w : World) → verdict ts ≡ fine w → AllKept ts

abbrev pub AllKeptIsFine : Type 0
AllKeptIsFine = (ts : Trials) → AllKept ts → (w : World) × (verdict ts ≡ fine w)

abbrev pub BrokeIsFirst : Type 0
BrokeIsFirst = (ts : Trials) (rule : ℕ) (at : At) → verdict ts ≡ broke rule at → FirstBroken ts rule at

abbrev pub FirstIsBroke : Type 0
FirstIsBroke = (ts : Trials) (rule : ℕ) (at : At) → FirstBroken ts rule at → verdict ts ≡ broke rule at
