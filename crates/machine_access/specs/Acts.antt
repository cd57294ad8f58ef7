-- What a quiet step in memory is: a value, with the world afterwards, or the end.
use Rattle.std.specs.Prelude.{Result, Ok, Err}
use Rattle.c_core.specs.declared.values.End.{End}
use Rattle.c_core.specs.Blocks.{Blocks}
use Rattle.c_meaning.specs.World.{World, Acted, Gives, Stops}

abbrev pub acted_of : {A : Type 0} → Result A End → World → Acted A
acted_of (Ok a) w = Gives a w
acted_of (Err e) w = Stops e

-- a world with these blocks
abbrev pub over_blocks : Blocks → World → World
over_blocks bs w = record w { blocks = bs }

-- what follows a value, or the end
abbrev pub if_end : {A B : Type 0} → Result A End → (A → Acted B) → Acted B
if_end (Ok a) f = f a
if_end (Err e) f = Stops e

-- with this value in place of the step's own
abbrev pub acted_with : {A B : Type 0} → B → Result A End → World → Acted B
acted_with b (Ok a) w = Gives b w
acted_with b (Err e) w = Stops e
