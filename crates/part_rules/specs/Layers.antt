-- The end of a function's parentheses.
use Rattle.std.specs.Prelude.{List}
use Rattle.c_types.specs.CTypes.{CType}
use Rattle.c_rules.specs.Declarators.{Laid, function}
use Rattle.c_rules.specs.Trials.{M, change, give, world, ◌>>◌, ◌>>=◌}
use Rattle.c_rules.specs.Walk.{laid_more}
use Rattle.c_rules.specs.World.{leave, names_at}

abbrev pub function_ended : List CType → Laid → M Laid
function_ended ts l = do
  w ← world
  change leave
  give (laid_more (function ts (names_at w.depth w.names)) l)
