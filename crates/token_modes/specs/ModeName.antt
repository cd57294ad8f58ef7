-- The modes' names, as Clang's manual of allocation tokens spells them.
use Rattle.std.specs.Prelude.{ℕ, List, codes}
use Rattle.token_modes.specs.declared.mode.Mode.{Mode}
use Rattle.token_modes.specs.declared.mode.Mode.TheVariants.{Increment, Random, TypeHash, Split}

abbrev pub mode_name : Mode → List ℕ
mode_name Increment = codes "increment"
mode_name Random = codes "random"
mode_name TypeHash = codes "typehash"
mode_name Split = codes "typehashpointersplit"
