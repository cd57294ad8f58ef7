-- A type name, whose type is noted.
use Rattle.c_tree.specs.declared.operator.At.{At}
use Rattle.c_types.specs.CTypes.{CType}
use Rattle.c_rules.specs.Declarators.{Laid}
use Rattle.c_rules.specs.Trials.{M, change, give, ◌>>◌, ◌>>=◌}
use Rattle.c_rules.specs.Walk.{judge_type}
use Rattle.c_rules.specs.World.{note_type}

abbrev pub named_type : (at outer : At) → CType → Laid → M CType
named_type at outer base l = do
  ty ← judge_type outer base l
  change (note_type at.id ty)
  give ty
