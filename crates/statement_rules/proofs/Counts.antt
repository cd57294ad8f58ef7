-- How many parameters a function has.
use Rattle.std.proofs.Common.{◌≡◌, suc, List, [], ◌∷◌, length, refl, ap}
use Rattle.c_types.specs.declared.terms.Term.{Term}
use Rattle.c_types.specs.declared.terms.TypeId.{TypeId}
use Rattle.c_types.specs.Plain.{count_types}
use Rattle.c_types.specs.Table.{types_at}

pub count_is : (ts : List Term) (ps : List TypeId) → count_types (types_at ts ps) ≡ length ps
count_is ts [] = refl
count_is ts (p ∷ ps) = ap suc (count_is ts ps)
