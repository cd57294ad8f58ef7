-- What comes into scope, by whether the unit has a body for a function.
use Rattle.std.specs.Prelude.{ℕ, Bool, if◌then◌else◌, List, [], ◌∷◌, ◌++◌, length, Option, Some, None}
use Rattle.c_tree.specs.declared.operator.At.{At}
use Rattle.c_types.specs.declared.terms.TypeId.{TypeId}
use Rattle.c_types.specs.CTypes.{CType}
use Rattle.c_rules.specs.Forms.{Whole}
use Rattle.c_rules.specs.Trials.{M, change, give, keep, ◌>>◌}
use Rattle.c_rules.specs.Declarators.{Built, Laid}
use Rattle.c_rules.specs.Unit.{complete, is_again, judge_declared, keeps_known, new_alias, note_entry}
use Rattle.c_rules.specs.Walk.{new_object, newest}
use Rattle.c_rules.specs.World.{World, note_type, with_name}
use Rattle.c_rules.specs.declared.known.Declares.TheVariants as decl
use Rattle.c_rules.specs.declared.known.Declares.{Declares}
use Rattle.c_rules.specs.declared.known.Sort.TheVariants as sort
use Rattle.declarator_rules.specs.declared.built.Built as r
use Rattle.declarator_rules.specs.declared.built.Built.TheVariants as v
use Rattle.name_rules.specs.declared.declared.Declared.{Declared}

abbrev pub function_added : (has_body : Bool) → List ℕ → CType → World → World
function_added has_body n ty w =
    with_name n (sort.Function (length w.functions)) ty
    (record w { functions = w.functions ++ record { name = n; type = ty; has_body = has_body } ∷ []; others = n ∷ w.others })

abbrev pub named_as : Declares → Declared → CType → World → World
named_as decl.Type d ty w = new_alias d.name.now ty w
named_as decl.Object d ty w = new_object d.number d.at d.name.now ty d.is_fixed w
named_as decl.Function d ty w = function_added d.has_body d.name.now ty w
named_as decl.Member d ty w = w

abbrev pub named : Declared → CType → World → World
named d ty w = named_as d.what d ty w

abbrev pub named_once : Declared → CType → World → World
named_once d ty w = if is_again w d.name.now then w else named d ty w

abbrev pub noted : Whole → Declared → World → World
noted whole d w = note_entry whole d.at d.name.now (newest w d.name.now) w

-- the name is in scope from here on
abbrev pub introduced : Whole → Declared → CType → World → World
introduced whole d ty w = complete d.completes d.name.now (noted whole d (named_once d ty (note_type d.at.id ty w)))

-- the type that is made, if there is one
abbrev pub made_in : r.Built → Option TypeId
made_in (v.Made m) = Some m.ty
made_in v.Incomplete = None
made_in (v.Oversized o) = None

-- 34, and the name comes into scope
abbrev pub judge_known : Whole → At → Declared → CType → M CType
judge_known whole at d ty = do
  keep 34 at (keeps_known whole d.what d.name.now ty)
  change (introduced whole d ty)
  give ty

-- 2, 4, 5, 6, 8 and 34, the name comes into scope, and then the type
abbrev pub declared_type : Whole → Declared → At → Laid → Built → M CType
declared_type whole d at laid b = do
  judge_declared whole d.what d.number at laid b d.is_fixed d.completes
  give b.type
