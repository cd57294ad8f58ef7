-- A layer around what a declarator makes.
use Rattle.std.specs.Prelude.{Bool, not, if◌then◌else◌, List}
use Rattle.c_types.specs.declared.terms.Term.{Term}
use Rattle.c_rules.specs.Declarators.{Built, Layer, layered}
use Rattle.c_rules.specs.World.{World}
use Rattle.declarator_rules.specs.declared.built.Built as r
use Rattle.declarator_rules.specs.declared.built.Built.TheVariants as v
use Rattle.declarator_rules.specs.declared.built.Oversized.{Oversized}
use Rattle.declarator_rules.specs.Built.{IsBuilt}

-- over a table that has grown, with the layer around it
abbrev pub LayersTo : World → (old new : List Term) → Layer → (inner outer : r.Built) → Type 0
LayersTo w old new l inner outer = (b : Built) → IsBuilt w old inner b → IsBuilt w new outer (layered w l b)

-- brackets around something oversized
abbrev pub around : Oversized → (is_flexible : Bool) → r.Built
around o is_flexible = if o.has_size then v.Oversized (record { has_size = not is_flexible; is_flexible = is_flexible }) else v.Incomplete
