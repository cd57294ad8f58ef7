-- The names between the parentheses next to the name of a declarator.
use Rattle.std.proofs.Common.{◌≡◌, List, [], ◌∷◌, Some, ap, ◌∙◌}
use Rattle.std.specs.Prelude.{slice_get}
use Rattle.c_types.specs.declared.terms.Term.{Term}
use Rattle.c_rules.specs.Declarators as d
use Rattle.c_rules.specs.Unit.{names_of}
use Rattle.c_rules.specs.World.{Entry}
use Rattle.declarator_rules.specs.Layers.{layer_of, layers_of}
use Rattle.declarator_rules.specs.declared.layers.Layer.{Layer}

pub names_first : (ts : List Term) (l : Layer) (ls : List Layer) (ns : List Entry) → Some l ≡ slice_get ls 0
    → ((ks : List d.Layer) → ns ≡ names_of (layer_of ts l ∷ ks)) → ns ≡ names_of (layers_of ts ls)
names_first ts l [] ns e h = absurd (cc)
names_first ts l (k ∷ ks) ns e h = let same : l ≡ k = cc e in h (layers_of ts ks) ∙ ap (λ x. names_of (layer_of ts x ∷ layers_of ts ks)) same
