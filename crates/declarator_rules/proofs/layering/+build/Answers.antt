use Rattle.std.proofs.Common.{◌∷◌, length, ap}
use Rattle.declarator_rules.specs.Layers.{LayersBelow, layers_of}
use Rattle.declarator_rules.proofs.Growing.{layer_same, layer_up}
use Rattle.declarator_rules.proofs.Steps.{build_step}
use Rattle.declarator_rules.proofs.layering.+build.Goals as goal

pub layered-requires-clause-layer : goal.layered-requires-clause-layer
layered-requires-clause-layer t c =
    let below : LayersBelow (length c.args.world.now.table.terms) (c.in-Some.layer.now ∷ c.in-Some.more.now) = rw c.in-Some.ensures.cases.0 at c.requires.layers in
    layer_up _ _ c.in-Some.layer.now c.in_ok-inner-in-Some.ensures.extends.grows.longer below.0

pub returns-in_ok-r-in-Some-clause-is : goal.returns-in_ok-r-in-Some-clause-is
returns-in_ok-r-in-Some-clause-is t c =
    let ts = c.args.world.now.table.terms in
    let below : LayersBelow (length ts) (c.in-Some.layer.now ∷ c.in-Some.more.now) = rw c.in-Some.ensures.cases.0 at c.requires.layers in
    build_step _ _ _ _ _ _ _ _ (layers_of ts c.in-Some.more.now) _ c.in_ok-inner-in-Some.ensures.seen c.in_ok-r-in-Some.ensures.seen
    (layer_same c.args.world.now.table _ c.in_ok-inner-in-Some.ensures.extends c.in-Some.layer.now below.0)
    (ap (layers_of ts) c.in-Some.ensures.cases.0)
    (c.in_ok-r-in-Some.ensures.is _ c.in_ok-inner-in-Some.ensures.is)
