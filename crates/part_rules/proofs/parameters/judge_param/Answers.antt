use Rattle.std.proofs.Common.{◌≡◌, ap}
use Rattle.declarator_rules.specs.Layers.{laid_of}
use Rattle.declarator_rules.proofs.Growing.{layers_same}
use Rattle.part_rules.proofs.parameters.judge_param.Goals as goal

-- the declarator means the same where the type is made
pub returns-clause-gives : goal.returns-clause-gives
returns-clause-gives c =
    let l = c.args.laid.now in
    let same : laid_of c.build_used.new.world.table.terms l ≡ laid_of c.args.world.now.table.terms l
    = ap (λ ls. record { name = l.name; name_at = l.name_at; layers = ls }) (layers_same c.args.world.now.table _ c.in_ok-built.ensures.extends l.layers c.requires.layers) in
    rw (c.in_ok-built.ensures.seen, same) at (c.judge_param_as.ensures.gives _ (rw c.as_slice.ensures at c.in_ok-built.ensures.is))
