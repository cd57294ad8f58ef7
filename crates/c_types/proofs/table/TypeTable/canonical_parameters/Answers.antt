use Rattle.std.proofs.Common.{◌≡◌, ◌++◌, ◌∷◌, [], rules}
use Rattle.c_types.specs.declared.terms.TypeId.{TypeId}
use Rattle.c_types.proofs.Qualifying.{all_below_at, parameters_more, parameters_step}
use Rattle.c_types.proofs.table.TypeTable.canonical_parameters.Goals as goal

pub parameter-requires : goal.parameter-requires
parameter-requires c = let d : TypeId = record { 0 = 0 } in all_below_at _ c.args.parameters.now c.loop-parameter.parameter-index d c.requires c.loop-parameter-test.true

pub loop-parameter-preserved : goal.loop-parameter-preserved
loop-parameter-preserved c =
    let i = c.loop-parameter.invariant in
    let d : TypeId = record { 0 = 0 } in
    let items : c.push.new.self ≡ c.loop-parameter.roots ++ c.parameter.result ∷ [] = search rules in
    record {
      roots = rw items (parameters_more c.args.self.now.terms c.loop-parameter.roots c.parameter.result i.roots c.parameter.ensures.root c.parameter.ensures.bare);
      are = rw items (parameters_step c.args.self.now.terms c.args.parameters.now c.loop-parameter.roots c.loop-parameter.parameter-index d c.parameter.result c.loop-parameter-test.true i.are c.parameter.ensures.is);
    }
