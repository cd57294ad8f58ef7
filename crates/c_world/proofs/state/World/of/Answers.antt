use Rattle.std.proofs.Common.{◌≡◌}
use Rattle.c_world.proofs.Starting.{table_is, no_types, sound, shows}
use Rattle.c_world.proofs.state.World.of.Goals as goal

pub invariant_of-world : goal.invariant_of-world
invariant_of-world c =
    let q = c.requires.types in
    let t : c.args.types.table ≡ no_types = table_is _ q.terms q.records q.layouts q.members q.enums in
    sound _ c.args._nodes (cc)

pub returns : goal.returns
returns c =
    let q = c.requires.types in
    let t : c.args.types.table ≡ no_types = table_is _ q.terms q.records q.layouts q.members q.enums in
    shows _ c.args._nodes (cc)
