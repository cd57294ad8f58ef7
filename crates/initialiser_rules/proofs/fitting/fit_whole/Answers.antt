use Rattle.c_types.specs.Table.{type_at}
use Rattle.c_world.specs.Seen.{seen}
use Rattle.initialiser_rules.proofs.Going.{whole_one}
use Rattle.initialiser_rules.proofs.fitting.fit_whole.Goals as goal

pub returns-in-One-clause-is : goal.returns-in-One-clause-is
returns-in-One-clause-is c =
    let ts = c.args.world.now.table.terms in
    whole_one c.fit_value.result (seen c.args.world.now) c.args.is_fixed (type_at ts c.args.ty.0) ts c.args.first.now c.in-One.at c.in-One.x c.in-One.is c.fit_value.ensures.is
