use Rattle.c_tree.specs.View.{view_maybe_init}
use Rattle.c_world.specs.Seen.{seen}
use Rattle.statement_rules.proofs.Sizing.{oversized_sized}
use Rattle.statement_rules.proofs.lengths.size_item.Goals as goal

pub returns-in_ok-count-in-Oversized-clause-is : goal.returns-in_ok-count-in-Oversized-clause-is
returns-in_ok-count-in-Oversized-clause-is c =
    let new = c.sized-in-Oversized.new.world in
    oversized_sized (seen c.args.world.now) (seen new) c.args.world.now.table.terms new.table.terms c.args.built c.in-Oversized.oversized (view_maybe_init c.args.init.now) c.in_ok-count-in-Oversized.count c.sized-in-Oversized.result
    c.in-Oversized.is c.in_ok-count-in-Oversized.ensures c.sized-in-Oversized.ensures.is
