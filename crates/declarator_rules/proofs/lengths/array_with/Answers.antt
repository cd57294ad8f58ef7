use Rattle.std.proofs.Common.{sym, ◌∙◌}
use Rattle.c_types.specs.Table.{type_at}
use Rattle.c_world.specs.Seen.{seen}
use Rattle.declarator_rules.proofs.Oversizing.{length_kept}
use Rattle.declarator_rules.proofs.lengths.array_with.Goals as goal

pub returns-then-not-stays_below-clause-is : goal.returns-then-not-stays_below-clause-is
returns-then-not-stays_below-clause-is c =
    let ts = c.args.world.now.table.terms in
    let m = c.args.made in
    rw c.oversized.ensures (length_kept (seen c.args.world.now) (type_at ts m.ty.0) (type_at ts c.args.element.0) c.args.qualifiers c.args.count c.args.size m.is_callable m.is_closed c.requires.array c.requires.size (sym c.stays_below.ensures ∙ c.if-not-stays_below.true))
