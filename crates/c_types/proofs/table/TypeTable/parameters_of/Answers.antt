use Rattle.std.proofs.Common.{length, arith}
use Rattle.c_types.proofs.Qualifying.{all_below_up}
use Rattle.c_types.proofs.table.TypeTable.parameters_of.Goals as goal

pub returns-in-Function-clause-valid : goal.returns-in-Function-clause-valid
returns-in-Function-clause-valid c =
    let parts = rw c.in-Function.is at c.term.ensures.parts in
    let low = c.plain-at.ensures.valid in
    rw c.as_slice.ensures (all_below_up c.plain-at.result.0 (length c.args.self.now.terms) c.in-Function.parameters (omega (arith, low)) parts.1)
