use Rattle.std.proofs.Common.{◌≡◌, suc, arith}
use Rattle.machine_statements.proofs.initial.next_item_behind.Goals as goal

pub returns-in-Some-clause-run : goal.returns-in-Some-clause-run
returns-in-Some-clause-run c =
    let e : c.in-Some.next ≡ suc c.args.number = omega (arith, c.in-Some.ensures) in
    rw (← e) c.next_item.ensures.run
