use Rattle.std.proofs.Common.{◌≡◌, suc, arith}
use Rattle.machine_expressions.proofs.given.argument_given.Goals as goal

pub returns-in_ok-keep-in-Some-clause-run : goal.returns-in_ok-keep-in-Some-clause-run
returns-in_ok-keep-in-Some-clause-run c =
    let e : c.in-Some.next ≡ suc c.args.number = omega (arith, c.in-Some.ensures) in
    rw (← e) (simp (c.keep.ensures.frames, c.in_ok-keep-in-Some.ensures.values) at c.next_argument.ensures.run)
