use Rattle.std.proofs.Common.{◌+◌, ◌-◌, ◌*◌, get_or, drop, arith}
use Rattle.trace_format.proofs.Values.{value_grows, value_at}
use Rattle.trace_format.proofs.lines.value_of.Goals as goal

pub returns-then-value-gt18446744073709551615-clause-small :
    goal.returns-then-value-gt18446744073709551615-clause-small
returns-then-value-gt18446744073709551615-clause-small c = λ h.
    let at = value_at c.loop-b.value c.loop-b.b-index c.args.digits.now c.loop-b-test.true in
    let grows = value_grows (10 * c.loop-b.value + (get_or c.args.digits.now c.loop-b.b-index 0 - 48)) (drop (c.loop-b.b-index + 1) c.args.digits.now) in
    let same = c.loop-b.invariant.0 in
    absurd (omega (arith, at, grows, same, h))
