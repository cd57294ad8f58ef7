use Rattle.std.proofs.Common.{rules}
use Rattle.sip24.specs.SipHash.{little_endian}
use Rattle.sip24.proofs.Words.{join_more}
use Rattle.sip24.proofs.hasher.join.Goals as goal

pub loop-i-init : goal.loop-i-init
unfolding little_endian
loop-i-init c = search rules

pub loop-i-preserved : goal.loop-i-preserved
loop-i-preserved c = λ small.
    let before = c.loop-i.invariant small in
    join_more c.args.word c.loop-i.joined c.args.used c.loop-i.i c.from.result c.args.bytes.now c.loop-i-test.true c.requires
    (search rules) (search rules) before.0 before.1
