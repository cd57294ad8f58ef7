use Rattle.std.proofs.Common.{◌≡◌, ◌+◌, ◌*◌, ◌^◌, ◌<◌, take}
use Rattle.sip24.specs.SipHash.{little_endian}
use Rattle.sip24.proofs.hasher.join.Given as goal

abbrev pub invariant-loop-i : goal.invariant-loop-i
invariant-loop-i l =
    l.fn.word < 2 ^ (8 * l.used)
    → (l.joined ≡ l.fn.word + little_endian (take l.i l.bytes) * 2 ^ (8 * l.used)) × (l.joined < 2 ^ (8 * (l.used + l.i)))
