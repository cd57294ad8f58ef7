use Rattle.std.proofs.Common.{◌≡◌, map, take}
use Rattle.sip24.specs.SipHash.{compress_all, little_endian}
use Rattle.sip24.proofs.state.State.compress_chunks.Given as goal

abbrev pub invariant-loop-chunk : goal.invariant-loop-chunk
invariant-loop-chunk l = l.state ≡ compress_all l.fn.self (map little_endian (take l.chunk-index l.chunks))
