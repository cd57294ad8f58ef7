use Rattle.std.proofs.Common.{refl}
use Rattle.sip24.specs.SipHash.{compress_all}
use Rattle.sip24.proofs.Words.{compress_chunk_more}
use Rattle.sip24.proofs.state.State.compress_chunks.Goals as goal

pub loop-chunk-init : goal.loop-chunk-init
unfolding compress_all
loop-chunk-init c = refl

pub loop-chunk-preserved : goal.loop-chunk-preserved
loop-chunk-preserved c =
    rw c.compress-state.ensures
    (compress_chunk_more c.args.self c.loop-chunk.state c.args.chunks.now _ _ c.loop-chunk-test.true c.loop-chunk.invariant c.word_of.ensures)
