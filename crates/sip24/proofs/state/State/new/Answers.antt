use Rattle.std.proofs.Common.{ap, ◌∙◌, arith, refl}
use Rattle.sip24.specs.SipHash.{initial, little_endian}
use Rattle.sip24.proofs.Words.{key_words}
use Rattle.sip24.proofs.state.State.new.Goals as goal

pub returns : goal.returns
unfolding initial
returns c =
    let two = key_words c.args.key c.as_chunks.result.0.now (omega arith) c.as_chunks.ensures.front in
    let k0 = c.word_of-k0.ensures ∙ ap little_endian two.0 in
    let k1 = c.word_of-k1.ensures ∙ ap little_endian two.1 in
    rw (k0, k1) refl
