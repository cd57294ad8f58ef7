use Rattle.std.proofs.Common.{refl}
use Rattle.sip24.specs.SipHash.{siphash, little_endian, words, message_words, first_half, second_half, initial, compress, compress_all, finalize}
use Rattle.sip24.proofs.published_values.Goals as goal

pub returns : goal.returns
unfolding siphash little_endian words message_words first_half second_half initial compress compress_all finalize
returns c = (refl, refl)
