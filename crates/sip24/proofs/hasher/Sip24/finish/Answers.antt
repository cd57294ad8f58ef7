use Rattle.std.proofs.Common.{◌∙◌, ap, sym}
use Rattle.sip24.specs.SipHash.{siphash, finalize}
use Rattle.sip24.proofs.Reading.{last_word}
use Rattle.sip24.proofs.hasher.Sip24.finish.Goals as goal

pub returns : goal.returns
unfolding siphash
returns c = λ key message held.
    c.finalize.ensures ∙ ap finalize (c.compress.ensures ∙ sym (last_word c.args.self key message held))
