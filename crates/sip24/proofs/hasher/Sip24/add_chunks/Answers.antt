use Rattle.std.proofs.Common.{refl}
use Rattle.sip24.proofs.Reading.{HasRead_words}
use Rattle.sip24.proofs.hasher.Sip24.add_chunks.Goals as goal

pub returns-clause-added : goal.returns-clause-added
returns-clause-added c = λ key message bytes n fits chunks held.
    HasRead_words c.args.self.now _ key message bytes c.args.chunks.now n held c.requires fits chunks refl c.compress_chunks-self.ensures refl
