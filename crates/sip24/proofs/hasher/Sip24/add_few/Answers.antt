use Rattle.std.proofs.Common.{refl, arith}
use Rattle.sip24.proofs.Reading.{HasRead_short, HasRead_full, partial_below}
use Rattle.sip24.proofs.hasher.Sip24.add_few.Goals as goal

pub returns-then-used-bytes-eq8-clause-added : goal.returns-then-used-bytes-eq8-clause-added
returns-then-used-bytes-eq8-clause-added c = λ key message held.
    let small = partial_below c.args.self.now key message held in
    HasRead_full c.args.self.now _ key message c.args.bytes.now c.join-self.result held (omega arith) refl
    (c.join-self.ensures.value small) c.compress-self.ensures refl

pub returns-else-used-bytes-eq8-clause-added : goal.returns-else-used-bytes-eq8-clause-added
returns-else-used-bytes-eq8-clause-added c = λ key message held.
    let small = partial_below c.args.self.now key message held in
    HasRead_short c.args.self.now _ key message c.args.bytes.now held (omega arith) refl refl
    (c.join-self.ensures.value small) (c.join-self.ensures.fits small)
