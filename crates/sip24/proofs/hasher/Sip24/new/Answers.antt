use Rattle.std.proofs.Common.{refl}
use Rattle.sip24.proofs.Reading.{HasRead_nothing}
use Rattle.sip24.proofs.hasher.Sip24.new.Goals as goal

pub returns : goal.returns
returns c = HasRead_nothing _ c.args.key c.new.ensures refl refl
