use Rattle.std.proofs.Common.{length}
use Rattle.initialiser_rules.proofs.Reading.{fits_below_put}
use Rattle.initialiser_rules.proofs.fitting.fill_one.Goals as goal

pub returns-clause-below : goal.returns-clause-below
returns-clause-below c =
    fits_below_put (length c.args.world.now.table.terms) c.args.fits.now c.put.new.fits _ c.in_ok-put.ensures c.requires.fits (c.requires.typed, c.requires.ty)
