use Rattle.std.proofs.Common.{◌≡◌, length, drop}
use Rattle.initialiser_rules.specs.Entries.{FitsBelow, fits_in}
use Rattle.initialiser_rules.specs.Filling.{all_fixed}
use Rattle.initialiser_rules.proofs.rules.are_fixed.Given as goal

abbrev pub invariant-loop-fit : goal.invariant-loop-fit
invariant-loop-fit l = record {
  left : all_fixed (fits_in l.world.table.terms l.fits) ≡ all_fixed (fits_in l.world.table.terms (drop l.fit-index l.fits));
  below : FitsBelow (length l.world.table.terms) (drop l.fit-index l.fits);
}
