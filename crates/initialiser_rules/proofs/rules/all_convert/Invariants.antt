use Rattle.std.proofs.Common.{◌≡◌, length, drop}
use Rattle.c_world.specs.Extends.{Extends}
use Rattle.c_world.specs.Seen.{seen}
use Rattle.initialiser_rules.specs.Entries.{FitsBelow, fits_in}
use Rattle.initialiser_rules.specs.Filling.{all_convert}
use Rattle.initialiser_rules.proofs.rules.all_convert.Given as goal

abbrev pub invariant-loop-fit : goal.invariant-loop-fit
invariant-loop-fit l = record {
  seen : seen l.world ≡ seen l.fn.world;
  extends : Extends l.fn.world.table l.world.table;
  left : all_convert (fits_in l.fn.world.table.terms l.fits) ≡ all_convert (fits_in l.fn.world.table.terms (drop l.fit-index l.fits));
  below : FitsBelow (length l.fn.world.table.terms) (drop l.fit-index l.fits);
}
