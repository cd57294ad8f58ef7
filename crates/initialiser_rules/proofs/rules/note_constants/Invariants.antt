use Rattle.std.proofs.Common.{◌≡◌, length, drop}
use Rattle.c_world.specs.Seen.{seen}
use Rattle.initialiser_rules.specs.Entries.{FitsBelow, fits_in}
use Rattle.initialiser_rules.specs.Filling.{constants_noted}
use Rattle.initialiser_rules.proofs.rules.note_constants.Given as goal

abbrev pub invariant-loop-fit : goal.invariant-loop-fit
invariant-loop-fit l = record {
  same : l.world.table ≡ l.fn.world.table;
  left : constants_noted (fits_in l.fn.world.table.terms l.fits) (seen l.fn.world) ≡ constants_noted (fits_in l.fn.world.table.terms (drop l.fit-index l.fits)) (seen l.world);
  below : FitsBelow (length l.fn.world.table.terms) (drop l.fit-index l.fits);
}
