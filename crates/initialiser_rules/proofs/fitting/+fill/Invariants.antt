use Rattle.std.proofs.Common.{◌≡◌, ◌+◌, ◌-◌, ◌*◌, ◌≤◌, length, drop}
use Rattle.c_world.specs.Seen.{seen}
use Rattle.initialiser_rules.specs.Entries.{FitsBelow, fits_in, reads}
use Rattle.initialiser_rules.specs.Filling.{PartsBelow, all_filled, parts_in}
use Rattle.initialiser_rules.proofs.fitting.+fill.Given as goal

abbrev pub decreases-fill : goal.decreases-fill
decreases-fill l = 3 * (length l.entries.now - l.place)

abbrev pub decreases-fill_braces : goal.decreases-fill_braces
decreases-fill_braces l = 3 * (length l.entries.now - l.place) + 2

abbrev pub decreases-fill_parts : goal.decreases-fill_parts
decreases-fill_parts l = 3 * (length l.entries.now - l.place) + 1

abbrev pub invariant-fill_parts-loop-left : goal.invariant-fill_parts-loop-left
invariant-fill_parts-loop-left l = record {
  parts : PartsBelow (length l.world.table.terms) l.parts;
  fits : FitsBelow (length l.world.table.terms) l.fits;
  from : l.place ≤ l.next;
  within : l.next ≤ length l.entries;
  rest : all_filled (seen l.world) (parts_in l.world.table.terms l.fn.parts) l.count (fits_in l.world.table.terms l.fn.fits) (reads l.world.table.terms (drop l.place l.entries))
      ≡ all_filled (seen l.world) (parts_in l.world.table.terms l.parts) l.left (fits_in l.world.table.terms l.fits) (reads l.world.table.terms (drop l.next l.entries));
}

abbrev pub decreases-fill_parts-loop-left : goal.decreases-fill_parts-loop-left
decreases-fill_parts-loop-left l = l.left
