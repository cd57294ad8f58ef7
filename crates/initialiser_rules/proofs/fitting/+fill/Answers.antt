use Rattle.std.proofs.Common.{◌+◌, ◌-◌, ◌<◌, ◌≤◌, length, drop, sym, ap, ◌∙◌, arith}
use Rattle.c_types.specs.Table.{type_at}
use Rattle.c_rules.specs.Initialisers.{parts_of}
use Rattle.c_rules.specs.Types.{is_scalar}
use Rattle.c_world.specs.Seen.{seen}
use Rattle.initialiser_rules.specs.Entries.{fits_in, reads}
use Rattle.initialiser_rules.specs.Filling.{all_filled, filled, left_at, parts_in}
use Rattle.initialiser_rules.specs.Steps.{first_of}
use Rattle.initialiser_rules.proofs.Going.{on_ok, on_ok_one, some_of}
use Rattle.initialiser_rules.proofs.Reading.{below_one, read_end, read_full, read_many, read_one}
use Rattle.initialiser_rules.proofs.Stepping.{all_given, all_left, in_others, in_scalar, no_part, none_filled, some_filled}
use Rattle.initialiser_rules.proofs.fitting.+fill.Goals as goal

pub fill-fill_one-requires-clause-typed : goal.fill-fill_one-requires-clause-typed
fill-fill_one-requires-clause-typed t c =
    below_one (length c.args.world.now.table.terms) c.args.entries.now c.args.place c.index-entries-place.result c.in-One.at c.in-One.x c.requires.within c.index-entries-place.is c.in-One.is c.requires.entries

pub fill-returns-in-One-clause-is : goal.fill-returns-in-One-clause-is
fill-returns-in-One-clause-is t c =
    let ts = c.args.world.now.table.terms in
    let es = c.args.entries.now in
    let i = c.args.place in
    on_ok_one c.fill_one.result ts es c.fill_one.new.fits (i + 1) (seen c.args.world.now) (type_at ts c.args.ty.0) (fits_in ts c.args.fits.now) c.in-One.at _ _
    (read_one ts es i c.index-entries-place.result c.requires.within c.index-entries-place.is c.in-One.at c.in-One.x c.in-One.is) c.fill_one.ensures.is

pub fill-returns-in-Many-clause-is : goal.fill-returns-in-Many-clause-is
fill-returns-in-Many-clause-is t c =
    let ts = c.args.world.now.table.terms in
    let es = c.args.entries.now in
    let i = c.args.place in
    on_ok c.fill_braces.result (left_at ts es c.fill_braces.new.fits) _ _
    (ap (filled (seen c.args.world.now) (type_at ts c.args.ty.0) (fits_in ts c.args.fits.now))
    (sym (read_many ts es i c.index-entries-place.result c.requires.within c.index-entries-place.is c.in-Many.count c.in-Many.is))) c.fill_braces.ensures.is

pub fill_braces-returns-then-is_scalar-clause-is : goal.fill_braces-returns-then-is_scalar-clause-is
fill_braces-returns-then-is_scalar-clause-is t c =
    let ts = c.args.world.now.table.terms in
    let es = c.args.entries.now in
    on_ok c.fill_scalar.result (left_at ts es c.fill_scalar.new.fits) _ _
    (sym (in_scalar (seen c.args.world.now) (type_at ts c.args.ty.0) c.args.count (fits_in ts c.args.fits.now) (reads ts (drop c.args.place es)) (ap is_scalar (sym c.plain-plain.ensures.is) ∙ sym c.is_scalar.ensures ∙ c.if-is_scalar.true))) c.fill_scalar.ensures.is

pub fill_braces-returns-else-is_scalar-clause-is : goal.fill_braces-returns-else-is_scalar-clause-is
fill_braces-returns-else-is_scalar-clause-is t c =
    let ts = c.args.world.now.table.terms in
    let es = c.args.entries.now in
    on_ok c.fill_parts.result (left_at ts es c.fill_parts.new.fits) _ _
    (ap (λ ps. all_filled (seen c.args.world.now) ps c.args.count (fits_in ts c.args.fits.now) (reads ts (drop c.args.place es))) (c.parts_of-parts.ensures.is ∙ ap (parts_of (seen c.args.world.now)) c.plain-plain.ensures.is)
    ∙ sym (in_others (seen c.args.world.now) (type_at ts c.args.ty.0) c.args.count (fits_in ts c.args.fits.now) (reads ts (drop c.args.place es)) (ap is_scalar (sym c.plain-plain.ensures.is) ∙ sym c.is_scalar.ensures ∙ c.if-is_scalar.false))) c.fill_parts.ensures.is

pub fill_parts-returns-in_default-clause-is : goal.fill_parts-returns-in_default-clause-is
fill_parts-returns-in_default-clause-is t c =
    let ts = c.args.world.now.table.terms in
    let es = c.args.entries.now in
    let l = c.loop-left in
    sym
    (l.invariant.rest
    ∙ no_part (seen c.args.world.now) (parts_in ts l.parts) l.left (l.left - 1) (fits_in ts l.fits) (reads ts (drop l.next es)) (omega arith) (read_full ts es l.next (omega arith)) (sym c.in_default.ensures.is))

pub fill_parts-loop-left-preserved : goal.fill_parts-loop-left-preserved
fill_parts-loop-left-preserved t c =
    let ts = c.args.world.now.table.terms in
    let es = c.args.entries.now in
    let l = c.loop-left in
    let o = c.in-Ok-Some in
    let forward : l.next < o.after = some_of (λ n. l.next < n) o.field-0 o.after o.field-0-is o.ensures.forward in
    record {
      parts = c.in-Some.ensures.rest;
      fits = o.ensures.below;
      from = omega arith;
      within = some_of (λ n. n ≤ length es) o.field-0 o.after o.field-0-is o.ensures.within;
      rest =
          l.invariant.rest
          ∙ some_filled (seen c.args.world.now) (parts_in ts l.parts) (l.left - 1) (fits_in ts l.fits) l.left (reads ts (drop l.next es)) (first_of ts c.in-Some.step)
          (record { fits = fits_in ts c.fill.new.fits; rest = reads ts (drop o.after es) }) (omega arith) (sym c.in-Some.ensures.is)
          (sym (ap (left_at ts es c.fill.new.fits) (sym o.field-0-is) ∙ o.ensures.is));
    }

pub fill_parts-returns-in-Ok-None-clause-is : goal.fill_parts-returns-in-Ok-None-clause-is
fill_parts-returns-in-Ok-None-clause-is t c =
    let ts = c.args.world.now.table.terms in
    let es = c.args.entries.now in
    let l = c.loop-left in
    sym
    (l.invariant.rest
    ∙ none_filled (seen c.args.world.now) (parts_in ts l.parts) (l.left - 1) (fits_in ts l.fits) l.left (reads ts (drop l.next es)) (first_of ts c.in-Some.step) (omega arith) (read_full ts es l.next (omega arith)) (sym c.in-Some.ensures.is)
    (sym (ap (left_at ts es c.fill.new.fits) (sym c.in-Ok-None.field-0-is) ∙ c.in-Ok-None.ensures.is)))

pub fill_parts-returns-else-next-entries-clause-is : goal.fill_parts-returns-else-next-entries-clause-is
fill_parts-returns-else-next-entries-clause-is t c =
    let ts = c.args.world.now.table.terms in
    let es = c.args.entries.now in
    let l = c.loop-left in
    all_given (seen c.args.world.now) (parts_in ts l.parts) l.left (fits_in ts l.fits) (reads ts (drop l.next es)) (read_end ts es l.next (omega arith)) ∙ sym l.invariant.rest

pub fill_parts-returns-after-loop-left-clause-is : goal.fill_parts-returns-after-loop-left-clause-is
fill_parts-returns-after-loop-left-clause-is t c =
    let ts = c.args.world.now.table.terms in
    let es = c.args.entries.now in
    let l = c.loop-left in
    all_left (seen c.args.world.now) (parts_in ts l.parts) l.left (fits_in ts l.fits) (reads ts (drop l.next es)) (omega arith) ∙ sym l.invariant.rest
