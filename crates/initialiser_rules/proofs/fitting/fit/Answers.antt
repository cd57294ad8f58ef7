use Rattle.std.proofs.Common.{drop, sym, ap, ◌∙◌}
use Rattle.c_types.specs.Table.{type_at}
use Rattle.c_world.specs.Seen.{seen}
use Rattle.initialiser_rules.specs.Entries.{fits_in, reads}
use Rattle.initialiser_rules.specs.Filling.{filled, left_at}
use Rattle.initialiser_rules.proofs.Going.{may_if, whole_filled, whole_fits, whole_is}
use Rattle.initialiser_rules.proofs.Reading.{not_read, read_get}
use Rattle.initialiser_rules.proofs.fitting.fit.Goals as goal

pub returns-in_default-clause-is : goal.returns-in_default-clause-is
returns-in_default-clause-is c = λ g e. absurd (not_read c.args.world.now.table.terms c.args.entries.now g c.in_default.ensures.item.3 e)

pub returns-in-Ok-Some-clause-is : goal.returns-in-Ok-Some-clause-is
returns-in-Ok-Some-clause-is c =
    let ts = c.args.world.now.table.terms in
    let w = seen c.args.world.now in
    let t = type_at ts c.args.ty.0 in
    let done = fits_in ts c.new-fits.result in
    λ g e.
    may_if w t g c.args.is_fixed
    (whole_filled w t g _ done (ap (fits_in ts) c.new-fits.ensures)
    (ap (left_at ts c.args.entries.now c.fill.new.fits) (sym c.in-Ok-Some.field-0-is) ∙ c.in-Ok-Some.ensures.is ∙ ap (filled w t done) e)).0

pub returns-in-Ok-Some-clause-fits : goal.returns-in-Ok-Some-clause-fits
returns-in-Ok-Some-clause-fits c =
    let ts = c.args.world.now.table.terms in
    let w = seen c.args.world.now in
    let t = type_at ts c.args.ty.0 in
    let done = fits_in ts c.new-fits.result in
    λ g e.
    (whole_filled w t g _ done (ap (fits_in ts) c.new-fits.ensures)
    (ap (left_at ts c.args.entries.now c.fill.new.fits) (sym c.in-Ok-Some.field-0-is) ∙ c.in-Ok-Some.ensures.is ∙ ap (filled w t done) e)).1

pub returns-in-Ok-None-clause-is : goal.returns-in-Ok-None-clause-is
returns-in-Ok-None-clause-is c =
    let ts = c.args.world.now.table.terms in
    let es = c.args.entries.now in
    whole_is (seen c.args.world.now) c.args.is_fixed (type_at ts c.args.ty.0) ts c.in-Some.first.now (reads ts (drop 1 es)) (reads ts es) (read_get ts es 0 c.in-Some.first.now c.in-Some.ensures.item.3.0 c.in-Some.ensures.item.1) c.fit_whole.result (fits_in ts c.new-fits.result)
    (ap (left_at ts es c.fill.new.fits) (sym c.in-Ok-None.field-0-is) ∙ c.in-Ok-None.ensures.is) c.fit_whole.ensures.is

pub returns-in-Ok-None-clause-fits : goal.returns-in-Ok-None-clause-fits
returns-in-Ok-None-clause-fits c =
    let ts = c.args.world.now.table.terms in
    let es = c.args.entries.now in
    whole_fits (seen c.args.world.now) c.args.is_fixed (type_at ts c.args.ty.0) ts c.in-Some.first.now (reads ts (drop 1 es)) (reads ts es) (read_get ts es 0 c.in-Some.first.now c.in-Some.ensures.item.3.0 c.in-Some.ensures.item.1) c.fit_whole.result c.fit_whole.ensures.fits
