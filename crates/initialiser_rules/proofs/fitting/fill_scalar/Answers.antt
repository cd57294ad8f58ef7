use Rattle.std.proofs.Common.{◌+◌, ◌-◌, suc, length, drop, sym, ap, ◌∙◌, arith}
use Rattle.c_types.specs.Table.{type_at}
use Rattle.expression_rules.specs.Typed.{typed_of}
use Rattle.initialiser_rules.specs.Entries.{fits_in, reads}
use Rattle.initialiser_rules.specs.Filling.{scalar_filled}
use Rattle.initialiser_rules.proofs.Going.{put_leaves, scalar_alone, scalar_crowded, scalar_end, scalar_many, scalar_zero}
use Rattle.initialiser_rules.proofs.Reading.{below_one, fits_below_put, read_end, read_full, read_many, read_one}
use Rattle.initialiser_rules.proofs.fitting.fill_scalar.Goals as goal
use Rattle.initialiser_rules.proofs.fitting.fill_scalar.Goals.{then-count-eq0-via-then-count-eq0, then-count-eq0-via-else-count-eq0+then-entries-place}

pub returns-then-count-eq0-clause-is : goal.returns-then-count-eq0-clause-is
returns-then-count-eq0-clause-is c =
    let ts = c.args.world.now.table.terms in
    let es = c.args.entries.now in
    let t = type_at ts c.args.ty.0 in
    let done = fits_in ts c.args.fits.now in
    elim c.then-count-eq0.branch [
      | then-count-eq0-via-then-count-eq0 w ↦ scalar_zero t c.args.count done _ w.if-count-eq0.true
      | then-count-eq0-via-else-count-eq0+then-entries-place w ↦ scalar_end t c.args.count done _ (read_end ts es c.args.place w.if-entries-place.true)
    ]

pub returns-then-not-is_alone-clause-is : goal.returns-then-not-is_alone-clause-is
returns-then-not-is_alone-clause-is c =
    let ts = c.args.world.now.table.terms in
    let es = c.args.entries.now in
    let i = c.args.place in
    let t = type_at ts c.args.ty.0 in
    let done = fits_in ts c.args.fits.now in
    let x = c.in-One.x in
    scalar_crowded t done c.in-One.at (typed_of ts x) (length es) (suc i) c.args.count (reads ts (drop (i + 1) es)) (omega arith) (sym c.is_alone.ensures ∙ c.if-not-is_alone.true) (λ l. read_full ts es (i + 1) (omega arith))
    ∙ ap (scalar_filled t c.args.count done) (sym (read_one ts es i c.index-entries-place.result (omega arith) c.index-entries-place.is c.in-One.at x c.in-One.is))

pub returns-in-Many-clause-is : goal.returns-in-Many-clause-is
returns-in-Many-clause-is c =
    let ts = c.args.world.now.table.terms in
    let es = c.args.entries.now in
    let i = c.args.place in
    let t = type_at ts c.args.ty.0 in
    let done = fits_in ts c.args.fits.now in
    scalar_many t c.args.count (c.args.count - 1) done _ _ (omega arith)
    ∙ ap (scalar_filled t c.args.count done) (sym (read_many ts es i c.index-entries-place.result (omega arith) c.index-entries-place.is c.in-Many.field-0 c.in-Many.is))

pub returns-in_ok-put-in-One-clause-is : goal.returns-in_ok-put-in-One-clause-is
returns-in_ok-put-in-One-clause-is c =
    let ts = c.args.world.now.table.terms in
    let es = c.args.entries.now in
    let i = c.args.place in
    let t = type_at ts c.args.ty.0 in
    let done = fits_in ts c.args.fits.now in
    let x = c.in-One.x in
    put_leaves ts es (i + 1) c.args.fits.now c.put.new.fits x c.in-One.at c.args.ty c.in_ok-put-in-One.ensures
    ∙ scalar_alone t done c.in-One.at (typed_of ts x) (length es) (suc i) c.args.count (reads ts (drop (i + 1) es)) (omega arith) (sym c.is_alone.ensures ∙ c.if-not-is_alone.false) (λ l. read_end ts es (i + 1) (omega arith))
    ∙ ap (scalar_filled t c.args.count done) (sym (read_one ts es i c.index-entries-place.result (omega arith) c.index-entries-place.is c.in-One.at x c.in-One.is))

pub returns-in_ok-put-in-One-clause-below : goal.returns-in_ok-put-in-One-clause-below
returns-in_ok-put-in-One-clause-below c =
    let es = c.args.entries.now in
    let n = length c.args.world.now.table.terms in
    fits_below_put n c.args.fits.now c.put.new.fits _ c.in_ok-put-in-One.ensures c.requires.fits
    (below_one n es c.args.place c.index-entries-place.result c.in-One.at c.in-One.x (omega arith) c.index-entries-place.is c.in-One.is c.requires.entries, c.requires.ty)
