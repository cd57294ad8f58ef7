use Rattle.std.proofs.Common.{length, ◌∙◌}
use Rattle.c_world.specs.Seen.{seen}
use Rattle.initialiser_rules.specs.Entries.{fits_in}
use Rattle.initialiser_rules.proofs.Fits.{noted_same}
use Rattle.initialiser_rules.proofs.Reading.{fits_same, fits_up}
use Rattle.initialiser_rules.proofs.Trying.{fits_noted}
use Rattle.initialiser_rules.proofs.judging.judge_fits.Goals as goal

pub note_fits-requires : goal.note_fits-requires
note_fits-requires c =
    fits_up (length c.args.world.now.table.terms) (length c.all_convert.new.world.table.terms) c.args.fits.now c.all_convert.ensures.extends.grows.longer c.requires

pub returns-clause-gives : goal.returns-clause-gives
returns-clause-gives c =
    let old = c.args.world.now.table in
    let grown = c.all_convert.new.world.table in
    let fs = c.args.fits.now in
    fits_noted c.args.at c.args.is_fixed (fits_in old.terms fs) (seen c.args.world.now) (seen c.note_fits.new.world) c.may_be_static.result c.may_be_static.ensures
    _ c.in_ok-keep.ensures.ok c.in_ok-converted.ensures.is c.in_ok-keep-2.ensures.ok
    (c.note_fits.ensures.seen ∙ noted_same c.args.is_fixed (fits_in grown.terms fs) (fits_in old.terms fs) _ _ (fits_same old grown c.all_convert.ensures.extends fs c.requires) c.all_convert.ensures.seen)
