use Rattle.std.proofs.Common.{List, subst}
use Rattle.c_types.specs.Table.{type_at}
use Rattle.c_world.specs.Seen.{Gives, seen}
use Rattle.initialiser_rules.specs.Entries.{fits_in}
use Rattle.initialiser_rules.specs.Filling.{judge_fits}
use Rattle.initialiser_rules.specs.declared.given.Fitted.{Fitted}
use Rattle.initialiser_rules.proofs.Trying.{given_failed, given_found}
use Rattle.initialiser_rules.proofs.judging.judge_given.Goals as goal

pub returns-in-Ok-clause-gives : goal.returns-in-Ok-clause-gives
returns-in-Ok-clause-gives c =
    let ts = c.args.world.now.table.terms in
    let w = seen c.args.world.now in
    let new = seen c.judge_fits.new.world in
    λ g e.
    given_found c.args.at c.args.what (type_at ts c.args.ty.0) c.args.is_fixed g w c.in-Ok.fits (fits_in ts) c.judge_fits.result new (c.in-Ok.ensures.gives g e)
    (subst (λ (fs : List Fitted). Gives (judge_fits c.args.at c.args.is_fixed (fits_in ts fs)) w c.judge_fits.result (λ _. tt) new) c.as_slice.ensures c.judge_fits.ensures.gives)

pub returns-in-Err-clause-gives : goal.returns-in-Err-clause-gives
returns-in-Err-clause-gives c =
    let ts = c.args.world.now.table.terms in
    let w = seen c.args.world.now in
    λ g e. given_failed c.args.at c.args.what (type_at ts c.args.ty.0) c.args.is_fixed g w (Unit {0}) c.in-Err.end (fits_in ts) w (c.in-Err.ensures.gives g e)
