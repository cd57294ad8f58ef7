use Rattle.std.proofs.Common.{ap, ◌∙◌}
use Rattle.c_rules.specs.Specifiers.{are_specifiers}
use Rattle.c_world.specs.Seen.{seen}
use Rattle.c_rules.specs.Unit as unit
use Rattle.specifier_rules.specs.Specified.{specified_of}
use Rattle.statement_rules.proofs.Keeping.{keeps_specifiers}
use Rattle.statement_rules.proofs.specifiers.judge_specifiers.Goals as goal

pub returns : goal.returns
returns c = λ n ts.
    let s = specified_of ts c.args.specified.now in
    keeps_specifiers n c.args.at (are_specifiers (unit.holder_of (seen c.args.world.now)) s c.args.has_items c.args.has_function) c.are_specifiers.result c.keep.result (seen c.args.world.now)
    (c.are_specifiers.ensures ts ∙ ap (λ h. are_specifiers h s c.args.has_items c.args.has_function) c.holder_of.ensures) c.keep.ensures.ok c.keep.ensures.err
