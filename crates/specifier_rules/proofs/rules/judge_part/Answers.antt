use Rattle.std.proofs.Common.{◌≡◌, true, false, rules}
use Rattle.c_rules.specs.Specifiers.{are_specifiers}
use Rattle.c_rules.specs.declared.known.Holder.TheVariants.{Part}
use Rattle.specifier_rules.specs.Specified.{specified_of}
use Rattle.specifier_rules.proofs.rules.judge_part.Goals as goal

pub returns-in_err-keep-clause-gives : goal.returns-in_err-keep-clause-gives
returns-in_err-keep-clause-gives c =
    let kept : c.are_specifiers.result ≡ are_specifiers Part (specified_of c.args.world.now.table.terms c.args.specified.now) true false
    = c.are_specifiers.ensures c.args.world.now.table.terms in
    λ before. search rules
