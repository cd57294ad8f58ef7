use Rattle.std.proofs.Common.{true}
use Rattle.c_rules.specs.Specifiers.{are_specifiers}
use Rattle.c_rules.specs.declared.known.Holder.TheVariants.{Definition}
use Rattle.specifier_rules.specs.Specified.{specified_of}
use Rattle.statement_rules.proofs.Keeping.{keeps_specifiers}
use Rattle.statement_rules.proofs.specifiers.judge_definition_specifiers.Goals as goal

pub returns : goal.returns
returns c = λ n ts w.
    keeps_specifiers n c.args.at (are_specifiers Definition (specified_of ts c.args.specified.now) true true) c.are_specifiers.result c.keep.result w
    (c.are_specifiers.ensures ts) c.keep.ensures.ok c.keep.ensures.err
