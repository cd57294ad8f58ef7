use Rattle.std.proofs.Common.{◌∙◌, ap}
use Rattle.c_tree.specs.Marked as m
use Rattle.c_tree.specs.View.{list_of}
use Rattle.c_tree.specs.declared.expression.Enum as ee
use Rattle.c_tree.proofs.Views.{list_seen}
use Rattle.c_rules.specs.Bodies.{specs_have_body}
use Rattle.body_rules.proofs.Enums.{enum_seen}
use Rattle.body_rules.proofs.bodies.enum_has_body.Goals as goal

pub returns-in-Some : goal.returns-in-Some
returns-in-Some c = λ more.
    let e = c.args.enumeration.now in
    ap specs_have_body (enum_seen e more)
    ∙ ap (λ l. specs_have_body (m.Enum (ee.out-Enum e).at (ee.out-Enum e).tag (list_of l) more)) c.in-Some.is
    ∙ ap (λ l. specs_have_body (m.Enum (ee.out-Enum e).at (ee.out-Enum e).tag l more)) (list_seen c.in-Some.field-0)
