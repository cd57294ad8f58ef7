use Rattle.std.proofs.Common.{refl, sym, ◌∙◌}
use Rattle.command_line.proofs.Ranges.{options_in_range}
use Rattle.alloctoken.proofs.Served.{served}
use Rattle.alloctoken.specs.Course as c_
use Rattle.alloctoken.proofs.course.course.Goals as goal

pub served-requires-clause-least : goal.served-requires-clause-least
served-requires-clause-least g c = (options_in_range c.args.words.now c.in-Ok-Some.options (sym c.in-Ok-Some.ensures.value ∙ c.in-Ok-Some.field-0-is)).0

pub served-requires-clause-greatest : goal.served-requires-clause-greatest
served-requires-clause-greatest g c = (options_in_range c.args.words.now c.in-Ok-Some.options (sym c.in-Ok-Some.ensures.value ∙ c.in-Ok-Some.field-0-is)).1

pub returns-in-Ok-Some : goal.returns-in-Ok-Some
returns-in-Ok-Some g c =
    served c.args.words.now (g.F.Files.contents c.args.files.now) (g.F.Files.tally c.args.files.now) (g.F.Files.tally c.served.new.files)
    c.in-Ok-Some.options c.served.result (sym c.in-Ok-Some.ensures.value ∙ c.in-Ok-Some.field-0-is) c.served.ensures

pub returns-in-Ok-None : goal.returns-in-Ok-None
returns-in-Ok-None g c = c_.usage (sym c.in-Ok-None.ensures.value ∙ c.in-Ok-None.field-0-is) refl

pub returns-in-Err : goal.returns-in-Err
returns-in-Err g c = c_.no_memory refl
