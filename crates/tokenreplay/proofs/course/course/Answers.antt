use Rattle.std.proofs.Common.{refl, sym, ap, ◌∙◌}
use Rattle.tokenreplay.proofs.Served.{served}
use Rattle.tokenreplay.specs.Course.{file_of}
use Rattle.tokenreplay.specs.Course as c_
use Rattle.tokenreplay.proofs.course.course.Goals as goal

pub returns-in-Some : goal.returns-in-Some
returns-in-Some g c =
    served c.args.words.now (g.F.Files.contents c.args.files.now) (g.F.Files.tally c.args.files.now) (g.F.Files.tally c.served.new.files)
    c.in-Some.name.now c.served.result (ap file_of (sym c.as_slice.ensures) ∙ sym c.in-Some.ensures) c.served.ensures

pub returns-in-None : goal.returns-in-None
returns-in-None g c = c_.usage (ap file_of (sym c.as_slice.ensures) ∙ sym c.in-None.ensures) refl
