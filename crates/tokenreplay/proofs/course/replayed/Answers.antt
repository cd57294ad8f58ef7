use Rattle.std.proofs.Common.{Err, sym, subst}
use Rattle.tokenreplay.specs.Reading.{Replays}
use Rattle.tokenreplay.specs.declared.course.Refusal.{Refusal}
use Rattle.tokenreplay.proofs.Served.{broken_text, whole_text}
use Rattle.tokenreplay.proofs.course.replayed.Goals as goal

pub returns-in-Ok-report_of : goal.returns-in-Ok-report_of
returns-in-Ok-report_of c = whole_text c.args.text.now c.in-Ok.trace c.in-Ok-report_of.report c.in-Ok.ensures.value c.in-Ok-report_of.ensures

pub returns : goal.returns
returns c = subst (λ (r : Refusal). Replays c.args.text.now (Err r)) (sym c.refusal_of.ensures) (broken_text c.args.text.now c.in-Err.end c.in-Err.ensures.value)
