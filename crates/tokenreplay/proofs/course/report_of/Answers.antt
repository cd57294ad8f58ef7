use Rattle.tokenreplay.proofs.course.report_of.Goals as goal

pub returns : goal.returns
returns c = (c.in_ok-histories.histories, c.in_ok-text.ensures, c.in_ok-histories.ensures.replayed)
