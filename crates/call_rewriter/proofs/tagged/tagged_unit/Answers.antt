use Rattle.call_rewriter.specs.Plans.{hooks_seen}
use Rattle.call_rewriter.proofs.Entering.{unit_tagged}
use Rattle.call_rewriter.proofs.tagged.tagged_unit.Goals as goal

pub returns : goal.returns
returns c =
    rw c.new.ensures (rw c.open.ensures
    (unit_tagged c.args.max _ c.survey_of-survey.result c.used.result (hooks_seen c.hooks.result) c.args.unit.now.items c.in_ok-items.items c.in_ok-more.more c.append.new.self
    c.requires.least c.survey_of-survey.ensures c.used.ensures c.in_ok-items.ensures c.hooks.ensures c.in_ok-more.ensures c.in_ok-append.ensures))
