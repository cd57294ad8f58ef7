use Rattle.alloctoken.proofs.Served.{refused_text, rewrites_text}
use Rattle.alloctoken.proofs.course.rewritten.Goals as goal

pub returns-in-Ok-tagged_text : goal.returns-in-Ok-tagged_text
returns-in-Ok-tagged_text c = rewrites_text c.args.text.now c.args.max c.in-Ok.unit c.in-Ok-tagged_text.tagged c.in-Ok.ensures c.in-Ok-tagged_text.ensures

pub returns : goal.returns
returns c = refused_text c.args.text.now c.args.max c.in-Err.refusal c.in-Err.ensures
