use Rattle.std.proofs.Common.{length, refl, ◌∙◌}
use Rattle.machine_library.proofs.Quiet.{last_none, last_is}
use Rattle.machine_library.proofs.calls.last_of.Goals as goal

pub returns : goal.returns
returns c = c.argument.ensures.value ∙ last_is c.args.args.now (length c.args.args.now) refl c.if-count-eq0.false

pub returns-then-count-eq0 : goal.returns-then-count-eq0
returns-then-count-eq0 c = c.no_value.ensures ∙ last_none c.args.args.now c.if-count-eq0.true
