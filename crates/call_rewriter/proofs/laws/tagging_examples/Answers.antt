use Rattle.call_rewriter.proofs.Worked.{calls, hidden, not_hidden, three_calls}
use Rattle.call_rewriter.proofs.laws.tagging_examples.Goals as goal

pub returns : goal.returns
returns c = record { three = three_calls; calls = calls; hidden = hidden; not_hidden = not_hidden }
