use Rattle.tag_examples.proofs.Computed.{rewritten_law, edits_law, numbers_law, none_law, spans_law, refusals_law, lines_law}
use Rattle.tag_examples.proofs.laws.all_rows_come_out.Goals as goal

pub returns : goal.returns
returns c = record {
  rewritten = rewritten_law;
  edits = edits_law;
  numbers = numbers_law;
  none = none_law;
  spans = spans_law;
  refusals = refusals_law;
  lines = lines_law;
}
