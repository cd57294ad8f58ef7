use Rattle.std.proofs.Common.{◌∙◌, ap}
use Rattle.c_reader.specs.MarkedParts as r
use Rattle.c_stack.proofs.Words.{same_word}
use Rattle.c_stack.proofs.specs_read.word_spec.Goals as goal

pub returns : goal.returns
returns c = c.keyword.ensures ∙ ap r.keyword (same_word c.args.word)
