use Rattle.command_line.proofs.OptionExamples.{examples_hold}
use Rattle.command_line.proofs.options.option_examples.Goals as goal

pub returns : goal.returns
returns c = examples_hold
