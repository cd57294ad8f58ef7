use Rattle.std.proofs.Common.{◌≡◌, drop}
use Rattle.command_line.specs.Draft as machine
use Rattle.command_line.proofs.options.read_all.Given as goal

abbrev pub invariant-loop-word : goal.invariant-loop-word
invariant-loop-word l = machine.read_all l.words machine.begin ≡ machine.read_all (drop l.word-index l.words) (machine.reading_of l.draft)
