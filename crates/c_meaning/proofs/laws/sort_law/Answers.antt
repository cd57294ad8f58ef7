use Rattle.c_meaning.proofs.SortedCalls.{sorts_hold, main_gives_int}
use Rattle.c_meaning.proofs.laws.sort_law.Goals as goal

pub returns-clause-expressions : goal.returns-clause-expressions
returns-clause-expressions c = sorts_hold

pub returns-clause-main : goal.returns-clause-main
returns-clause-main c = main_gives_int
