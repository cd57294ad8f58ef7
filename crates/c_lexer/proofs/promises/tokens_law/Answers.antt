use Rattle.c_lexer.proofs.Places.{tokens_are, tokens_stand}
use Rattle.c_lexer.proofs.promises.tokens_law.Goals as goal

pub returns : goal.returns
returns c = record { kinds = tokens_are; places = tokens_stand }
