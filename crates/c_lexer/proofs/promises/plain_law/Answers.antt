use Rattle.c_lexer.proofs.Plain.{plain_tokens}
use Rattle.c_lexer.proofs.promises.plain_law.Goals as goal

pub returns : goal.returns
returns c = plain_tokens
