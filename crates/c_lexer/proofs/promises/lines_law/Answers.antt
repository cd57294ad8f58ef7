use Rattle.c_lexer.proofs.Lines.{lines_lex}
use Rattle.c_lexer.proofs.promises.lines_law.Goals as goal

pub returns : goal.returns
returns c = lines_lex
