use Rattle.c_lexer.proofs.Decimals.{decimal_constant, decimal_token}
use Rattle.c_lexer.proofs.promises.decimal_law.Goals as goal

pub returns : goal.returns
returns c = record { constant = decimal_constant; unsigned_long = decimal_token }
