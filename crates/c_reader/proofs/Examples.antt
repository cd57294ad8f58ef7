-- The examples, computed.
use Rattle.std.proofs.Common.{refl}
use Rattle.c_tree.specs.Lexeme.{words, marks}
use Rattle.c_reader.specs.Examples.{UnitsAreRead, DeclarationsAreRead, ExpressionsAreRead, StatementsAreRead, WrongIsFound, WrongExpressionsAreFound}

pub units : UnitsAreRead
unfolding words marks
units = (refl, refl, refl, refl, refl, refl, refl)

pub declarations : DeclarationsAreRead
unfolding words marks
declarations = (refl, refl, refl, refl, refl, refl, refl, refl, refl)

pub expressions : ExpressionsAreRead
unfolding words marks
expressions = (refl, refl, refl, refl, refl)

pub statements : StatementsAreRead
unfolding words marks
statements = (refl, refl, refl, refl)

pub wrong : WrongIsFound
unfolding words marks
wrong = (refl, refl, refl, refl, refl, refl, refl, refl, refl, refl, refl, refl, refl, refl)

pub wrong_expressions : WrongExpressionsAreFound
unfolding words marks
wrong_expressions = (refl, refl, refl, refl, refl, refl, refl, refl, refl)
