use Rattle.c_reader.proofs.Examples.{units, declarations, expressions, statements, wrong, wrong_expressions}
use Rattle.c_reader.proofs.promises.some_examples.Goals as goal

pub returns : goal.returns
returns c = record { units = units; declarations = declarations; expressions = expressions; statements = statements; wrong = wrong; wrong_expressions = wrong_expressions }
