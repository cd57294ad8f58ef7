use Rattle.c_reader.proofs.MarkedExamples.{declared, statements, declarations, expressions, stops, depth, deep}
use Rattle.c_reader.proofs.places.some_places.Goals as goal

pub returns : goal.returns
returns c = record { declared = declared; statements = statements; declarations = declarations; expressions = expressions; stops = stops; depth = depth; deep = deep }
