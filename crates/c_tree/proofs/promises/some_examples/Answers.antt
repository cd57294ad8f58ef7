use Rattle.c_tree.proofs.Examples.{depths, declarators, typedef_names, statements, expressions, attributes, places}
use Rattle.c_tree.proofs.promises.some_examples.Goals as goal

pub returns : goal.returns
returns c = record { depths = depths; declarators = declarators; typedef_names = typedef_names; statements = statements; expressions = expressions; attributes = attributes; places = places }
