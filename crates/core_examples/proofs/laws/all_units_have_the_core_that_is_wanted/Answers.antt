use Rattle.core_examples.proofs.Computed.{operators_law, places_law, calls_law, statements_law, initialisers_law, fixed_objects_law, functions_law, spans_law, whole_units_law}
use Rattle.core_examples.proofs.laws.all_units_have_the_core_that_is_wanted.Goals as goal

pub returns : goal.returns
returns c = record { operators = operators_law; places = places_law; calls = calls_law; statements = statements_law; initialisers = initialisers_law; fixed_objects = fixed_objects_law; functions = functions_law; spans = spans_law; whole_units = whole_units_law }
