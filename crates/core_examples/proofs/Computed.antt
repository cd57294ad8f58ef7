-- The rows, computed.
use Rattle.std.proofs.Common.{refl}
use Rattle.c_tree.specs.Lexeme.{words, marks}
use Rattle.c_lexer.specs.Name.{words as name_words}
use Rattle.c_lexer.specs.Mark.{marks as lexer_marks}
use Rattle.c_lexer.specs.Number.{suffixes}
use Rattle.c_rules.specs.Specifiers.{written_types}
use Rattle.c_rules.specs.Names.{library, entry_points}
use Rattle.c_rules.specs.Attributes.{attributes}
use Rattle.lower_rules.specs.Numbered.{bound_address, literal_address}
use Rattle.lower_rules.specs.Operators.{binary, choice, comma, positive, negative, complement, negation, cast, copied, assigned, stepped}
use Rattle.lower_rules.specs.Values.{read, number_at, size_at, named_at, name_place, index_place, member_place, step_at, library_call, value_call, address_of, builtin_at}
use Rattle.lower_rules.specs.Units.{core_of}
use Rattle.core_examples.specs.Laws.{OperatorsAsWanted, PlacesAsWanted, CallsAsWanted, StatementsAsWanted, InitialisersAsWanted, FixedObjectsAsWanted, FunctionsAsWanted, SpansAsWanted, WholeUnitsAsWanted}
use Rattle.core_examples.specs.Operators.{rows as operators_rows}
use Rattle.core_examples.specs.Places.{rows as places_rows}
use Rattle.core_examples.specs.Calls.{rows as calls_rows}
use Rattle.core_examples.specs.Statements.{rows as statements_rows}
use Rattle.core_examples.specs.Initialisers.{rows as initialisers_rows}
use Rattle.core_examples.specs.FixedObjects.{rows as fixed_objects_rows}
use Rattle.core_examples.specs.Functions.{rows as functions_rows}
use Rattle.core_examples.specs.Spans.{rows as spans_rows}
use Rattle.core_examples.specs.WholeUnits.{rows as whole_units_rows}

pub operators_law : OperatorsAsWanted
unfolding words marks name_words lexer_marks suffixes written_types library entry_points attributes bound_address literal_address binary choice comma positive negative complement negation cast copied assigned stepped core_of read number_at size_at named_at name_place index_place member_place step_at library_call value_call address_of builtin_at operators_rows
operators_law = refl

pub places_law : PlacesAsWanted
unfolding words marks name_words lexer_marks suffixes written_types library entry_points attributes bound_address literal_address binary choice comma positive negative complement negation cast copied assigned stepped core_of read number_at size_at named_at name_place index_place member_place step_at library_call value_call address_of builtin_at places_rows
places_law = refl

pub calls_law : CallsAsWanted
unfolding words marks name_words lexer_marks suffixes written_types library entry_points attributes bound_address literal_address binary choice comma positive negative complement negation cast copied assigned stepped core_of read number_at size_at named_at name_place index_place member_place step_at library_call value_call address_of builtin_at calls_rows
calls_law = refl

pub statements_law : StatementsAsWanted
unfolding words marks name_words lexer_marks suffixes written_types library entry_points attributes bound_address literal_address binary choice comma positive negative complement negation cast copied assigned stepped core_of read number_at size_at named_at name_place index_place member_place step_at library_call value_call address_of builtin_at statements_rows
statements_law = refl

pub initialisers_law : InitialisersAsWanted
unfolding words marks name_words lexer_marks suffixes written_types library entry_points attributes bound_address literal_address binary choice comma positive negative complement negation cast copied assigned stepped core_of read number_at size_at named_at name_place index_place member_place step_at library_call value_call address_of builtin_at initialisers_rows
initialisers_law = refl

pub fixed_objects_law : FixedObjectsAsWanted
unfolding words marks name_words lexer_marks suffixes written_types library entry_points attributes bound_address literal_address binary choice comma positive negative complement negation cast copied assigned stepped core_of read number_at size_at named_at name_place index_place member_place step_at library_call value_call address_of builtin_at fixed_objects_rows
fixed_objects_law = refl

pub functions_law : FunctionsAsWanted
unfolding words marks name_words lexer_marks suffixes written_types library entry_points attributes bound_address literal_address binary choice comma positive negative complement negation cast copied assigned stepped core_of read number_at size_at named_at name_place index_place member_place step_at library_call value_call address_of builtin_at functions_rows
functions_law = refl

pub spans_law : SpansAsWanted
unfolding words marks name_words lexer_marks suffixes written_types library entry_points attributes bound_address literal_address binary choice comma positive negative complement negation cast copied assigned stepped core_of read number_at size_at named_at name_place index_place member_place step_at library_call value_call address_of builtin_at spans_rows
spans_law = refl

pub whole_units_law : WholeUnitsAsWanted
unfolding words marks name_words lexer_marks suffixes written_types library entry_points attributes bound_address literal_address binary choice comma positive negative complement negation cast copied assigned stepped core_of read number_at size_at named_at name_place index_place member_place step_at library_call value_call address_of builtin_at whole_units_rows
whole_units_law = refl
