-- Each row has what is found.
use Rattle.std.specs.Prelude.{◌≡◌, map}
use Rattle.core_examples.specs.Found.{found}
use Rattle.core_examples.specs.Operators as operators
use Rattle.core_examples.specs.Places as places
use Rattle.core_examples.specs.Calls as calls
use Rattle.core_examples.specs.Statements as statements
use Rattle.core_examples.specs.Initialisers as initialisers
use Rattle.core_examples.specs.FixedObjects as fixed_objects
use Rattle.core_examples.specs.Functions as functions
use Rattle.core_examples.specs.Spans as spans
use Rattle.core_examples.specs.WholeUnits as whole_units

abbrev pub OperatorsAsWanted : Type 0
OperatorsAsWanted = map found operators.rows ≡ operators.rows

abbrev pub PlacesAsWanted : Type 0
PlacesAsWanted = map found places.rows ≡ places.rows

abbrev pub CallsAsWanted : Type 0
CallsAsWanted = map found calls.rows ≡ calls.rows

abbrev pub StatementsAsWanted : Type 0
StatementsAsWanted = map found statements.rows ≡ statements.rows

abbrev pub InitialisersAsWanted : Type 0
InitialisersAsWanted = map found initialisers.rows ≡ initialisers.rows

abbrev pub FixedObjectsAsWanted : Type 0
FixedObjectsAsWanted = map found fixed_objects.rows ≡ fixed_objects.rows

abbrev pub FunctionsAsWanted : Type 0
FunctionsAsWanted = map found functions.rows ≡ functions.rows

abbrev pub SpansAsWanted : Type 0
SpansAsWanted = map found spans.rows ≡ spans.rows

abbrev pub WholeUnitsAsWanted : Type 0
WholeUnitsAsWanted = map found whole_units.rows ≡ whole_units.rows
