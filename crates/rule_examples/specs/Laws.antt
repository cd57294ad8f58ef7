-- Each unit is judged as it is wanted, and what is found of it is what is wanted.
use Rattle.std.specs.Prelude.{◌≡◌, true, false, [], map}
use Rattle.rule_examples.specs.Judged.{differing}
use Rattle.rule_examples.specs.Found.{found}
use Rattle.rule_examples.specs.Kept1 as kept1
use Rattle.rule_examples.specs.Kept2 as kept2
use Rattle.rule_examples.specs.BrokenNames as brokennames
use Rattle.rule_examples.specs.BrokenDeclarations as brokendeclarations
use Rattle.rule_examples.specs.BrokenOperators as brokenoperators
use Rattle.rule_examples.specs.BrokenUses as brokenuses
use Rattle.rule_examples.specs.Documented as documented
use Rattle.rule_examples.specs.Mains as mains
use Rattle.rule_examples.specs.Bound as bound
use Rattle.rule_examples.specs.Noted as noted

abbrev pub Kept1AsWanted : Type 0
Kept1AsWanted = differing false kept1.units ≡ []

abbrev pub Kept2AsWanted : Type 0
Kept2AsWanted = differing false kept2.units ≡ []

abbrev pub BrokenNamesAsWanted : Type 0
BrokenNamesAsWanted = differing false brokennames.units ≡ []

abbrev pub BrokenDeclarationsAsWanted : Type 0
BrokenDeclarationsAsWanted = differing false brokendeclarations.units ≡ []

abbrev pub BrokenOperatorsAsWanted : Type 0
BrokenOperatorsAsWanted = differing false brokenoperators.units ≡ []

abbrev pub BrokenUsesAsWanted : Type 0
BrokenUsesAsWanted = differing false brokenuses.units ≡ []

abbrev pub DocumentedAsWanted : Type 0
DocumentedAsWanted = differing false documented.units ≡ []

abbrev pub MainsAsWanted : Type 0
MainsAsWanted = differing true mains.units ≡ []

abbrev pub BoundAsWanted : Type 0
BoundAsWanted = map found bound.rows ≡ bound.rows

abbrev pub NotedAsWanted : Type 0
NotedAsWanted = map found noted.rows ≡ noted.rows
