-- Each row has what is found.
use Rattle.std.specs.Prelude.{◌≡◌, map}
use Rattle.site_examples.specs.Found.{found}
use Rattle.site_examples.specs.Sizes as sizes
use Rattle.site_examples.specs.Values as values
use Rattle.site_examples.specs.Calls as calls
use Rattle.site_examples.specs.Untagged as untagged
use Rattle.site_examples.specs.Marks as marks
use Rattle.site_examples.specs.Spelled as spelled
use Rattle.site_examples.specs.Page as page

abbrev pub SizesAsWanted : Type 0
SizesAsWanted = map found sizes.rows ≡ sizes.rows

abbrev pub ValuesAsWanted : Type 0
ValuesAsWanted = map found values.rows ≡ values.rows

abbrev pub CallsAsWanted : Type 0
CallsAsWanted = map found calls.rows ≡ calls.rows

abbrev pub UntaggedAsWanted : Type 0
UntaggedAsWanted = map found untagged.rows ≡ untagged.rows

abbrev pub MarksAsWanted : Type 0
MarksAsWanted = map found marks.rows ≡ marks.rows

abbrev pub SpellingsAsWanted : Type 0
SpellingsAsWanted = map found spelled.rows ≡ spelled.rows

abbrev pub PageAsWanted : Type 0
PageAsWanted = map found page.rows ≡ page.rows
