-- Each row comes out.
use Rattle.std.specs.Prelude.{◌≡◌, Some, List, [], map}
use Rattle.tag_examples.specs.Found.{Row, differing, is_rewritten, edits_fit, is_counted, has_none, spans_for, refusal_for, lines_for}
use Rattle.tag_examples.specs.Units as units
use Rattle.tag_examples.specs.Refused as refused
use Rattle.tag_examples.specs.Told as told

-- in all tables of units
abbrev pub InEach : (List Row → Type 0) → Type 0
InEach P = P units.by_number × P units.by_type × P units.entry_points × P units.unchanged × P units.builtins

-- it isn't refused, and becomes what is wanted
abbrev pub UnitsAreRewritten : Type 0
UnitsAreRewritten = InEach (λ rows. differing is_rewritten rows ≡ [])

-- its edits ascend, don't overlap and lie in the text, and the text with them made, behind the declarations of the entry points, reads as what it becomes
abbrev pub EditsGiveTheSame : Type 0
EditsGiveTheSame = InEach (λ rows. differing edits_fit rows ≡ [])

-- the nodes of what it becomes have the numbers 0, 1, 2 ..
abbrev pub NumbersCount : Type 0
NumbersCount = InEach (λ rows. differing is_counted rows ≡ [])

-- which keeps all rules and has no site and no mark
abbrev pub TaggedHasNone : Type 0
TaggedHasNone = InEach (λ rows. differing has_none rows ≡ [])

abbrev pub SpansAreKept : Type 0
SpansAreKept = map (λ r. spans_for r.how r.text) units.spans ≡ map (λ r. r.spans) units.spans

abbrev pub RefusalsAsWanted : Type 0
RefusalsAsWanted = map (λ r. refusal_for r.plan r.text) refused.rows ≡ map (λ r. Some r.refusal) refused.rows

abbrev pub LinesAsWanted : Type 0
LinesAsWanted = map (λ r. lines_for r.how r.text) told.rows ≡ map (λ r. Some r.lines) told.rows
