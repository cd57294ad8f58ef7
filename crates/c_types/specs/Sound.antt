-- What holds of the parts of a table.
use Rattle.std.specs.Prelude.{◌≡◌, ◌<◌, ℕ, List, length, slice_get, Option, Some}
use Rattle.c_types.specs.Table.{AreOrdered, AllMembersBelow, NumbersBelow, type_at}
use Rattle.c_types.specs.Facts.{IsFact}
use Rattle.c_types.specs.Found.{found}
use Rattle.c_types.specs.Layout.{layout_at}
use Rattle.c_types.specs.Records.{limit}
use Rattle.c_types.specs.Roots.{AreFound}
use Rattle.c_types.specs.Shapes.{AreShapes}
use Rattle.c_types.specs.declared.facts.Facts.{Facts}
use Rattle.c_types.specs.declared.records.Layout.{Layout}
use Rattle.c_types.specs.declared.table.TypeTable.TheInside.{Inside}
use Rattle.c_types.specs.declared.terms.Term.{Term}

-- each term names declared records and enumerations
abbrev pub AreNumbered : (records enums : ℕ) → List Term → Type 0
AreNumbered records enums ts = (i : ℕ) (t : Term) → slice_get ts i ≡ Some t → NumbersBelow records enums t

-- no record has 2^28 bytes or more
abbrev pub AreSmall : List (Option Layout) → Type 0
AreSmall ls = (k : ℕ) (l : Layout) → layout_at ls k ≡ Some l → l.size < limit

pub record IsSound (t : Inside) : Type 0 where
  pub ordered : AreOrdered t.terms.items
  pub numbered : AreNumbered (length t.records.items) (length t.enums.items) t.terms.items
  pub as_long : length t.facts.items ≡ length t.terms.items
  pub shapes_long : length t.shapes.items ≡ length t.terms.items
  pub layouts_long : length t.layouts.items ≡ length t.records.items
  pub members_long : length t.members.items ≡ length t.records.items
  pub members_below : AllMembersBelow (length t.terms.items) t.members.items
  pub small : AreSmall t.layouts.items
  pub facts : (i : ℕ) (f : Facts) → slice_get t.facts.items i ≡ Some f → IsFact t.layouts.items (type_at t.terms.items i) f
  pub shapes : AreShapes t.terms.items t.shapes.items
  pub found : AreFound t.terms.items (found t.numbers)
