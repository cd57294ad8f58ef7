-- That what an expression becomes gives what it says, in a program that has what is named.
use Rattle.std.specs.Prelude.{◌≡◌, ℕ, nat_lt, Bool, true, List, length, Option, Some, None, slice_get}
use Rattle.c_core.specs.declared.values.Scalar.{Scalar}
use Rattle.c_core.specs.Sorts.{Sort, Gives, is_right}
use Rattle.c_core.specs.WellFormed.{sort_of, is_literal, is_object}
use Rattle.c_core.specs.Tree as c
use Rattle.c_tree.specs.Marked as m
use Rattle.signature_laws.specs.Named.{AreNamed}
use Rattle.lower_rules.specs.Shapes.{type_at, names_of}
use Rattle.lower_rules.specs.Lowered.{Lowered}
use Rattle.lower_rules.specs.Numbered.{Numbered, Scope, fixed_object, fixed_literal, function_numbered}
use Rattle.lower_rules.specs.Expressions.{value, place}

-- what is said of a sort: it is a scalar, or any right one
abbrev pub GivenAs : Option Scalar → Sort → Type 0
GivenAs (Some s) x = x ≡ Gives s
GivenAs None x = is_right x ≡ true

module _ (p : c.Program) (locals : List ℕ) where
  abbrev pub sort : Lowered → Sort
  sort e = sort_of p locals e.expr

  abbrev pub Good : Lowered → Type 0
  Good e = GivenAs e.gives (sort e)

-- the program has what the numbers are for, and each struct, union and enumeration in a noted type has a name
pub record Has (p : c.Program) (n : Numbered) : Type 0 where
  pub literals : (node i : ℕ) → fixed_literal n node ≡ Some i → is_literal (slice_get p.fixed i) ≡ true
  pub objects : (number i : ℕ) → fixed_object n number ≡ Some i → is_object (slice_get p.fixed i) ≡ true
  pub functions : (number i : ℕ) → function_numbered n.known number ≡ Some i → nat_lt i (length p.funcs) ≡ true
  pub named : (node : ℕ) → AreNamed (names_of n.known) (type_at n.known node)

-- each expression's value and place, whatever the unit is and whatever is known of it
abbrev pub ValuesGiveWhatTheySay : Type 0
ValuesGiveWhatTheySay = (p : c.Program) (n : Numbered) (scope : Scope) → Has p n → (used : Bool) (e : m.Expr) → Good p scope (value n scope used e)

abbrev pub PlacesArePointers : Type 0
PlacesArePointers = (p : c.Program) (n : Numbered) (scope : Scope) → Has p n → (e : m.Expr) → Good p scope (place n scope e)
