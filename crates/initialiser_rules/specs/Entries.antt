-- An initialiser as a list of its parts in the order of the text, in the words of the rules.
use Rattle.std.specs.Prelude.{ℕ, ◌<◌, List, [], ◌∷◌, take, drop, map}
use Rattle.c_tree.specs.declared.operator.At.{At}
use Rattle.c_types.specs.declared.terms.Term.{Term}
use Rattle.c_types.specs.CTypes.{CType}
use Rattle.c_types.specs.Table.{type_at}
use Rattle.c_rules.specs.Initialisers.{Given, Givens, one, many, no_more, given}
use Rattle.c_rules.specs.Typed.{Typed}
use Rattle.expression_rules.specs.Typed.{typed_of}
use Rattle.initialiser_rules.specs.declared.given.Entry.{Entry}
use Rattle.initialiser_rules.specs.declared.given.Entry.TheVariants as e
use Rattle.initialiser_rules.specs.declared.given.Fitted.{Fitted}

abbrev pub givens_of : List Given → Givens
givens_of [] = no_more
givens_of (g ∷ gs) = given g (givens_of gs)

-- braces hold so many of the initialisers behind them
abbrev pub put : List Term → Entry → List Given → List Given
put ts (e.One at x) gs = one at (typed_of ts x) ∷ gs
put ts (e.Many n) gs = many (givens_of (take n gs)) ∷ drop n gs

-- the initialisers that a list of parts holds, one behind the other
unfoldable pub reads : List Term → List Entry → List Given
reads ts [] = []
reads ts (p ∷ ps) = put ts p (reads ts ps)

-- the types of all expressions have numbers below n
abbrev pub EntryBelow : ℕ → Entry → Type 0
EntryBelow n (e.One at x) = x.ty.0 < n
EntryBelow n (e.Many k) = Unit {0}

abbrev pub AllBelow : ℕ → List Entry → Type 0
AllBelow n [] = Unit {0}
AllBelow n (p ∷ ps) = EntryBelow n p × AllBelow n ps

-- ---- an expression with the type of the part that it initialises

pub record Fit : Type 0 where
  pub at : At
  pub typed : Typed
  pub type : CType

abbrev pub fit_of : List Term → Fitted → Fit
fit_of ts f = record { at = f.at; typed = typed_of ts f.typed; type = type_at ts f.ty.0 }

abbrev pub fits_in : List Term → List Fitted → List Fit
fits_in ts fs = map (fit_of ts) fs

abbrev pub FitBelow : ℕ → Fitted → Type 0
FitBelow n f = (f.typed.ty.0 < n) × (f.ty.0 < n)

abbrev pub FitsBelow : ℕ → List Fitted → Type 0
FitsBelow n [] = Unit {0}
FitsBelow n (f ∷ fs) = FitBelow n f × FitsBelow n fs
