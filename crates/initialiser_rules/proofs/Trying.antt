-- The trials of an initialiser, from what its expressions initialise.
use Rattle.std.proofs.Common.{◌≡◌, ℕ, suc, ◌*◌, Bool, true, false, if◌then◌else◌, not, ◌||◌, List, Result, Ok, Err, refl, sym, ap, ◌∙◌}
use Rattle.c_tree.specs.declared.operator.At.{At}
use Rattle.c_types.specs.CTypes.{CType}
use Rattle.c_rules.specs.Initialisers.{Given, with_targets, with_constants}
use Rattle.c_rules.specs.Trials.{Trials, tried, verdict}
use Rattle.c_rules.specs.Unit.{judge_given}
use Rattle.c_rules.specs.World.{World}
use Rattle.c_rules.specs.declared.known.Declares.{Declares}
use Rattle.c_world.specs.Seen.{Gives}
use Rattle.c_world.specs.declared.end.CheckEnd.{CheckEnd}
use Rattle.c_world.specs.declared.end.CheckEnd.TheVariants.{Rule, NoMemory}
use Rattle.initialiser_rules.specs.Entries.{Fit}
use Rattle.initialiser_rules.specs.Filling.{all_convert, all_fixed, constants_if, fits_of, judge_fits, targets_noted}
use Rattle.initialiser_rules.specs.Steps.{judge_found}
use Rattle.initialiser_rules.proofs.Fits.{constants_is, converts_is, fixed_is, targets_is, targets_keep}

notes_are : (w : World) (t : CType) (is_fixed : Bool) (g : Given)
    → (if is_fixed then with_constants t g else λ v. v) (with_targets t g w) ≡ constants_if is_fixed (fits_of w t g) (targets_noted (fits_of w t g) w)
notes_are w t true g =
    ap (with_constants t g) (targets_is w w t g refl)
    ∙ constants_is w (targets_noted (fits_of w t g) w) t g (targets_keep (fits_of w t g) w)
notes_are w t false g = targets_is w w t g refl

module _ (at : At) (what : Declares) (t : CType) (is_fixed : Bool) (g : Given) (w : World) where
  given_is : (next : Unit {0} → World → Trials) → judge_given at what t is_fixed g next w ≡ judge_found w at what t is_fixed g (λ fs. judge_fits at is_fixed fs next) w
  given_is next = rw (fixed_is w t g, converts_is w t g, notes_are w t is_fixed g) refl

  pub given_found : {B C : Type 0} (fs : C) (read : C → List Fit) (r : Result B CheckEnd) (new : World)
      → Gives (judge_found w at what t is_fixed g) w (Ok fs) read w → Gives (judge_fits at is_fixed (read fs)) w r (λ _. tt) new → Gives (judge_given at what t is_fixed g) w r (λ _. tt) new
  given_found fs read (Ok u) new h k = λ next. ap verdict (given_is next) ∙ h (λ fs. judge_fits at is_fixed fs next) ∙ k next
  given_found fs read (Err (Rule n a)) new h k = λ next. ap verdict (given_is next) ∙ h (λ fs. judge_fits at is_fixed fs next) ∙ k next
  given_found fs read (Err NoMemory) new h k = tt

  pub given_failed : (B : Type 0) {C : Type 0} (e : CheckEnd) (read : C → List Fit) (new : World) → Gives {B = C} (judge_found w at what t is_fixed g) w (Err e) read w
      → Gives {B = B} (judge_given at what t is_fixed g) w (Err e) (λ _. tt) new
  given_failed B (Rule n a) read new h = λ next. ap verdict (given_is next) ∙ h (λ fs. judge_fits at is_fixed fs next)
  given_failed B NoMemory read new h = tt

-- ---- rules 11 and 23

module _ (moment rule : ℕ) (at : At) (k : Bool) (more : Trials) where
  kept : k ≡ true → verdict (tried moment rule at k more) ≡ verdict more
  kept e = rw e refl

module _ (at : At) (is_fixed : Bool) (fs : List Fit) (w v : World) (a : Bool) (ea : a ≡ (not is_fixed || all_fixed fs)) where
  abbrev converted : (Unit {0} → World → Trials) → Trials
  converted next = tried (suc (2 * at.id)) 23 at (all_convert fs) (next tt (constants_if is_fixed fs (targets_noted fs w)))

  pub fits_noted : (b : Bool) → a ≡ true → b ≡ all_convert fs → b ≡ true → v ≡ constants_if is_fixed fs (targets_noted fs w)
      → (next : Unit {0} → World → Trials) → verdict (judge_fits at is_fixed fs next w) ≡ verdict (next tt v)
  fits_noted b ta eb tb e next =
      kept (suc (2 * at.id)) 11 at (not is_fixed || all_fixed fs) (converted next) (sym ea ∙ ta)
      ∙ kept (suc (2 * at.id)) 23 at (all_convert fs) (next tt (constants_if is_fixed fs (targets_noted fs w))) (sym eb ∙ tb)
      ∙ ap (λ (u : World). verdict (next tt u)) (sym e)
