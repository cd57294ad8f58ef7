-- What a part of the check gives, from what its last step gives.
use Rattle.std.proofs.Common.{◌≡◌, ℕ, Bool, true, List, Result, Ok, Err, ap, ◌∙◌}
use Rattle.c_tree.specs.declared.operator.At.{At}
use Rattle.c_rules.specs.World.{World}
use Rattle.c_rules.specs.Trials.{M, keep, change, ◌>>◌, ◌>>=◌, verdict}
use Rattle.c_types.specs.CTypes.{CTypes}
use Rattle.c_rules.specs.Forms.{Given, convert_all}
use Rattle.expression_rules.specs.Arguments.{converted_all}
use Rattle.check_expressions.proofs.Args.{converted_is}
use Rattle.c_world.specs.Seen.{Gives}
use Rattle.c_world.specs.declared.end.CheckEnd.{CheckEnd}
use Rattle.c_world.specs.declared.end.CheckEnd.TheVariants.{Rule, NoMemory}

module _ {A B : Type 0} (m : M A) (w : World) (r : Result B CheckEnd) (read : B → A) (new : World) where
  -- a rule that is kept
  pub kept : (rule : ℕ) (at : At) (b : Bool) → b ≡ true → Gives m w r read new → Gives (◌>>◌ (keep rule at b) m) w r read new
  kept rule at b e h = kept_by r h
    where
      kept_by : (s : Result B CheckEnd) → Gives m w s read new → Gives (◌>>◌ (keep rule at b) m) w s read new
      kept_by (Ok x) h = λ next. rw e (h next)
      kept_by (Err (Rule n a)) h = λ next. rw e (h next)
      kept_by (Err NoMemory) h = tt

module _ {A B : Type 0} (m : M A) (w : World) (read : B → A) (new : World) where
  -- what is noted
  pub changed : (r : Result B CheckEnd) (f : World → World) → Gives m (f w) r read new → Gives (◌>>◌ (change f) m) w r read new
  changed (Ok x) f h = h
  changed (Err (Rule n a)) f h = h
  changed (Err NoMemory) f h = tt

  -- a part that fails before the rest
  pub failed : {C : Type 0} (f : A → M C) (e : CheckEnd) (other : B → C) (last : World) → Gives m w (Err e) read new → Gives (◌>>=◌ m f) w (Err e) other last
  failed f (Rule n a) other last h = λ next. h (λ a. f a next)
  failed f NoMemory other last h = tt

  -- the arguments of a call
  pub converted : (r : Result B CheckEnd) (ps : CTypes) (xs : List Given) → Gives m (converted_all ps xs w) r read new → Gives (◌>>◌ (convert_all ps xs) m) w r read new
  converted (Ok x) ps xs h = λ next. ap verdict (converted_is ps xs (λ _. m next) w) ∙ h next
  converted (Err (Rule n a)) ps xs h = λ next. ap verdict (converted_is ps xs (λ _. m next) w) ∙ h next
  converted (Err NoMemory) ps xs h = tt
