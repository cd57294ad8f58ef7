-- Rule 3 is tried last.
use Rattle.std.proofs.Common.{◌≡◌, ℕ, Bool, true, false, Result, Ok, Err, OnOk, IfErr, refl}
use Rattle.c_tree.specs.declared.operator.At.{At}
use Rattle.c_rules.specs.Trials.{keep_specifiers}
use Rattle.c_rules.specs.World.{World}
use Rattle.c_world.specs.Seen.{Gives}
use Rattle.c_world.specs.declared.end.CheckEnd.{CheckEnd}
use Rattle.c_world.specs.declared.end.CheckEnd.TheVariants.{Rule, NoMemory}

pub keeps_specifiers : (n : ℕ) (at : At) (b k : Bool) (r : Result (Unit {0}) CheckEnd) (w : World) → k ≡ b → OnOk r (k ≡ true) → IfErr r (λ e. (e ≡ Rule 3 at) × (k ≡ false)) → Gives (keep_specifiers n at b) w r (λ _. tt) w
keeps_specifiers n at b k (Ok x) w e o f = λ next. rw (← e, o) refl
keeps_specifiers n at b k (Err NoMemory) w e o f = tt
keeps_specifiers n at b k (Err (Rule m a)) w e o f = λ next. let same : (3 ≡ m) × (at ≡ a) = (cc f.0, cc f.0) in rw (← e, f.1, same.0, same.1) refl
