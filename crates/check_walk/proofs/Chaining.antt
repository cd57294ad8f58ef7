-- What a part gives, and what the rest gives from there.
use Rattle.std.proofs.Common.{◌≡◌, ◌∙◌, Result, Ok, Err}
use Rattle.c_rules.specs.Trials.{Trials, M, verdict, ◌>>=◌}
use Rattle.c_rules.specs.World.{World}
use Rattle.c_world.specs.Seen.{Gives}
use Rattle.c_world.specs.declared.end.CheckEnd.{CheckEnd}
use Rattle.c_world.specs.declared.end.CheckEnd.TheVariants.{Rule, NoMemory}

pub chain : {A B C : Type 0} (m : M A) (f : A → M B) (a : A) (v w new : World) (r : Result C CheckEnd) (read : C → B)
    → ((k : A → World → Trials) → verdict (m k v) ≡ verdict (k a w)) → Gives (f a) w r read new → Gives (◌>>=◌ m f) v r read new
chain m f a v w new (Ok x) read first rest = λ k. first (λ b. f b k) ∙ rest k
chain m f a v w new (Err (Rule rule at)) read first rest = λ k. first (λ b. f b k) ∙ rest k
chain m f a v w new (Err NoMemory) read first rest = tt

-- a part that fails before the rest
pub failed : {A B C D : Type 0} (m : M A) (f : A → M D) (v w new : World) (e : CheckEnd) (read : B → A) (other : C → D) → Gives m v (Err e) read w → Gives (◌>>=◌ m f) v (Err e) other new
failed m f v w new (Rule n at) read other h = λ next. h (λ a. f a next)
failed m f v w new NoMemory read other h = tt

-- the same failure, read otherwise
pub fails : {A B C : Type 0} (m : M A) (v w new : World) (e : CheckEnd) (read : B → A) (other : C → A) → Gives m v (Err e) read w → Gives m v (Err e) other new
fails m v w new (Rule n at) read other h = h
fails m v w new NoMemory read other h = tt
