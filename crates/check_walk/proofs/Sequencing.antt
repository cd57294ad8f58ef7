-- One part after another, for a definition that is so by its clauses.
use Rattle.std.proofs.Common.{◌≡◌, ◌∙◌, ap, Result, Err, List, []}
use Rattle.c_rules.specs.Trials.{Trials, M, give, verdict, ◌>>=◌}
use Rattle.c_rules.specs.World.{World}
use Rattle.c_world.specs.Seen.{Gives}
use Rattle.c_world.specs.declared.end.CheckEnd.{CheckEnd}
use Rattle.c_world.specs.declared.end.CheckEnd.TheVariants.{Rule, NoMemory}
use Rattle.check_walk.specs.Walking.{gathered}
use Rattle.check_walk.proofs.Chaining.{chain, failed}
use Rattle.check_walk.proofs.Gathering.{Gathers, Hands, and_more, gather_done, gather_ends, hand_ends}

-- the first part fails
pub stops : {A B C D : Type 0} (m : M A) (f : A → M B) (all : M B) (v w new : World) (e : CheckEnd) (r : Result C CheckEnd) (read : D → A) (other : C → B)
    → all ≡ ◌>>=◌ m f → Gives m v (Err e) read w → r ≡ Err e → Gives all v r other new
stops m f all v w new e r read other q g h = rw (q, h) (failed m f v w new e read other g)

-- the first part gives what the second takes
pub runs : {A B C : Type 0} (m : M A) (f : A → M B) (all : M B) (a : A) (v w new : World) (r : Result C CheckEnd) (read : C → B)
    → all ≡ ◌>>=◌ m f → ((k : A → World → Trials) → verdict (m k v) ≡ verdict (k a w)) → Gives (f a) w r read new → Gives all v r read new
runs m f all a v w new r read q first rest = rw q (chain m f a v w new r read first rest)

-- the same by other words
pub same : {A B : Type 0} (m all : M A) (v new : World) (r : Result B CheckEnd) (read : B → A) → all ≡ m → Gives m v r read new → Gives all v r read new
same m all v new r read q g = rw q g

-- ---- loops, where the whole is said by other words

pub gathers_all : {A : Type 0} (whole all rest : M (List A)) (start done : List A) (old now : World) → whole ≡ all → rest ≡ give [] → Gathers all rest start done old now
    → (next : List A → World → Trials) → verdict (gathered start whole next old) ≡ verdict (next done now)
gathers_all whole all rest start done old now q e h = rw q (gather_done all rest start done old now e h)

pub gathering_ends : {A B C : Type 0} (whole all rest first more : M (List A)) (start done : List A) (old now v w : World) (end : CheckEnd) (read : B → List A) (other : C → List A)
    → whole ≡ all → rest ≡ and_more first more → Gathers all rest start done old now
    → Gives (gathered done first) now (Err end) read v → Gives (gathered start whole) old (Err end) other w
gathering_ends whole all rest first more start done old now v w NoMemory read other q e h g = tt
gathering_ends whole all rest first more start done old now v w (Rule n a) read other q e h g =
    λ next. ap (λ m. verdict (gathered start m next old)) q ∙ gather_ends all rest first more start done old now v w (Rule n a) read other e h g next

pub handing_ends : {R S B C : Type 0} (whole all rest : M R) (first : M S) (more : S → M R) (old now v w : World) (end : CheckEnd) (read : B → S) (other : C → R)
    → whole ≡ all → rest ≡ ◌>>=◌ first more → Hands all rest old now → Gives first now (Err end) read v → Gives whole old (Err end) other w
handing_ends whole all rest first more old now v w NoMemory read other q e h g = tt
handing_ends whole all rest first more old now v w (Rule n a) read other q e h g =
    λ next. ap (λ m. verdict (m next old)) q ∙ hand_ends all rest first more old now v w (Rule n a) read other e h g next
