-- The steps of members, type names and attributes, over states that are seen the same.
use Rattle.std.proofs.Common.{◌≡◌, ℕ, suc, ◌<◌, Bool, true, false, List, ◌∷◌, length, drop, get_or, Result, Ok, Err, OnOk, IfErr, refl, sym, ap, ◌∙◌, drop-cons}
use Rattle.std.specs.Prelude.{[], unwrap_or}
use Rattle.c_tree.specs.declared.operator.At.{At}
use Rattle.c_types.specs.CTypes.{CType}
use Rattle.c_types.specs.Records.{MemberOf}
use Rattle.c_rules.specs.Declarators as d
use Rattle.c_rules.specs.Trials.{M, Trials, keep, verdict, ◌>>◌}
use Rattle.c_rules.specs.Walk.{judge_member, judge_type}
use Rattle.c_rules.specs.World.{World, note_type}
use Rattle.c_rules.specs.declared.known.Declares.TheVariants as decl
use Rattle.c_world.specs.Seen.{Gives}
use Rattle.c_world.specs.declared.end.CheckEnd.{CheckEnd}
use Rattle.c_world.specs.declared.end.CheckEnd.TheVariants.{Rule, NoMemory}
use Rattle.declarator_rules.specs.Built.{judged_type}
use Rattle.part_rules.specs.Members.{closed}
use Rattle.part_rules.specs.Types.{named_type}

pub member_step : (at : At) (w w1 w2 : World) (base t : CType) (m : MemberOf) (l : d.Laid) → w1 ≡ w
    → m ≡ record { name = unwrap_or l.name []; type = t } → w2 ≡ note_type l.name_at.id t w1
    → ((next : CType → World → Trials) → verdict (judged_type at decl.Member (closed w1 (d.built w base l.layers)) next w1) ≡ verdict (next t w1))
    → (next : MemberOf → World → Trials) → verdict (judge_member at base l next w) ≡ verdict (next m w2)
member_step at w w1 w2 base t m l e1 e2 e3 h next = rw (e2, e3, e1) ((rw e1 at h) (λ u v. next (record { name = unwrap_or l.name []; type = u }) (note_type l.name_at.id u v)))

pub member_ends : {B C : Type 0} (at : At) (w w1 v v2 : World) (base : CType) (l : d.Laid) (e : CheckEnd) (f : B → CType) (g : C → MemberOf) → w1 ≡ w
    → Gives (judged_type at decl.Member (closed w1 (d.built w base l.layers))) w1 (Err e) f v → Gives (judge_member at base l) w (Err e) g v2
member_ends at w w1 v v2 base l NoMemory f g e1 h = tt
member_ends at w w1 v v2 base l (Rule n a) f g e1 h = λ next. (rw e1 at h) (λ u x. next (record { name = unwrap_or l.name []; type = u }) (note_type l.name_at.id u x))

pub named_step : (at outer : At) (w w1 w2 : World) (base t t2 : CType) (l : d.Laid) → t2 ≡ t → w2 ≡ note_type at.id t w1
    → ((next : CType → World → Trials) → verdict (judge_type outer base l next w) ≡ verdict (next t w1))
    → (next : CType → World → Trials) → verdict (named_type at outer base l next w) ≡ verdict (next t2 w2)
named_step at outer w w1 w2 base t t2 l e1 e2 h next = rw (e1, e2) (h (λ u v. next u (note_type at.id u v)))

pub named_ends : {B : Type 0} (at outer : At) (w v v2 : World) (base : CType) (l : d.Laid) (e : CheckEnd) (f g : B → CType)
    → Gives (judge_type outer base l) w (Err e) f v → Gives (named_type at outer base l) w (Err e) g v2
named_ends at outer w v v2 base l NoMemory f g h = tt
named_ends at outer w v v2 base l (Rule n a) f g h = λ next. h (λ u x. next u (note_type at.id u x))

-- ---- one part and then another

pub fails_first : {A B C D : Type 0} (m : M A) (n : M D) (w v new : World) (e : CheckEnd) (read : B → A) (other : C → D) → Gives m w (Err e) read v → Gives (◌>>◌ m n) w (Err e) other new
fails_first m n w v new (Rule r a) read other h = λ next. h (λ _. n next)
fails_first m n w v new NoMemory read other h = tt

pub goes_on : {A B C : Type 0} (m : M A) (n : M C) (a : A) (w v new : World) (r : Result B CheckEnd) (read : B → C) → ((next : A → World → Trials) → verdict (m next w) ≡ verdict (next a v)) → Gives n v r read new → Gives (◌>>◌ m n) w r read new
goes_on m n a w v new (Ok x) read h g = λ next. h (λ _. n next) ∙ g next
goes_on m n a w v new (Err (Rule r b)) read h g = λ next. h (λ _. n next) ∙ g next
goes_on m n a w v new (Err NoMemory) read h g = tt

-- a rule is tried last
pub keeps : (rule : ℕ) (at : At) (b k : Bool) (r : Result (Unit {0}) CheckEnd) (w : World) → k ≡ b → OnOk r (k ≡ true) → IfErr r (λ e. (e ≡ Rule rule at) × (k ≡ false)) → Gives (keep rule at b) w r (λ _. tt) w
keeps rule at b k (Ok x) w e o f = λ next. rw (← e, o) refl
keeps rule at b k (Err NoMemory) w e o f = tt
keeps rule at b k (Err (Rule n a)) w e o f = λ next. let same : (rule ≡ n) × (at ≡ a) = (cc f.0, cc f.0) in rw (← e, f.1, same.0, same.1) refl

-- the first of some parts breaks a rule
pub each_ends : {X : Type 0} (all : List X → M (Unit {0})) (one : X → M (Unit {0})) → ((x : X) (xs : List X) → all (x ∷ xs) ≡ ◌>>◌ (one x) (all xs))
    → (xs : List X) (i : ℕ) (x : X) (e : CheckEnd) → i < length xs → x ≡ get_or xs i x
    → ((w : World) (next : Unit {0} → World → Trials) → verdict (all xs next w) ≡ verdict (all (drop i xs) next w))
    → ((w : World) → Gives {B = Unit {0}} (one x) w (Err e) (λ _. tt) w)
    → (w : World) → Gives {B = Unit {0}} (all xs) w (Err e) (λ _. tt) w
each_ends all one step xs i x NoMemory h is so_far g w = tt
each_ends all one step xs i x (Rule n a) h is so_far g w =
    λ next. so_far w next
    ∙ ap (λ ys. verdict (all ys next w)) (drop-cons xs i x h ∙ ap (λ y. y ∷ drop (suc i) xs) (sym is))
    ∙ ap (λ m. verdict (m next w)) (step x (drop (suc i) xs))
    ∙ g w (λ _. all (drop (suc i) xs) next)
