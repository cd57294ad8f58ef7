-- The steps of a declarator's type, over states that are seen the same.
use Rattle.std.proofs.Common.{◌≡◌, List, ◌∷◌, Err}
use Rattle.c_tree.specs.declared.operator.At.{At}
use Rattle.c_types.specs.declared.terms.Term.{Term}
use Rattle.c_types.specs.CTypes.{CType}
use Rattle.c_rules.specs.Declarators as d
use Rattle.c_rules.specs.Trials.{Trials, verdict}
use Rattle.c_rules.specs.Walk.{judge_type, note_nameless}
use Rattle.c_rules.specs.World.{World}
use Rattle.c_rules.specs.declared.known.Declares.TheVariants as decl
use Rattle.c_world.specs.Seen.{Gives}
use Rattle.c_world.specs.declared.end.CheckEnd.{CheckEnd}
use Rattle.c_world.specs.declared.end.CheckEnd.TheVariants.{Rule, NoMemory}
use Rattle.declarator_rules.specs.declared.built.Built as r
use Rattle.declarator_rules.specs.Built.{IsBuilt, judged_type}

pub build_step : (w w1 w2 : World) (ts : List Term) (x : r.Built) (l k : d.Layer) (base : CType) (ls all : List d.Layer)
    → w1 ≡ w → w2 ≡ w1 → k ≡ l → all ≡ l ∷ ls → IsBuilt w1 ts x (d.layered w1 k (d.built w base ls)) → IsBuilt w2 ts x (d.built w base all)
build_step w w1 w2 ts x l k base ls all e1 e2 e3 e4 h = rw (e2, e1, e4) (rw (e1, e3) at h)

-- the type of a type name
pub type_step : (at : At) (w w1 w2 : World) (base t t2 : CType) (l k : d.Laid) → w1 ≡ w → k ≡ l → t2 ≡ t → w2 ≡ note_nameless k t w1
    → ((next : CType → World → Trials) → verdict (judged_type at decl.Type (d.built w base l.layers) next w1) ≡ verdict (next t w1))
    → (next : CType → World → Trials) → verdict (judge_type at base l next w) ≡ verdict (next t2 w2)
type_step at w w1 w2 base t t2 l k e1 e2 e3 e4 h next = rw (e3, e4, e2, e1) ((rw e1 at h) (λ u v. next u (note_nameless l u v)))

pub type_ends : {B : Type 0} (at : At) (w w1 v v2 : World) (base : CType) (l : d.Laid) (e : CheckEnd) (f g : B → CType) → w1 ≡ w
    → Gives (judged_type at decl.Type (d.built w base l.layers)) w1 (Err e) f v → Gives (judge_type at base l) w (Err e) g v2
type_ends at w w1 v v2 base l NoMemory f g e1 h = tt
type_ends at w w1 v v2 base l (Rule n a) f g e1 h = λ next. (rw e1 at h) (λ u x. next u (note_nameless l u x))
