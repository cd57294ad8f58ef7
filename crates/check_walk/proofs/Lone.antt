-- A parameter, where it is known whether it is a void that stands alone.
use Rattle.std.proofs.Common.{◌≡◌, ◌∙◌, ap, sym, ℕ, ◌<◌, Bool, ◌&&◌, List, ◌++◌, length, Err}
use Rattle.c_tree.specs.declared.operator.At.{At}
use Rattle.c_types.specs.CTypes.{CType}
use Rattle.c_types.specs.declared.terms.TypeId.{TypeId}
use Rattle.c_types.specs.Table.{Table, type_at}
use Rattle.c_rules.specs.Declarators.{is_nothing}
use Rattle.c_rules.specs.Trials.{Trials, M, verdict}
use Rattle.c_rules.specs.Walk.{judge_param_or_void}
use Rattle.c_rules.specs.World.{World}
use Rattle.c_world.specs.Extends.{Extends}
use Rattle.c_world.specs.Seen.{Gives}
use Rattle.c_world.specs.declared.end.CheckEnd.{CheckEnd}
use Rattle.c_world.specs.declared.end.CheckEnd.TheVariants.{Rule, NoMemory}
use Rattle.declarator_rules.specs.declared.layers.Laid as r
use Rattle.declarator_rules.specs.Layers.{LayersBelow, laid_of}
use Rattle.check_walk.specs.Walking.{gathered, param_built}
use Rattle.check_walk.proofs.Growing.{laid_same}

pub param_is : (s t : Table) → Extends s t → (alone void : Bool) (number : ℕ) (at : At) (base : TypeId) → base.0 < length s.terms → (l : r.Laid) → LayersBelow (length s.terms) l.layers
    → void ≡ (alone && is_nothing (type_at s.terms base.0))
    → param_built alone number at (type_at s.terms base.0) (laid_of s.terms l) ≡ judge_param_or_void void number at (type_at t.terms base.0) (laid_of t.terms l)
param_is s t e alone void number at base h l v q =
    ap (λ b. judge_param_or_void b number at (type_at s.terms base.0) (laid_of s.terms l)) (sym q)
    ∙ ap (λ b. judge_param_or_void void number at b (laid_of s.terms l)) (sym (e.grows.same base.0 h))
    ∙ ap (judge_param_or_void void number at (type_at t.terms base.0)) (sym (laid_same s t e l v))

-- the same part from the same state
pub reads_on : (m all : M (List CType)) (xs : List CType) (v u w : World) → all ≡ m → v ≡ u
    → ((next : List CType → World → Trials) → verdict (m next u) ≡ verdict (next xs w)) → (next : List CType → World → Trials) → verdict (all next v) ≡ verdict (next xs w)
reads_on m all xs v u w q e g next = ap (λ a. verdict (a next v)) q ∙ ap (λ a. verdict (m next a)) e ∙ g next

pub stops_there : {B C : Type 0} (m all : M (List CType)) (done : List CType) (v u w new : World) (end : CheckEnd) (read : B → List CType) (other : C → List CType)
    → all ≡ m → v ≡ u → Gives m u (Err end) read w → Gives (gathered done all) v (Err end) other new
stops_there m all done v u w new NoMemory read other q e g = tt
stops_there m all done v u w new (Rule n at) read other q e g =
    λ next. ap (λ a. verdict (a (λ xs. next (done ++ xs)) v)) q ∙ ap (λ a. verdict (m (λ xs. next (done ++ xs)) a)) e ∙ g (λ xs. next (done ++ xs))
