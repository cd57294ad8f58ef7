-- The rules at a parameter.
use Rattle.std.proofs.Common.{◌≡◌, ℕ, Bool, true, false, if◌then◌else◌, List, Err, sym, ap, ◌∙◌}
use Rattle.c_tree.specs.declared.operator.At.{At}
use Rattle.c_types.specs.CTypes.{CType}
use Rattle.c_rules.specs.Declarators.{Built, Laid, is_made}
use Rattle.c_rules.specs.Names.{may_be_named}
use Rattle.c_rules.specs.Trials.{Trials, broke, verdict}
use Rattle.c_rules.specs.Walk.{judge_named_param, judge_nameless_param, new_object, note_nameless}
use Rattle.c_rules.specs.World.{World, note_type}
use Rattle.c_rules.specs.declared.known.Declares.TheVariants as decl
use Rattle.c_rules.specs.declared.known.Sort.TheVariants as sort
use Rattle.c_world.specs.Seen.{Gives}
use Rattle.c_world.specs.declared.end.CheckEnd.{CheckEnd}
use Rattle.c_world.specs.declared.end.CheckEnd.TheVariants.{Rule, NoMemory}
use Rattle.declarator_rules.specs.Built.{judged_type}

pub nameless_step : (at : At) (w w2 : World) (b : Built) (t t2 : CType) (l : Laid) → t2 ≡ t → w2 ≡ note_nameless l t w
    → ((next : CType → World → Trials) → verdict (judged_type at decl.Object b next w) ≡ verdict (next t w))
    → (next : CType → World → Trials) → verdict (judge_nameless_param at l b next w) ≡ verdict (next t2 w2)
nameless_step at w w2 b t t2 l e1 e2 h next = rw (e1, e2) (h (λ u v. next u (note_nameless l u v)))

pub nameless_ends : {B : Type 0} (at : At) (w v v2 : World) (b : Built) (l : Laid) (e : CheckEnd) (f g : B → CType)
    → Gives (judged_type at decl.Object b) w (Err e) f v → Gives (judge_nameless_param at l b) w (Err e) g v2
nameless_ends at w v v2 b l NoMemory f g h = tt
nameless_ends at w v v2 b l (Rule n a) f g h = λ next. h (λ u x. next u (note_nameless l u x))

module _ (number : ℕ) (at name_at : At) (n : List ℕ) (b : Built) (w : World) (kept : true ≡ may_be_named w n (sort.Object 0 false) b.type (is_made b) false) where
  goes_on : (CType → World → Trials) → CType → World → Trials
  goes_on next u v = next u (new_object number name_at n u false (note_type name_at.id u v))

  tried : (next : CType → World → Trials) → verdict (judge_named_param number at name_at n b next w) ≡ verdict (judged_type at decl.Object b (goes_on next) w)
  unfolding goes_on
  tried next = ap (λ (k : Bool). if k then verdict (judged_type at decl.Object b (goes_on next) w) else broke 2 at) (sym kept)

  pub named_step : (w2 : World) (t t2 : CType) → t2 ≡ t → w2 ≡ new_object number name_at n t false (note_type name_at.id t w)
      → ((next : CType → World → Trials) → verdict (judged_type at decl.Object b next w) ≡ verdict (next t w))
      → (next : CType → World → Trials) → verdict (judge_named_param number at name_at n b next w) ≡ verdict (next t2 w2)
  unfolding goes_on
  named_step w2 t t2 e1 e2 h next = tried next ∙ rw (e1, e2) (h (goes_on next))

  pub named_ends : {B : Type 0} (v v2 : World) (e : CheckEnd) (f g : B → CType)
      → Gives (judged_type at decl.Object b) w (Err e) f v → Gives (judge_named_param number at name_at n b) w (Err e) g v2
  named_ends v v2 NoMemory f g h = tt
  named_ends v v2 (Rule r a) f g h = λ next. tried next ∙ h (goes_on next)
