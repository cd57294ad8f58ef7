-- The rules at a declarator that declares a name.
use Rattle.std.proofs.Common.{◌≡◌, ℕ, suc, ◌*◌, Bool, true, if◌then◌else◌, List, Result, Ok, Err, refl, sym, ap, ◌∙◌}
use Rattle.c_tree.specs.declared.operator.At.{At}
use Rattle.c_types.specs.CTypes.{CType}
use Rattle.c_rules.specs.Declarators.{Built, Laid, is_made}
use Rattle.c_rules.specs.Forms.{Whole}
use Rattle.c_rules.specs.Names.{may_be_named}
use Rattle.c_rules.specs.Trials.{Trials, tried, broke, verdict, keep, ◌>>◌}
use Rattle.c_rules.specs.Unit as unit
use Rattle.c_rules.specs.Unit.{complete, introduce, is_again, judge_declared, keeps_known, name_or_none, note_entry, sort_declared, type_declared}
use Rattle.c_rules.specs.Walk.{newest}
use Rattle.c_rules.specs.World.{World, is_listed, note_type}
use Rattle.c_rules.specs.declared.known.Declares.{Declares}
use Rattle.c_rules.specs.declared.known.Declares.TheVariants as decl
use Rattle.c_world.specs.Seen.{Gives}
use Rattle.c_world.specs.declared.end.CheckEnd.{CheckEnd}
use Rattle.c_world.specs.declared.end.CheckEnd.TheVariants.{Rule, NoMemory}
use Rattle.declarator_rules.specs.Built.{judged_type}
use Rattle.name_rules.specs.declared.declared.Declared.{Declared}
use Rattle.name_rules.specs.Introducing.{declared_type, function_added, introduced, judge_known, named_as, named_once}

-- by whether the unit has a body for a function
named_is : (whole : Whole) (d : Declared) (ty : CType) (w : World) (what : Declares) → is_listed d.name.now whole.bodies ≡ d.has_body
    → unit.named whole what d.number d.at d.name.now ty d.is_fixed w ≡ named_as what d ty w
named_is whole d ty w decl.Type h = refl
named_is whole d ty w decl.Object h = refl
named_is whole d ty w decl.Function h = ap (λ b. function_added b d.name.now ty w) h
named_is whole d ty w decl.Member h = refl

once_is : (whole : Whole) (d : Declared) (ty : CType) (w : World) → is_listed d.name.now whole.bodies ≡ d.has_body
    → unit.named_once whole d.what d.number d.at d.name.now ty d.is_fixed w ≡ named_once d ty w
once_is whole d ty w h = ap (λ v. if is_again w d.name.now then w else v) (named_is whole d ty w d.what h)

introduced_is : (whole : Whole) (d : Declared) (ty : CType) (w : World) (next : Unit {0} → World → Trials) → is_listed d.name.now whole.bodies ≡ d.has_body
    → introduce whole d.what d.number d.at d.name.now ty d.is_fixed d.completes next w ≡ next tt (introduced whole d ty w)
introduced_is whole d ty w next h =
    ap (λ v. next tt (complete d.completes d.name.now (note_entry whole d.at d.name.now (newest v d.name.now) v))) (once_is whole d ty (note_type d.at.id ty w) h)

module _ (whole : Whole) (d : Declared) (at : At) (l : Laid) (b : Built) (w : World)
    (listed : is_listed d.name.now whole.bodies ≡ d.has_body) (name : name_or_none l.name ≡ d.name.now) (place : l.name_at ≡ d.at)
    (kept : true ≡ may_be_named w d.name.now (sort_declared d.what) (type_declared d.what d.name.now b.type) (is_made b) d.completes) where
  -- what follows the type, with a name and its node
  goes_on : List ℕ → At → (CType → World → Trials) → CType → World → Trials
  goes_on n a next u v = ◌>>◌ (keep 34 at (keeps_known whole d.what n u)) (introduce whole d.what d.number a n u d.is_fixed d.completes) (λ _. next u) v

  goes_on_is : (next : CType → World → Trials) (u : CType) (v : World) → goes_on (name_or_none l.name) l.name_at next u v ≡ judge_known whole at d u next v
  unfolding goes_on
  goes_on_is next u v =
      ap (λ n. goes_on n l.name_at next u v) name ∙ ap (λ a. goes_on d.name.now a next u v) place
      ∙ ap (λ m. tried (suc (2 * at.id)) 34 at (keeps_known whole d.what d.name.now u) m) (introduced_is whole d u v (λ _. next u) listed)

  tried_first : (next : CType → World → Trials)
      → verdict (declared_type whole d at l b next w) ≡ verdict (judged_type at d.what b (goes_on (name_or_none l.name) l.name_at next) w)
  unfolding goes_on
  tried_first next =
      ap (λ (k : Bool). if k then verdict (judged_type at d.what b (goes_on (name_or_none l.name) l.name_at next) w) else broke 2 at)
      (ap (λ n. may_be_named w n (sort_declared d.what) (type_declared d.what n b.type) (is_made b) d.completes) name ∙ sym kept)

  -- where the declarator makes a type, the rest decides
  pub declared_goes : {B : Type 0} (t : CType) (r : Result B CheckEnd) (f : B → CType) (v : World)
      → ((next : CType → World → Trials) → verdict (judged_type at d.what b next w) ≡ verdict (next t w))
      → Gives (judge_known whole at d t) w r f v → Gives (declared_type whole d at l b) w r f v
  declared_goes t (Ok x) f v h g = λ next. tried_first next ∙ h (goes_on (name_or_none l.name) l.name_at next) ∙ ap verdict (goes_on_is next t w) ∙ g next
  declared_goes t (Err (Rule n a)) f v h g = λ next. tried_first next ∙ h (goes_on (name_or_none l.name) l.name_at next) ∙ ap verdict (goes_on_is next t w) ∙ g next
  declared_goes t (Err NoMemory) f v h g = tt

  pub declared_ends : {B : Type 0} (v v2 : World) (e : CheckEnd) (f g : B → CType)
      → Gives (judged_type at d.what b) w (Err e) f v → Gives (declared_type whole d at l b) w (Err e) g v2
  declared_ends v v2 NoMemory f g h = tt
  declared_ends v v2 (Rule n a) f g h = λ next. tried_first next ∙ h (goes_on (name_or_none l.name) l.name_at next)
