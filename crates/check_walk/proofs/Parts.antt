-- The definitions' clauses over the parts of the tree.
use Rattle.std.proofs.Common.{◌≡◌, ℕ, suc, ◌+◌, Bool, true, false, ◌&&◌, ◌==◌, List, ◌∷◌, drop, Option, Some, None, Result, Ok, Err, refl, sym, ap, ◌∙◌}
use Rattle.std.specs.Prelude.{Box}
use Rattle.std.specs.Global.{Global}
use Rattle.c_tree.specs.declared.operator.At.{At}
use Rattle.c_tree.specs.Marked as t
use Rattle.c_tree.specs.View.{view_declarator, view_enum, view_list, view_record, view_spec, list_of, boxed_expr, boxed_declarator, params_of, specs_of}
use Rattle.c_tree.specs.declared.expression.Declarator.{Declarator}
use Rattle.c_tree.specs.declared.expression.Expr.{Expr}
use Rattle.c_tree.specs.declared.expression.Param.{Param}
use Rattle.c_tree.specs.declared.expression.Declarator.TheBlock as b
use Rattle.c_tree.specs.declared.expression.Declarator.TheViews as w
use Rattle.c_tree.specs.declared.expression.Declarator as dd
use Rattle.c_tree.specs.declared.expression.Enum.{Enum}
use Rattle.c_tree.specs.declared.expression.Enum as ee
use Rattle.c_tree.specs.declared.expression.Record.{Record}
use Rattle.c_tree.specs.declared.expression.Spec.{Spec}
use Rattle.c_tree.proofs.Views as views
use Rattle.c_types.specs.CTypes.{CType}
use Rattle.c_rules.specs.Forms.{Whole}
use Rattle.c_rules.specs.Declarators.{is_nothing}
use Rattle.c_rules.specs.Specifiers.{Specified, with_type}
use Rattle.c_rules.specs.World.{World, find_name}
use Rattle.c_world.specs.Seen.{Gives}
use Rattle.c_world.specs.declared.end.CheckEnd.{CheckEnd}
use Rattle.c_world.specs.declared.end.CheckEnd.TheVariants.{Rule, NoMemory}
use Rattle.c_rules.specs.Trials.{Trials, M, verdict, world, give, ◌>>=◌}
use Rattle.c_rules.specs.Walk.{Fixed, at_of_maybe, behind_maybe, entry_type, is_alone, is_named, judge_layers, judge_maybe, judge_param_or_void, judge_params, judge_specs, take_number, with_tagged}
use Rattle.check_walk.specs.Parts.{enum_seen, record_seen}
use Rattle.check_walk.specs.Walking.{base_of, param_of, sized_by}
use Rattle.check_walk.proofs.Gathering.{and_more}

-- one specifier, then the others
pub specs_are : (u : Whole) (fixed : Fixed) (own : Option (List ℕ)) (x : Spec) (more : t.Specs) (s : Specified)
    → judge_specs u fixed own (view_spec x more) s ≡ ◌>>=◌ (judge_specs u fixed own (view_spec x t.no_specs) s) (judge_specs u fixed own more)
specs_are u fixed own (b.Keyword k) more s = refl
specs_are u fixed own (b.Typedef n) more s = refl
specs_are u fixed own (b.Attribute a) more s = refl
specs_are u fixed own (b.Record (b.struct-Record at is_union tag fields)) more s = refl
specs_are u fixed own (b.Enum (b.struct-Enum at tag list)) more s = refl

pub record_is : (u : Whole) (fixed : Fixed) (own : Option (List ℕ)) (x : Record) (s : Specified)
    → judge_specs u fixed own (view_record x t.no_specs) s ≡ ◌>>=◌ (record_seen u fixed own x) (λ ty. give (with_tagged ty s))
record_is u fixed own x s = ap (λ ss. judge_specs u fixed own ss s) (views.record_seen x t.no_specs)

-- what an enumeration is seen as, by its parts
list_held : (h : b.Held-Enum-list) → view_list h ≡ list_of (b.view-Enum-list h)
list_held b.Enum-list-None' = refl
list_held (b.Enum-list-Some' l) = refl

enum_by_parts : (e : Enum) (ss : t.Specs) → view_enum e ss ≡ t.Enum (ee.out-Enum e).at (ee.out-Enum e).tag (list_of (ee.out-Enum e).list) ss
unfolding w.out-Enum denote.Hole.Carrier.out
enum_by_parts (b.struct-Enum at tag h) ss = ap (λ x. t.Enum at tag x ss) (list_held h)

pub enum_is : (u : Whole) (fixed : Fixed) (own : Option (List ℕ)) (x : Enum) (s : Specified)
    → judge_specs u fixed own (view_enum x t.no_specs) s ≡ ◌>>=◌ (enum_seen u fixed own x) (λ ty. give (with_tagged ty s))
enum_is u fixed own x s = ap (λ ss. judge_specs u fixed own ss s) (enum_by_parts x t.no_specs)

-- one parameter, then the others
module _ (u : Whole) (fixed : Fixed) (place : ℕ) (at : At) (ss : t.Specs) (d : t.MaybeDeclarator) (more : t.Params) where
  by_place : (first alone : Bool) → M (List CType)
  by_place first alone = do
    base ← base_of u fixed (behind_maybe at d) at ss
    number ← take_number (is_named d) (Some place)
    l ← judge_maybe u fixed at d
    judge_param_or_void (first && alone && is_nothing base) number (at_of_maybe at d) base l

  by_place_is : (first alone : Bool) → and_more (by_place first alone) (judge_params u fixed (suc place) more) ≡ and_more (param_of u fixed (first && alone) place at ss d) (judge_params u fixed (suc place) more)
  unfolding by_place
  by_place_is true alone = refl
  by_place_is false alone = refl

  pub params_are : judge_params u fixed place (t.Param at ss d more) ≡ and_more (param_of u fixed ((place == 0) && is_alone d more) place at ss d) (judge_params u fixed (suc place) more)
  unfolding by_place
  params_are = by_place_is (place == 0) (is_alone d more)

-- a declarator in brackets, as the program's tree has it
pub array_of : (u : Whole) (fixed : Fixed) (at : At) (d : Box Declarator Global) (n : Option (Box Expr Global))
    → judge_layers u fixed (view_declarator (dd.ArrayOf at d n)) ≡ ◌>>=◌ (judge_layers u fixed (view_declarator d.value)) (λ l. sized_by u l (boxed_expr n))
array_of u fixed at d None = refl
array_of u fixed at d (Some e) = refl

-- the parameters from a place on
pub params_left : (u : Whole) (fixed : Fixed) (place after i : ℕ) (items : List Param) (x : Param) (alone : Bool) → drop i items ≡ x ∷ drop (i + 1) items
    → alone ≡ ((place == 0) && is_alone (boxed_declarator x.declarator) (params_of (drop (i + 1) items))) → after ≡ suc place
    → judge_params u fixed place (params_of (drop i items)) ≡ and_more (param_of u fixed alone place x.at (specs_of x.specs) (boxed_declarator x.declarator)) (judge_params u fixed after (params_of (drop (i + 1) items)))
params_left u fixed place after i items x alone e h p =
    ap (λ l. judge_params u fixed place (params_of l)) e ∙ params_are u fixed place x.at (specs_of x.specs) (boxed_declarator x.declarator) (params_of (drop (i + 1) items))
    ∙ ap (λ b. and_more (param_of u fixed b place x.at (specs_of x.specs) (boxed_declarator x.declarator)) (judge_params u fixed (suc place) (params_of (drop (i + 1) items)))) (sym h)
    ∙ ap (λ n. and_more (param_of u fixed alone place x.at (specs_of x.specs) (boxed_declarator x.declarator)) (judge_params u fixed n (params_of (drop (i + 1) items)))) (sym p)

-- a specifier that is an attribute, and one that is a typedef's name
pub attribute_done : (r : Result (Unit {0}) CheckEnd) (m : M (Unit {0})) (all : M Specified) (s : Specified) (w : World)
    → all ≡ ◌>>=◌ m (λ _. give s) → Gives m w r (λ _. tt) w → Gives all w r (λ _. s) w
attribute_done (Ok x) m all s w q g = rw q (λ next. g (λ _. next s))
attribute_done (Err (Rule n at)) m all s w q g = rw q (λ next. g (λ _. next s))
attribute_done (Err NoMemory) m all s w q g = tt

pub named_gives : (all : M Specified) (n : List ℕ) (s : Specified) (v w : World) (after : Specified)
    → all ≡ ◌>>=◌ world (λ u. give (with_type (entry_type (find_name n u)) s)) → w ≡ v → after ≡ with_type (entry_type (find_name n v)) s
    → (next : Specified → World → Trials) → verdict (all next v) ≡ verdict (next after w)
named_gives all n s v w after q e h next = rw (q, e, h) refl
