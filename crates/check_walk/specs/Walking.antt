-- The walk's definitions, cut where its functions are.
use Rattle.std.specs.Prelude.{ℕ, ℤ, Bool, true, ◌&&◌, List, [], ◌∷◌, ◌++◌, Option, Some, None}
use Rattle.c_tree.specs.declared.operator.At.{At}
use Rattle.c_tree.specs.Marked as t
use Rattle.c_types.specs.declared.terms.Term.{Term}
use Rattle.c_types.specs.CTypes.{CType}
use Rattle.c_types.specs.Records.{MemberOf}
use Rattle.c_rules.specs.Declarators.{Laid, array, unsized, is_nothing}
use Rattle.c_rules.specs.Forms.{Whole, Given}
use Rattle.c_rules.specs.Specifiers.{nothing_specified}
use Rattle.c_rules.specs.Trials.{M, change, give, ◌>>=◌, ◌>>◌}
use Rattle.c_rules.specs.Typed.{Typed}
use Rattle.c_rules.specs.Walk.{Fixed, at_of, at_of_expr, at_of_maybe, behind_field, behind_maybe, enum_number, is_named, judge, judge_enumerator, judge_fields_of, judge_layers, judge_list, judge_maybe, judge_member, judge_members, judge_param_or_void, judge_params, judge_part, judge_specs, judge_value, laid_more, record_number, take_number}
use Rattle.c_rules.specs.World.{enter}
use Rattle.expression_rules.specs.Typed.{typed_of}
use Rattle.part_rules.specs.Layers.{function_ended}
use Rattle.check_walk.specs.declared.walk.Two as r

-- what is known of two expressions
pub record Two : Type 0 where
  pub x : Typed
  pub y : Typed

abbrev pub two_of : List Term → r.Two → Two
two_of ts p = record { x = typed_of ts p.x; y = typed_of ts p.y }

abbrev pub judge_two : Whole → Fixed → (a b : t.Expr) → M Two
judge_two u fixed a b = do
  x ← judge u fixed a
  y ← judge u fixed b
  give (record { x = x; y = y })

-- ---- lists

-- what a part gives stands behind what there is
abbrev pub gathered : {A : Type 0} → List A → M (List A) → M (List A)
gathered done m = do
  xs ← m
  give (done ++ xs)

abbrev pub one : {A : Type 0} → M A → M (List A)
one m = do
  x ← m
  give (x ∷ [])

-- one argument of a call
abbrev pub given_one : Whole → Fixed → t.Expr → M (List Given)
given_one u fixed e = do
  x ← judge u fixed e
  give (record { at = at_of_expr e; typed = x } ∷ [])

-- ---- specifiers

-- the type that the specifiers of a field, a parameter or a type name give
abbrev pub base_of : Whole → Fixed → (before : ℕ) → At → t.Specs → M CType
base_of u fixed before at ss = do
  s ← judge_specs u fixed None ss nothing_specified
  judge_part before at s

abbrev pub record_spec : Whole → Fixed → (own : Option (List ℕ)) → At → Bool → Option (List ℕ) → t.MaybeFields → M CType
record_spec u fixed own at is_union tag b = do
  n ← record_number is_union tag own
  judge_fields_of u fixed at is_union tag n b

abbrev pub enum_spec : Whole → Fixed → (own : Option (List ℕ)) → At → Option (List ℕ) → t.MaybeEnumerators → M CType
enum_spec u fixed own at tag l = do
  n ← enum_number tag own
  judge_list u fixed at tag n l

abbrev pub field_of : Whole → Fixed → At → t.Specs → t.Declarators → M (List MemberOf)
field_of u fixed at ss ds = do
  base ← base_of u fixed (behind_field at ds) at ss
  judge_members u fixed base ds

abbrev pub member_in : Whole → Fixed → CType → t.Declarator → M MemberOf
member_in u fixed base d = do
  l ← judge_layers u fixed d
  judge_member (at_of d) base l

abbrev pub enumerator_of : Whole → At → List ℕ → ℤ → t.MaybeExpr → M ℤ
enumerator_of u at n next v = do
  c ← judge_value u next v
  judge_enumerator at n next c

-- ---- declarators

abbrev pub sized_by : Whole → Laid → t.MaybeExpr → M Laid
sized_by u l t.no_expr = give (laid_more unsized l)
sized_by u l (t.some_expr e) = do
  x ← judge u true e
  give (laid_more (array x.value) l)

abbrev pub function_around : Whole → Fixed → Laid → t.Params → M Laid
function_around u fixed l ps = do
  change enter
  ts ← judge_params u fixed 0 ps
  function_ended ts l

-- a parameter that stands alone without a declarator or not
abbrev pub param_built : Bool → ℕ → At → CType → Laid → M (List CType)
param_built alone number at base l = judge_param_or_void (alone && is_nothing base) number at base l

abbrev pub param_of : Whole → Fixed → (alone : Bool) → (place : ℕ) → At → t.Specs → t.MaybeDeclarator → M (List CType)
param_of u fixed alone place at ss d = do
  base ← base_of u fixed (behind_maybe at d) at ss
  number ← take_number (is_named d) (Some place)
  l ← judge_maybe u fixed at d
  param_built alone number (at_of_maybe at d) base l
