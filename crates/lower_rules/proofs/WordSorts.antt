-- Each word of the lowering gives what it says, whatever its parts give.
use Rattle.std.proofs.Common.{◌≡◌, ℕ, ℤ, pos, negsuc, Bool, true, false, List, [], ◌∷◌, Option, Some, None, refl, ◌∙◌, ap}
use Rattle.std.specs.Prelude.{if◌then◌else◌, ◌&&◌, ◌||◌}
use Rattle.tok_base.specs.declared.token.Span.{Span}
use Rattle.num_ops.specs.declared.kinds.IntKind.{IntKind}
use Rattle.num_ops.specs.declared.kinds.IntKind.TheVariants as k
use Rattle.num_ops.specs.declared.arithmetic.Op.{Op}
use Rattle.num_ops.specs.declared.arithmetic.Op.TheVariants as op
use Rattle.num_ops.specs.declared.shifts.Cmp.{Cmp}
use Rattle.num_ops.specs.declared.shifts.Cmp.TheVariants as cmp
use Rattle.num_ops.specs.Conversions.{promoted, common_kind}
use Rattle.c_core.specs.declared.values.Scalar.{Scalar}
use Rattle.c_core.specs.declared.values.Scalar.TheVariants as scalar
use Rattle.c_core.specs.declared.tree.ModifyOp.TheVariants as modify
use Rattle.c_core.specs.Sorts.{Sort, Gives, Void, IllSorted, an, a_pointer, int, given, same_kind, same_scalar, is_right, is_integer, is_scalar, either_of, agree}
use Rattle.c_core.specs.WellFormed.{sorts_of, is_size}
use Rattle.c_core.specs.Tree as c
use Rattle.c_tree.specs.Tree as t
use Rattle.lower_rules.specs.Shapes.{size_within}
use Rattle.lower_rules.specs.Lowered as low
use Rattle.lower_rules.specs.Lowered.{Lowered}
use Rattle.lower_rules.specs.Operators as op_of
use Rattle.lower_rules.specs.Operators.{Compound, plain, arithmetic_by, shift_by}
use Rattle.lower_rules.specs.Sorts.{GivenAs, sort, Good}
use Rattle.lower_rules.proofs.KindFacts.{kinds_are_one, same_kind_self, same_scalar_self, promoted_stays, common_stays, converted_held}

-- a size is one that a type has
size_by : (s : ℕ) (b : Bool) → is_size s ≡ b → is_size (if b then s else 1) ≡ true
size_by s true e = e
size_by s false e = refl

pub size_good : (s : ℕ) → is_size (size_within s) ≡ true
size_good s = size_by s (is_size s) refl

either_by : (b : Bool) (s : Scalar) → is_right (if b then Gives s else Void) ≡ true
either_by true s = refl
either_by false s = refl

either_right : (x y : Sort) → is_right x ≡ true → is_right y ≡ true → is_right (either_of x y) ≡ true
either_right (Gives s) (Gives r) h g = either_by (same_scalar s r) s
either_right (Gives s) Void h g = refl
either_right Void (Gives r) h g = refl
either_right Void Void h g = refl
either_right (Gives s) IllSorted h g = absurd (cc)
either_right Void IllSorted h g = absurd (cc)
either_right IllSorted y h g = absurd (cc)

module _ (p : c.Program) (locals : List ℕ) where
  abbrev S : Lowered → Sort
  S e = sort p locals e

  abbrev G : Lowered → Type 0
  G e = Good p locals e

  right_by : (g : Option Scalar) (x : Sort) → GivenAs g x → is_right x ≡ true
  right_by None x h = h
  right_by (Some s) x h = rw h refl

  pub right_good : (e : Lowered) → G e → is_right (S e) ≡ true
  right_good e h = right_by e.gives (S e) h

  -- ---- constants and conversions

  pub constant_good : (span : Span) (kind : IntKind) (z : ℤ) → S (low.constant span kind z) ≡ an kind
  constant_good span kind z = rw (converted_held kind z) refl

  pub zero_good : (span : Span) (s : Scalar) → S (low.zero_at span s) ≡ Gives s
  zero_good span (scalar.Int kind) = constant_good span kind (pos 0)
  zero_good span scalar.Ptr = refl

  bool_by : (b : Bool) (span : Span) (kind : IntKind) (e : Lowered) → S e ≡ a_pointer → S (if b then low.convert span kind (low.truth span false e) else low.constant span kind (pos 0)) ≡ an kind
  bool_by true span kind e h = rw h refl
  bool_by false span kind e h = constant_good span kind (pos 0)

  same_by : (b : Bool) (span : Span) (from kind : IntKind) (e : Lowered) → S e ≡ an from → same_kind from kind ≡ b → S (if b then e else low.convert span kind e) ≡ an kind
  same_by true span from kind e h is = h ∙ ap an (kinds_are_one from kind is)
  same_by false span from kind e h is = rw h refl

  given_kind_good : (g : Option Scalar) (span : Span) (kind : IntKind) (e : Lowered) → GivenAs g (S e) → S (low.given_as_kind g span kind e) ≡ an kind
  given_kind_good None span kind e h = constant_good span kind (pos 0)
  given_kind_good (Some scalar.Ptr) span kind e h = bool_by (same_kind kind k.Bool) span kind e h
  given_kind_good (Some (scalar.Int from)) span kind e h = same_by (same_kind from kind) span from kind e h refl

  given_pointer_good : (g : Option Scalar) (span : Span) (e : Lowered) → GivenAs g (S e) → S (low.given_as_pointer g span e) ≡ a_pointer
  given_pointer_good None span e h = refl
  given_pointer_good (Some scalar.Ptr) span e h = h
  given_pointer_good (Some (scalar.Int kind)) span e h = refl

  pub scalar_good : (span : Span) (s : Scalar) (e : Lowered) → G e → S (low.as_scalar_at span s e) ≡ Gives s
  scalar_good span (scalar.Int kind) e h = given_kind_good e.gives span kind e h
  scalar_good span scalar.Ptr e h = given_pointer_good e.gives span e h

  pub kind_good : (kind : IntKind) (e : Lowered) → G e → S (low.as_kind kind e) ≡ an kind
  kind_good kind e h = scalar_good (low.lowered_span e) (scalar.Int kind) e h

  pub pointer_good : (e : Lowered) → G e → S (low.as_pointer e) ≡ a_pointer
  pointer_good e h = scalar_good (low.lowered_span e) scalar.Ptr e h

  pub promoted_good : (e : Lowered) → G e → S (low.promote e) ≡ an (low.kind_of e)
  promoted_good e h = kind_good (low.kind_of e) e h

  kind_stays_by : (g : Option Scalar) → same_kind (promoted (low.kind_given g)) (low.kind_given g) ≡ true
  kind_stays_by (Some (scalar.Int kind)) = promoted_stays kind
  kind_stays_by (Some scalar.Ptr) = refl
  kind_stays_by None = refl

  pub kind_stays : (e : Lowered) → same_kind (promoted (low.kind_of e)) (low.kind_of e) ≡ true
  kind_stays e = kind_stays_by e.gives

  -- of some kind
  abbrev pub IsInt : Sort → Type 0
  IsInt x = (kind : IntKind) × (x ≡ an kind)

  integer_by : (g : Option Scalar) (e : Lowered) → GivenAs g (S e) → IsInt (S (low.given_as_integer g e))
  integer_by (Some (scalar.Int kind)) e h = (kind, h)
  integer_by (Some scalar.Ptr) e h = (k.Int, refl)
  integer_by None e h = (k.Int, refl)

  pub integer_good : (e : Lowered) → G e → IsInt (S (low.as_integer e))
  integer_good e h = integer_by e.gives e h

  tested_by : (g : Option Scalar) (e : Lowered) → GivenAs g (S e) → e.gives ≡ g → IsInt (S (low.tested_given g e))
  tested_by (Some scalar.Ptr) e h is = (k.Int, rw h refl)
  tested_by (Some (scalar.Int kind)) e h is = rw is (kind, h)
  tested_by None e h is = rw is (k.Int, refl)

  pub tested_good : (e : Lowered) → G e → IsInt (S (low.tested e))
  tested_good e h = tested_by e.gives e h refl

  -- ---- lists

  abbrev pub AllGood : List Lowered → Type 0
  AllGood [] = Unit {0}
  AllGood (e ∷ es) = G e × AllGood es

  -- the arguments of a call are what its type takes
  pub taken_good : (span : Span) (ss : List Scalar) (es : List Lowered) → AllGood es → agree ss (sorts_of p locals (low.as_taken span ss es)) ≡ true
  taken_good span [] es h = refl
  taken_good span (s ∷ ss) [] h = rw (zero_good span s) (rw (same_scalar_self s) (taken_good span ss [] tt))
  taken_good span (s ∷ ss) (e ∷ es) h = rw (scalar_good (low.lowered_span e) s e h.0) (rw (same_scalar_self s) (taken_good span ss es h.1))

  -- ---- operators

  pub arithmetic_good : (span : Span) (o : Op) (kind : IntKind) (a b : Lowered) → same_kind (promoted kind) kind ≡ true → G a → G b → G (op_of.arithmetic span o kind a b)
  arithmetic_good span o kind a b stays h g = rw (kind_good kind a h) (rw (kind_good kind b g) (rw stays (rw (same_kind_self kind) refl)))

  pub common_good : (span : Span) (o : Op) (a b : Lowered) → G a → G b → G (op_of.in_common span o a b)
  common_good span o a b h g = arithmetic_good span o (op_of.common_of a b) a b (common_stays (low.kind_of a) (low.kind_of b)) h g

  pub shift_good : (span : Span) (left : Bool) (a b : Lowered) → G a → G b → G (op_of.shift span left a b)
  shift_good span left a b h g = rw (promoted_good a h) (rw (promoted_good b g) (rw (kind_stays a) (rw (kind_stays b) refl)))

  pub moved_by : (x : Sort) → IsInt x → is_integer x ≡ true
  moved_by x h = rw h.1 refl

  pub moved_good : (span : Span) (q i : Lowered) (size : ℕ) (minus : Bool) → is_size size ≡ true → G q → G i → G (op_of.moved span q i size minus)
  moved_good span q i size minus is h g = rw (pointer_good q h) (rw (moved_by (S (low.as_integer i)) (integer_good i g)) (rw is refl))

  difference_good : (span : Span) (a b : Lowered) (size : ℕ) → is_size size ≡ true → G a → G b → G (op_of.difference span a b size)
  difference_good span a b size is h g = rw (pointer_good a h) (rw (pointer_good b g) (rw is refl))

  pub if_good : (b : Bool) (x y : Lowered) → G x → G y → G (if b then x else y)
  if_good true x y h g = h
  if_good false x y h g = g

  sum_good : (span : Span) (a : Lowered) (m : ℕ) (b : Lowered) (n : ℕ) → is_size m ≡ true → is_size n ≡ true → G a → G b → G (op_of.sum span a m b n)
  sum_good span a m b n is js h g =
      if_good (low.is_pointer a) _ _ (moved_good span a b m false is h g) (if_good (low.is_pointer b) _ _ (moved_good span b a n false js g h) (common_good span op.Add a b h g))

  subtracted_good : (span : Span) (a : Lowered) (m : ℕ) (b : Lowered) → is_size m ≡ true → G a → G b → G (op_of.subtracted span a m b)
  subtracted_good span a m b is h g =
      if_good (low.is_pointer a && low.is_pointer b) _ _ (difference_good span a b m is h g) (if_good (low.is_pointer a) _ _ (moved_good span a b m true is h g) (common_good span op.Sub a b h g))

  integers_good : (span : Span) (o : Cmp) (a b : Lowered) → G a → G b → G (low.giving_int k.Int span (c.CompareInt o (low.as_kind (op_of.common_of a b) a).expr (low.as_kind (op_of.common_of a b) b).expr))
  integers_good span o a b h g = rw (kind_good (op_of.common_of a b) a h) (rw (kind_good (op_of.common_of a b) b g) (rw (same_kind_self (op_of.common_of a b)) refl))

  pointers_good : (span : Span) (o : Cmp) (a b : Lowered) → G a → G b → G (low.giving_int k.Int span (c.ComparePtr o (low.as_pointer a).expr (low.as_pointer b).expr))
  pointers_good span o a b h g = rw (pointer_good a h) (rw (pointer_good b g) refl)

  comparison_good : (span : Span) (o : Cmp) (a b : Lowered) → G a → G b → G (op_of.comparison span o a b)
  comparison_good span o a b h g = if_good (low.is_int a && low.is_int b) _ _ (integers_good span o a b h g) (pointers_good span o a b h g)

  either_good : (span : Span) (a b : Lowered) → G a → G b → G (low.giving_int k.Int span (c.Either (low.tested a).expr (low.tested b).expr))
  either_good span a b h g = rw (moved_by (S (low.tested a)) (tested_good a h)) (rw (moved_by (S (low.tested b)) (tested_good b g)) refl)

  both_good : (span : Span) (a b : Lowered) → G a → G b → G (low.giving_int k.Int span (c.Both (low.tested a).expr (low.tested b).expr))
  both_good span a b h g = rw (moved_by (S (low.tested a)) (tested_good a h)) (rw (moved_by (S (low.tested b)) (tested_good b g)) refl)

  pub binary_good : (span : Span) (o : t.BinaryOp) (a : Lowered) (m : ℕ) (b : Lowered) (n : ℕ) → is_size m ≡ true → is_size n ≡ true → G a → G b → G (op_of.binary span o a m b n)
  unfolding op_of.binary
  binary_good span t.Or a m b n is js h g = either_good span a b h g
  binary_good span t.And a m b n is js h g = both_good span a b h g
  binary_good span t.BitOr a m b n is js h g = common_good span op.BitOr a b h g
  binary_good span t.BitXor a m b n is js h g = common_good span op.BitXor a b h g
  binary_good span t.BitAnd a m b n is js h g = common_good span op.BitAnd a b h g
  binary_good span t.Eq a m b n is js h g = comparison_good span cmp.Eq a b h g
  binary_good span t.Ne a m b n is js h g = comparison_good span cmp.Ne a b h g
  binary_good span t.Lt a m b n is js h g = comparison_good span cmp.Lt a b h g
  binary_good span t.Gt a m b n is js h g = comparison_good span cmp.Gt a b h g
  binary_good span t.Le a m b n is js h g = comparison_good span cmp.Le a b h g
  binary_good span t.Ge a m b n is js h g = comparison_good span cmp.Ge a b h g
  binary_good span t.Shl a m b n is js h g = shift_good span true a b h g
  binary_good span t.Shr a m b n is js h g = shift_good span false a b h g
  binary_good span t.Add a m b n is js h g = sum_good span a m b n is js h g
  binary_good span t.Sub a m b n is js h g = subtracted_good span a m b is h g
  binary_good span t.Mul a m b n is js h g = common_good span op.Mul a b h g
  binary_good span t.Div a m b n is js h g = common_good span op.Div a b h g
  binary_good span t.Rem a m b n is js h g = common_good span op.Rem a b h g

  chosen_kind_good : (span : Span) (x a b : Lowered) → G x → G a → G b → G (low.giving_int (op_of.common_of a b) span (c.Choose (low.tested x).expr (low.as_kind (op_of.common_of a b) a).expr (low.as_kind (op_of.common_of a b) b).expr))
  chosen_kind_good span x a b f h g =
      rw (moved_by (S (low.tested x)) (tested_good x f)) (rw (kind_good (op_of.common_of a b) a h) (rw (kind_good (op_of.common_of a b) b g) (rw (same_kind_self (op_of.common_of a b)) refl)))

  chosen_pointer_good : (span : Span) (x a b : Lowered) → G x → G a → G b → G (low.giving scalar.Ptr span (c.Choose (low.tested x).expr (low.as_pointer a).expr (low.as_pointer b).expr))
  chosen_pointer_good span x a b f h g = rw (moved_by (S (low.tested x)) (tested_good x f)) (rw (pointer_good a h) (rw (pointer_good b g) refl))

  chosen_nothing_good : (span : Span) (x a b : Lowered) → G x → G a → G b → G (low.giving_nothing span (c.Choose (low.tested x).expr a.expr b.expr))
  chosen_nothing_good span x a b f h g = rw (moved_by (S (low.tested x)) (tested_good x f)) (either_right (S a) (S b) (right_good a h) (right_good b g))

  pub choice_good : (span : Span) (x a b : Lowered) → G x → G a → G b → G (op_of.choice span x a b)
  unfolding op_of.choice
  choice_good span x a b f h g =
      if_good (low.is_int a && low.is_int b) _ _ (chosen_kind_good span x a b f h g)
      (if_good (low.is_pointer a || low.is_pointer b) _ _ (chosen_pointer_good span x a b f h g) (chosen_nothing_good span x a b f h g))

  then_by : (g : Option Scalar) (span : Span) (a b : Lowered) → is_right (S a) ≡ true → GivenAs g (S b) → GivenAs g (given (is_right (S a)) (S b))
  then_by g span a b h i = rw h i

  pub comma_good : (span : Span) (a b : Lowered) → G a → G b → G (op_of.comma span a b)
  unfolding op_of.comma
  comma_good span a b h g = then_by b.gives span a b (right_good a h) g

  convert_int_good : (span : Span) (from kind : IntKind) (e : Lowered) → S e ≡ an from → G (low.convert span kind e)
  convert_int_good span from kind e h = rw h refl

  convert_pointer_good : (span : Span) (kind : IntKind) (e : Lowered) → S e ≡ a_pointer → G (low.convert span kind (low.truth span false e))
  convert_pointer_good span kind e h = rw h refl

  given_kind_as : (g : Option Scalar) (span : Span) (kind : IntKind) (e : Lowered) → G e → GivenAs g (S e) → G (low.given_as_kind g span kind e)
  given_kind_as (Some (scalar.Int from)) span kind e h i = if_good (same_kind from kind) e (low.convert span kind e) h (convert_int_good span from kind e i)
  given_kind_as (Some scalar.Ptr) span kind e h i =
      if_good (same_kind kind k.Bool) (low.convert span kind (low.truth span false e)) (low.constant span kind (pos 0)) (convert_pointer_good span kind e i) (constant_good span kind (pos 0))
  given_kind_as None span kind e h i = constant_good span kind (pos 0)

  given_pointer_as : (g : Option Scalar) (span : Span) (e : Lowered) → G e → G (low.given_as_pointer g span e)
  given_pointer_as (Some scalar.Ptr) span e h = h
  given_pointer_as (Some (scalar.Int kind)) span e h = refl
  given_pointer_as None span e h = refl

  pub scalar_as : (span : Span) (s : Scalar) (e : Lowered) → G e → G (low.as_scalar_at span s e)
  scalar_as span (scalar.Int kind) e h = given_kind_as e.gives span kind e h h
  scalar_as span scalar.Ptr e h = given_pointer_as e.gives span e h

  pub positive_good : (a : Lowered) → G a → G (op_of.positive a)
  unfolding op_of.positive
  positive_good a h = scalar_as (low.lowered_span a) (scalar.Int (low.kind_of a)) a h

  pub negative_good : (span : Span) (a : Lowered) → G a → G (op_of.negative span a)
  unfolding op_of.negative
  negative_good span a h = arithmetic_good span op.Sub (low.kind_of a) (low.constant span (low.kind_of a) (pos 0)) a (kind_stays a) (constant_good span (low.kind_of a) (pos 0)) h

  pub complement_good : (span : Span) (a : Lowered) → G a → G (op_of.complement span a)
  unfolding op_of.complement
  complement_good span a h = arithmetic_good span op.BitXor (low.kind_of a) a (low.constant span (low.kind_of a) (negsuc 0)) (kind_stays a) h (constant_good span (low.kind_of a) (negsuc 0))

  truth_by : (s : Scalar) (x : Sort) → x ≡ Gives s → given (is_scalar x) int ≡ int
  truth_by s x h = rw h refl

  negation_by : (g : Option Scalar) (span : Span) (a : Lowered) → GivenAs g (S a) → G (op_of.negated_given span g a)
  negation_by None span a h = constant_good span k.Int (pos 0)
  negation_by (Some s) span a h = truth_by s (S a) h

  pub negation_good : (span : Span) (a : Lowered) → G a → G (op_of.negation span a)
  unfolding op_of.negation
  negation_good span a h = negation_by a.gives span a h

  pub cast_good : (span : Span) (s : Option Scalar) (a : Lowered) → G a → G (op_of.cast span s a)
  unfolding op_of.cast
  cast_good span None a h = right_good a h
  cast_good span (Some s) a h = scalar_as span s a h

  -- ---- assignment

  pub stored_good : (span lvalue : Span) (s : Scalar) (q e : Lowered) → G q → G e → G (op_of.stored span lvalue s q e)
  stored_good span lvalue s q e h g = rw (pointer_good q h) (rw (scalar_good (low.lowered_span e) s e g) (rw (same_scalar_self s) refl))

  pub copied_good : (span : Span) (q : Lowered) (q_at : Span) (r : Lowered) (r_at : Span) (size : ℕ) → is_size size ≡ true → G q → G r → G (op_of.copied span q q_at r r_at size)
  unfolding op_of.copied
  copied_good span q q_at r r_at size is h g = rw (pointer_good q h) (rw (pointer_good r g) (rw is refl))

  changed_good : (span lvalue : Span) (kind : IntKind) (o : Op) (common : IntKind) (post : Bool) (q e : Lowered) → same_kind (promoted common) common ≡ true → G q → S e ≡ an common → G (op_of.modified span lvalue (scalar.Int kind) (modify.Arith o) common post q e)
  changed_good span lvalue kind o common post q e stays h g = rw (pointer_good q h) (rw g (rw stays (rw (same_kind_self common) refl)))

  shifted_good : (span lvalue : Span) (kind : IntKind) (left : Bool) (q e : Lowered) → G q → G e → G (op_of.modified span lvalue (scalar.Int kind) (modify.ShiftBits left) (promoted kind) false q (low.promote e))
  shifted_good span lvalue kind left q e h g = rw (pointer_good q h) (rw (promoted_good e g) (rw (promoted_stays kind) (rw (kind_stays e) refl)))

  int_good : (span lvalue : Span) (kind : IntKind) (x : Compound) (q e : Lowered) → G q → G e → G (op_of.assigned_int span lvalue kind x q e)
  int_good span lvalue kind plain q e h g = stored_good span lvalue (scalar.Int kind) q e h g
  int_good span lvalue kind (arithmetic_by o) q e h g =
      changed_good span lvalue kind o (common_kind (promoted kind) (low.kind_of e)) false q (low.as_kind (common_kind (promoted kind) (low.kind_of e)) e) (common_stays (promoted kind) (low.kind_of e)) h
      (kind_good (common_kind (promoted kind) (low.kind_of e)) e g)
  int_good span lvalue kind (shift_by left) q e h g = shifted_good span lvalue kind left q e h g

  advanced_good : (span lvalue : Span) (size : ℕ) (minus : Bool) (q e : Lowered) → is_size size ≡ true → G q → G e → G (op_of.modified span lvalue scalar.Ptr (modify.PtrAdd size minus) (low.kind_of e) false q (low.promote e))
  advanced_good span lvalue size minus q e is h g = rw (pointer_good q h) (rw (promoted_good e g) (rw is (rw (kind_stays e) refl)))

  moved_pointer_good : (span lvalue : Span) (o : t.AssignOp) (size : ℕ) (q e : Lowered) → is_size size ≡ true → G q → G e → G (op_of.assigned_pointer span lvalue o size q e)
  moved_pointer_good span lvalue t.Set size q e is h g = stored_good span lvalue scalar.Ptr q e h g
  moved_pointer_good span lvalue t.MulSet size q e is h g = advanced_good span lvalue size false q e is h g
  moved_pointer_good span lvalue t.DivSet size q e is h g = advanced_good span lvalue size false q e is h g
  moved_pointer_good span lvalue t.RemSet size q e is h g = advanced_good span lvalue size false q e is h g
  moved_pointer_good span lvalue t.AddSet size q e is h g = advanced_good span lvalue size false q e is h g
  moved_pointer_good span lvalue t.SubSet size q e is h g = advanced_good span lvalue size true q e is h g
  moved_pointer_good span lvalue t.ShlSet size q e is h g = advanced_good span lvalue size false q e is h g
  moved_pointer_good span lvalue t.ShrSet size q e is h g = advanced_good span lvalue size false q e is h g
  moved_pointer_good span lvalue t.AndSet size q e is h g = advanced_good span lvalue size false q e is h g
  moved_pointer_good span lvalue t.XorSet size q e is h g = advanced_good span lvalue size false q e is h g
  moved_pointer_good span lvalue t.OrSet size q e is h g = advanced_good span lvalue size false q e is h g

  pub assigned_good : (span lvalue : Span) (s : Scalar) (o : t.AssignOp) (size : ℕ) (q e : Lowered) → is_size size ≡ true → G q → G e → G (op_of.assigned span lvalue s o size q e)
  unfolding op_of.assigned
  assigned_good span lvalue (scalar.Int kind) o size q e is h g = int_good span lvalue kind (op_of.compound_of o) q e h g
  assigned_good span lvalue scalar.Ptr o size q e is h g = moved_pointer_good span lvalue o size q e is h g

  pub stepped_good : (span lvalue : Span) (s : Scalar) (down post : Bool) (size : ℕ) (q : Lowered) → is_size size ≡ true → G q → G (op_of.stepped span lvalue s down post size q)
  unfolding op_of.stepped
  stepped_good span lvalue (scalar.Int kind) down post size q is h =
      changed_good span lvalue kind (op_of.step_op down) (common_kind (promoted kind) k.Int) post q (low.constant span (common_kind (promoted kind) k.Int) (pos 1)) (common_stays (promoted kind) k.Int) h
      (constant_good span (common_kind (promoted kind) k.Int) (pos 1))
  stepped_good span lvalue scalar.Ptr down post size q is h = rw (pointer_good q h) (rw is refl)
