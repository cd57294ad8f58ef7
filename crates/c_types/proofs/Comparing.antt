-- Equality of types, and enumerations that count as int.
use Rattle.std.proofs.Common.{rules, ◌≡◌, ℕ, List, [], ◌∷◌, Bool, true, false, ◌&&◌, ◌||◌, ◌*◌, nat_eq, eqb, Option, Some, None, IfSome, refl, sym, ◌∙◌, ap, subst}
use Rattle.std.specs.Option.{option_map}
use Rattle.std.specs.Cmp.Lexicographic.{pointwise}
use Rattle.std.specs.Cmp.Lexicographic as texts
use Rattle.c_types.specs.CTypes as c
use Rattle.c_types.specs.CTypes.{CType, CTypes, no_types, one_type, record_of, is_flexible}
use Rattle.c_types.specs.Canonical.{canonical, unqualified}
use Rattle.c_types.specs.Compatible.{equal, equal_all, with_ints}
use Rattle.c_types.specs.Consts.{is_const, record_held}
use Rattle.c_types.specs.Facts.{IsFact, size_by, align_by, pointer_by}
use Rattle.c_types.specs.Keys.{kind_number}
use Rattle.c_types.specs.Layout.{size, align}
use Rattle.c_types.specs.Plain.{has_const}
use Rattle.c_types.specs.Pointers.{contains_pointer, is_uintptr}
use Rattle.c_types.specs.Roots.{IsRoot, is_bare}
use Rattle.c_types.specs.Sameness.{IsFirst}
use Rattle.c_types.specs.Table.{type_at}
use Rattle.c_types.specs.declared.terms.Term.{Term}
use Rattle.c_types.specs.declared.facts.Facts.{Facts}
use Rattle.c_types.specs.declared.records.Layout.{Layout}
use Rattle.num_ops.specs.declared.kinds.IntKind.{IntKind}
use Rattle.std.proofs.lemmas.Bool.{eqb-true, eq-eqb}
use Rattle.c_types.proofs.Rooting.{kind_back, kind_of, one_first}

-- ---- enumerations that count as int

pub ints_twice : (t : CType) → with_ints (with_ints t) ≡ with_ints t
ints_twice c.Void = refl
ints_twice (c.Int k) = refl
ints_twice (c.Enum e) = refl
ints_twice (c.Pointer t) = ap c.Pointer (ints_twice t)
ints_twice (c.Array t n) = ap (λ x. c.Array x n) (ints_twice t)
ints_twice (c.Flexible t) = ap c.Flexible (ints_twice t)
ints_twice (c.Function r ps) = refl
ints_twice (c.Record k) = refl
ints_twice (c.Named n t) = ap (c.Named n) (ints_twice t)
ints_twice (c.Qualified q t) = ap (c.Qualified q) (ints_twice t)

pub ints_bare : (t : CType) → is_bare t ≡ true → is_bare (with_ints t) ≡ true
ints_bare c.Void b = refl
ints_bare (c.Int k) b = refl
ints_bare (c.Enum e) b = refl
ints_bare (c.Pointer t) b = refl
ints_bare (c.Function r ps) b = refl
ints_bare (c.Record k) b = refl
ints_bare (c.Array t n) b = cc
ints_bare (c.Flexible t) b = cc
ints_bare (c.Named n t) b = cc
ints_bare (c.Qualified q t) b = cc

pub ints_unqualified : (t : CType) → unqualified (with_ints t) ≡ with_ints (unqualified t)
ints_unqualified c.Void = refl
ints_unqualified (c.Int k) = refl
ints_unqualified (c.Enum e) = refl
ints_unqualified (c.Pointer t) = refl
ints_unqualified (c.Array t n) = refl
ints_unqualified (c.Flexible t) = refl
ints_unqualified (c.Function r ps) = refl
ints_unqualified (c.Record k) = refl
ints_unqualified (c.Named n t) = refl
ints_unqualified (c.Qualified q t) = refl

-- what doesn't tell an enumeration from an int doesn't tell these types apart
module _ {A : Type 0} (f : CType → A) (enum : (e : ℕ) → f (c.Enum e) ≡ f (with_ints (c.Enum e))) (pointer : (t u : CType) → f (c.Pointer t) ≡ f (c.Pointer u))
    (array : (t u : CType) (n : ℕ) → f t ≡ f u → f (c.Array t n) ≡ f (c.Array u n)) (flexible : (t u : CType) → f t ≡ f u → f (c.Flexible t) ≡ f (c.Flexible u))
    (named : (t u : CType) (n : List ℕ) → f t ≡ f u → f (c.Named n t) ≡ f (c.Named n u)) (qualified : (t u : CType) (q : ℕ) → f t ≡ f u → f (c.Qualified q t) ≡ f (c.Qualified q u)) where
  pub ints_same : (t : CType) → f t ≡ f (with_ints t)
  ints_same c.Void = refl
  ints_same (c.Int k) = refl
  ints_same (c.Enum e) = enum e
  ints_same (c.Pointer t) = pointer t (with_ints t)
  ints_same (c.Array t n) = array t (with_ints t) n (ints_same t)
  ints_same (c.Flexible t) = flexible t (with_ints t) (ints_same t)
  ints_same (c.Function r ps) = refl
  ints_same (c.Record k) = refl
  ints_same (c.Named n t) = named t (with_ints t) n (ints_same t)
  ints_same (c.Qualified q t) = qualified t (with_ints t) q (ints_same t)

size_ints : (ls : List (Option Layout)) (t : CType) → size ls t ≡ size ls (with_ints t)
size_ints ls = ints_same (size ls) (λ e. refl) (λ t u. refl) (λ t u n e. ap (option_map (λ s. n * s)) e) (λ t u e. refl) (λ t u n e. e) (λ t u q e. e)

align_ints : (ls : List (Option Layout)) (t : CType) → align ls t ≡ align ls (with_ints t)
align_ints ls = ints_same (align ls) (λ e. refl) (λ t u. refl) (λ t u n e. e) (λ t u e. e) (λ t u n e. e) (λ t u q e. e)

pointer_ints : (ls : List (Option Layout)) (t : CType) → contains_pointer ls t ≡ contains_pointer ls (with_ints t)
pointer_ints ls = ints_same (contains_pointer ls) (λ e. refl) (λ t u. refl) (λ t u n e. e) (λ t u e. e) (λ t u n e. ap (λ b. is_uintptr n || b) e) (λ t u q e. e)

record_ints : (t : CType) → record_of t ≡ record_of (with_ints t)
record_ints = ints_same record_of (λ e. refl) (λ t u. refl) (λ t u n e. refl) (λ t u e. refl) (λ t u n e. e) (λ t u q e. e)

flexible_ints : (t : CType) → is_flexible t ≡ is_flexible (with_ints t)
flexible_ints = ints_same is_flexible (λ e. refl) (λ t u. refl) (λ t u n e. refl) (λ t u e. refl) (λ t u n e. e) (λ t u q e. e)

held_ints : (t : CType) → record_held t ≡ record_held (with_ints t)
held_ints = ints_same record_held (λ e. refl) (λ t u. refl) (λ t u n e. e) (λ t u e. e) (λ t u n e. e) (λ t u q e. e)

const_ints : (t : CType) → is_const t ≡ is_const (with_ints t)
const_ints = ints_same is_const (λ e. refl) (λ t u. refl) (λ t u n e. e) (λ t u e. e) (λ t u n e. e) (λ t u q e. ap (λ b. has_const q || b) e)

-- so the facts are the same
pub fact_ints : (ls : List (Option Layout)) (t u : CType) (f : Facts) → u ≡ with_ints t → IsFact ls t f → IsFact ls u f
fact_ints ls t u f e i = rw e (record {
  record_is = i.record_is ∙ record_ints t;
  flexible_is = i.flexible_is ∙ flexible_ints t;
  size_is = λ later x. sym (size_ints later t) ∙ i.size_is later x;
  align_is = λ later x. sym (align_ints later t) ∙ i.align_is later x;
  pointer_is = λ later x. sym (pointer_ints later t) ∙ i.pointer_is later x;
  const_is = i.const_is ∙ const_ints t;
  held_is = i.held_is ∙ held_ints t;
  small = i.small;
})

-- ---- equality

nat_self : (n : ℕ) → nat_eq n n ≡ true
nat_self n = search rules

nat_tells : (m n : ℕ) → nat_eq m n ≡ true → m ≡ n
nat_tells m n e = search rules

text_self : (xs : List ℕ) → pointwise nat_eq xs xs ≡ true
text_self [] = refl
text_self (x ∷ xs) = ap (λ b. b && pointwise nat_eq xs xs) (nat_self x) ∙ text_self xs

both : (a b : Bool) → (a && b) ≡ true → (a ≡ true) × (b ≡ true)
both true b e = (refl, e)
both false b e = cc

mutual
  pub equal_self : (t : CType) → equal t t ≡ true
  equal_self c.Void = refl
  equal_self (c.Int k) = nat_self (kind_number k)
  equal_self (c.Enum e) = nat_self e
  equal_self (c.Pointer t) = equal_self t
  equal_self (c.Array t n) = ap (λ b. b && nat_eq n n) (equal_self t) ∙ nat_self n
  equal_self (c.Flexible t) = equal_self t
  equal_self (c.Function r ps) = ap (λ b. b && equal_all ps ps) (equal_self r) ∙ all_self ps
  equal_self (c.Record k) = nat_self k
  equal_self (c.Named n t) = ap (λ b. b && equal t t) (text_self n) ∙ equal_self t
  equal_self (c.Qualified q t) = ap (λ b. b && equal t t) (nat_self q) ∙ equal_self t

  all_self : (ts : CTypes) → equal_all ts ts ≡ true
  all_self no_types = refl
  all_self (one_type t ts) = ap (λ b. b && equal_all ts ts) (equal_self t) ∙ all_self ts

mutual
  pub equal_tells : (t u : CType) → equal t u ≡ true → t ≡ u
  equal_tells c.Void c.Void e = refl
  equal_tells (c.Int k) (c.Int l) e = ap c.Int (sym (kind_back k) ∙ ap kind_of (nat_tells (kind_number k) (kind_number l) e) ∙ kind_back l)
  equal_tells (c.Enum e) (c.Enum f) h = ap c.Enum (nat_tells e f h)
  equal_tells (c.Pointer t) (c.Pointer u) e = ap c.Pointer (equal_tells t u e)
  equal_tells (c.Array t n) (c.Array u k) e = let b = both (equal t u) (nat_eq n k) e in cc (equal_tells t u b.0, nat_tells n k b.1)
  equal_tells (c.Flexible t) (c.Flexible u) e = ap c.Flexible (equal_tells t u e)
  equal_tells (c.Function r ps) (c.Function s qs) e = let b = both (equal r s) (equal_all ps qs) e in cc (equal_tells r s b.0, all_tells ps qs b.1)
  equal_tells (c.Record k) (c.Record l) e = ap c.Record (nat_tells k l e)
  equal_tells (c.Named n t) (c.Named k u) e = let b = both (pointwise nat_eq n k) (equal t u) e in cc (texts.same_text n k (sym b.0), equal_tells t u b.1)
  equal_tells (c.Qualified p t) (c.Qualified q u) e = let b = both (nat_eq p q) (equal t u) e in cc (nat_tells p q b.0, equal_tells t u b.1)
  equal_tells t u e = cc

  all_tells : (ts us : CTypes) → equal_all ts us ≡ true → ts ≡ us
  all_tells no_types no_types e = refl
  all_tells (one_type t ts) (one_type u us) e = let b = both (equal t u) (equal_all ts us) e in cc (equal_tells t u b.0, all_tells ts us b.1)
  all_tells ts us e = cc

-- a test that holds just where two types are the same is `equal`
pub equal_is : (b : Bool) (t u : CType) → (b ≡ true → t ≡ u) → (t ≡ u → b ≡ true) → b ≡ equal t u
equal_is true t u f g = sym (subst (λ x. equal t x ≡ true) (f refl) (equal_self t))
equal_is false t u f g = by (equal t u) refl
  where
    by : (d : Bool) → equal t u ≡ d → false ≡ equal t u
    by true e = g (equal_tells t u e) ∙ sym e
    by false e = sym e

-- ---- numbers of canonical types

pub firsts_equal : (ts : List Term) (t u : CType) (x y : ℕ) → IsFirst ts t x → IsFirst ts u y → eqb x y ≡ equal t u
firsts_equal ts t u x y a b =
    equal_is (eqb x y) t u
    (λ h. let e : x ≡ y = eqb-true x y h in sym a.is ∙ ap (type_at ts) e ∙ b.is)
    (λ e. let f : x ≡ y = one_first ts t x y a (rw e b) in eq-eqb x y f)

pub roots_equal : (ts : List Term) (t u : CType) (x y : ℕ) → IsRoot ts x → IsRoot ts y → type_at ts x ≡ t → type_at ts y ≡ u → eqb x y ≡ equal t u
roots_equal ts t u x y a b e f = firsts_equal ts t u x y (rw e at a.first) (rw f at b.first)
