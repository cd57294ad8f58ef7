-- What a push, a cut and a record that is declared or finished keep of the shapes, the numbers and the members.
use Rattle.std.proofs.Common.{◌≡◌, ◌⊎◌, inl, inr, ℕ, zero, suc, ◌+◌, ◌<◌, ◌≤◌, List, [], ◌∷◌, ◌++◌, take, length, Option, Some, None, IfSome, IfNone, unwrap_or, min, slice_get, slice_set, refl, sym, ◌∙◌, ap, arith, subst, length-append}
use Rattle.std.specs.Prelude.{All}
use Rattle.std.proofs.lemmas.List.{length-take}
use Rattle.c_types.specs.CTypes as c
use Rattle.c_types.specs.CTypes.{CType}
use Rattle.c_types.specs.Canonical.{canonical}
use Rattle.c_types.specs.Compatible.{with_ints}
use Rattle.c_types.specs.Facts.{Extends}
use Rattle.c_types.specs.Layout.{layout_at}
use Rattle.c_types.specs.Plain.{plain, qualifiers_met}
use Rattle.c_types.specs.Roots.{IsRoot, IsCanonical}
use Rattle.c_types.specs.Shapes.{IsShape, AreShapes}
use Rattle.c_types.specs.Sound.{AreNumbered, AreSmall}
use Rattle.c_types.specs.Table.{Table, type_at, term_type, Grows, NumbersBelow, MembersBelow, AllMembersBelow}
use Rattle.c_types.specs.declared.facts.Shape.{Shape}
use Rattle.c_types.specs.declared.records.Head.{Head}
use Rattle.c_types.specs.declared.records.Layout.{Layout}
use Rattle.c_types.specs.declared.records.Member.{Member}
use Rattle.c_types.specs.declared.terms.Term.{Term}
use Rattle.c_types.specs.declared.terms.Term.TheVariants as m
use Rattle.c_types.specs.declared.terms.TypeId.{TypeId}
use Rattle.c_types.proofs.Growing.{grows_more, at_more}
use Rattle.c_types.proofs.Keeping.{root_up, root_down, canonical_up, canonical_down, behind, grows_take, cut_long, get_take}
use Rattle.std.proofs.Math.Seq.{take-append_seam}
use Rattle.c_types.proofs.Sounding.{get_more, last_is, within}

-- ---- shapes

-- a term that is no typedef name and has no qualifiers of its own
module _ (ts : List Term) where
  pub own_plain : (t : Term) → ((n : List ℕ) (e : TypeId) → t ≡ m.Named n e → ⊥) → ((q : ℕ) (e : TypeId) → t ≡ m.Qualified q e → ⊥) → plain (term_type ts t) ≡ term_type ts t
  own_plain (m.Named n e) a b = absurd (a n e refl)
  own_plain (m.Qualified q e) a b = absurd (b q e refl)
  own_plain m.Void a b = refl
  own_plain (m.Int k) a b = refl
  own_plain (m.Enum e) a b = refl
  own_plain (m.Pointer t) a b = refl
  own_plain (m.Array t n) a b = refl
  own_plain (m.Flexible t) a b = refl
  own_plain (m.Function t ps) a b = refl
  own_plain (m.Record k) a b = refl

  pub own_qualifiers : (t : Term) → ((n : List ℕ) (e : TypeId) → t ≡ m.Named n e → ⊥) → ((q : ℕ) (e : TypeId) → t ≡ m.Qualified q e → ⊥) → qualifiers_met (term_type ts t) ≡ 0
  own_qualifiers (m.Named n e) a b = absurd (a n e refl)
  own_qualifiers (m.Qualified q e) a b = absurd (b q e refl)
  own_qualifiers m.Void a b = refl
  own_qualifiers (m.Int k) a b = refl
  own_qualifiers (m.Enum e) a b = refl
  own_qualifiers (m.Pointer t) a b = refl
  own_qualifiers (m.Array t n) a b = refl
  own_qualifiers (m.Flexible t) a b = refl
  own_qualifiers (m.Function t ps) a b = refl
  own_qualifiers (m.Record k) a b = refl

pub shape_up : (a b : List Term) (i : ℕ) (s : Shape) → Grows a b → i < length a → IsShape a i s → IsShape b i s
shape_up a b i s g below x =
    let same : type_at b i ≡ type_at a i = g.same i below in
    let ints : type_at b s.ints.0 ≡ type_at a s.ints.0 = g.same s.ints.0 (let l = x.ints_below in omega arith) in
    let plains : type_at b s.plain.0 ≡ type_at a s.plain.0 = g.same s.plain.0 (let l = x.plain_below in omega arith) in
    record {
      root = canonical_up a b i s.root.0 g below x.root;
      ints_below = x.ints_below;
      ints_is = rw (same, ints) x.ints_is;
      ints_root = root_up a b s.ints.0 g x.ints_root;
      plain_below = x.plain_below;
      plain_is = rw (same, plains) x.plain_is;
      qualifiers_is = rw same x.qualifiers_is;
      qualifiers_small = x.qualifiers_small;
    }

pub shape_down : (a b : List Term) (i : ℕ) (s : Shape) → Grows a b → i < length a → IsShape b i s → IsShape a i s
shape_down a b i s g below x =
    let same : type_at a i ≡ type_at b i = sym (g.same i below) in
    let low : s.ints.0 < length a = let l = x.ints_below in omega arith in
    let ints : type_at a s.ints.0 ≡ type_at b s.ints.0 = sym (g.same s.ints.0 low) in
    let plains : type_at a s.plain.0 ≡ type_at b s.plain.0 = sym (g.same s.plain.0 (let l = x.plain_below in omega arith)) in
    record {
      root = canonical_down a b i s.root.0 g below x.root;
      ints_below = x.ints_below;
      ints_is = rw (same, ints) x.ints_is;
      ints_root = root_down a b s.ints.0 g low x.ints_root;
      plain_below = x.plain_below;
      plain_is = rw (same, plains) x.plain_is;
      qualifiers_is = rw same x.qualifiers_is;
      qualifiers_small = x.qualifiers_small;
    }

pub shapes_push : (ts : List Term) (shapes : List Shape) (t : Term) (s : Shape) → length shapes ≡ length ts → AreShapes ts shapes → IsShape (ts ++ t ∷ []) (length ts) s → AreShapes (ts ++ t ∷ []) (shapes ++ s ∷ [])
shapes_push ts shapes t s long all new i x e = elim (get_more shapes s x i e) [
  | inl p ↦ let below : i < length ts = omega (arith, p.0, long) in shape_up ts (ts ++ t ∷ []) i x (grows_more ts t) below (all i x p.1)
  | inr p ↦ let at : i ≡ length ts = p.0 ∙ long in rw at (subst (λ (y : Shape). IsShape (ts ++ t ∷ []) (length ts) y) p.1 new)
]

pub cut_shapes : (n : ℕ) (ts : List Term) (shapes : List Shape) → length shapes ≡ length ts → AreShapes ts shapes → AreShapes (take n ts) (take n shapes)
cut_shapes n ts shapes long all i s e =
    let below : i < length (take n ts) = let l = within (take n shapes) i s e in omega (arith, cut_long n shapes ts long) in
    shape_down (take n ts) ts i s (grows_take n ts) below (all i s (get_take n shapes i s e))

-- a canonical type that is put at the end
pub root_shape_is : (ts : List Term) (t : Term) (o : Option TypeId) (s : Shape) → IsCanonical (ts ++ t ∷ []) (length ts) (length ts)
    → IfSome o (λ id. IsRoot ts id.0 × (type_at ts id.0 ≡ with_ints (term_type ts t))) → IfNone o (with_ints (term_type ts t) ≡ term_type ts t)
    → s.root.0 ≡ length ts → s.ints ≡ unwrap_or o s.root
    → s.plain.0 ≤ length ts → type_at (ts ++ t ∷ []) s.plain.0 ≡ plain (term_type ts t) → s.qualifiers ≡ qualifiers_met (term_type ts t) → s.qualifiers < 8
    → IsShape (ts ++ t ∷ []) (length ts) s
root_shape_is ts t (Some u) s new other own r i pl pe qe ql =
    let here : type_at (ts ++ t ∷ []) (length ts) ≡ term_type ts t = at_more ts t in
    let there : type_at (ts ++ t ∷ []) u.0 ≡ type_at ts u.0 = (grows_more ts t).same u.0 other.0.first.below in
    let fixed : canonical (term_type ts t) ≡ term_type ts t = rw here at new.root.fixed in
    record {
      root = rw r new;
      ints_below = let l = other.0.first.below in rw i (omega arith);
      ints_is = rw (i, here, there, fixed) other.1;
      ints_root = rw i (root_up ts (ts ++ t ∷ []) u.0 (grows_more ts t) other.0);
      plain_below = pl;
      plain_is = rw here pe;
      qualifiers_is = rw here qe;
      qualifiers_small = ql;
    }
root_shape_is ts t None s new other own r i pl pe qe ql =
    let here : type_at (ts ++ t ∷ []) (length ts) ≡ term_type ts t = at_more ts t in
    let fixed : canonical (term_type ts t) ≡ term_type ts t = rw here at new.root.fixed in
    let n : s.ints.0 ≡ length ts = ap (λ (x : TypeId). x.0) i ∙ r in
    record {
      root = rw r new;
      ints_below = rw n (omega arith);
      ints_is = rw (n, here, fixed) (sym own);
      ints_root = rw n new.root;
      plain_below = pl;
      plain_is = rw here pe;
      qualifiers_is = rw here qe;
      qualifiers_small = ql;
    }

-- a type behind its canonical type
pub shape_behind_is : (ts : List Term) (t : Term) (r : ℕ) (of s : Shape) → IsRoot ts r → type_at ts r ≡ canonical (term_type ts t) → IsShape ts r of
    → s.root.0 ≡ r → s.ints ≡ of.ints
    → s.plain.0 ≤ length ts → type_at (ts ++ t ∷ []) s.plain.0 ≡ plain (term_type ts t) → s.qualifiers ≡ qualifiers_met (term_type ts t) → s.qualifiers < 8
    → IsShape (ts ++ t ∷ []) (length ts) s
shape_behind_is ts t r of s root is x e i pl pe qe ql =
    let here : type_at (ts ++ t ∷ []) (length ts) ≡ term_type ts t = at_more ts t in
    let low : of.ints.0 < length ts = let l = x.ints_below in let k = root.first.below in omega arith in
    let there : type_at (ts ++ t ∷ []) of.ints.0 ≡ type_at ts of.ints.0 = (grows_more ts t).same of.ints.0 low in
    record {
      root = rw e (behind ts t r root is);
      ints_below = rw i (omega arith);
      ints_is = rw (i, here) (there ∙ x.ints_is ∙ ap with_ints (root.fixed ∙ is));
      ints_root = rw i (root_up ts (ts ++ t ∷ []) of.ints.0 (grows_more ts t) x.ints_root);
      plain_below = pl;
      plain_is = rw here pe;
      qualifiers_is = rw here qe;
      qualifiers_small = ql;
    }

-- ---- numbers of records and enumerations

pub numbered_push : (r e : ℕ) (ts : List Term) (t : Term) → AreNumbered r e ts → NumbersBelow r e t → AreNumbered r e (ts ++ t ∷ [])
numbered_push r e ts t all new i u at = elim (get_more ts t u i at) [
  | inl p ↦ all i u p.1
  | inr p ↦ subst (NumbersBelow r e) p.1 new
]

pub numbered_take : (r e n : ℕ) (ts : List Term) → AreNumbered r e ts → AreNumbered r e (take n ts)
numbered_take r e n ts all i u at = all i u (get_take n ts i u at)

weaker : (r e s f : ℕ) (t : Term) → r ≤ s → e ≤ f → NumbersBelow r e t → NumbersBelow s f t
weaker r e s f m.Void h k x = tt
weaker r e s f (m.Int kind) h k x = tt
weaker r e s f (m.Enum n) h k x = omega arith
weaker r e s f (m.Pointer t) h k x = tt
weaker r e s f (m.Array t n) h k x = tt
weaker r e s f (m.Flexible t) h k x = tt
weaker r e s f (m.Function t ps) h k x = tt
weaker r e s f (m.Record n) h k x = omega arith
weaker r e s f (m.Named n t) h k x = tt
weaker r e s f (m.Qualified q t) h k x = x

pub numbered_weaker : (r e s f : ℕ) (ts : List Term) → r ≤ s → e ≤ f → AreNumbered r e ts → AreNumbered s f ts
numbered_weaker r e s f ts h k all i t at = weaker r e s f t h k (all i t at)

-- ---- members

all_weaker : (n k : ℕ) (ms : List Member) → n ≤ k → MembersBelow n ms → MembersBelow k ms
all_weaker n k ms h x = λ i d l. let y = x i d l in omega arith

none_below : (n : ℕ) → MembersBelow n []
none_below n = λ i d l. absurd (omega arith)

pub members_weaker : (n k : ℕ) (mss : List (List Member)) → n ≤ k → AllMembersBelow n mss → AllMembersBelow k mss
members_weaker n k mss h all i ms at = all_weaker n k ms h (all i ms at)

pub members_push : (n : ℕ) (mss : List (List Member)) → AllMembersBelow n mss → AllMembersBelow n (mss ++ [] ∷ [])
members_push n mss all i ms at = elim (get_more mss [] ms i at) [
  | inl p ↦ all i ms p.1
  | inr p ↦ subst (MembersBelow n) p.1 (none_below n)
]

pub members_take : (n k : ℕ) (mss : List (List Member)) → AllMembersBelow n mss → AllMembersBelow n (take k mss)
members_take n k mss all i ms at = all i ms (get_take k mss i ms at)

below_both : (n k : ℕ) (ms : List Member) → MembersBelow n ms → MembersBelow k ms → MembersBelow (min n k) ms
below_both n k ms x y = λ i d l. let a = x i d l in let b = y i d l in omega arith

pub members_cut : (n : ℕ) (ts : List Term) (mss : List (List Member)) → AllMembersBelow (length ts) mss → AllMembersBelow n mss → AllMembersBelow (length (take n ts)) mss
members_cut n ts mss a b i ms at = let l : length (take n ts) ≡ min n (length ts) = length-take n ts in rw l (below_both n (length ts) ms (b i ms at) (a i ms at))

pub members_set : (n k : ℕ) (mss : List (List Member)) (ms : List Member) → AllMembersBelow n mss → MembersBelow n ms → AllMembersBelow n (slice_set mss k ms)
members_set n k [] ms all new i xs at = cc
members_set n zero (y ∷ mss) ms all new zero xs at = subst (MembersBelow n) (let e : ms ≡ xs = cc in e) new
members_set n zero (y ∷ mss) ms all new (suc i) xs at = all (suc i) xs at
members_set n (suc k) (y ∷ mss) ms all new zero xs at = all zero xs at
members_set n (suc k) (y ∷ mss) ms all new (suc i) xs at = members_set n k mss ms (λ j zs e. all (suc j) zs e) new i xs at

-- ---- layouts

pub small_push : (ls : List (Option Layout)) → AreSmall ls → AreSmall (ls ++ None ∷ [])
small_push [] all zero l at = cc
small_push [] all (suc k) l at = cc
small_push (x ∷ ls) all zero l at = all zero l at
small_push (x ∷ ls) all (suc k) l at = small_push ls (λ j y e. all (suc j) y e) k l at

pub small_take : (n : ℕ) (ls : List (Option Layout)) → AreSmall ls → AreSmall (take n ls)
small_take zero ls all k l at = cc
small_take (suc n) [] all k l at = cc
small_take (suc n) (x ∷ ls) all zero l at = all zero l at
small_take (suc n) (x ∷ ls) all (suc k) l at = small_take n ls (λ j y e. all (suc j) y e) k l at

pub small_set : (ls : List (Option Layout)) (n : ℕ) (new : Layout) → AreSmall ls → new.size < 268435456 → AreSmall (slice_set ls n (Some new))
small_set [] n new all h k l at = cc
small_set (x ∷ ls) zero new all h zero l at = let e : new ≡ l = cc in subst (λ (y : Layout). y.size < 268435456) e h
small_set (x ∷ ls) zero new all h (suc k) l at = all (suc k) l at
small_set (x ∷ ls) (suc n) new all h zero l at = all zero l at
small_set (x ∷ ls) (suc n) new all h (suc k) l at = small_set ls n new (λ j y e. all (suc j) y e) h k l at

-- a last record that is not finished has no layout
less : (ls : List (Option Layout)) (n k : ℕ) (l : Layout) → length ls ≡ suc n → slice_get ls n ≡ Some None → layout_at ls k ≡ Some l → layout_at (take n ls) k ≡ Some l
less [] n k l long last at = cc
less (x ∷ ls) zero zero l long last at = let e : x ≡ None = cc in (let z = rw e at at in cc)
less (x ∷ []) zero (suc k) l long last at = cc
less (x ∷ y ∷ ls) zero (suc k) l long last at = absurd (omega (arith, long))
less (x ∷ ls) (suc n) zero l long last at = at
less (x ∷ ls) (suc n) (suc k) l long last at = less ls n k l (omega (arith, long)) last at

pub extends_less : (ls : List (Option Layout)) (n : ℕ) → length ls ≡ suc n → slice_get ls n ≡ Some None → Extends ls (take n ls)
extends_less ls n long last = record { keeps = λ k l at. less ls n k l long last at }

-- ---- a record or an enumeration that is taken back

pub head_back : (t : Table) (h : Head) (o : Option Layout) (ms : List Member) (n : ℕ) → n ≡ length t.records → length t.layouts ≡ length t.records → length t.members ≡ length t.records
    → record t { records = take n (t.records ++ h ∷ []); layouts = take n (t.layouts ++ o ∷ []); members = take n (t.members ++ ms ∷ []) } ≡ t
head_back t h o ms n e l k =
    let first : take n (t.records ++ h ∷ []) ≡ t.records = ap (λ x. take x (t.records ++ h ∷ [])) e ∙ take-append_seam t.records (h ∷ []) in
    let second : take n (t.layouts ++ o ∷ []) ≡ t.layouts = ap (λ x. take x (t.layouts ++ o ∷ [])) (e ∙ sym l) ∙ take-append_seam t.layouts (o ∷ []) in
    let third : take n (t.members ++ ms ∷ []) ≡ t.members = ap (λ x. take x (t.members ++ ms ∷ [])) (e ∙ sym k) ∙ take-append_seam t.members (ms ∷ []) in
    rw (first, second, third) refl

pub slot_last : (ls : List (Option Layout)) (n : ℕ) → n ≡ length ls → slice_get (ls ++ None ∷ []) n ≡ Some None
slot_last ls n e = rw e (last_is ls None)
