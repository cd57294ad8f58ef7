-- Roots: equal canonical types have one number.
use Rattle.std.proofs.Common.{◌≡◌, ◌≢◌, inl, inr, ℕ, ◌<◌, List, [], ◌∷◌, map, length, true, false, eqb, if◌then◌else◌, ◌==◌, refl, sym, ◌∙◌, ap}
use Rattle.std.proofs.lemmas.Bool.{cases_order, ne_eqb}
use Rattle.num_ops.specs.declared.kinds.IntKind.{IntKind}
use Rattle.num_ops.specs.declared.kinds.IntKind.TheVariants as k
use Rattle.c_types.specs.CTypes as c
use Rattle.c_types.specs.CTypes.{CType, CTypes, no_types, one_type}
use Rattle.c_types.specs.Canonical.{canonical, canonical_parameters, qualify, with_qualifiers, unqualified}
use Rattle.c_types.specs.Keys.{key, kind_number}
use Rattle.c_types.specs.Roots.{IsRoot, IsRootTerm, AreParameters, is_bare}
use Rattle.c_types.specs.Sameness.{IsFirst}
use Rattle.c_types.specs.Table.{type_at, types_at, term_type}
use Rattle.c_types.specs.declared.terms.Term.{Term}
use Rattle.c_types.specs.declared.terms.TypeId.{TypeId}
use Rattle.c_types.specs.declared.terms.Term.TheVariants as m

pub root_below : (ts : List Term) (x : ℕ) → IsRoot ts x → x < length ts
root_below ts x r = r.first.below

pub one_first : (ts : List Term) (t : CType) (x y : ℕ) → IsFirst ts t x → IsFirst ts t y → x ≡ y
one_first ts t x y a b = elim (cases_order x y) [
  | inl e ↦ e
  | inr p ↦ elim p [ inl l ↦ absurd (b.first x l a.is) | inr l ↦ absurd (a.first y l b.is) ]
]

pub one_root : (ts : List Term) (x y : ℕ) → IsRoot ts x → IsRoot ts y → type_at ts x ≡ type_at ts y → x ≡ y
one_root ts x y a b e = one_first ts (type_at ts x) x y a.first (rw e b.first)

with_some : (q : ℕ) (t : CType) → q ≢ 0 → with_qualifiers q t ≡ c.Qualified q t
with_some q t n = let not : eqb q 0 ≡ false = ne_eqb q 0 n in rw not refl

pub bare_qualified : (q : ℕ) (t : CType) → q ≢ 0 → is_bare t ≡ true → qualify q t ≡ c.Qualified q t
bare_qualified q c.Void n b = with_some q c.Void n
bare_qualified q (c.Int kind) n b = with_some q (c.Int kind) n
bare_qualified q (c.Enum e) n b = with_some q (c.Enum e) n
bare_qualified q (c.Pointer t) n b = with_some q (c.Pointer t) n
bare_qualified q (c.Function r ps) n b = with_some q (c.Function r ps) n
bare_qualified q (c.Record k) n b = with_some q (c.Record k) n
bare_qualified q (c.Array t k) n b = cc
bare_qualified q (c.Flexible t) n b = cc
bare_qualified q (c.Named k t) n b = cc
bare_qualified q (c.Qualified p t) n b = cc

pub bare_unqualified : (t : CType) → is_bare t ≡ true → unqualified t ≡ t
bare_unqualified (c.Qualified p t) b = cc
bare_unqualified c.Void b = refl
bare_unqualified (c.Int kind) b = refl
bare_unqualified (c.Enum e) b = refl
bare_unqualified (c.Pointer t) b = refl
bare_unqualified (c.Function r ps) b = refl
bare_unqualified (c.Record k) b = refl
bare_unqualified (c.Array t k) b = refl
bare_unqualified (c.Flexible t) b = refl
bare_unqualified (c.Named k t) b = refl

parameters_fixed : (ts : List Term) (ps : List TypeId) → AreParameters ts ps → canonical_parameters (types_at ts ps) ≡ types_at ts ps
parameters_fixed ts [] a = refl
parameters_fixed ts (p ∷ ps) a = cc (ap unqualified a.0.fixed, a.1, parameters_fixed ts ps a.2)

-- the type of a term whose parts are roots is canonical
pub root_fixed : (ts : List Term) (t : Term) → IsRootTerm ts t → canonical (term_type ts t) ≡ term_type ts t
root_fixed ts m.Void r = refl
root_fixed ts (m.Int kind) r = refl
root_fixed ts (m.Enum e) r = refl
root_fixed ts (m.Pointer t) r = ap c.Pointer r.fixed
root_fixed ts (m.Array t n) r = ap (λ (u : CType). c.Array u n) r.fixed
root_fixed ts (m.Flexible t) r = ap c.Flexible r.fixed
root_fixed ts (m.Function t ps) r = cc (r.0.fixed, parameters_fixed ts ps r.1)
root_fixed ts (m.Record k) r = refl
root_fixed ts (m.Named n t) r = absurd r
root_fixed ts (m.Qualified q t) r = ap (qualify q) r.0.fixed ∙ bare_qualified q (type_at ts t.0) r.1 r.2

-- terms of roots with one type are the same
same_id : (ts : List Term) (x y : TypeId) → IsRoot ts x.0 → IsRoot ts y.0 → type_at ts x.0 ≡ type_at ts y.0 → x ≡ y
same_id ts x y a b e = ap (λ (n : ℕ). let i : TypeId = record { 0 = n } in i) (one_root ts x.0 y.0 a b e)

same_ids : (ts : List Term) (ps qs : List TypeId) → AreParameters ts ps → AreParameters ts qs → types_at ts ps ≡ types_at ts qs → ps ≡ qs
same_ids ts [] [] a b e = refl
same_ids ts [] (q ∷ qs) a b e = cc
same_ids ts (p ∷ ps) [] a b e = cc
same_ids ts (p ∷ ps) (q ∷ qs) a b e =
    let front : type_at ts p.0 ≡ type_at ts q.0 = cc in
    let rest : types_at ts ps ≡ types_at ts qs = cc in
    cc (same_id ts p q a.0 b.0 front, same_ids ts ps qs a.2 b.2 rest)

pub same_term : (ts : List Term) (t u : Term) → IsRootTerm ts t → IsRootTerm ts u → term_type ts t ≡ term_type ts u → t ≡ u
same_term ts m.Void m.Void a b e = refl
same_term ts (m.Int k) (m.Int l) a b e = cc
same_term ts (m.Enum k) (m.Enum l) a b e = cc
same_term ts (m.Record k) (m.Record l) a b e = cc
same_term ts (m.Pointer x) (m.Pointer y) a b e = let i : type_at ts x.0 ≡ type_at ts y.0 = cc in cc (same_id ts x y a b i)
same_term ts (m.Array x n) (m.Array y k) a b e = let i : type_at ts x.0 ≡ type_at ts y.0 = cc in cc (same_id ts x y a b i, e)
same_term ts (m.Flexible x) (m.Flexible y) a b e = let i : type_at ts x.0 ≡ type_at ts y.0 = cc in cc (same_id ts x y a b i)
same_term ts (m.Function x ps) (m.Function y qs) a b e =
    let i : type_at ts x.0 ≡ type_at ts y.0 = cc in
    let j : types_at ts ps ≡ types_at ts qs = cc in
    cc (same_id ts x y a.0 b.0 i, same_ids ts ps qs a.1 b.1 j)
same_term ts (m.Qualified p x) (m.Qualified q y) a b e = let i : type_at ts x.0 ≡ type_at ts y.0 = cc in cc (same_id ts x y a.0 b.0 i, e)
same_term ts (m.Named n x) u a b e = absurd a
same_term ts t (m.Named n x) a b e = absurd b
same_term ts t u a b e = cc

-- different terms have different keys
numbers_tell : (ps qs : List TypeId) → map (λ (p : TypeId). p.0) ps ≡ map (λ (p : TypeId). p.0) qs → ps ≡ qs
numbers_tell [] [] e = refl
numbers_tell [] (q ∷ qs) e = cc
numbers_tell (p ∷ ps) [] e = cc
numbers_tell (p ∷ ps) (q ∷ qs) e =
    let front : p.0 ≡ q.0 = cc in
    let rest : map (λ (p : TypeId). p.0) ps ≡ map (λ (p : TypeId). p.0) qs = cc in
    cc (ap (λ (n : ℕ). let i : TypeId = record { 0 = n } in i) front, numbers_tell ps qs rest)

pub kind_of : ℕ → IntKind
kind_of n = if n == 0 then k.Bool else if n == 1 then k.Char else if n == 2 then k.SChar else if n == 3 then k.UChar else if n == 4 then k.Short else if n == 5 then k.UShort else if n == 6 then k.Int else if n == 7 then k.UInt else if n == 8 then k.Long else if n == 9 then k.ULong else if n == 10 then k.LongLong else k.ULongLong

pub kind_back : (kind : IntKind) → kind_of (kind_number kind) ≡ kind
unfolding kind_of
kind_back k.Bool = refl
kind_back k.Char = refl
kind_back k.SChar = refl
kind_back k.UChar = refl
kind_back k.Short = refl
kind_back k.UShort = refl
kind_back k.Int = refl
kind_back k.UInt = refl
kind_back k.Long = refl
kind_back k.ULong = refl
kind_back k.LongLong = refl
kind_back k.ULongLong = refl

pub key_tells : (t u : Term) → key t ≡ key u → t ≡ u
key_tells m.Void m.Void e = refl
key_tells (m.Int k) (m.Int l) e = let i : kind_number k ≡ kind_number l = cc in ap m.Int (sym (kind_back k) ∙ ap kind_of i ∙ kind_back l)
key_tells (m.Enum k) (m.Enum l) e = cc
key_tells (m.Record k) (m.Record l) e = cc
key_tells (m.Pointer x) (m.Pointer y) e = let i : x.0 ≡ y.0 = cc in ap (λ (n : ℕ). let i : TypeId = record { 0 = n } in m.Pointer i) i
key_tells (m.Array x n) (m.Array y k) e = let i : x.0 ≡ y.0 = cc in let j : n ≡ k = cc in cc (ap (λ (n : ℕ). let i : TypeId = record { 0 = n } in i) i, j)
key_tells (m.Flexible x) (m.Flexible y) e = let i : x.0 ≡ y.0 = cc in ap (λ (n : ℕ). let i : TypeId = record { 0 = n } in m.Flexible i) i
key_tells (m.Function x ps) (m.Function y qs) e =
    let i : x.0 ≡ y.0 = cc in
    let j : map (λ (p : TypeId). p.0) ps ≡ map (λ (p : TypeId). p.0) qs = cc in
    cc (ap (λ (n : ℕ). let i : TypeId = record { 0 = n } in i) i, numbers_tell ps qs j)
key_tells (m.Named n x) (m.Named k y) e =
    let i : x.0 ≡ y.0 = cc in
    let j : n ≡ k = cc in
    cc (ap (λ (n : ℕ). let i : TypeId = record { 0 = n } in i) i, j)
key_tells (m.Qualified p x) (m.Qualified q y) e =
    let i : x.0 ≡ y.0 = cc in
    let j : p ≡ q = cc in
    cc (ap (λ (n : ℕ). let i : TypeId = record { 0 = n } in i) i, j)
key_tells t u e = cc
