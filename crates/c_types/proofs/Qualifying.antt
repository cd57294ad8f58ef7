-- Qualified arrays, and what a canonical type has of its type.
use Rattle.std.proofs.Common.{◌≡◌, ◌≢◌, ℕ, zero, suc, ◌+◌, ◌*◌, ◌<◌, ◌≤◌, List, [], ◌∷◌, ◌++◌, length, get_or, take, bit_or, Bool, true, false, if◌then◌else◌, ◌==◌, Option, refl, sym, ◌∙◌, ap, arith}
use Rattle.std.specs.Option.{option_map}
use Rattle.std.proofs.Math.Seq.{take-suc}
use Rattle.std.proofs.lemmas.Nat.{le_or_r}
use Rattle.c_types.specs.CTypes.{CType, CTypes, no_types, one_type, record_of, is_flexible, Void, Int, Enum, Pointer, Array, Flexible, Function, Record, Named, Qualified}
use Rattle.c_types.specs.Arrays.{is_array, element, with_element, IsPath, IsRaised}
use Rattle.c_types.specs.Canonical.{canonical, canonical_parameters, qualify, unqualified, with_qualifiers}
use Rattle.c_types.specs.Consts.{is_const, record_held}
use Rattle.c_types.specs.Facts.{IsFact}
use Rattle.c_types.specs.Layout.{size, align}
use Rattle.c_types.specs.Pointers.{contains_pointer}
use Rattle.c_types.specs.Roots.{IsRoot, AreRoots, AreParameters}
use Rattle.c_types.specs.Table.{type_at, types_at, AllBelow, Grows}
use Rattle.c_types.specs.declared.facts.Facts.{Facts}
use Rattle.c_types.specs.declared.records.Layout.{Layout}
use Rattle.c_types.specs.declared.terms.Term.{Term}
use Rattle.c_types.specs.declared.terms.TypeId.{TypeId}
use Rattle.c_types.proofs.Keeping.{root_up}

-- a function that does not see qualifiers sees none of those that an array's elements get
module _ {A : Type 0} (f : CType → A) (seen : (q : ℕ) (t : CType) → f (Qualified q t) ≡ f t) (array : (t u : CType) (n : ℕ) → f t ≡ f u → f (Array t n) ≡ f (Array u n)) (flexible : (t u : CType) → f t ≡ f u → f (Flexible t) ≡ f (Flexible u)) where
  with_same_by : (b : Bool) (q : ℕ) (t : CType) → f (if b then t else Qualified q t) ≡ f t
  with_same_by true q t = refl
  with_same_by false q t = seen q t

  with_same : (q : ℕ) (t : CType) → f (with_qualifiers q t) ≡ f t
  with_same q t = with_same_by (q == 0) q t

  pub qualify_same : (q : ℕ) (t : CType) → f (qualify q t) ≡ f t
  qualify_same q (Qualified p t) = seen _ t ∙ sym (seen p t)
  qualify_same q (Array t n) = array (qualify q t) t n (qualify_same q t)
  qualify_same q (Flexible t) = flexible (qualify q t) t (qualify_same q t)
  qualify_same q Void = with_same q Void
  qualify_same q (Int k) = with_same q (Int k)
  qualify_same q (Enum e) = with_same q (Enum e)
  qualify_same q (Pointer t) = with_same q (Pointer t)
  qualify_same q (Function r ps) = with_same q (Function r ps)
  qualify_same q (Record k) = with_same q (Record k)
  qualify_same q (Named n t) = with_same q (Named n t)

size_qualify : (rs : List (Option Layout)) (q : ℕ) (t : CType) → size rs (qualify q t) ≡ size rs t
size_qualify rs = qualify_same (size rs) (λ q t. refl) (λ t u n e. ap (option_map (λ s. n * s)) e) (λ t u e. refl)

align_qualify : (rs : List (Option Layout)) (q : ℕ) (t : CType) → align rs (qualify q t) ≡ align rs t
align_qualify rs = qualify_same (align rs) (λ q t. refl) (λ t u n e. e) (λ t u e. e)

pointer_qualify : (rs : List (Option Layout)) (q : ℕ) (t : CType) → contains_pointer rs (qualify q t) ≡ contains_pointer rs t
pointer_qualify rs = qualify_same (contains_pointer rs) (λ q t. refl) (λ t u n e. e) (λ t u e. e)

record_qualify : (q : ℕ) (t : CType) → record_of (qualify q t) ≡ record_of t
record_qualify = qualify_same record_of (λ q t. refl) (λ t u n e. refl) (λ t u e. refl)

flexible_qualify : (q : ℕ) (t : CType) → is_flexible (qualify q t) ≡ is_flexible t
flexible_qualify = qualify_same is_flexible (λ q t. refl) (λ t u n e. refl) (λ t u e. refl)

held_qualify : (q : ℕ) (t : CType) → record_held (qualify q t) ≡ record_held t
held_qualify = qualify_same record_held (λ q t. refl) (λ t u n e. e) (λ t u e. e)

-- the facts of a type are those of the qualified one, const aside
pub fact_qualify : (rs : List (Option Layout)) (q : ℕ) (t : CType) (f g : Facts) → IsFact rs t f → g.is_const ≡ is_const (qualify q t) → IsFact rs (qualify q t) (record f { is_const = g.is_const })
fact_qualify rs q t f g i e = record {
  record_is = i.record_is ∙ sym (record_qualify q t);
  flexible_is = i.flexible_is ∙ sym (flexible_qualify q t);
  size_is = λ later x. size_qualify later q t ∙ i.size_is later x;
  align_is = λ later x. align_qualify later q t ∙ i.align_is later x;
  pointer_is = λ later x. pointer_qualify later q t ∙ i.pointer_is later x;
  const_is = e;
  held_is = i.held_is ∙ sym (held_qualify q t);
  small = i.small;
}

pub size_canonical : (rs : List (Option Layout)) (t : CType) → size rs (canonical t) ≡ size rs t
size_canonical rs Void = refl
size_canonical rs (Int k) = refl
size_canonical rs (Enum e) = refl
size_canonical rs (Pointer t) = refl
size_canonical rs (Array t n) = ap (option_map (λ s. n * s)) (size_canonical rs t)
size_canonical rs (Flexible t) = refl
size_canonical rs (Function r ps) = refl
size_canonical rs (Record k) = refl
size_canonical rs (Named n t) = size_canonical rs t
size_canonical rs (Qualified q t) = size_qualify rs q (canonical t) ∙ size_canonical rs t

raised : (q : ℕ) (t : CType) → is_array t ≡ true → with_element t (qualify q (element t)) ≡ qualify q t
raised q (Array t n) a = refl
raised q (Flexible t) a = refl
raised q Void a = cc
raised q (Int k) a = cc
raised q (Enum e) a = cc
raised q (Pointer t) a = cc
raised q (Function r ps) a = cc
raised q (Record k) a = cc
raised q (Named n t) a = cc
raised q (Qualified p t) a = cc

pub raised_is : (q : ℕ) (t u : CType) → is_array t ≡ true → u ≡ qualify q (element t) → with_element t u ≡ qualify q t
raised_is q t u a e = ap (with_element t) e ∙ raised q t a

const_raised : (t u : CType) → is_array t ≡ true → is_const (with_element t u) ≡ is_const u
const_raised (Array t n) u a = refl
const_raised (Flexible t) u a = refl
const_raised Void u a = cc
const_raised (Int k) u a = cc
const_raised (Enum e) u a = cc
const_raised (Pointer t) u a = cc
const_raised (Function r ps) u a = cc
const_raised (Record k) u a = cc
const_raised (Named n t) u a = cc
const_raised (Qualified p t) u a = cc

pub fact_raised : (rs : List (Option Layout)) (q : ℕ) (t u : CType) (f g h : Facts) → is_array t ≡ true → u ≡ qualify q (element t) → IsFact rs t f → IsFact rs u g → h ≡ record f { is_const = g.is_const } → IsFact rs (with_element t u) h
fact_raised rs q t u f g h a e i j k =
    let is : with_element t u ≡ qualify q t = raised_is q t u a e in
    let known : g.is_const ≡ is_const (qualify q t) = j.const_is ∙ sym (const_raised t u a) ∙ ap is_const is in
    rw (k, is) (fact_qualify rs q t f g i known)

-- down one array more
pub path_more : (ts : List Term) (t : CType) (ls : List TypeId) (l : TypeId) (a b : CType) → IsPath ts t ls a → type_at ts l.0 ≡ a → is_array a ≡ true → b ≡ element a → IsPath ts t (ls ++ l ∷ []) b
path_more ts t [] l a b p at is e = (at ∙ p, let same : a ≡ t = p in rw same at is, e ∙ ap element p)
path_more ts t (x ∷ ls) l a b p at is e = (p.0, p.1, path_more ts (element t) ls l a b p.2 at is e)

pub path_raised : (ts : List Term) (q : ℕ) (t : CType) (ls : List TypeId) (a b : CType) → IsPath ts t ls a → b ≡ qualify q a → IsRaised ts q t ls b
path_raised ts q t [] a b p e = e ∙ ap (qualify q) p
path_raised ts q t (l ∷ ls) a b p e = (p.0, p.1, path_raised ts q (element t) ls a b p.2 e)

-- up one array
pub raised_last : (ts : List Term) (q : ℕ) (t : CType) (ls : List TypeId) (l : TypeId) (b : CType) → IsRaised ts q t (ls ++ l ∷ []) b → (is_array (type_at ts l.0) ≡ true) × (b ≡ qualify q (element (type_at ts l.0)))
raised_last ts q t [] l b r = let same : t ≡ type_at ts l.0 = sym r.0 in (rw same at r.1, rw same at r.2)
raised_last ts q t (x ∷ ls) l b r = raised_last ts q (element t) ls l b r.2

pub raised_up : (ts : List Term) (q : ℕ) (t : CType) (ls : List TypeId) (l : TypeId) (b d : CType) → IsRaised ts q t (ls ++ l ∷ []) b → d ≡ qualify q (type_at ts l.0) → IsRaised ts q t ls d
raised_up ts q t [] l b d r e = e ∙ ap (qualify q) r.0
raised_up ts q t (x ∷ ls) l b d r e = (r.0, r.1, raised_up ts q (element t) ls l b d r.2 e)

pub all_roots_more : (ts : List Term) (ls : List TypeId) (l : TypeId) → AreRoots ts ls → IsRoot ts l.0 → AreRoots ts (ls ++ l ∷ [])
all_roots_more ts [] l a b = (b, tt)
all_roots_more ts (x ∷ ls) l a b = (a.0, all_roots_more ts ls l a.1 b)

pub all_roots_front : (ts : List Term) (ls : List TypeId) (l : TypeId) → AreRoots ts (ls ++ l ∷ []) → AreRoots ts ls × IsRoot ts l.0
all_roots_front ts [] l a = (tt, a.0)
all_roots_front ts (x ∷ ls) l a = let r = all_roots_front ts ls l a.1 in ((a.0, r.0), r.1)

pub all_roots_up : (ts us : List Term) (ls : List TypeId) → Grows ts us → AreRoots ts ls → AreRoots us ls
all_roots_up ts us [] g a = tt
all_roots_up ts us (x ∷ ls) g a = (root_up ts us x.0 g a.0, all_roots_up ts us ls g a.1)

pub roots_below : (ts : List Term) (ls : List TypeId) → AreRoots ts ls → AllBelow (length ts) ls
roots_below ts [] a = tt
roots_below ts (x ∷ ls) a = (a.0.first.below, roots_below ts ls a.1)

pub all_below_more : (n : ℕ) (ls : List TypeId) (l : TypeId) → AllBelow n ls → l.0 < n → AllBelow n (ls ++ l ∷ [])
all_below_more n [] l a b = (b, tt)
all_below_more n (x ∷ ls) l a b = (a.0, all_below_more n ls l a.1 b)

pub all_below_front : (n : ℕ) (ls : List TypeId) (l : TypeId) → AllBelow n (ls ++ l ∷ []) → AllBelow n ls × (l.0 < n)
all_below_front n [] l a = (tt, a.0)
all_below_front n (x ∷ ls) l a = let r = all_below_front n ls l a.1 in ((a.0, r.0), r.1)

pub path_up : (ts us : List Term) (t : CType) (ls : List TypeId) (a : CType) → Grows ts us → AllBelow (length ts) ls → IsPath ts t ls a → IsPath us t ls a
path_up ts us t [] a g l p = p
path_up ts us t (x ∷ ls) a g l p = (g.same x.0 l.0 ∙ p.0, p.1, path_up ts us (element t) ls a g l.1 p.2)

pub all_below_up : (n k : ℕ) (ls : List TypeId) → n ≤ k → AllBelow n ls → AllBelow k ls
all_below_up n k [] h a = tt
all_below_up n k (x ∷ ls) h a = (let l = a.0 in omega arith, all_below_up n k ls h a.1)

pub all_below_at : (n : ℕ) (ls : List TypeId) (i : ℕ) (d : TypeId) → AllBelow n ls → i < length ls → (get_or ls i d).0 < n
all_below_at n [] i d a l = absurd (omega arith)
all_below_at n (x ∷ ls) zero d a l = a.0
all_below_at n (x ∷ ls) (suc i) d a l = all_below_at n ls i d a.1 (omega arith)

-- one parameter more
abbrev types_more : CTypes → CType → CTypes
types_more no_types t = one_type t no_types
types_more (one_type u us) t = one_type u (types_more us t)

types_at_more : (ts : List Term) (ps : List TypeId) (p : TypeId) → types_at ts (ps ++ p ∷ []) ≡ types_more (types_at ts ps) (type_at ts p.0)
types_at_more ts [] p = refl
types_at_more ts (q ∷ ps) p = ap (one_type (type_at ts q.0)) (types_at_more ts ps p)

canonical_more : (us : CTypes) (t : CType) → canonical_parameters (types_more us t) ≡ types_more (canonical_parameters us) (unqualified (canonical t))
canonical_more no_types t = refl
canonical_more (one_type u us) t = ap (one_type (unqualified (canonical u))) (canonical_more us t)

pub parameters_more : (ts : List Term) (ps : List TypeId) (p : TypeId) → AreParameters ts ps → IsRoot ts p.0 → unqualified (type_at ts p.0) ≡ type_at ts p.0 → AreParameters ts (ps ++ p ∷ [])
parameters_more ts [] p a r e = (r, e, tt)
parameters_more ts (q ∷ ps) p a r e = (a.0, a.1, parameters_more ts ps p a.2 r e)

pub parameters_step : (ts : List Term) (ps qs : List TypeId) (i : ℕ) (d q : TypeId) → i < length ps → types_at ts qs ≡ canonical_parameters (types_at ts (take i ps)) → type_at ts q.0 ≡ unqualified (canonical (type_at ts (get_or ps i d).0))
    → types_at ts (qs ++ q ∷ []) ≡ canonical_parameters (types_at ts (take (i + 1) ps))
parameters_step ts ps qs i d q l e f =
    let next : take (i + 1) ps ≡ take i ps ++ get_or ps i d ∷ [] = (let n : i + 1 ≡ suc i = omega arith in rw n (take-suc ps i d l)) in
    types_at_more ts qs q ∙ ap (λ (us : CTypes). types_more us (type_at ts q.0)) e ∙ ap (types_more (canonical_parameters (types_at ts (take i ps)))) f
    ∙ sym (canonical_more (types_at ts (take i ps)) (type_at ts (get_or ps i d).0)) ∙ ap canonical_parameters (sym (types_at_more ts (take i ps) (get_or ps i d))) ∙ ap (λ (ls : List TypeId). canonical_parameters (types_at ts ls)) (sym next)

-- qualifiers that are joined with others are some
pub joined_some : (q p : ℕ) → p ≢ 0 → bit_or q p ≢ 0
joined_some q p n e = n (let h = le_or_r q p in omega arith)
