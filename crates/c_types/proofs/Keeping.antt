-- What a push and a cut keep of the roots.
use Rattle.std.proofs.Common.{◌≡◌, false, ◌≢◌, inl, inr, ℕ, zero, suc, ◌<◌, ◌≤◌, List, [], ◌∷◌, ◌++◌, take, drop, length, Option, Some, None, Result, Ok, Err, IfOk, IfNone, OnOk, OnErr, slice_get, get_or, refl, sym, ◌∙◌, ap, arith, subst, length-append, append_assoc, rules}
use Rattle.std.proofs.lemmas.List.{take-append-drop, length-take}
use Rattle.std.proofs.Math.Seq.{take-length, take-append_seam}
use Rattle.tok_base.specs.declared.list.NoMemory.{NoMemory}
use Rattle.c_types.specs.CTypes.{CType}
use Rattle.c_types.specs.Canonical.{canonical}
use Rattle.c_types.specs.Keys.{key}
use Rattle.c_types.specs.Roots.{IsRoot, IsCanonical, IsRootTerm, AreParameters, AreFound, IsFresh}
use Rattle.c_types.specs.Sameness.{IsFirst}
use Rattle.c_types.specs.Table.{Table, type_at, types_at, term_type, Grows, IsLonger, PartsBelow, AllBelow, AreOrdered, AreOrderedFrom}
use Rattle.c_types.specs.Shapes.{AreShapes}
use Rattle.c_types.specs.declared.facts.Facts.{Facts}
use Rattle.c_types.specs.declared.facts.Shape.{Shape}
use Rattle.c_types.specs.declared.records.Layout.{Layout}
use Rattle.c_types.specs.declared.terms.Term.{Term}
use Rattle.c_types.specs.declared.terms.TypeId.{TypeId}
use Rattle.c_types.specs.declared.terms.Term.TheVariants as m
use Rattle.c_types.proofs.Growing.{grows_more, grows_self, grows_on, at_more, at_term, parts_term}
use Rattle.c_types.proofs.Rooting.{root_fixed, same_term, key_tells, one_root}
use Rattle.c_types.proofs.Sounding.{AreFacts, get_more, get_last, type_last, within}

-- at a number below a length there is an item
pub present : {A : Type 0} (xs : List A) (i : ℕ) (d : A) → i < length xs → slice_get xs i ≡ Some (get_or xs i d)
present [] i d l = absurd (omega arith)
present (x ∷ xs) zero d l = refl
present (x ∷ xs) (suc i) d l = present xs i d (omega arith)

got : {A : Type 0} (xs : List A) (i : ℕ) (x : A) → slice_get xs i ≡ Some x → get_or xs i x ≡ x
got [] i x e = refl
got (y ∷ ys) zero x e = cc
got (y ∷ ys) (suc i) x e = got ys i x e

pub at_get : (ts : List Term) (i : ℕ) (t : Term) → slice_get ts i ≡ Some t → AreOrdered ts → type_at ts i ≡ term_type ts t
at_get ts i t e o = at_term ts i t (within ts i t e) o ∙ ap (term_type ts) (got ts i t e)

pub parts_get : (ts : List Term) (i : ℕ) (t : Term) → slice_get ts i ≡ Some t → AreOrdered ts → PartsBelow i t
parts_get ts i t e o = subst (PartsBelow i) (got ts i t e) (parts_term ts i t (within ts i t e) o)

-- a table that grows

pub first_up : (a b : List Term) (t : CType) (i : ℕ) → Grows a b → IsFirst a t i → IsFirst b t i
first_up a b t i g f = record {
  below = let l = f.below in let m = g.longer in omega arith;
  is = g.same i f.below ∙ f.is;
  first = λ j l e. f.first j l (sym (g.same j (let m = f.below in omega arith)) ∙ e);
}

pub first_down : (a b : List Term) (t : CType) (i : ℕ) → Grows a b → i < length a → IsFirst b t i → IsFirst a t i
first_down a b t i g below f = record {
  below = below;
  is = sym (g.same i below) ∙ f.is;
  first = λ j l e. f.first j l (g.same j (omega arith) ∙ e);
}

pub root_up : (a b : List Term) (r : ℕ) → Grows a b → IsRoot a r → IsRoot b r
root_up a b r g x =
    let e : type_at b r ≡ type_at a r = g.same r x.first.below in
    record { first = rw e (first_up a b (type_at a r) r g x.first); fixed = rw e x.fixed }

pub root_down : (a b : List Term) (r : ℕ) → Grows a b → r < length a → IsRoot b r → IsRoot a r
root_down a b r g below x =
    let e : type_at a r ≡ type_at b r = sym (g.same r below) in
    record { first = rw e (first_down a b (type_at b r) r g below x.first); fixed = rw e x.fixed }

pub canonical_up : (a b : List Term) (i r : ℕ) → Grows a b → i < length a → IsCanonical a i r → IsCanonical b i r
canonical_up a b i r g below x = record {
  below = x.below;
  is = g.same r x.root.first.below ∙ x.is ∙ ap canonical (sym (g.same i below));
  root = root_up a b r g x.root;
}

pub canonical_down : (a b : List Term) (i r : ℕ) → Grows a b → i < length a → IsCanonical b i r → IsCanonical a i r
canonical_down a b i r g below x =
    let l : r < length a = let m = x.below in omega arith in
    record {
      below = x.below;
      is = sym (g.same r l) ∙ x.is ∙ ap canonical (g.same i below);
      root = root_down a b r g l x.root;
    }

parameters_up : (a b : List Term) (ps : List TypeId) → Grows a b → AreParameters a ps → AreParameters b ps
parameters_up a b [] g x = tt
parameters_up a b (p ∷ ps) g x =
    let e : type_at b p.0 ≡ type_at a p.0 = g.same p.0 x.0.first.below in
    (root_up a b p.0 g x.0, rw e x.1, parameters_up a b ps g x.2)

pub root_term_up : (a b : List Term) (t : Term) → Grows a b → IsRootTerm a t → IsRootTerm b t
root_term_up a b m.Void g x = tt
root_term_up a b (m.Int kind) g x = tt
root_term_up a b (m.Enum e) g x = tt
root_term_up a b (m.Pointer t) g x = root_up a b t.0 g x
root_term_up a b (m.Array t n) g x = root_up a b t.0 g x
root_term_up a b (m.Flexible t) g x = root_up a b t.0 g x
root_term_up a b (m.Function t ps) g x = (root_up a b t.0 g x.0, parameters_up a b ps g x.1)
root_term_up a b (m.Record k) g x = tt
root_term_up a b (m.Named n t) g x = absurd x
root_term_up a b (m.Qualified q t) g x =
    let e : type_at b t.0 ≡ type_at a t.0 = g.same t.0 x.0.first.below in
    (root_up a b t.0 g x.0, x.1, rw e x.2)

parameters_down : (a b : List Term) (ps : List TypeId) → Grows a b → AllBelow (length a) ps → AreParameters b ps → AreParameters a ps
parameters_down a b [] g l x = tt
parameters_down a b (p ∷ ps) g l x =
    let e : type_at a p.0 ≡ type_at b p.0 = sym (g.same p.0 l.0) in
    (root_down a b p.0 g l.0 x.0, rw e x.1, parameters_down a b ps g l.1 x.2)

pub root_term_down : (a b : List Term) (t : Term) → Grows a b → PartsBelow (length a) t → IsRootTerm b t → IsRootTerm a t
root_term_down a b m.Void g l x = tt
root_term_down a b (m.Int kind) g l x = tt
root_term_down a b (m.Enum e) g l x = tt
root_term_down a b (m.Pointer t) g l x = root_down a b t.0 g l x
root_term_down a b (m.Array t n) g l x = root_down a b t.0 g l x
root_term_down a b (m.Flexible t) g l x = root_down a b t.0 g l x
root_term_down a b (m.Function t ps) g l x = (root_down a b t.0 g l.0 x.0, parameters_down a b ps g l.1 x.1)
root_term_down a b (m.Record k) g l x = tt
root_term_down a b (m.Named n t) g l x = absurd x
root_term_down a b (m.Qualified q t) g l x =
    let e : type_at a t.0 ≡ type_at b t.0 = sym (g.same t.0 l) in
    (root_down a b t.0 g l x.0, x.1, rw e x.2)

parameters_below : (ts : List Term) (ps : List TypeId) → AreParameters ts ps → AllBelow (length ts) ps
parameters_below ts [] x = tt
parameters_below ts (p ∷ ps) x = (x.0.first.below, parameters_below ts ps x.2)

pub root_term_below : (ts : List Term) (t : Term) → IsRootTerm ts t → PartsBelow (length ts) t
root_term_below ts m.Void x = tt
root_term_below ts (m.Int kind) x = tt
root_term_below ts (m.Enum e) x = tt
root_term_below ts (m.Pointer t) x = x.first.below
root_term_below ts (m.Array t n) x = x.first.below
root_term_below ts (m.Flexible t) x = x.first.below
root_term_below ts (m.Function t ps) x = (x.0.first.below, parameters_below ts ps x.1)
root_term_below ts (m.Record k) x = tt
root_term_below ts (m.Named n t) x = absurd x
root_term_below ts (m.Qualified q t) x = x.0.first.below

all_weaker : (k n : ℕ) (ps : List TypeId) → k ≤ n → AllBelow k ps → AllBelow n ps
all_weaker k n [] l x = tt
all_weaker k n (p ∷ ps) l x = (let h = x.0 in omega arith, all_weaker k n ps l x.1)

pub parts_weaker : (k n : ℕ) (t : Term) → k ≤ n → PartsBelow k t → PartsBelow n t
parts_weaker k n m.Void l x = tt
parts_weaker k n (m.Int kind) l x = tt
parts_weaker k n (m.Enum e) l x = tt
parts_weaker k n (m.Pointer t) l x = omega arith
parts_weaker k n (m.Array t j) l x = omega arith
parts_weaker k n (m.Flexible t) l x = omega arith
parts_weaker k n (m.Function t ps) l x = (let h = x.0 in omega arith, all_weaker k n ps l x.1)
parts_weaker k n (m.Record j) l x = tt
parts_weaker k n (m.Named s t) l x = omega arith
parts_weaker k n (m.Qualified q t) l x = omega arith

pub types_up : (a b : List Term) (ps : List TypeId) → Grows a b → AllBelow (length a) ps → types_at b ps ≡ types_at a ps
types_up a b [] g l = refl
types_up a b (p ∷ ps) g l = cc (g.same p.0 l.0, types_up a b ps g l.1)

pub term_up : (a b : List Term) (t : Term) → Grows a b → PartsBelow (length a) t → term_type b t ≡ term_type a t
term_up a b m.Void g l = refl
term_up a b (m.Int kind) g l = refl
term_up a b (m.Enum e) g l = refl
term_up a b (m.Pointer t) g l = cc (g.same t.0 l)
term_up a b (m.Array t n) g l = cc (g.same t.0 l)
term_up a b (m.Flexible t) g l = cc (g.same t.0 l)
term_up a b (m.Function t ps) g l = cc (g.same t.0 l.0, types_up a b ps g l.1)
term_up a b (m.Record k) g l = refl
term_up a b (m.Named n t) g l = cc (g.same t.0 l)
term_up a b (m.Qualified q t) g l = cc (g.same t.0 l)

-- a type that is no root before is one behind

pub missing : (ts : List Term) (shapes : List Shape) (find : List ℕ → Option ℕ) (t : Term) → AreOrdered ts → length shapes ≡ length ts → AreShapes ts shapes → AreFound ts find
    → IsFresh ts t → IsRootTerm ts t → (j : ℕ) → j < length ts → type_at ts j ≢ term_type ts t
missing ts shapes find t o long are found fresh x j l e =
    let d : TypeId = record { 0 = 0 } in
    let n : Shape = record { root = d; ints = d; plain = d; qualifiers = 0; spelled = record { length = 0; takes_space = false } } in
    let s : Shape = get_or shapes j n in
    let r : TypeId = s.root in
    let c : IsCanonical ts j r.0 = (are j s (present shapes j n (omega arith))).root in
    let u : Term = get_or ts r.0 t in
    let at : slice_get ts r.0 ≡ Some u = present ts r.0 t c.root.first.below in
    let type_is : type_at ts r.0 ≡ term_type ts t = c.is ∙ ap canonical e ∙ root_fixed ts t x in
    let same : u ≡ t = same_term ts u t (found r.0 u at c.root).0 x (sym (at_get ts r.0 u at o) ∙ type_is) in
    fresh r.0 c.root (rw same at at)

pub new_root : (ts : List Term) (t : Term) → IsRootTerm ts t → ((j : ℕ) → j < length ts → type_at ts j ≢ term_type ts t) → IsCanonical (ts ++ t ∷ []) (length ts) (length ts)
new_root ts t x none =
    let here : type_at (ts ++ t ∷ []) (length ts) ≡ term_type ts t = at_more ts t in
    let fixed : canonical (type_at (ts ++ t ∷ []) (length ts)) ≡ type_at (ts ++ t ∷ []) (length ts) = rw here (root_fixed ts t x) in
    record {
      below = omega arith;
      is = sym fixed;
      root = record {
        first = record {
          below = omega (arith, length-append ts (t ∷ []));
          is = refl;
          first = λ j l e. none j l (sym ((grows_more ts t).same j l) ∙ e ∙ here);
        };
        fixed = fixed;
      };
    }

-- a type behind its root is none
pub no_root : (ts : List Term) (t : Term) (r : ℕ) → IsRoot ts r → type_at ts r ≡ canonical (term_type ts t) → IsRoot (ts ++ t ∷ []) (length ts) → ⊥
no_root ts t r x e y =
    let here : type_at (ts ++ t ∷ []) (length ts) ≡ term_type ts t = at_more ts t in
    let fixed : canonical (term_type ts t) ≡ term_type ts t = rw here at y.fixed in
    y.first.first r x.first.below ((grows_more ts t).same r x.first.below ∙ e ∙ fixed ∙ sym here)

pub behind : (ts : List Term) (t : Term) (r : ℕ) → IsRoot ts r → type_at ts r ≡ canonical (term_type ts t) → IsCanonical (ts ++ t ∷ []) (length ts) r
behind ts t r x e = record {
  below = let l = x.first.below in omega arith;
  is = (grows_more ts t).same r x.first.below ∙ e ∙ ap canonical (sym (at_more ts t));
  root = root_up ts (ts ++ t ∷ []) r (grows_more ts t) x;
}

pub found_push : (ts : List Term) (find more : List ℕ → Option ℕ) (t : Term) → AreFound ts find → more (key t) ≡ Some (length ts) → ((other : List ℕ) → other ≢ key t → more other ≡ find other)
    → IsFresh ts t → (IsRoot (ts ++ t ∷ []) (length ts) → IsRootTerm ts t) → AreFound (ts ++ t ∷ []) more
found_push ts find more t all here others fresh root r u e x = elim (get_more ts t u r e) [
  | inl p ↦
      let old : IsRoot ts r = root_down ts (ts ++ t ∷ []) r (grows_more ts t) p.0 x in
      let was = all r u p.1 old in
      let other : key u ≢ key t = λ h. fresh r old (let s : u ≡ t = key_tells u t h in rw s at p.1) in
      (root_term_up ts (ts ++ t ∷ []) u (grows_more ts t) was.0, others (key u) other ∙ was.1)
  | inr p ↦
      let y : IsRoot (ts ++ t ∷ []) (length ts) = rw p.0 at x in
      let is : IsRootTerm (ts ++ t ∷ []) t = root_term_up ts (ts ++ t ∷ []) t (grows_more ts t) (root y) in
      (subst (IsRootTerm (ts ++ t ∷ [])) p.1 is, ap (λ (u : Term). more (key u)) (sym p.1) ∙ here ∙ ap Some (sym p.0))
]

-- where no type is found by a key, no root has it

pub fresh_none : (ts : List Term) (find : List ℕ → Option ℕ) (k : List ℕ) → AreFound ts find → find k ≡ None → (t : Term) → key t ≡ k → IsFresh ts t
fresh_none ts find k all none t e r x at = let some : find (key t) ≡ Some r = (all r t at x).1 in let one = rw e at some in cc

pub fresh_some : (ts : List Term) (find : List ℕ → Option ℕ) (k : List ℕ) (n : ℕ) → AreFound ts find → find k ≡ Some n → ((t : Term) → slice_get ts n ≡ Some t → key t ≢ k) → (t : Term) → key t ≡ k → IsFresh ts t
fresh_some ts find k n all is apart t e r x at =
    let some : find (key t) ≡ Some r = (all r t at x).1 in
    let one : find k ≡ Some r = rw e at some in
    let same : n ≡ r = cc in
    apart t (rw same at) e

pub none_from : {P Q : Type 0} (r : Result (Option TypeId) NoMemory) → (P → Q) → IfOk r (λ o. IfNone o P) → IfOk r (λ o. IfNone o Q)
none_from (Ok None) f x = f x
none_from (Ok (Some id)) f x = tt
none_from (Err e) f x = tt

-- a type that has the term's key leads to the root that has the term
pub found_root : (ts : List Term) (find : List ℕ → Option ℕ) (t : Term) (i r : ℕ) → AreOrdered ts → AreFound ts find → IsRootTerm ts t → i < length ts → ((u : Term) → slice_get ts i ≡ Some u → key u ≡ key t) → IsCanonical ts i r
    → (slice_get ts r ≡ Some t) × (type_at ts r ≡ term_type ts t)
found_root ts find t i r o all x l k c =
    let u : Term = get_or ts i t in
    let at : slice_get ts i ≡ Some u = present ts i t l in
    let same : u ≡ t = key_tells u t (k u at) in
    let is : type_at ts r ≡ term_type ts t = c.is ∙ ap canonical (at_get ts i u at o ∙ ap (term_type ts) same) ∙ root_fixed ts t x in
    let v : Term = get_or ts r t in
    let there : slice_get ts r ≡ Some v = present ts r t c.root.first.below in
    let one : v ≡ t = same_term ts v t (all r v there c.root).0 x (sym (at_get ts r v there o) ∙ is) in
    (rw one at there, is)

pub key_term : (ts : List Term) (t : Term) (i : ℕ) → i < length ts → ((u : Term) → slice_get ts i ≡ Some u → key u ≡ key t) → slice_get ts i ≡ Some t
key_term ts t i l k = let at : slice_get ts i ≡ Some (get_or ts i t) = present ts i t l in at ∙ ap Some (key_tells (get_or ts i t) t (k (get_or ts i t) at))

-- only the root of a term's type can have the term
pub fresh_behind : (ts : List Term) (t : Term) (root : ℕ) → AreOrdered ts → IsRoot ts root → type_at ts root ≡ canonical (term_type ts t) → (slice_get ts root ≡ Some t → ⊥) → IsFresh ts t
fresh_behind ts t root o x e not r y at =
    let is : type_at ts r ≡ term_type ts t = at_get ts r t at o in
    let same : r ≡ root = one_root ts r root y x (sym y.fixed ∙ ap canonical is ∙ sym e) in
    not (rw same at at)

-- the same numbers are found
pub found_same : (ts : List Term) (find more : List ℕ → Option ℕ) → AreFound ts find → ((k : List ℕ) → more k ≡ find k) → AreFound ts more
found_same ts find more all same r t e x = let was = all r t e x in (was.0, same (key t) ∙ was.1)

-- what a cut keeps

grows_append : (xs ys : List Term) → Grows xs (xs ++ ys)
grows_append xs [] = let e : xs ++ [] ≡ xs = search rules in rw e (grows_self xs)
grows_append xs (y ∷ ys) = let e : xs ++ y ∷ ys ≡ (xs ++ y ∷ []) ++ ys = sym (append_assoc xs (y ∷ []) ys) in rw e (grows_on xs (xs ++ y ∷ []) ((xs ++ y ∷ []) ++ ys) (grows_more xs y) (grows_append (xs ++ y ∷ []) ys))

pub grows_take : (n : ℕ) (ts : List Term) → Grows (take n ts) ts
grows_take n ts = subst (λ (xs : List Term). Grows (take n ts) xs) (take-append-drop n ts) (grows_append (take n ts) (drop n ts))

pub get_take : {A : Type 0} (n : ℕ) (xs : List A) (i : ℕ) (x : A) → slice_get (take n xs) i ≡ Some x → slice_get xs i ≡ Some x
get_take zero xs i x e = cc
get_take (suc n) [] i x e = cc
get_take (suc n) (y ∷ ys) zero x e = e
get_take (suc n) (y ∷ ys) (suc i) x e = get_take n ys i x e

cut_from : (k n : ℕ) (ts : List Term) → AreOrderedFrom k ts → AreOrderedFrom k (take n ts)
cut_from k zero ts o = tt
cut_from k (suc n) [] o = tt
cut_from k (suc n) (t ∷ ts) o = (o.0, cut_from (suc k) n ts o.1)

pub cut_ordered : (n : ℕ) (ts : List Term) → AreOrdered ts → AreOrdered (take n ts)
cut_ordered n ts o = cut_from 0 n ts o

pub cut_long : {A B : Type 0} (n : ℕ) (xs : List A) (ys : List B) → length xs ≡ length ys → length (take n xs) ≡ length (take n ys)
cut_long n xs ys e = omega (arith, length-take n xs, length-take n ys)

pub cut_facts : (bodies : List (Option Layout)) (n : ℕ) (ts : List Term) (facts : List Facts) → length facts ≡ length ts → AreFacts bodies ts facts → AreFacts bodies (take n ts) (take n facts)
cut_facts bodies n ts facts long all i f e =
    let below : i < length (take n ts) = let l = within (take n facts) i f e in omega (arith, cut_long n facts ts long) in
    let same : type_at (take n ts) i ≡ type_at ts i = sym ((grows_take n ts).same i below) in
    rw same (all i f (get_take n facts i f e))

pub cut_found : (n : ℕ) (ts : List Term) (find : List ℕ → Option ℕ) → AreOrdered ts → AreFound ts find → AreFound (take n ts) find
cut_found n ts find o all r t e x =
    let at : slice_get ts r ≡ Some t = get_take n ts r t e in
    let was = all r t at (root_up (take n ts) ts r (grows_take n ts) x) in
    let parts : PartsBelow (length (take n ts)) t = parts_weaker r (length (take n ts)) t (let l = x.first.below in omega arith) (parts_get ts r t at o) in
    (root_term_down (take n ts) ts t (grows_take n ts) parts was.0, was.1)

-- tables with more terms

pub longer_self : (a : Table) → IsLonger a a
longer_self a = record { grows = grows_self a.terms; records = refl; layouts = refl; members = refl; enums = refl }

pub longer_on : (a b d : Table) → IsLonger a b → IsLonger b d → IsLonger a d
longer_on a b d x y = record {
  grows = grows_on a.terms b.terms d.terms x.grows y.grows;
  records = y.records ∙ x.records;
  layouts = y.layouts ∙ x.layouts;
  members = y.members ∙ x.members;
  enums = y.enums ∙ x.enums;
}

pub longer_push : (old new : Table) (t : Term) → new ≡ record old { terms = old.terms ++ t ∷ [] } → IsLonger old new
longer_push old new t e = rw e (record { grows = grows_more old.terms t; records = refl; layouts = refl; members = refl; enums = refl })

pub cut_back : (old new : Table) → IsLonger old new → record new { terms = take (length old.terms) new.terms } ≡ old
cut_back old new l = rw (l.grows.front, l.records, l.layouts, l.members, l.enums) refl

-- what a push says

module _ {E : Type 0} (old new : Table) (t : Term) where
  pub pushed_term : (r : Result TypeId E) → IfOk r (λ id. id.0 ≡ length old.terms) → OnOk r (new ≡ record old { terms = old.terms ++ t ∷ [] }) → IfOk r (λ id. slice_get new.terms id.0 ≡ Some t)
  pushed_term (Ok id) n e = let g : new.terms ≡ old.terms ++ t ∷ [] = ap (λ (x : Table). x.terms) e in get_last old.terms new.terms t id.0 g n
  pushed_term (Err x) n e = tt

  pub pushed_is : (r : Result TypeId E) → IfOk r (λ id. id.0 ≡ length old.terms) → OnOk r (new ≡ record old { terms = old.terms ++ t ∷ [] }) → IfOk r (λ id. type_at new.terms id.0 ≡ term_type old.terms t)
  pushed_is (Ok id) n e = let g : new.terms ≡ old.terms ++ t ∷ [] = ap (λ (x : Table). x.terms) e in type_last old.terms new.terms t id.0 g n
  pushed_is (Err x) n e = tt

  pub pushed_root : (r : Result TypeId E) → IsRoot (old.terms ++ t ∷ []) (length old.terms) → IfOk r (λ id. id.0 ≡ length old.terms) → OnOk r (new ≡ record old { terms = old.terms ++ t ∷ [] }) → IfOk r (λ id. IsRoot new.terms id.0)
  pushed_root (Ok id) x n e = let g : new.terms ≡ old.terms ++ t ∷ [] = ap (λ (x : Table). x.terms) e in rw (g, n) x
  pushed_root (Err y) x n e = tt

  pub pushed_longer : (r : Result TypeId E) → OnOk r (new ≡ record old { terms = old.terms ++ t ∷ [] }) → OnErr r (new ≡ old) → IsLonger old new
  pushed_longer (Ok id) e f = longer_push old new t e
  pushed_longer (Err x) e f = rw f (longer_self old)
