-- What one entry of a list leaves, and what a whole initialiser leaves.
use Rattle.std.proofs.Common.{◌≡◌, ℕ, zero, suc, ◌<◌, ◌≤◌, ◌⊎◌, inl, inr, Bool, true, false, ◌&&◌, ◌||◌, not, if◌then◌else◌, List, [], ◌∷◌, ◌++◌, drop, Option, Some, None, Result, Ok, Err, IfOk, IfSome, is_some, bit_or, refl, sym, ap, subst, ◌∙◌, arith}
use Rattle.std.specs.Prelude.{nat_le}
use Rattle.std.proofs.lemmas.Bool.{leb-true}
use Rattle.std.proofs.lemmas.Bool.Decides.{nat_tests}
use Rattle.c_tree.specs.declared.operator.At.{At}
use Rattle.c_types.specs.CTypes.{CType, Void, Int, Enum, Pointer, Array, Flexible, Function, Record, Named, Qualified}
use Rattle.c_types.specs.Plain.{plain}
use Rattle.c_types.specs.Table.{type_at}
use Rattle.c_types.specs.declared.terms.Term.{Term}
use Rattle.c_types.specs.declared.terms.TypeId.{TypeId}
use Rattle.c_rules.specs.Initialisers.{Given, Givens, one, many, initialises, may_initialise}
use Rattle.c_rules.specs.Types.{decayed_from, is_record}
use Rattle.c_rules.specs.Typed.{Typed}
use Rattle.c_rules.specs.World.{World}
use Rattle.expression_rules.specs.declared.typed.Typed as r
use Rattle.expression_rules.specs.Typed.{typed_of}
use Rattle.initialiser_rules.specs.Entries.{Fit, fits_in, put, reads}
use Rattle.initialiser_rules.specs.Filling.{Left, filled, fits_of, left_at, scalar_filled}
use Rattle.initialiser_rules.specs.Steps.{ArePlaced, IsWhole, fit_alone, is_record_given, one_filled}
use Rattle.initialiser_rules.specs.declared.given.Entry.{Entry}
use Rattle.initialiser_rules.specs.declared.given.Entry.TheVariants as e
use Rattle.initialiser_rules.specs.declared.given.Fitted.{Fitted}
use Rattle.initialiser_rules.proofs.Reading.{IsFull, fits_more}

-- ---- an expression takes a type

abbrev pub with_one : List Fit → Fit → List Given → Option Left
with_one done f gs = Some (record { fits = done ++ f ∷ []; rest = gs })

pub put_leaves : (ts : List Term) (es : List Entry) (next : ℕ) (old new : List Fitted) (x : r.Typed) (at : At) (ty : TypeId)
    → new ≡ old ++ record { at = at; typed = x; ty = ty } ∷ []
    → left_at ts es new (Some next) ≡ with_one (fits_in ts old) (fit_alone at (typed_of ts x) (type_at ts ty.0)) (reads ts (drop next es))
put_leaves ts es next old new x at ty e =
    ap (λ (zs : List Fitted). left_at ts es zs (Some next)) e ∙ ap (λ (zs : List Fit). left zs) (fits_more ts old (record { at = at; typed = x; ty = ty }))
  where
    left : List Fit → Option Left
    left zs = Some (record { fits = zs; rest = reads ts (drop next es) })

pub filled_one : (w : World) (t : CType) (done : List Fit) (at : At) (x : Typed) (gs : List Given) → one_filled t done at x gs ≡ filled w t done (one at x ∷ gs)
unfolding filled
filled_one w t done at x gs = refl

-- ---- the braces of a scalar

pub scalar_zero : (t : CType) (n : ℕ) (done : List Fit) (gs : List Given) → n ≡ 0 → Some (record { fits = done; rest = gs }) ≡ scalar_filled t n done gs
unfolding scalar_filled
scalar_zero t zero done gs e = refl
scalar_zero t (suc n) done gs e = absurd (omega (arith, e))

pub scalar_end : (t : CType) (n : ℕ) (done : List Fit) (gs : List Given) → gs ≡ [] → Some (record { fits = done; rest = gs }) ≡ scalar_filled t n done gs
unfolding scalar_filled
scalar_end t zero done gs e = refl
scalar_end t (suc n) done [] e = refl
scalar_end t (suc n) done (g ∷ gs) e = absurd (cc)

pub scalar_many : (t : CType) (n m : ℕ) (done : List Fit) (hs : Givens) (gs : List Given) → n ≡ suc m → None ≡ scalar_filled t n done (many hs ∷ gs)
unfolding scalar_filled
scalar_many t n m done hs gs e = rw e refl

or_parts : (p q : Bool) → (p || q) ≡ true → (p ≡ true) ⊎ (q ≡ true)
or_parts true q e = inl refl
or_parts false q e = inr e

module _ (t : CType) (done : List Fit) (at : At) (x : Typed) (len next : ℕ) where
  pub scalar_alone : (n : ℕ) (gs : List Given) → 0 < n → (nat_le n 1 || nat_le len next) ≡ true → (len ≤ next → gs ≡ []) → with_one done (fit_alone at x t) gs ≡ scalar_filled t n done (one at x ∷ gs)
  unfolding scalar_filled
  scalar_alone zero gs h e f = absurd (omega arith)
  scalar_alone (suc zero) gs h e f = refl
  scalar_alone (suc (suc n)) [] h e f = refl
  scalar_alone (suc (suc n)) (g ∷ gs) h e f =
      absurd (elim (or_parts (nat_le (suc (suc n)) 1) (nat_le len next) e) [ inl p ↦ few (leb-true (suc (suc n)) 1 p) | inr p ↦ full (f (leb-true len next p)) ])
    where
      few : suc (suc n) ≤ 1 → ⊥
      few l = omega arith

      full : g ∷ gs ≡ [] → ⊥
      full q = cc

  pub scalar_crowded : (n : ℕ) (gs : List Given) → 0 < n → (nat_le n 1 || nat_le len next) ≡ false → (next < len → IsFull gs) → None ≡ scalar_filled t n done (one at x ∷ gs)
  unfolding scalar_filled
  scalar_crowded zero gs h e f = absurd (omega arith)
  scalar_crowded (suc zero) gs h e f = absurd (one_is e)
    where
      one_is : (nat_le 1 1 || nat_le len next) ≡ false → ⊥
      one_is q = cc
  scalar_crowded (suc (suc n)) [] h e f = absurd (f (beyond e))
    where
      beyond : (nat_le (suc (suc n)) 1 || nat_le len next) ≡ false → next < len
      beyond q = grind (arith, nat_tests)
  scalar_crowded (suc (suc n)) (g ∷ gs) h e f = refl

-- ---- a whole initialiser

some_by : (b : Bool) (l : Left) (zs : List Fit) (gs : List Given) → Some l ≡ (if b then Some (record { fits = zs; rest = gs }) else None) → (b ≡ true) × (l.fits ≡ zs)
some_by true l zs gs e = (refl, fits_by e)
  where
    fits_by : Some l ≡ Some (record { fits = zs; rest = gs }) → l.fits ≡ zs
    fits_by q = cc
some_by false l zs gs e = absurd (cc)

none_by : (b : Bool) (l : Left) → None ≡ (if b then Some l else None) → b ≡ false
none_by false l e = refl
none_by true l e = absurd (cc)

module _ (w : World) (t : CType) (g : Given) where
  pub whole_filled : (l : Left) (done : List Fit) → done ≡ [] → Some l ≡ filled w t done (g ∷ []) → (initialises w t g ≡ true) × (l.fits ≡ fits_of w t g)
  unfolding filled
  whole_filled l done d e = some_by (initialises w t g) l (fits_of w t g) [] (rw d at e)

  pub whole_not_filled : (done : List Fit) → None ≡ filled w t done (g ∷ []) → initialises w t g ≡ false
  unfolding filled
  whole_not_filled done e = none_by (initialises w t g) (record { fits = done ++ fits_of w t g; rest = [] }) e

  pub may_if : (is_fixed : Bool) → initialises w t g ≡ true → true ≡ may_initialise w is_fixed t g
  may_if is_fixed e = rw e refl

  pub may_whole : (is_fixed k : Bool) (gs : List Given) → gs ≡ g ∷ [] → initialises w t g ≡ false → IsWhole w is_fixed t k gs → k ≡ may_initialise w is_fixed t g
  may_whole is_fixed k gs e n h = rw n (rw e at h)

-- ---- where what was called gives no result, nothing is said

pub on_ok : {A E B : Type 0} (r : Result A E) (f : A → B) (a b : B) → a ≡ b → IfOk r (λ o. f o ≡ a) → IfOk r (λ o. f o ≡ b)
on_ok (Ok o) f a b e h = h ∙ e
on_ok (Err x) f a b e h = tt

pub on_ok_one : {E : Type 0} (r : Result (Option ℕ) E) (ts : List Term) (es : List Entry) (new : List Fitted) (next : ℕ) (w : World) (t : CType) (done : List Fit) (at : At) (x : Typed) (gs : List Given)
    → gs ≡ one at x ∷ reads ts (drop next es)
    → IfOk r (λ o. (es : List Entry) → left_at ts es new o ≡ one_filled t done at x (reads ts (drop next es)))
    → IfOk r (λ o. left_at ts es new o ≡ filled w t done gs)
on_ok_one (Ok o) ts es new next w t done at x gs e h = h es ∙ filled_one w t done at x (reads ts (drop next es)) ∙ ap (filled w t done) (sym e)
on_ok_one (Err y) ts es new next w t done at x gs e h = tt

pub some_of : {A : Type 0} (P : A → Type 0) (o : Option A) (a : A) → o ≡ Some a → IfSome o P → P a
some_of P o a e h = subst (λ (z : Option _). IfSome z P) e h

-- ---- a struct or union as a whole

record_from : (whole : CType) (q : ℕ) (t : CType) → plain whole ≡ plain t → is_record (plain t) ≡ is_record (plain (decayed_from whole q t))
record_from whole q (Named n t) e = record_from whole q t e
record_from whole q (Qualified p t) e = record_from whole (bit_or p q) t e
record_from whole q (Array t n) e = refl
record_from whole q (Flexible t) e = refl
record_from whole q (Function r ps) e = refl
record_from whole q Void e = ap is_record (sym e)
record_from whole q (Int k) e = ap is_record (sym e)
record_from whole q (Enum n) e = ap is_record (sym e)
record_from whole q (Pointer t) e = ap is_record (sym e)
record_from whole q (Record k) e = ap is_record (sym e)

pub whole_one : {A E : Type 0} (result : Result (Option A) E) (w : World) (is_fixed : Bool) (t : CType) (ts : List Term) (f : Entry) (at : At) (x : r.Typed) → f ≡ e.One at x
    → IfOk result (λ o. is_some o ≡ is_record_given is_fixed t (typed_of ts x))
    → IfOk result (λ o. (gs : List Given) → IsWhole w is_fixed t (is_some o) (put ts f gs))
whole_one (Ok o) w is_fixed t ts f at x q h =
    λ gs. subst (λ (z : Entry). IsWhole w is_fixed t (is_some o) (put ts z gs)) (sym q)
    (h ∙ ap (λ (b : Bool). not is_fixed && is_record (plain t) && b) (record_from (type_at ts x.ty.0) 0 (type_at ts x.ty.0) refl))
whole_one (Err y) w is_fixed t ts f at x q h = tt

module _ (w : World) (is_fixed : Bool) (t : CType) (ts : List Term) (f : Entry) (gs rs : List Given) (p : rs ≡ put ts f gs) where
  pub whole_is : {A E : Type 0} (r : Result (Option A) E) (done : List Fit) → None ≡ filled w t done rs
      → IfOk r (λ o. (gs : List Given) → IsWhole w is_fixed t (is_some o) (put ts f gs))
      → IfOk r (λ o. (g : Given) → rs ≡ g ∷ [] → is_some o ≡ may_initialise w is_fixed t g)
  whole_is (Ok o) done n h =
      λ g e. may_whole w t g is_fixed (is_some o) (put ts f gs) (sym p ∙ e) (whole_not_filled w t g done (n ∙ ap (filled w t done) e)) (h gs)
  whole_is (Err y) done n h = tt

  pub whole_fits : {E : Type 0} (r : Result (Option (List Fitted)) E)
      → IfOk r (λ o. IfSome o (λ fs. (gs : List Given) → ArePlaced w t (fits_in ts fs) (put ts f gs)))
      → IfOk r (λ o. IfSome o (λ fs. (g : Given) → rs ≡ g ∷ [] → fits_in ts fs ≡ fits_of w t g))
  whole_fits (Ok (Some fs)) h = λ g e. subst (λ (z : List Given). ArePlaced w t (fits_in ts fs) z) (sym p ∙ e) (h gs)
  whole_fits (Ok None) h = tt
  whole_fits (Err y) h = tt
