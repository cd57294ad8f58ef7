-- What a list of parts holds, and what was found of it.
use Rattle.std.proofs.Common.{◌≡◌, ℕ, zero, suc, ◌+◌, ◌<◌, ◌≤◌, List, [], ◌∷◌, ◌++◌, length, take, drop, get_or, refl, sym, ap, subst, ◌∙◌, arith}
use Rattle.c_tree.specs.declared.operator.At.{At}
use Rattle.c_types.specs.declared.terms.Term.{Term}
use Rattle.c_types.specs.Table.{Table}
use Rattle.c_rules.specs.Initialisers.{Given, one, many}
use Rattle.c_world.specs.Extends.{Extends}
use Rattle.expression_rules.specs.declared.typed.Typed as r
use Rattle.expression_rules.specs.Typed.{typed_of}
use Rattle.initialiser_rules.specs.Entries.{givens_of, put, reads, EntryBelow, AllBelow, fit_of, fits_in, FitBelow, FitsBelow}
use Rattle.initialiser_rules.specs.declared.given.Entry.{Entry}
use Rattle.initialiser_rules.specs.declared.given.Entry.TheVariants as e
use Rattle.initialiser_rules.specs.declared.given.Fitted.{Fitted}

-- ---- the part at a place

pub read_get : (ts : List Term) (es : List Entry) (i : ℕ) (p : Entry) → i < length es → p ≡ get_or es i p → reads ts (drop i es) ≡ put ts p (reads ts (drop (i + 1) es))
unfolding reads
read_get ts [] i p h e = absurd (omega arith)
read_get ts (q ∷ qs) zero p h e = ap (λ (z : Entry). put ts z (reads ts qs)) (sym e)
read_get ts (q ∷ qs) (suc i) p h e = let n : suc i + 1 ≡ suc (i + 1) = omega arith in rw n (read_get ts qs i p (omega arith) e)

module _ (ts : List Term) (es : List Entry) (i : ℕ) (p : Entry) (h : i < length es) (is : p ≡ get_or es i p) where
  pub read_one : (at : At) (x : r.Typed) → p ≡ e.One at x → reads ts (drop i es) ≡ one at (typed_of ts x) ∷ reads ts (drop (i + 1) es)
  read_one at x q = read_get ts es i p h is ∙ ap (λ (z : Entry). put ts z (reads ts (drop (i + 1) es))) q

  pub read_many : (n : ℕ) → p ≡ e.Many n → reads ts (drop i es) ≡ many (givens_of (take n (reads ts (drop (i + 1) es)))) ∷ drop n (reads ts (drop (i + 1) es))
  read_many n q = read_get ts es i p h is ∙ ap (λ (z : Entry). put ts z (reads ts (drop (i + 1) es))) q

pub read_end : (ts : List Term) (es : List Entry) (i : ℕ) → length es ≤ i → reads ts (drop i es) ≡ []
unfolding reads
read_end ts [] zero h = refl
read_end ts [] (suc i) h = refl
read_end ts (q ∷ qs) zero h = absurd (omega arith)
read_end ts (q ∷ qs) (suc i) h = read_end ts qs i (omega arith)

pub not_read : (ts : List Term) (es : List Entry) (g : Given) → length es ≤ 0 → reads ts es ≡ g ∷ [] → ⊥
not_read ts es g h e = let q : [] ≡ g ∷ [] = sym (read_end ts es 0 h) ∙ e in cc

abbrev pub IsFull : List Given → Type 0
IsFull [] = ⊥
IsFull (g ∷ gs) = Unit {0}

put_full : (ts : List Term) (p : Entry) (gs : List Given) → IsFull (put ts p gs)
put_full ts (e.One at x) gs = tt
put_full ts (e.Many n) gs = tt

pub read_full : (ts : List Term) (es : List Entry) (i : ℕ) → i < length es → IsFull (reads ts (drop i es))
unfolding reads
read_full ts [] i h = absurd (omega arith)
read_full ts (q ∷ qs) zero h = put_full ts q (reads ts qs)
read_full ts (q ∷ qs) (suc i) h = read_full ts qs i (omega arith)

below_get : (n : ℕ) (es : List Entry) (i : ℕ) (p : Entry) → i < length es → p ≡ get_or es i p → AllBelow n es → EntryBelow n p
below_get n [] i p h e v = absurd (omega arith)
below_get n (q ∷ qs) zero p h e v = subst (λ (z : Entry). EntryBelow n z) (sym e) v.0
below_get n (q ∷ qs) (suc i) p h e v = below_get n qs i p (omega arith) e v.1

pub below_one : (n : ℕ) (es : List Entry) (i : ℕ) (p : Entry) (at : At) (x : r.Typed) → i < length es → p ≡ get_or es i p → p ≡ e.One at x → AllBelow n es → x.ty.0 < n
below_one n es i p at x h is q v = subst (λ (z : Entry). EntryBelow n z) q (below_get n es i p h is v)

-- ---- what was found

pub fits_more : (ts : List Term) (fs : List Fitted) (f : Fitted) → fits_in ts (fs ++ f ∷ []) ≡ fits_in ts fs ++ fit_of ts f ∷ []
fits_more ts [] f = refl
fits_more ts (g ∷ gs) f = ap (λ zs. fit_of ts g ∷ zs) (fits_more ts gs f)

pub fits_below_more : (n : ℕ) (fs : List Fitted) (f : Fitted) → FitsBelow n fs → FitBelow n f → FitsBelow n (fs ++ f ∷ [])
fits_below_more n [] f v h = (h, tt)
fits_below_more n (g ∷ gs) f v h = (v.0, fits_below_more n gs f v.1 h)

pub fits_below_put : (n : ℕ) (old new : List Fitted) (f : Fitted) → new ≡ old ++ f ∷ [] → FitsBelow n old → FitBelow n f → FitsBelow n new
fits_below_put n old new f e v h = subst (λ (zs : List Fitted). FitsBelow n zs) (sym e) (fits_below_more n old f v h)

-- ---- over a table that has grown

typed_same : (s t : Table) → Extends s t → (x : r.Typed) → x.ty.0 < length s.terms → typed_of t.terms x ≡ typed_of s.terms x
typed_same s t e x h = ap (λ u. record { type = u; is_lvalue = x.is_lvalue; value = x.value; is_null = x.is_null; address = x.address; text = x.text }) (e.grows.same x.ty.0 h)

pub fit_same : (s t : Table) → Extends s t → (f : Fitted) → FitBelow (length s.terms) f → fit_of t.terms f ≡ fit_of s.terms f
fit_same s t e f v = rw (typed_same s t e f.typed v.0, e.grows.same f.ty.0 v.1) refl

pub fits_same : (s t : Table) → Extends s t → (fs : List Fitted) → FitsBelow (length s.terms) fs → fits_in t.terms fs ≡ fits_in s.terms fs
fits_same s t e [] v = refl
fits_same s t e (f ∷ fs) v = cc (fit_same s t e f v.0, fits_same s t e fs v.1)

pub fit_up : (n m : ℕ) (f : Fitted) → n ≤ m → FitBelow n f → FitBelow m f
fit_up n m f l v = let a = v.0 in let b = v.1 in (omega arith, omega arith)

pub fits_up : (n m : ℕ) (fs : List Fitted) → n ≤ m → FitsBelow n fs → FitsBelow m fs
fits_up n m [] l v = tt
fits_up n m (f ∷ fs) l v = (fit_up n m f l v.0, fits_up n m fs l v.1)
