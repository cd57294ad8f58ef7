-- How far initialisers of a list go, one by one.
use Rattle.std.proofs.Common.{◌≡◌, ℕ, zero, suc, Bool, true, false, ◌&&◌, if◌then◌else◌, List, [], ◌∷◌, ◌++◌, take, drop, Option, Some, None, refl, sym, ap, subst, ◌∙◌}
use Rattle.c_types.specs.CTypes.{CType, Void, Int, Enum, Pointer, Array, Flexible, Function, Record, Named, Qualified}
use Rattle.c_types.specs.Plain.{plain}
use Rattle.c_rules.specs.Initialisers.{Given, Givens, one, many, Parts, each, listed, parts_of, has_part, first_part, other_parts, initialises, all_initialise}
use Rattle.c_rules.specs.Types.{is_scalar}
use Rattle.c_rules.specs.World.{World}
use Rattle.initialiser_rules.specs.Entries.{Fit, givens_of}
use Rattle.initialiser_rules.specs.Filling.{Left, all_filled, all_fits, filled, fits_of, scalar_filled}
use Rattle.initialiser_rules.specs.Steps.{First, first_in}
use Rattle.initialiser_rules.proofs.Pieces.{plain_plain}
use Rattle.initialiser_rules.proofs.Reading.{IsFull}

append_none : {A : Type 0} (xs : List A) → xs ++ [] ≡ xs
append_none [] = refl
append_none (x ∷ xs) = ap (λ zs. x ∷ zs) (append_none xs)

append_on : {A : Type 0} (xs ys zs : List A) → (xs ++ ys) ++ zs ≡ xs ++ (ys ++ zs)
append_on [] ys zs = refl
append_on (x ∷ xs) ys zs = ap (λ rs. x ∷ rs) (append_on xs ys zs)

-- ---- parts one by one

none_left : (w : World) (ps : Parts) (done : List Fit) (gs : List Given) → all_filled w ps 0 done gs ≡ Some (record { fits = done; rest = gs })
unfolding all_filled
none_left w ps done gs = ap (λ fs. Some (record { fits = fs; rest = gs })) (append_none done)

none_given : (w : World) (ps : Parts) (n : ℕ) (done : List Fit) → all_filled w ps n done [] ≡ Some (record { fits = done; rest = [] })
unfolding all_filled
none_given w ps zero done = ap (λ fs. Some (record { fits = fs; rest = [] })) (append_none done)
none_given w ps (suc n) done = ap (λ fs. Some (record { fits = fs; rest = [] })) (append_none done)

pub all_left : (w : World) (ps : Parts) (n : ℕ) (done : List Fit) (gs : List Given) → n ≡ 0 → Some (record { fits = done; rest = gs }) ≡ all_filled w ps n done gs
all_left w ps n done gs e = sym (ap (λ k. all_filled w ps k done gs) e ∙ none_left w ps done gs)

pub all_given : (w : World) (ps : Parts) (n : ℕ) (done : List Fit) (gs : List Given) → gs ≡ [] → Some (record { fits = done; rest = gs }) ≡ all_filled w ps n done gs
all_given w ps n done [] e = sym (none_given w ps n done)
all_given w ps n done (g ∷ gs) e = absurd (cc)

-- the first part, where there is one
has_first : (ps : Parts) (f : First) → first_in ps ≡ Some f → (has_part ps ≡ true) × (f ≡ record { type = first_part ps; rest = other_parts ps })
unfolding first_in
has_first (each zero t) f e = absurd (cc)
has_first (each (suc n) t) f e = (refl, cc)
has_first (listed []) f e = absurd (cc)
has_first (listed (t ∷ ts)) f e = (refl, cc)

has_none : (ps : Parts) → first_in ps ≡ None → has_part ps ≡ false
unfolding first_in
has_none (each zero t) e = refl
has_none (each (suc n) t) e = absurd (cc)
has_none (listed []) e = refl
has_none (listed (t ∷ ts)) e = absurd (cc)

pub no_part : (w : World) (ps : Parts) (n m : ℕ) (done : List Fit) (gs : List Given) → n ≡ suc m → IsFull gs → first_in ps ≡ None → all_filled w ps n done gs ≡ None
unfolding all_filled
no_part w ps n m done [] l h e = absurd h
no_part w ps n m done (g ∷ gs) l h e = rw (l, has_none ps e) refl

-- what a test of the first initialiser leaves
abbrev left_of : List Fit → List Given → Left
left_of fs gs = record { fits = fs; rest = gs }

abbrev tested : Bool → List Fit → List Given → Option Left
tested b fs gs = if b then Some (left_of fs gs) else None

-- the parts of the first one and of the others are tried in turn
step_by : (h b : Bool) (done fs : List Fit) (gs : List Given) (l : Left) (c : List Given → Bool) (more : List Given → List Fit) (rest : List Given → List Given)
    → h ≡ true → tested b (done ++ fs) gs ≡ Some l
    → tested (h && true && b && c gs) (done ++ (fs ++ more gs)) (rest gs) ≡ tested (c l.rest) (l.fits ++ more l.rest) (rest l.rest)
step_by false b done fs gs l c more rest p e = absurd (cc)
step_by true false done fs gs l c more rest p e = absurd (cc)
step_by true true done fs gs l c more rest p e =
    let q : left_of (done ++ fs) gs ≡ l = cc in
    subst (λ (z : Left). tested (c gs) (done ++ (fs ++ more gs)) (rest gs) ≡ tested (c z.rest) (z.fits ++ more z.rest) (rest z.rest)) q
    (ap (λ (zs : List Fit). tested (c gs) zs (rest gs)) (sym (append_on done fs (more gs))))

none_by : (h b c : Bool) (fs zs : List Fit) (gs hs : List Given) → tested b fs gs ≡ None → tested (h && true && b && c) zs hs ≡ None
none_by false b c fs zs gs hs e = refl
none_by true false c fs zs gs hs e = refl
none_by true true c fs zs gs hs e = absurd (cc)

module _ (w : World) (ps : Parts) (m : ℕ) (done : List Fit) where
  some_with : (gs : List Given) (l : Left) → has_part ps ≡ true
      → filled w (first_part ps) done gs ≡ Some l → all_filled w ps (suc m) done gs ≡ all_filled w (other_parts ps) m l.fits l.rest
  unfolding filled all_filled
  some_with [] l hp e = absurd (cc)
  some_with (g ∷ gs) l hp e =
      step_by (has_part ps) (initialises w (first_part ps) g) done (fits_of w (first_part ps) g) gs l
      (λ hs. all_initialise w false (other_parts ps) (givens_of (take m hs)))
      (λ hs. all_fits w (other_parts ps) (givens_of (take m hs)))
      (λ hs. drop m hs) hp e

  pub some_filled : (n : ℕ) (gs : List Given) (f : First) (l : Left) → n ≡ suc m → first_in ps ≡ Some f
      → filled w f.type done gs ≡ Some l → all_filled w ps n done gs ≡ all_filled w f.rest m l.fits l.rest
  some_filled n gs f l q h e =
      let p = has_first ps f h in
      ap (λ k. all_filled w ps k done gs) q
      ∙ some_with gs l p.0 (subst (λ (x : First). filled w x.type done gs ≡ Some l) p.1 e)
      ∙ ap (λ (x : First). all_filled w x.rest m l.fits l.rest) (sym p.1)

  none_with : (gs : List Given) → IsFull gs → filled w (first_part ps) done gs ≡ None → all_filled w ps (suc m) done gs ≡ None
  unfolding filled all_filled
  none_with [] full e = absurd full
  none_with (g ∷ gs) full e =
      none_by (has_part ps) (initialises w (first_part ps) g) (all_initialise w false (other_parts ps) (givens_of (take m gs)))
      (done ++ fits_of w (first_part ps) g) (done ++ (fits_of w (first_part ps) g ++ all_fits w (other_parts ps) (givens_of (take m gs)))) gs (drop m gs) e

  pub none_filled : (n : ℕ) (gs : List Given) (f : First) → n ≡ suc m → IsFull gs → first_in ps ≡ Some f → filled w f.type done gs ≡ None → all_filled w ps n done gs ≡ None
  none_filled n gs f q full h e =
      let p = has_first ps f h in
      ap (λ k. all_filled w ps k done gs) q ∙ none_with gs full (subst (λ (x : First). filled w x.type done gs ≡ None) p.1 e)

-- ---- braces

pub scalar_parts : (w : World) (t : CType) → is_scalar t ≡ true → parts_of w t ≡ each 1 t
scalar_parts w (Int k) e = refl
scalar_parts w (Enum n) e = refl
scalar_parts w (Pointer t) e = refl
scalar_parts w Void e = absurd (cc)
scalar_parts w (Array t n) e = absurd (cc)
scalar_parts w (Flexible t) e = absurd (cc)
scalar_parts w (Function r ps) e = absurd (cc)
scalar_parts w (Record k) e = absurd (cc)
scalar_parts w (Named n t) e = absurd (cc)
scalar_parts w (Qualified q t) e = absurd (cc)

-- what braces leave that hold such parts, of a scalar or not
abbrev braced : World → CType → (in_scalar : Bool) → Parts → List Fit → Givens → List Given → Option Left
braced w t b ps done gs rest = tested (all_initialise w b ps gs) (done ++ all_fits w (if b then each 1 t else ps) gs) rest

in_each : (w : World) (t : CType) (n : ℕ) (done : List Fit) (gs : List Given) → is_scalar (plain (plain t)) ≡ true
    → braced w t true (each 1 (plain t)) done (givens_of (take n gs)) (drop n gs) ≡ scalar_filled t n done gs
unfolding scalar_filled
in_each w t zero done gs e = ap (λ (fs : List Fit). tested true fs gs) (append_none done)
in_each w t (suc n) done [] e = ap (λ (fs : List Fit). tested true fs []) (append_none done)
in_each w t (suc n) done (many hs ∷ gs) e = refl
in_each w t (suc zero) done (one at x ∷ gs) e = rw e refl
in_each w t (suc (suc n)) done (one at x ∷ []) e = rw e refl
in_each w t (suc (suc n)) done (one at x ∷ g ∷ gs) e = rw e refl

module _ (w : World) (t : CType) (n : ℕ) (done : List Fit) (gs : List Given) where
  in_braces : filled w t done (many (givens_of (take n gs)) ∷ drop n gs) ≡ braced w t (is_scalar (plain t)) (parts_of w (plain t)) done (givens_of (take n gs)) (drop n gs)
  unfolding filled
  in_braces = refl

  pub in_scalar : is_scalar (plain t) ≡ true → filled w t done (many (givens_of (take n gs)) ∷ drop n gs) ≡ scalar_filled t n done gs
  in_scalar e =
      in_braces
      ∙ ap (λ b. braced w t b (parts_of w (plain t)) done (givens_of (take n gs)) (drop n gs)) e
      ∙ ap (λ ps. braced w t true ps done (givens_of (take n gs)) (drop n gs)) (scalar_parts w (plain t) e)
      ∙ in_each w t n done gs (ap is_scalar (plain_plain t) ∙ e)

  pub in_others : is_scalar (plain t) ≡ false → filled w t done (many (givens_of (take n gs)) ∷ drop n gs) ≡ all_filled w (parts_of w (plain t)) n done gs
  unfolding all_filled
  in_others e = in_braces ∙ ap (λ b. braced w t b (parts_of w (plain t)) done (givens_of (take n gs)) (drop n gs)) e
