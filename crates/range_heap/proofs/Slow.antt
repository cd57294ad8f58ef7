-- An interval is clear of the live blocks just where all entries of the history pass it.
use Rattle.std.proofs.Common.{zero, suc, ◌≡◌, ◌≢◌, ◌⊎◌, ⊎_elim, inl, inr, ℕ, Bool, true, false, cond, nat_eq, List, [], ◌∷◌, drop, refl, sym, ap, ◌∙◌, subst}
use Rattle.std.specs.Prelude.{◌||◌}
use Rattle.std.proofs.lemmas.Bool.Decides.{eqb_tells}
use Rattle.range_heap.specs.declared.call.HeapCall.{HeapCall}
use Rattle.range_heap.specs.declared.call.HeapEvent.{HeapEvent}
use Rattle.range_heap.specs.declared.call.HeapEvent.TheVariants.{Grant, Refuse, Release}
use Rattle.range_heap.specs.Blocks.{Block, without, blocks_after, blocks_from, live_blocks, IsClear}
use Rattle.range_heap.specs.Plain.{releases, released, IsApart, Passes, AllPass}

-- each of these blocks is released later or stays apart
abbrev Kept : ℕ → ℕ → List Block → List HeapCall → Type 0
Kept at n [] h = Unit {0}
Kept at n (b ∷ bs) h = ((released b.place h ≡ true) ⊎ IsApart at n b.place b.size) × Kept at n bs h

true_or : (x y : Bool) → x ≡ true → (x || y) ≡ true
true_or x y e = ap (λ b. b || y) e

false_or : (x y : Bool) → x ≡ false → (x || y) ≡ y
false_or x y e = ap (λ b. b || y) e

kept_none : (at n : ℕ) (bs : List Block) → IsClear bs at n → Kept at n bs []
kept_none at n [] c = tt
kept_none at n (b ∷ bs) c = (inr c.0, kept_none at n bs c.1)

clear_none : (at n : ℕ) (bs : List Block) → Kept at n bs [] → IsClear bs at n
clear_none at n [] k = tt
clear_none at n (b ∷ bs) k = (⊎_elim (λ (e : false ≡ true). absurd (cc)) (λ a. a) k.0, clear_none at n bs k.1)

-- a later release of another place changes nothing, and one of this place drops the block
kept_without : (at n q : ℕ) (bs : List Block) (e : HeapCall) (es : List HeapCall) → e.what ≡ Release q → Kept at n (without q bs) es → Kept at n bs (e ∷ es)
kept_without at n q [] e es is k = tt
kept_without at n q (b ∷ bs) e es is k = ⊎_elim
    (λ (x : (nat_eq b.place q ≡ true) × (b.place ≡ q)). (
      inl (true_or (releases b.place e.what) (released b.place es) (ap (λ w. releases b.place w) is ∙ same q b.place (sym x.1))),
      kept_without at n q bs e es is (subst (λ (t : Bool). Kept at n (cond t (without q bs) (b ∷ without q bs)) es) x.0 k),
    ))
    (λ (x : (nat_eq b.place q ≡ false) × (b.place ≢ q)).
    let j : Kept at n (b ∷ without q bs) es = subst (λ (t : Bool). Kept at n (cond t (without q bs) (b ∷ without q bs)) es) x.0 k in (
      ⊎_elim (λ (r : released b.place es ≡ true). inl (false_or (releases b.place e.what) (released b.place es) (ap (λ w. releases b.place w) is ∙ other q b.place (λ f. x.1 (sym f))) ∙ r)) (λ a. inr a) j.0,
      kept_without at n q bs e es is j.1,
    ))
    (eqb_tells b.place q)
  where
    same : (p q : ℕ) → p ≡ q → nat_eq p q ≡ true
    same p q f = ⊎_elim (λ (x : (nat_eq p q ≡ true) × (p ≡ q)). x.0) (λ (x : (nat_eq p q ≡ false) × (p ≢ q)). absurd (x.1 f)) (eqb_tells p q)

    other : (p q : ℕ) → p ≢ q → nat_eq p q ≡ false
    other p q f = ⊎_elim (λ (x : (nat_eq p q ≡ true) × (p ≡ q)). absurd (f x.1)) (λ (x : (nat_eq p q ≡ false) × (p ≢ q)). x.0) (eqb_tells p q)

without_kept : (at n q : ℕ) (bs : List Block) (e : HeapCall) (es : List HeapCall) → e.what ≡ Release q → Kept at n bs (e ∷ es) → Kept at n (without q bs) es
without_kept at n q [] e es is k = tt
without_kept at n q (b ∷ bs) e es is k = ⊎_elim
    (λ (x : (nat_eq b.place q ≡ true) × (b.place ≡ q)).
    subst (λ (t : Bool). Kept at n (cond t (without q bs) (b ∷ without q bs)) es) (sym x.0) (without_kept at n q bs e es is k.1))
    (λ (x : (nat_eq b.place q ≡ false) × (b.place ≢ q)).
    subst (λ (t : Bool). Kept at n (cond t (without q bs) (b ∷ without q bs)) es) (sym x.0) (
      ⊎_elim (λ (r : released b.place (e ∷ es) ≡ true). inl (sym (false_or (releases b.place e.what) (released b.place es) (ap (λ w. releases b.place w) is ∙ other q b.place (λ f. x.1 (sym f)))) ∙ r)) (λ a. inr a) k.0,
      without_kept at n q bs e es is k.1,
    ))
    (eqb_tells b.place q)
  where
    other : (p q : ℕ) → p ≢ q → nat_eq p q ≡ false
    other p q f = ⊎_elim (λ (x : (nat_eq p q ≡ true) × (p ≡ q)). absurd (f x.1)) (λ (x : (nat_eq p q ≡ false) × (p ≢ q)). x.0) (eqb_tells p q)

-- an entry that releases nothing
kept_past : (at n : ℕ) (bs : List Block) (e : HeapCall) (es : List HeapCall) → ((p : ℕ) → releases p e.what ≡ false) → Kept at n bs es → Kept at n bs (e ∷ es)
kept_past at n [] e es f k = tt
kept_past at n (b ∷ bs) e es f k = (⊎_elim (λ (r : released b.place es ≡ true). inl (false_or (releases b.place e.what) (released b.place es) (f b.place) ∙ r)) (λ a. inr a) k.0, kept_past at n bs e es f k.1)

past_kept : (at n : ℕ) (bs : List Block) (e : HeapCall) (es : List HeapCall) → ((p : ℕ) → releases p e.what ≡ false) → Kept at n bs (e ∷ es) → Kept at n bs es
past_kept at n [] e es f k = tt
past_kept at n (b ∷ bs) e es f k = (⊎_elim (λ (r : released b.place (e ∷ es) ≡ true). inl (sym (false_or (releases b.place e.what) (released b.place es) (f b.place)) ∙ r)) (λ a. inr a) k.0, past_kept at n bs e es f k.1)

step_in : (at n : ℕ) (bs : List Block) (w : HeapEvent) (e : HeapCall) (es : List HeapCall) → e.what ≡ w → Kept at n bs (e ∷ es) → Passes at n w es → Kept at n (blocks_after bs w) es
step_in at n bs (Grant size place) e es is k p = (p, past_kept at n bs e es (λ q. ap (λ w. releases q w) is) k)
step_in at n bs (Refuse size) e es is k p = past_kept at n bs e es (λ q. ap (λ w. releases q w) is) k
step_in at n bs (Release place) e es is k p = without_kept at n place bs e es is k

step_out : (at n : ℕ) (bs : List Block) (w : HeapEvent) (e : HeapCall) (es : List HeapCall) → e.what ≡ w → Kept at n (blocks_after bs w) es → Kept at n bs (e ∷ es) × Passes at n w es
step_out at n bs (Grant size place) e es is k = (kept_past at n bs e es (λ q. ap (λ w. releases q w) is) k.1, k.0)
step_out at n bs (Refuse size) e es is k = (kept_past at n bs e es (λ q. ap (λ w. releases q w) is) k, tt)
step_out at n bs (Release place) e es is k = (kept_without at n place bs e es is k, tt)

all_in : (at n : ℕ) (bs : List Block) (h : List HeapCall) → Kept at n bs h → AllPass at n h → IsClear (blocks_from bs h) at n
all_in at n bs [] k p = clear_none at n bs k
all_in at n bs (e ∷ es) k p = all_in at n (blocks_after bs e.what) es (step_in at n bs e.what e es refl k p.0) p.1

all_out : (at n : ℕ) (bs : List Block) (h : List HeapCall) → IsClear (blocks_from bs h) at n → Kept at n bs h × AllPass at n h
all_out at n bs [] c = (kept_none at n bs c, tt)
all_out at n bs (e ∷ es) c =
    let r = all_out at n (blocks_after bs e.what) es c in
    let s = step_out at n bs e.what e es refl r.0 in
    (s.0, (s.1, r.1))

pub clear_where_all_pass : (at n : ℕ) (h : List HeapCall) → AllPass at n h → IsClear (live_blocks h) at n
clear_where_all_pass at n h p = all_in at n [] h tt p

pub all_pass_where_clear : (at n : ℕ) (h : List HeapCall) → IsClear (live_blocks h) at n → AllPass at n h
all_pass_where_clear at n h c = (all_out at n [] h c).1

pub pass_drop : (at n i : ℕ) (h : List HeapCall) → AllPass at n h → AllPass at n (drop i h)
pass_drop at n zero h p = p
pass_drop at n (suc i) [] p = tt
pass_drop at n (suc i) (e ∷ es) p = pass_drop at n i es p.1
