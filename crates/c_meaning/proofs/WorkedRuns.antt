-- Two worked logs are logs of runs.
use Rattle.std.proofs.Common.{◌≡◌, ⊎_elim, inr, ℕ, Bool, true, false, List, [], ◌∷◌, ◌++◌, refl, sym, ap, subst, arith, ◌∙◌}
use Rattle.std.specs.Prelude.{nat_eq, if◌then◌else◌}
use Rattle.std.proofs.lemmas.Bool.Decides.{eqb_tells}
use Rattle.range_heap.specs.declared.call.HeapCall.{HeapCall}
use Rattle.range_heap.specs.declared.call.HeapEvent.TheVariants as event
use Rattle.range_heap.specs.History.{Region, region, MayFollow, Legal, call_of}
use Rattle.c_meaning.specs.Run.{Alloc, Site, Token}
use Rattle.c_meaning.specs.Log.{ranges_of}
use Rattle.c_meaning.specs.MoreExamples.{RunExamples}

abbrev calls : List HeapCall
calls = call_of 0 (event.Grant 0 16777216) ∷ call_of 0 (event.Grant 16 16777232) ∷ call_of 0 (event.Refuse 1) ∷ []

abbrev range : Region
range = region 16777216 32

first : MayFollow range [] (event.Grant 0 16777216)
first = (
  record { multiple = refl; aligned = refl; above = omega arith; within = omega arith; clear = tt },
  λ below lt x. let a = x.above in let z : ⊥ = omega (arith, a, lt) in z,
)

second : MayFollow range (call_of 0 (event.Grant 0 16777216) ∷ []) (event.Grant 16 16777232)
second = (
  record { multiple = refl; aligned = refl; above = omega arith; within = omega arith; clear = (inr (omega arith), tt) },
  λ below lt x. let a = x.above in ⊎_elim (λ h. let z : ⊥ = omega (arith, a, h) in z) (λ h. let z : ⊥ = omega (arith, lt, h) in z) x.clear.0,
)

third : MayFollow range (call_of 0 (event.Grant 0 16777216) ∷ call_of 0 (event.Grant 16 16777232) ∷ []) (event.Refuse 1)
third place x =
    let a = x.above in
    let b = x.within in
    ⊎_elim
    (λ h. ⊎_elim (λ k. let z : ⊥ = omega (arith, a, k) in z) (λ k. let z : ⊥ = omega (arith, h, k) in z) x.clear.1.0)
    (λ h. let z : ⊥ = omega (arith, b, h) in z)
    x.clear.0

filled_at : (r : Region) (b : Bool) → (b ≡ true → r ≡ range)
    → Legal r ((if b then call_of 0 (event.Grant 0 16777216) ∷ [] else []) ++ ((if b then call_of 0 (event.Grant 16 16777232) ∷ [] else []) ++ ((if b then call_of 0 (event.Refuse 1) ∷ [] else []) ++ [])))
filled_at r true h = subst (λ (r : Region). Legal r calls) (sym (h refl)) (first, (second, (third, tt)))
filled_at r false h = tt

same_from : (a b : ℕ) → nat_eq a b ≡ true → a ≡ b
same_from a b h = ⊎_elim (λ (x : (nat_eq a b ≡ true) × (a ≡ b)). x.1) (λ (x : (nat_eq a b ≡ false) × (a ≡ b → ⊥)). absurd (let f : false ≡ true = sym x.0 ∙ h in cc)) (eqb_tells a b)

refused_at : (r : Region) (b : Bool) → (b ≡ true → r ≡ region 0 0) → Legal r ((if b then call_of 0 (event.Refuse 16) ∷ [] else []) ++ [])
refused_at r true h = subst (λ (r : Region). Legal r (call_of 0 (event.Refuse 16) ∷ [])) (sym (h refl)) ((λ place x. let a = x.within in let z : ⊥ = omega (arith, a) in z), tt)
refused_at r false h = tt

pub run_examples : RunExamples
run_examples = record {
  filled = record {
    requests = Alloc (Site 0) 0 16 ∷ Alloc (Site 1) 16 16 ∷ Alloc (Site 2) 1 16 ∷ [];
    means = refl;
    matches = (refl, refl, refl, (refl, refl, refl, (refl, refl, refl, tt)));
    legal = λ t. filled_at (ranges_of 1 32 t) (nat_eq 0 t) (λ e. sym (ap (ranges_of 1 32) (same_from 0 t e)));
  };
  without_range = record {
    requests = Alloc (Token 5) 16 16 ∷ [];
    means = refl;
    matches = (refl, refl, refl, tt);
    legal = λ t. refused_at (ranges_of 1 32 t) (nat_eq 5 t) (λ e. sym (ap (ranges_of 1 32) (same_from 5 t e)));
  };
}
