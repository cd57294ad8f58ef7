-- There is a lowest place that fits, or none fits.
use Rattle.std.proofs.Common.{◌≡◌, ◌⊎◌, ⊎_elim, inl, inr, ℕ, zero, suc, ◌+◌, ◌%◌, ◌<◌, ◌≤◌, List, [], ◌∷◌, subst, arith}
use Rattle.std.proofs.lemmas.Bool.{cases_lt}
use Rattle.std.proofs.lemmas.Bool.Decides.{eqb_tells}
use Rattle.range_heap.specs.declared.call.HeapCall.{HeapCall}
use Rattle.range_heap.specs.declared.call.HeapEvent.TheVariants as event
use Rattle.range_heap.specs.Blocks.{Block, IsClear, rounded, live_blocks}
use Rattle.range_heap.specs.History.{Region, FitsAt, MayFollow}

abbrev Known : Type 0 → Type 0
Known P = P ⊎ (P → ⊥)

both : {P Q : Type 0} → Known P → Known Q → Known (P × Q)
both a b = ⊎_elim (λ p. ⊎_elim (λ q. inl (p, q)) (λ no. inr (λ x. no x.1)) b) (λ no. inr (λ x. no x.0)) a

either : {P Q : Type 0} → Known P → Known Q → Known (P ⊎ Q)
either a b = ⊎_elim (λ p. inl (inl p)) (λ no. ⊎_elim (λ q. inl (inr q)) (λ no'. inr (λ x. ⊎_elim no no' x)) b) a

equal : (a b : ℕ) → Known (a ≡ b)
equal a b = ⊎_elim (λ x. inl x.1) (λ x. inr x.1) (eqb_tells a b)

below : (a b : ℕ) → Known (a ≤ b)
below a b = ⊎_elim (λ lt. inr (λ le. omega arith)) (λ le. inl le) (cases_lt b a)

clear : (bs : List Block) (at n : ℕ) → Known (IsClear bs at n)
clear [] at n = inl tt
clear (b ∷ bs) at n = both (either (below (at + n) b.place) (below (b.place + rounded b.size) at)) (clear bs at n)

fits : (r : Region) (done : List HeapCall) (size place : ℕ) → Known (FitsAt r done size 16 place)
fits r done size place =
    ⊎_elim
    (λ a. ⊎_elim (λ b. ⊎_elim (λ c. ⊎_elim (λ d. inl (record { multiple = a; aligned = a; above = b; within = c; clear = d })) (λ no. inr (λ x. no x.clear)) (clear (live_blocks done) place (rounded size))) (λ no. inr (λ x. no x.within)) (below (place + rounded size) (r.first + r.size))) (λ no. inr (λ x. no x.above)) (below r.first place))
    (λ no. inr (λ x. no x.multiple))
    (equal (place % 16) 0)

module _ (P : ℕ → Type 0) (known : (n : ℕ) → Known (P n)) where
  least : (n : ℕ) → ((p : ℕ) × P p × ((q : ℕ) → q < p → P q → ⊥)) ⊎ ((q : ℕ) → q < n → P q → ⊥)
  least zero = inr (λ q lt x. absurd (omega arith))
  least (suc n) = ⊎_elim (λ found. inl found) (λ none. ⊎_elim (λ yes. inl (n, yes, none)) (λ no. inr (λ q lt x. ⊎_elim (λ less. none q less x) (λ le. no (subst P (let e : q ≡ n = omega arith in e) x)) (cases_lt q n))) (known n)) (least n)

-- what answers a request: a grant of the lowest place that fits, or a refusal
pub lowest : (r : Region) (done : List HeapCall) (size : ℕ) → ((p : ℕ) × MayFollow r done (event.Grant size p)) ⊎ MayFollow r done (event.Refuse size)
lowest r done size =
    ⊎_elim
    (λ found. inl (found.0, (found.1, found.2)))
    (λ none. inr (λ place x. ⊎_elim (λ less. none place less x) (λ le. beyond place (r.first + r.size) (rounded size) x.within le) (cases_lt place (r.first + r.size + 1))))
    (least (FitsAt r done size 16) (fits r done size) (r.first + r.size + 1))
  where
    beyond : (a b n : ℕ) → a + n ≤ b → b + 1 ≤ a → ⊥
    beyond a b n h k = omega arith
