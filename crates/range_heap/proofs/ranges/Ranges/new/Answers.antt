use Rattle.std.proofs.Common.{◌≡◌, ⊎_elim, ℕ, ◌+◌, ◌*◌, ◌/◌, ◌%◌, ◌<◌, ◌≤◌, List, [], ◌∷◌, ◌++◌, length, get_or, subst, sym, ap, ◌∙◌, arith}
use Rattle.std.proofs.lemmas.Bool.{cases_lt}
use Rattle.std.proofs.lemmas.List.{get_or_append_left, get_or_at, length-append}
use Rattle.range_heap.specs.Seen.{Kept}
use Rattle.range_heap.specs.Ranges.{range_first}
use Rattle.range_heap.proofs.ranges.Ranges.new.Goals as goal

multiple : (t size : ℕ) → size % 16 ≡ 0 → (16777216 + t * size) % 16 ≡ 0
multiple t size e =
    let whole : size ≡ 16 * (size / 16) = omega (arith, e) in
    let product : t * size ≡ 16 * (t * (size / 16)) = ap (λ n. t * n) whole ∙ grind arith in
    omega (arith, product)

pub new-requires-clause-first_multiple : goal.new-requires-clause-first_multiple
new-requires-clause-first_multiple c =
    subst (λ (n : ℕ). (16777216 + c.from.result * n) % 16 ≡ 0) (sym c.from-in-loop-token.ensures) (multiple c.from.result c.args.size c.requires.multiple)

-- what holds of each of the heaps and of one more holds of all
all_more : (P : ℕ → Kept → Type 0) → (xs : List Kept) (x : Kept) (n : ℕ) → length xs ≡ n → ((t : ℕ) (d : Kept) → t < n → P t (get_or xs t d)) → P n x → (t : ℕ) (d : Kept) → t < n + 1 → P t (get_or (xs ++ x ∷ []) t d)
all_more P xs x n e f p t d lt = ⊎_elim
    (λ (h : t < n). subst (λ (k : Kept). P t k) (sym (get_or_append_left xs (x ∷ []) d t (omega (arith, h, e)))) (f t d h))
    (λ (h : n ≤ t).
    let same : t ≡ n = omega (arith, h, lt) in
    subst (λ (k : Kept). P t k) (sym (get_or_at xs x [] d t (omega (arith, e, same)))) (subst (λ (m : ℕ). P m x) (sym same) p))
    (cases_lt t n)

pub loop-token-preserved : goal.loop-token-preserved
loop-token-preserved c =
    let i = c.loop-token.invariant in
    let e = c.push_reserved.ensures.items in
    let size : ℕ = c.args.size in
    let old : List Kept = c.loop-token.heaps.items in
    let first : c.in_ok-heap.heap.first ≡ range_first c.args.size c.loop-token.token =
    c.in_ok-heap.ensures.first ∙ ap (λ (n : ℕ). 16777216 + n * c.from-in-loop-token.result) c.from.ensures ∙ ap (λ (n : ℕ). 16777216 + c.loop-token.token * n) c.from-in-loop-token.ensures in (
      omega (arith, ap (λ (l : List Kept). length l) e, length-append c.loop-token.heaps.items (c.in_ok-heap.heap ∷ []), i.0),
      omega (arith, c.push_reserved.ensures.capacity, i.1),
      λ t d lt. subst (λ (l : List Kept). (get_or l t d).first ≡ range_first c.args.size t) (sym e) (all_more (λ n k. k.first ≡ range_first c.args.size n) c.loop-token.heaps.items c.in_ok-heap.heap c.loop-token.token i.0 i.2 first t d lt),
      λ t d lt. subst (λ (l : List Kept). (get_or l t d).size ≡ c.args.size) (sym e) (all_more (λ n k. k.size ≡ c.args.size) c.loop-token.heaps.items c.in_ok-heap.heap c.loop-token.token i.0 i.3 c.in_ok-heap.ensures.size t d lt),
      λ t d lt. subst (λ (l : List Kept). (get_or l t d).history ≡ []) (sym e) (all_more (λ n k. k.history ≡ []) c.loop-token.heaps.items c.in_ok-heap.heap c.loop-token.token i.0 i.4 c.in_ok-heap.ensures.history t d lt),
    )
