use Rattle.std.proofs.Common.{◌≡◌, ℕ, ◌+◌, ◌%◌, ◌<◌, ◌≤◌, None, Some, Option, List, Bool, sym, ap, ◌∙◌, refl, arith}
use Rattle.range_heap.specs.declared.call.HeapCall.{HeapCall}
use Rattle.range_heap.specs.Blocks.{live_at}
use Rattle.range_heap.specs.Seen.{Kept}
use Rattle.range_heap.specs.Sound.{Sound}
use Rattle.range_heap.proofs.Clear.{rounded_some}
use Rattle.range_heap.proofs.Keeping.{block_within}
use Rattle.range_heap.proofs.heap.RangeHeap.live_at.Goals as goal
use Rattle.range_heap.proofs.heap.RangeHeap.live_at.Goals.{then-place-self-via-then-place-self, then-place-self-via-else-place-self+then-place-self-2, then-place-self-via-else-place-self+else-place-self-2+then-place-ne0}

-- a live block lies in the range at a multiple of 16
none_at : (first size : ℕ) (units : List Bool) (sizes : List (Option ℕ)) (h : List HeapCall) (S : Sound first size units sizes h) (p : ℕ) → ((first ≤ p) → (p < first + size) → (p % 16 ≡ 0) → ⊥) → None ≡ live_at p h
none_at first size units sizes h S p out = go (live_at p h) refl
  where
    go : (o : Option ℕ) → live_at p h ≡ o → None ≡ live_at p h
    go None e = sym e
    go (Some s) e = let w = block_within first size units sizes h S p s e in absurd (out w.1 (omega (arith, w.2, rounded_some s)) w.0)

pub returns-then-place-self : goal.returns-then-place-self
returns-then-place-self c =
    let i = c.self.inside in
    let none : None ≡ live_at c.args.place i.calls.items = none_at i.first i.size i.holes i.sizes.items i.calls.items c.self.invariant c.args.place
    (λ low high multiple. elim c.then-place-self.branch [
      | then-place-self-via-then-place-self w ↦ omega (arith, low, w.if-place-self.true)
      | then-place-self-via-else-place-self+then-place-self-2 w ↦ omega (arith, low, high, w.from.ensures, w.if-place-self-2.true)
      | then-place-self-via-else-place-self+else-place-self-2+then-place-ne0 w ↦ omega (arith, multiple, w.if-place-ne0.true)
    ]) in
    none ∙ ap (λ (v : Kept). live_at c.args.place v.history) c.self.view_is
