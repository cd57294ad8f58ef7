use Rattle.std.proofs.Common.{◌≡◌, ℕ, ◌-◌, ◌/◌, Bool, true, None, Some, Option, List, get_or, subst, sym, ap, ◌∙◌, refl, arith}
use Rattle.std.specs.Prelude.{IsSome}
use Rattle.std.proofs.lemmas.List.{get_or_default}
use Rattle.hole_list.specs.Units.{Marked}
use Rattle.range_heap.specs.declared.call.HeapCall.{HeapCall}
use Rattle.range_heap.specs.Blocks.{rounded, live, live_at}
use Rattle.range_heap.specs.Seen.{Kept}
use Rattle.range_heap.specs.Sound.{Sound}
use Rattle.range_heap.proofs.Clear.{rounded_some, rounded_not_below, some_of, some_same}
use Rattle.range_heap.proofs.Keeping.{block_within, block_taken, sound_release, in_table, entry_is}
use Rattle.range_heap.proofs.heap.RangeHeap.release.Goals as goal

-- the size in the table is that of the live block
found : (first size : ℕ) (units : List Bool) (sizes : List (Option ℕ)) (h : List HeapCall) (S : Sound first size units sizes h) (place : ℕ) (r : Option ℕ) → live place h ≡ true → r ≡ get_or sizes ((place - first) / 16) r → (s : ℕ) × (live_at place h ≡ Some s) × (r ≡ Some s)
found first size units sizes h S place r alive e =
    let b = some_of (live_at place h) alive in
    let t = in_table first size units sizes h S place b.0 b.1 in
    (b.0, b.1, e ∙ get_or_default sizes ((place - first) / 16) r None t ∙ entry_is first size units sizes h S place b.0 b.1)

pub overflow_sub-at : goal.overflow_sub-at
overflow_sub-at c =
    let i = c.self.inside in
    let alive : live c.args.place i.calls.items ≡ true = ap (λ (v : Kept). live c.args.place v.history) c.self.view_is ∙ c.requires.live in
    let b = some_of (live_at c.args.place i.calls.items) alive in
    let w = block_within i.first i.size i.holes i.sizes.items i.calls.items c.self.invariant c.args.place b.0 b.1 in
    let some = rounded_some b.0 in
    w.1

pub overflow_cast-at : goal.overflow_cast-at
overflow_cast-at c =
    let i = c.self.inside in
    let alive : live c.args.place i.calls.items ≡ true = ap (λ (v : Kept). live c.args.place v.history) c.self.view_is ∙ c.requires.live in
    let b = some_of (live_at c.args.place i.calls.items) alive in
    let w = block_within i.first i.size i.holes i.sizes.items i.calls.items c.self.invariant c.args.place b.0 b.1 in
    let some = rounded_some b.0 in
    omega (arith, w.1, w.2, some, c.self.invariant.most)

pub index-requires : goal.index-requires
index-requires c =
    let i = c.self.inside in
    let alive : live c.args.place i.calls.items ≡ true = ap (λ (v : Kept). live c.args.place v.history) c.self.view_is ∙ c.requires.live in
    let b = some_of (live_at c.args.place i.calls.items) alive in
    let w = block_within i.first i.size i.holes i.sizes.items i.calls.items c.self.invariant c.args.place b.0 b.1 in
    let some = rounded_some b.0 in
    let t = in_table i.first i.size i.holes i.sizes.items i.calls.items c.self.invariant c.args.place b.0 b.1 in
    omega (arith, t, i.sizes.ok.0)

pub unwrap-size-requires : goal.unwrap-size-requires
unwrap-size-requires c =
    let i = c.self.inside in
    let alive : live c.args.place i.calls.items ≡ true = ap (λ (v : Kept). live c.args.place v.history) c.self.view_is ∙ c.requires.live in
    let b = found i.first i.size i.holes i.sizes.items i.calls.items c.self.invariant c.args.place c.index.result.now alive c.index.ensures in
    let w = block_within i.first i.size i.holes i.sizes.items i.calls.items c.self.invariant c.args.place b.0 b.1 in
    subst (λ (o : Option ℕ). IsSome o) (sym b.2) refl

pub round_up-requires : goal.round_up-requires
round_up-requires c =
    let i = c.self.inside in
    let alive : live c.args.place i.calls.items ≡ true = ap (λ (v : Kept). live c.args.place v.history) c.self.view_is ∙ c.requires.live in
    let b = found i.first i.size i.holes i.sizes.items i.calls.items c.self.invariant c.args.place c.index.result.now alive c.index.ensures in
    let w = block_within i.first i.size i.holes i.sizes.items i.calls.items c.self.invariant c.args.place b.0 b.1 in
    let e : c.unwrap-size.result ≡ b.0 = some_same c.unwrap-size.result b.0 (sym c.unwrap-size.ensures ∙ b.2) in
    omega (arith, e, w.1, w.2, rounded_not_below b.0, c.self.invariant.most)

pub give-requires-clause-at_unit : goal.give-requires-clause-at_unit
give-requires-clause-at_unit c =
    let i = c.self.inside in
    let alive : live c.args.place i.calls.items ≡ true = ap (λ (v : Kept). live c.args.place v.history) c.self.view_is ∙ c.requires.live in
    let b = some_of (live_at c.args.place i.calls.items) alive in
    let w = block_within i.first i.size i.holes i.sizes.items i.calls.items c.self.invariant c.args.place b.0 b.1 in
    let some = rounded_some b.0 in
    omega (arith, w.0, w.1, c.self.invariant.first_multiple)

pub give-requires-clause-inside : goal.give-requires-clause-inside
give-requires-clause-inside c =
    let i = c.self.inside in
    let alive : live c.args.place i.calls.items ≡ true = ap (λ (v : Kept). live c.args.place v.history) c.self.view_is ∙ c.requires.live in
    let b = found i.first i.size i.holes i.sizes.items i.calls.items c.self.invariant c.args.place c.index.result.now alive c.index.ensures in
    let w = block_within i.first i.size i.holes i.sizes.items i.calls.items c.self.invariant c.args.place b.0 b.1 in
    let e : c.unwrap-size.result ≡ b.0 = some_same c.unwrap-size.result b.0 (sym c.unwrap-size.ensures ∙ b.2) in
    let r : c.round_up.result ≡ rounded b.0 = c.round_up.ensures ∙ ap rounded e in
    omega (arith, r, w.1, w.2, c.self.invariant.unit_count)

pub give-requires-clause-taken : goal.give-requires-clause-taken
give-requires-clause-taken c =
    let i = c.self.inside in
    let alive : live c.args.place i.calls.items ≡ true = ap (λ (v : Kept). live c.args.place v.history) c.self.view_is ∙ c.requires.live in
    let b = found i.first i.size i.holes i.sizes.items i.calls.items c.self.invariant c.args.place c.index.result.now alive c.index.ensures in
    let w = block_within i.first i.size i.holes i.sizes.items i.calls.items c.self.invariant c.args.place b.0 b.1 in
    let e : c.unwrap-size.result ≡ b.0 = some_same c.unwrap-size.result b.0 (sym c.unwrap-size.ensures ∙ b.2) in
    let r : c.round_up.result ≡ rounded b.0 = c.round_up.ensures ∙ ap rounded e in
    let taken = block_taken i.first i.size i.holes i.sizes.items i.calls.items c.self.invariant c.args.place b.0 b.1 in
    λ k ge lt. taken k ge (omega (arith, lt, r))

pub index_mut-requires : goal.index_mut-requires
index_mut-requires c =
    let i = c.self.inside in
    let alive : live c.args.place i.calls.items ≡ true = ap (λ (v : Kept). live c.args.place v.history) c.self.view_is ∙ c.requires.live in
    let b = some_of (live_at c.args.place i.calls.items) alive in
    let w = block_within i.first i.size i.holes i.sizes.items i.calls.items c.self.invariant c.args.place b.0 b.1 in
    let some = rounded_some b.0 in
    let t = in_table i.first i.size i.holes i.sizes.items i.calls.items c.self.invariant c.args.place b.0 b.1 in
    omega (arith, t, i.sizes.ok.0)

pub invariant_of-self : goal.invariant_of-self
invariant_of-self c =
    let i = c.self.inside in
    let alive : live c.args.place i.calls.items ≡ true = ap (λ (v : Kept). live c.args.place v.history) c.self.view_is ∙ c.requires.live in
    let b = found i.first i.size i.holes i.sizes.items i.calls.items c.self.invariant c.args.place c.index.result.now alive c.index.ensures in
    let w = block_within i.first i.size i.holes i.sizes.items i.calls.items c.self.invariant c.args.place b.0 b.1 in
    let e : c.unwrap-size.result ≡ b.0 = some_same c.unwrap-size.result b.0 (sym c.unwrap-size.ensures ∙ b.2) in
    let r : c.round_up.result ≡ rounded b.0 = c.round_up.ensures ∙ ap rounded e in
    let marked = subst (λ n. Marked true i.holes c.give.new.self ((c.args.place - i.first) / 16) (n / 16)) r c.give.ensures in
    let s = sound_release i.first i.size i.holes i.sizes.items i.calls.items c.self.invariant c.args.place b.0 b.1 c.args.who c.give.new.self marked alive in
    rw c.push_reserved.ensures.items s

pub returns-clause-legal : goal.returns-clause-legal
returns-clause-legal c =
    let i = c.self.inside in
    let alive : live c.args.place i.calls.items ≡ true = ap (λ (v : Kept). live c.args.place v.history) c.self.view_is ∙ c.requires.live in
    let b = found i.first i.size i.holes i.sizes.items i.calls.items c.self.invariant c.args.place c.index.result.now alive c.index.ensures in
    let w = block_within i.first i.size i.holes i.sizes.items i.calls.items c.self.invariant c.args.place b.0 b.1 in
    let e : c.unwrap-size.result ≡ b.0 = some_same c.unwrap-size.result b.0 (sym c.unwrap-size.ensures ∙ b.2) in
    let r : c.round_up.result ≡ rounded b.0 = c.round_up.ensures ∙ ap rounded e in
    let marked = subst (λ n. Marked true i.holes c.give.new.self ((c.args.place - i.first) / 16) (n / 16)) r c.give.ensures in
    let s = sound_release i.first i.size i.holes i.sizes.items i.calls.items c.self.invariant c.args.place b.0 b.1 c.args.who c.give.new.self marked alive in
    rw c.push_reserved.ensures.items s.legal
