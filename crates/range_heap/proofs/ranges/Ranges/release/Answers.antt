use Rattle.std.proofs.Common.{◌≡◌, ℕ, ◌-◌, ◌/◌, ◌<◌, ◌≤◌, true, List, get_or, set, subst, sym, ap, ◌∙◌, refl, arith}
use Rattle.std.proofs.lemmas.List.{get_or_default}
use Rattle.range_heap.specs.Blocks.{live}
use Rattle.range_heap.specs.Seen.{Kept, AllHeaps, all_heaps}
use Rattle.range_heap.specs.Ranges.{Standing}
use Rattle.range_heap.specs.Steps.{HasLive, Changed, Released}
use Rattle.range_heap.proofs.Apart.{live_range, number_of, none_kept}
use Rattle.range_heap.proofs.ranges.Ranges.release.Goals as goal

-- the range of the live block is the one that its address tells
found : (size : ℕ) (heaps : List Kept) (all : AllHeaps) (place n t : ℕ) → Standing size heaps → all_heaps size heaps ≡ all → n ≡ size → HasLive all place t → (16777216 ≤ place) × ((place - 16777216) / n ≡ t) × HasLive (all_heaps size heaps) place t
found size heaps all place n t s v e l =
    let h : HasLive (all_heaps size heaps) place t = subst (λ x. HasLive x place t) (sym v) l in
    let r = live_range size heaps s place t h.within h.is_live in
    (omega (arith, r.0), ap (λ m. (place - 16777216) / m) e ∙ number_of size t place r, h)

pub overflow_sub-token : goal.overflow_sub-token
overflow_sub-token c =
    let i = c.self.inside in
    let f = found i.size i.heaps.items c.args.self.now c.args.place i.size c.requires.0 c.self.invariant c.self.view_is refl c.requires.1 in
    f.0

pub index_mut-heap-requires : goal.index_mut-heap-requires
index_mut-heap-requires c =
    let i = c.self.inside in
    let f = found i.size i.heaps.items c.args.self.now c.args.place c.from-size.result c.requires.0 c.self.invariant c.self.view_is c.from-size.ensures c.requires.1 in
    omega (arith, f.1, f.2.within, i.heaps.ok.0)

pub release-requires-clause-room : goal.release-requires-clause-room
release-requires-clause-room c =
    let i = c.self.inside in
    let f = found i.size i.heaps.items c.args.self.now c.args.place c.from-size.result c.requires.0 c.self.invariant c.self.view_is c.from-size.ensures c.requires.1 in
    let same : c.index_mut-heap.result.now ≡ get_or i.heaps.items c.requires.0 none_kept = c.index_mut-heap.ensures.value ∙ ap (λ j. get_or i.heaps.items j c.index_mut-heap.result.now) f.1 ∙ get_or_default i.heaps.items c.requires.0 c.index_mut-heap.result.now none_kept f.2.within in
    subst (λ (k : Kept). 0 < k.room) (sym same) (f.2.room none_kept)

pub release-requires-clause-live : goal.release-requires-clause-live
release-requires-clause-live c =
    let i = c.self.inside in
    let f = found i.size i.heaps.items c.args.self.now c.args.place c.from-size.result c.requires.0 c.self.invariant c.self.view_is c.from-size.ensures c.requires.1 in
    let same : c.index_mut-heap.result.now ≡ get_or i.heaps.items c.requires.0 none_kept = c.index_mut-heap.ensures.value ∙ ap (λ j. get_or i.heaps.items j c.index_mut-heap.result.now) f.1 ∙ get_or_default i.heaps.items c.requires.0 c.index_mut-heap.result.now none_kept f.2.within in
    subst (λ (k : Kept). live c.args.place k.history ≡ true) (sym same) (f.2.is_live none_kept)

pub returns : goal.returns
returns c t l =
    let i = c.self.inside in
    let f = found i.size i.heaps.items c.args.self.now c.args.place c.from-size.result t c.self.invariant c.self.view_is c.from-size.ensures l in
    let after = c.release.new.self in
    let made : Released c.args.who c.args.place c.index_mut-heap.result.now after = record { first = c.release.ensures.first; same_size = c.release.ensures.size; room = c.release.ensures.room; entry = c.release.ensures.entry } in
    let set_at : set i.heaps.items ((c.args.place - 16777216) / c.from-size.result) after ≡ set i.heaps.items t after = ap (λ j. set i.heaps.items j after) f.1 in
    let changed : Changed t (Released c.args.who c.args.place) (all_heaps i.size i.heaps.items) (all_heaps i.size (set i.heaps.items ((c.args.place - 16777216) / c.from-size.result) after)) =
    record {
      after = after;
      same_size = refl;
      heaps = set_at;
      way = λ d. subst (λ (k : Kept). Released c.args.who c.args.place k after)
          (c.index_mut-heap.ensures.value ∙ ap (λ j. get_or i.heaps.items j c.index_mut-heap.result.now) f.1 ∙ get_or_default i.heaps.items t c.index_mut-heap.result.now d f.2.within) made;
    } in
    subst (λ old. Changed t (Released c.args.who c.args.place) old (all_heaps i.size (set i.heaps.items ((c.args.place - 16777216) / c.from-size.result) after))) c.self.view_is changed
