-- Before anything was made.
use Rattle.std.proofs.Common.{◌≡◌, ℕ, ◌+◌, ◌*◌, ◌<◌, ◌≤◌, List, [], length, Option, Some, None, refl, sym, ap, ◌∙◌, subst, arith}
use Rattle.std.specs.Prelude.{slice_get, slice_index_or}
use Rattle.range_heap.specs.Ranges.{AllLegal}
use Rattle.range_heap.specs.Seen.{Kept, AllHeaps}
use Rattle.range_heap.specs.Steps.{histories}
use Rattle.range_heap.proofs.Apart.{none_kept}
use Rattle.range_heap.proofs.Noting.{get_history}
use Rattle.c_meaning.specs.declared.log.LogEntry.{LogEntry}
use Rattle.machine_frames.specs.Views.{topmost_first}
use Rattle.machine_state.specs.declared.ledger.Spot.{Spot}
use Rattle.machine_state.specs.declared.ledger.Ledger.{Ledger}
use Rattle.machine_state.specs.Stands.{Stands}
use Rattle.machine_state.specs.State.{IsSound, AreLocals, spots_of}
use Rattle.machine_state.proofs.Lists.{none_is}

begun : (top : ℕ) (all : AllHeaps) → 16777216 + length all.heaps * all.size ≤ top → AllLegal all.size (histories all)
    → ((t : ℕ) (d : Kept) → t < length all.heaps → (slice_index_or all.heaps t d).history ≡ []) → Stands top all [] [] []
begun top all high legal empty = record {
  high = high;
  legal = legal;
  logged = λ t lt. sym (get_history all.heaps t none_kept lt ∙ empty t none_kept lt);
  counted = refl;
  low = tt;
  small = λ n x e. none_is x e;
  placed = λ n x e l. none_is x e;
  differ = λ n m x y e f l k a b same. none_is x e;
}

pub sound_begun : (top : ℕ) (l : Ledger) → 16777216 + length l.ranges.heaps * l.ranges.size ≤ top → AllLegal l.ranges.size (histories l.ranges)
    → ((t : ℕ) (d : Kept) → t < length l.ranges.heaps → (slice_index_or l.ranges.heaps t d).history ≡ [])
    → l.region.items ≡ [] → l.rest.log.items ≡ [] → l.rest.locals.items ≡ [] → l.count ≡ 0 → l.rest.room ≡ 4194304 → l.rest.base ≡ 0 → l.rest.read ≡ 0
    → IsSound [] [] top l
sound_begun top l high legal empty region log locals count room base read = record {
  stands = subst (λ (s : List Spot). Stands top l.ranges (spots_of s) l.rest.log.items []) (sym region) (subst (λ (g : List LogEntry). Stands top l.ranges [] g []) (sym log) (begun top l.ranges high legal empty));
  long = refl;
  count = count;
  room = omega (arith, room);
  locals = subst (λ (x : List (Option ℕ)). AreLocals 0 x) (sym locals) tt;
  base = omega (arith, base);
  read = omega (arith, read);
}
