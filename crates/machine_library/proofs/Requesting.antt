-- Requests and releases: how the run goes on behind them.
use Rattle.std.proofs.Common.{◌≡◌, ⊎_elim, ℕ, suc, ◌<◌, ◌≤◌, Bool, true, List, [], ◌∷◌, ◌++◌, length, Option, Some, None, sym, ap, subst, ◌∙◌, arith, get_or, set, map}
use Rattle.std.specs.Prelude.{slice_get, if◌then◌else◌}
use Rattle.std.proofs.lemmas.Bool.{cases_lt}
use Rattle.std.proofs.lemmas.List.{length-set, map-set}
use Rattle.c_core.specs.declared.values.BlockKind.TheVariants as kind
use Rattle.c_core.specs.Blocks.{Blocks, placed, killed}
use Rattle.range_heap.specs.declared.call.HeapCall.{HeapCall}
use Rattle.range_heap.specs.declared.call.HeapEvent.TheVariants as event
use Rattle.range_heap.specs.History.{call_of, MayFollow}
use Rattle.range_heap.specs.Ranges.{AllLegal}
use Rattle.range_heap.specs.Seen.{Kept, AllHeaps}
use Rattle.range_heap.specs.Steps.{Released, Changed, histories}
use Rattle.range_heap.proofs.Apart.{none_kept}
use Rattle.range_heap.proofs.Noting.{history_of, get_history}
use Rattle.c_meaning.specs.declared.log.LogEntry.TheVariants.{Grant, Refuse, Release}
use Rattle.c_meaning.specs.Run.{Label, Run}
use Rattle.c_meaning.specs.World.{State, after_answer, without_block, request, release, maker}
use Rattle.c_meaning.specs.Log.{by_token, WasGranted}
use Rattle.c_meaning.specs.Meaning.{Tokens, token_of}
use Rattle.machine_frames.specs.declared.state.Rest.{Rest}
use Rattle.machine_state.specs.declared.ledger.Ledger.{Ledger}
use Rattle.machine_state.specs.Stands.{stands_of, maker_at}
use Rattle.machine_state.specs.State.{state_in, regions, IsSound, spots_of}
use Rattle.machine_library.specs.Leads.{Leads, IsNoted}
use Rattle.machine_library.proofs.Asking.{may_inside, may_outside, grant_leads, refusal_leads, release_leads, granted_state, refused_state, released_state}
use Rattle.machine_library.proofs.Granting.{maker_same}

module _ (tok : Tokens) (label : Label) (bs : Blocks) (starts : List ℕ) (top : ℕ) (l now : Ledger) (s : IsSound bs starts top l) (t size : ℕ) (same : t ≡ token_of tok label) (rest : now.rest ≡ record (l.rest) { log = now.rest.log }) (k : Option ℕ → State → Run) where
  -- what follows an answer
  abbrev pub answered_run : Bool → Run
  answered_run b = k (if b then Some (length bs) else None) (record (state_in bs l) { world = after_answer size b (state_in bs l).world })

  pub request_refused : IsNoted l.ranges now.ranges t (event.Refuse size) → now.rest.log.items ≡ l.rest.log.items ++ Refuse t size ∷ []
      → Leads tok (regions l.ranges) l.rest.log.items (request label size k (state_in bs l)) now.rest.log.items (k None (state_in bs now))
  request_refused n log =
      let may : MayFollow (regions l.ranges t) (by_token l.rest.log.items t) (event.Refuse size) =
      ⊎_elim {C = MayFollow (regions l.ranges t) (by_token l.rest.log.items t) (event.Refuse size)}
      (λ (lt : t < length l.ranges.heaps). may_inside top l.ranges now.ranges (spots_of l.region.items) l.rest.log.items (stands_of bs starts) s.stands t (event.Refuse size) n lt)
      (λ (le : length l.ranges.heaps ≤ t). may_outside top l.ranges now.ranges (spots_of l.region.items) l.rest.log.items (stands_of bs starts) s.stands t (event.Refuse size) n size le)
      (cases_lt t (length l.ranges.heaps)) in
      subst (λ (z : State). Leads tok (regions l.ranges) l.rest.log.items (request label size k (state_in bs l)) now.rest.log.items (k None z)) (refused_state bs l.rest now.rest t size rest log)
      (refusal_leads tok (regions l.ranges) l.rest.log.items now.rest.log.items label t size answered_run same may log)

  pub request_granted : (p : ℕ) → t < length l.ranges.heaps → IsNoted l.ranges now.ranges t (event.Grant size p) → now.rest.log.items ≡ l.rest.log.items ++ Grant t size p ∷ []
      → Leads tok (regions l.ranges) l.rest.log.items (request label size k (state_in bs l)) now.rest.log.items (answered_run true)
  request_granted p lt n log =
      grant_leads tok (regions l.ranges) l.rest.log.items now.rest.log.items label t size p answered_run same
      (may_inside top l.ranges now.ranges (spots_of l.region.items) l.rest.log.items (stands_of bs starts) s.stands t (event.Grant size p) n lt) log

  -- and the block was made
  pub request_placed : (p number : ℕ) (cs : Blocks) (after : Ledger) → t < length l.ranges.heaps → IsNoted l.ranges now.ranges t (event.Grant size p) → now.rest.log.items ≡ l.rest.log.items ++ Grant t size p ∷ []
      → cs ≡ placed bs kind.Heap size → number ≡ length bs → after.rest ≡ now.rest
      → Leads tok (regions l.ranges) l.rest.log.items (request label size k (state_in bs l)) now.rest.log.items (k (Some number) (state_in cs after))
  request_placed p number cs after lt n log blocks is last =
      subst (λ (r : Rest). Leads tok (regions l.ranges) l.rest.log.items (request label size k (state_in bs l)) now.rest.log.items (k (Some number) (state_in cs (record after { rest = r })))) (sym last)
      (subst (λ (m : ℕ). Leads tok (regions l.ranges) l.rest.log.items (request label size k (state_in bs l)) now.rest.log.items (k (Some m) (state_in cs now))) (sym is)
      (subst (λ (z : State). Leads tok (regions l.ranges) l.rest.log.items (request label size k (state_in bs l)) now.rest.log.items (k (Some (length bs)) z)) (granted_state bs cs l.rest now.rest t size p rest log blocks)
      (request_granted p lt n log)))

pub release_runs : (tok : Tokens) (bs cs : Blocks) (starts : List ℕ) (l now : Ledger) (n t p : ℕ) (k : Unit {0} → State → Run) → length starts ≡ length bs → WasGranted (slice_get l.rest.log.items (maker_at l.rest.log.items n (stands_of bs starts))) t p
    → now.rest ≡ record (l.rest) { log = now.rest.log } → now.rest.log.items ≡ l.rest.log.items ++ Release t p ∷ [] → cs ≡ killed bs n
    → Leads tok (regions l.ranges) l.rest.log.items (release n k (state_in bs l)) now.rest.log.items (k tt (state_in cs now))
release_runs tok bs cs starts l now n t p k long was rest log blocks =
    let there : WasGranted (slice_get l.rest.log.items (maker (state_in bs l).world n)) t p = subst (λ (j : ℕ). WasGranted (slice_get l.rest.log.items j) t p) (sym (maker_same bs starts l n long)) was in
    subst (λ (z : State). Leads tok (regions l.ranges) l.rest.log.items (release n k (state_in bs l)) now.rest.log.items (k tt z)) (released_state bs cs l.rest now.rest n t p rest log blocks)
    (release_leads tok (regions l.ranges) l.rest.log.items now.rest.log.items (maker (state_in bs l).world n) t p
    (k tt (record (state_in bs l) { world = record (without_block n (state_in bs l).world) { asked = suc (length l.rest.log.items) } })) there log)

-- ---- what a release notes

pub release_noted : (t place : ℕ) (old mid new : AllHeaps) → t < length old.heaps → (histories mid ≡ histories old) × (mid.size ≡ old.size) × (length mid.heaps ≡ length old.heaps)
    → Changed t (Released 0 place) mid new → AllLegal new.size (histories new) → IsNoted old new t (event.Release place)
release_noted t place old mid new lt r c legal =
    let same : length mid.heaps ≡ length old.heaps = r.2 in
    let e : HeapCall = call_of 0 (event.Release place) in
    let here : t < length mid.heaps = omega (arith, lt, same) in
    let last : c.after.history ≡ get_or (histories mid) t [] ++ e ∷ [] =
    (c.way none_kept).entry ∙ ap (λ (h : List HeapCall). h ++ e ∷ []) (sym (get_history mid.heaps t none_kept here)) in
    record {
      size = c.same_size ∙ r.1;
      count = ap (λ (x : List Kept). length x) c.heaps ∙ length-set mid.heaps t c.after ∙ same;
      inside = λ h. ap (λ (x : List Kept). map history_of x) c.heaps ∙ map-set history_of mid.heaps t c.after
          ∙ ap (λ (x : List HeapCall). set (histories mid) t x) last
          ∙ ap (λ (hs : List (List HeapCall)). set hs t (get_or hs t [] ++ e ∷ [])) r.0;
      outside = λ le. absurd (omega (arith, lt, le));
      legal = legal;
    }
