-- The heap is asked, and answers: how the run goes on, and what holds then.
use Rattle.std.proofs.Common.{◌≡◌, ⊎_elim, ℕ, suc, ◌<◌, ◌≤◌, Bool, true, false, List, [], ◌∷◌, ◌++◌, length, drop, Option, Some, None, sym, ap, subst, ◌∙◌, arith, get_or-set_same}
use Rattle.std.specs.Prelude.{slice_get, slice_index_or, if◌then◌else◌}
use Rattle.std.proofs.lemmas.Bool.{cases_lt, lt-ltb, le-ltb}
use Rattle.std.proofs.lemmas.List.{length-map, length-set}
use Rattle.std.proofs.Math.Nat.{le-max_left, le-max_right}
use Rattle.c_core.specs.declared.values.BlockKind.TheVariants as kind
use Rattle.c_core.specs.Blocks.{Blocks, placed, killed}
use Rattle.range_heap.specs.declared.call.HeapCall.{HeapCall}
use Rattle.range_heap.specs.declared.call.HeapEvent.{HeapEvent}
use Rattle.range_heap.specs.declared.call.HeapEvent.TheVariants as event
use Rattle.range_heap.specs.declared.call.RangeCall.TheVariants.{Ask}
use Rattle.range_heap.specs.History.{Region, region, call_of, MayFollow, Legal}
use Rattle.range_heap.specs.Ranges.{range_at, AllLegal}
use Rattle.range_heap.specs.Seen.{Kept, AllHeaps}
use Rattle.range_heap.specs.Steps.{Granted, Roomier, Changed, histories, Made}
use Rattle.range_heap.proofs.Clear.{rounded_some}
use Rattle.range_heap.proofs.Histories.{legal-last}
use Rattle.range_heap.proofs.Noting.{history_of, reserved, made_ask}
use Rattle.c_meaning.specs.declared.log.LogEntry.{LogEntry}
use Rattle.c_meaning.specs.declared.log.LogEntry.TheVariants.{Grant, Refuse, Release}
use Rattle.c_meaning.specs.Run.{Label, Run, Asks, Frees}
use Rattle.c_meaning.specs.World.{State, after_answer, without_block}
use Rattle.c_meaning.specs.Log.{by_token, WasGranted}
use Rattle.c_meaning.specs.Meaning.{Tokens, token_of}
use Rattle.machine_log.proofs.Reached.{runs_advance}
use Rattle.machine_steps.specs.Measure.{beginnings}
use Rattle.machine_frames.specs.Views.{state_of, grants_from}
use Rattle.machine_frames.specs.declared.state.Rest.{Rest}
use Rattle.machine_state.specs.declared.ledger.Spot.{Spot}
use Rattle.machine_state.specs.Stands.{Stand, Stands}
use Rattle.machine_state.specs.State.{regions, SameRanges}
use Rattle.machine_state.proofs.Heap.{Noted}
use Rattle.machine_state.proofs.Lists.{length_more, grants_granted, grants_refused, grants_released}
use Rattle.machine_library.specs.Leads.{Leads, IsNoted, event_for}

-- ---- what a call of the heap notes

histories_long : (all : AllHeaps) → length (histories all) ≡ length all.heaps
histories_long all = length-map all.heaps history_of

pub noted_as : (old new : AllHeaps) (t : ℕ) (e : HeapEvent) → IsNoted old new t e → Noted old new t e
noted_as old new t e n = record { size = n.size; count = n.count; inside = n.inside; outside = n.outside; legal = n.legal }

pub same_ranges : (old new : AllHeaps) (t : ℕ) (e : HeapEvent) → IsNoted old new t e → SameRanges old new
same_ranges old new t e n = (n.size, n.count)

granted_same : (who t size : ℕ) (answer : Option ℕ) (old new : AllHeaps) → (length old.heaps ≤ t → (answer ≡ None) × (new ≡ old)) → (t < length old.heaps → Changed t (Granted who size answer) old new)
    → (new.size ≡ old.size) × (length new.heaps ≡ length old.heaps)
granted_same who t size answer old new outside inside = ⊎_elim
    (λ (lt : t < length old.heaps). let c = inside lt in (c.same_size, ap (λ (l : List Kept). length l) c.heaps ∙ length-set old.heaps t c.after))
    (λ (le : length old.heaps ≤ t). let e = (outside le).1 in (ap (λ (a : AllHeaps). a.size) e, ap (λ (a : AllHeaps). length a.heaps) e))
    (cases_lt t (length old.heaps))

asked_noted : (t size : ℕ) (answer : Option ℕ) (old new : AllHeaps) → (new.size ≡ old.size) × (length new.heaps ≡ length old.heaps) → Made (Ask 0 t size) answer (histories old) (histories new) → AllLegal new.size (histories new)
    → IsNoted old new t (event_for size answer)
asked_noted t size None old new same m legal =
    let long = histories_long old in
    record { size = same.0; count = same.1; inside = λ lt. m.1 (omega (arith, lt, long)); outside = λ le. (m.0 (omega (arith, le, long))).1; legal = legal }
asked_noted t size (Some p) old new same m legal =
    let long = histories_long old in
    record { size = same.0; count = same.1; inside = λ lt. m.1 (omega (arith, lt, long)); outside = λ le. (m.0 (omega (arith, le, long))).1; legal = legal }

-- what was reserved and asked
pub ask_noted : (t size : ℕ) (answer : Option ℕ) (old mid new : AllHeaps) → (length old.heaps ≤ t → mid ≡ old) → (t < length old.heaps → Changed t Roomier old mid)
    → (length mid.heaps ≤ t → (answer ≡ None) × (new ≡ mid)) → (t < length mid.heaps → Changed t (Granted 0 size answer) mid new) → AllLegal new.size (histories new)
    → IsNoted old new t (event_for size answer)
ask_noted t size answer old mid new out ins outside inside legal =
    let r = reserved t old mid out ins in
    let g = granted_same 0 t size answer mid new outside inside in
    asked_noted t size answer old new (g.0 ∙ r.1, g.1 ∙ r.2) (made_ask 0 t size answer old mid new r.0 outside inside) legal

-- a place is only granted in a range
pub ask_inside : (t : ℕ) (answer : Option ℕ) (p : ℕ) (old mid new : AllHeaps) → (length old.heaps ≤ t → mid ≡ old) → (t < length old.heaps → Changed t Roomier old mid)
    → (length mid.heaps ≤ t → (answer ≡ None) × (new ≡ mid)) → answer ≡ Some p → t < length old.heaps
ask_inside t answer p old mid new out ins outside is = ⊎_elim
    (λ (lt : t < length old.heaps). lt)
    (λ (le : length old.heaps ≤ t). let r = reserved t old mid out ins in let o = (outside (omega (arith, le, r.2))).0 in absurd (let f : None ≡ Some p = sym o ∙ is in cc))
    (cases_lt t (length old.heaps))

-- room for the entry was made
pub ask_room : (t : ℕ) (old mid : AllHeaps) → (length old.heaps ≤ t → mid ≡ old) → (t < length old.heaps → Changed t Roomier old mid) → (t < length old.heaps → (d : Kept) → 1 ≤ (slice_index_or mid.heaps t d).room)
    → t < length mid.heaps → (d : Kept) → 0 < (slice_index_or mid.heaps t d).room
ask_room t old mid out ins room lt d = let r = reserved t old mid out ins in let q = room (omega (arith, lt, r.2)) d in omega (arith, q)

-- ---- what may stand in the log

module _ (top : ℕ) (old new : AllHeaps) (spots : List Spot) (log : List LogEntry) (xs : List Stand) (S : Stands top old spots log xs) (t : ℕ) (e : HeapEvent) (N : IsNoted old new t e) where
  pub event_fits : t < length old.heaps → MayFollow (range_at old.size t) (slice_index_or (histories old) t []) e
  event_fits lt =
      let a = histories_long old in
      let b = histories_long new in
      let n = N.count in
      let legal : Legal (range_at new.size t) (slice_index_or (histories new) t []) = N.legal t (omega (arith, lt, n, b)) in
      let more : List HeapCall = slice_index_or (histories old) t [] ++ call_of 0 e ∷ [] in
      let here : slice_index_or (histories new) t [] ≡ more =
      ap (λ (l : List (List HeapCall)). slice_index_or l t []) (N.inside lt) ∙ get_or-set_same (histories old) t more [] (omega (arith, lt, a)) in
      subst (λ (z : ℕ). MayFollow (range_at z t) (slice_index_or (histories old) t []) e) N.size
      (legal-last (range_at new.size t) (slice_index_or (histories old) t []) (call_of 0 e) (subst (λ (h : List HeapCall). Legal (range_at new.size t) h) here legal))

  region_inside : t < length old.heaps → regions old t ≡ range_at old.size t
  region_inside lt = ap (λ (b : Bool). if b then range_at old.size t else region 0 0) (lt-ltb t (length old.heaps) lt)

  pub may_inside : t < length old.heaps → MayFollow (regions old t) (by_token log t) e
  may_inside lt =
      subst (λ (r : Region). MayFollow r (by_token log t) e) (sym (region_inside lt))
      (subst (λ (h : List HeapCall). MayFollow (range_at old.size t) h e) (sym (S.logged t lt)) (event_fits lt))

  pub may_outside : (size : ℕ) → length old.heaps ≤ t → MayFollow (regions old t) (by_token log t) (event.Refuse size)
  may_outside size le =
      let r : regions old t ≡ region 0 0 = ap (λ (b : Bool). if b then range_at old.size t else region 0 0) (le-ltb t (length old.heaps) le) in
      subst (λ (g : Region). MayFollow g (by_token log t) (event.Refuse size)) (sym r) (λ place f. let w = f.within in let s = rounded_some size in absurd (omega (arith, w, s)))

-- ---- how the run goes on

leads_granted : (tok : Tokens) (ranges : ℕ → Region) (log : List LogEntry) (label : Label) (size p : ℕ) (go : Bool → Run) → MayFollow (ranges (token_of tok label)) (by_token log (token_of tok label)) (event.Grant size p)
    → Leads tok ranges log (Asks label size 16 go) (log ++ Grant (token_of tok label) size p ∷ []) (go true)
leads_granted tok ranges log label size p go may = record {
  reached = λ run h. (runs_advance tok ranges run log).0.granted label size 16 p go h may;
  less = le-max_left (beginnings (go true)) (beginnings (go false));
}

leads_refused : (tok : Tokens) (ranges : ℕ → Region) (log : List LogEntry) (label : Label) (size : ℕ) (go : Bool → Run) → MayFollow (ranges (token_of tok label)) (by_token log (token_of tok label)) (event.Refuse size)
    → Leads tok ranges log (Asks label size 16 go) (log ++ Refuse (token_of tok label) size ∷ []) (go false)
leads_refused tok ranges log label size go may = record {
  reached = λ run h. (runs_advance tok ranges run log).0.refused label size 16 go h may;
  less = le-max_right (beginnings (go true)) (beginnings (go false));
}

pub grant_leads : (tok : Tokens) (ranges : ℕ → Region) (log now : List LogEntry) (label : Label) (t size p : ℕ) (go : Bool → Run) → t ≡ token_of tok label → MayFollow (ranges t) (by_token log t) (event.Grant size p)
    → now ≡ log ++ Grant t size p ∷ [] → Leads tok ranges log (Asks label size 16 go) now (go true)
grant_leads tok ranges log now label t size p go e may is =
    subst (λ (g : List LogEntry). Leads tok ranges log (Asks label size 16 go) g (go true)) (ap (λ (u : ℕ). log ++ Grant u size p ∷ []) (sym e) ∙ sym is)
    (leads_granted tok ranges log label size p go (subst (λ (u : ℕ). MayFollow (ranges u) (by_token log u) (event.Grant size p)) e may))

pub refusal_leads : (tok : Tokens) (ranges : ℕ → Region) (log now : List LogEntry) (label : Label) (t size : ℕ) (go : Bool → Run) → t ≡ token_of tok label → MayFollow (ranges t) (by_token log t) (event.Refuse size)
    → now ≡ log ++ Refuse t size ∷ [] → Leads tok ranges log (Asks label size 16 go) now (go false)
refusal_leads tok ranges log now label t size go e may is =
    subst (λ (g : List LogEntry). Leads tok ranges log (Asks label size 16 go) g (go false)) (ap (λ (u : ℕ). log ++ Refuse u size ∷ []) (sym e) ∙ sym is)
    (leads_refused tok ranges log label size go (subst (λ (u : ℕ). MayFollow (ranges u) (by_token log u) (event.Refuse size)) e may))

pub release_leads : (tok : Tokens) (ranges : ℕ → Region) (log now : List LogEntry) (j t p : ℕ) (r : Run) → WasGranted (slice_get log j) t p → now ≡ log ++ Release t p ∷ [] → Leads tok ranges log (Frees j r) now r
release_leads tok ranges log now j t p r was is =
    subst (λ (g : List LogEntry). Leads tok ranges log (Frees j r) g r) (sym is)
    (record { reached = λ run h. (runs_advance tok ranges run log).0.released j t p r h was; less = omega arith })

-- ---- states

abbrev parts : Blocks → (grants : List ℕ) → (asked : ℕ) → Rest → State
parts bs grants asked r = record {
  ticks = r.ticks;
  world = record {
    blocks = bs;
    grants = grants;
    locals = drop r.base r.locals.items;
    input = drop r.read r.input.items;
    output = r.output.items;
    room = r.room;
    asked = asked;
  };
}

noted_state : (bs : Blocks) (r now : Rest) (x : LogEntry) (grants : List ℕ) → now ≡ record r { log = now.log } → now.log.items ≡ r.log.items ++ x ∷ [] → grants_from 0 (r.log.items ++ x ∷ []) ≡ grants
    → state_of bs now ≡ parts bs grants (suc (length r.log.items)) r
noted_state bs r now x grants is log e =
    ap (λ (n : Rest). state_of bs n) is
    ∙ ap (λ (g : List LogEntry). parts bs (grants_from 0 g) (length g) r) log
    ∙ ap (λ (g : List ℕ). parts bs g (length (r.log.items ++ x ∷ [])) r) e
    ∙ ap (λ (n : ℕ). parts bs grants n r) (length_more r.log.items x)

pub granted_state : (bs cs : Blocks) (r now : Rest) (t size p : ℕ) → now ≡ record r { log = now.log } → now.log.items ≡ r.log.items ++ Grant t size p ∷ [] → cs ≡ placed bs kind.Heap size
    → record (state_of bs r) { world = after_answer size true (state_of bs r).world } ≡ state_of cs now
granted_state bs cs r now t size p is log blocks =
    sym (noted_state cs r now (Grant t size p) (grants_from 0 r.log.items ++ length r.log.items ∷ []) is log (grants_granted r.log.items t size p)
    ∙ ap (λ (b : Blocks). parts b (grants_from 0 r.log.items ++ length r.log.items ∷ []) (suc (length r.log.items)) r) blocks)

pub refused_state : (bs : Blocks) (r now : Rest) (t size : ℕ) → now ≡ record r { log = now.log } → now.log.items ≡ r.log.items ++ Refuse t size ∷ []
    → record (state_of bs r) { world = after_answer size false (state_of bs r).world } ≡ state_of bs now
refused_state bs r now t size is log = sym (noted_state bs r now (Refuse t size) (grants_from 0 r.log.items) is log (grants_refused r.log.items t size))

pub released_state : (bs cs : Blocks) (r now : Rest) (n t p : ℕ) → now ≡ record r { log = now.log } → now.log.items ≡ r.log.items ++ Release t p ∷ [] → cs ≡ killed bs n
    → record (state_of bs r) { world = record (without_block n (state_of bs r).world) { asked = suc (length r.log.items) } } ≡ state_of cs now
released_state bs cs r now n t p is log blocks =
    sym (noted_state cs r now (Release t p) (grants_from 0 r.log.items) is log (grants_released r.log.items t p)
    ∙ ap (λ (b : Blocks). parts b (grants_from 0 r.log.items) (suc (length r.log.items)) r) blocks)
