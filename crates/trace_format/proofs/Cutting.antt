-- How events are cut into phases.
use Rattle.std.proofs.Common.{zero, suc, ◌≡◌, ◌≢◌, ◌⊎◌, ⊎_elim, inl, inr, ℕ, ◌+◌, ◌<◌, ◌≤◌, Bool, true, false, ◌&&◌, ◌||◌, not, eqb, leb, List, [], ◌∷◌, ◌++◌, length, get_or, take, refl, sym, ap, ◌∙◌, subst, arith}
use Rattle.std.proofs.lemmas.Bool.{cases_lt, cases_eq, and_parts, and_cases, and_from, leb-true, leb-false, eqb-true, eqb-false, eq-eqb, ne_eqb, le-leb, not-true, not-false, both_ways}
use Rattle.std.proofs.lemmas.List.{append-nil, append_assoc, get_or_append_left, get_or_push, get_or-take, length_push, length-take-le, take_more, take_all}
use Rattle.trace_format.specs.Reading.{allocations, freed}
use Rattle.trace_format.specs.WellFormed.{Fits, AllFit, WellFormed}
use Rattle.trace_format.specs.Phases.{worker_of, name_of, Clash, IsCalm, PhasesFrom}
use Rattle.trace_format.specs.Cut.{owner, is_other, IsAlloc, IsNoted, Owned, owners_after, NameFits, NameFitsAt, phase, CutsTo, IsCut}
use Rattle.trace_format.specs.declared.trace.Event.{Event}
use Rattle.trace_format.specs.declared.trace.Event.TheVariants.{Alloc, Free}
use Rattle.trace_format.specs.declared.trace.Trace.{Trace}
use Rattle.trace_format.specs.declared.phase.Phase.{Phase}
use Rattle.trace_format.specs.declared.phase.Owner.{Owner}
use Rattle.trace_format.proofs.Notes.{alloc_more, alloc_same}

-- ---- owners

owned_none : Owned [] []
owned_none = record {
  count = refl;
  before = λ n o lt. absurd (omega (arith, lt));
  made = λ n o d lt. absurd (omega (arith, lt));
  noted = λ j d lt. absurd (omega (arith, lt));
}

noted_push : (owners : List Owner) (x : Owner) (j : ℕ) (e : Event) → IsNoted owners j e → IsNoted (owners ++ x ∷ []) j e
noted_push owners x j (Alloc w n t s) h = let long = length_push owners x in (omega (arith, long, h.0), λ o. get_or_append_left owners (x ∷ []) o n h.0 ∙ h.1 o)
noted_push owners x j (Free w n) h = let long = length_push owners x in omega (arith, long, h)

owned_alloc : (owners : List Owner) (done : List Event) (w n t s : ℕ) → Owned owners done → n ≡ allocations done → Owned (owners ++ owner w (length done) ∷ []) (done ++ Alloc w n t s ∷ [])
owned_alloc owners done w n t s h at =
    let x = owner w (length done) in
    let e = Alloc w n t s in
    let count = h.count in
    let owners_long = length_push owners x in
    let done_long = length_push done e in
    let more = alloc_more done w n t s in
    record {
      count = omega (arith, count, owners_long, more);
      before = λ m o lt. ⊎_elim
          (λ (l : m < length owners). let b = h.before m o l in subst (λ (y : Owner). y.event < length (done ++ e ∷ [])) (sym (get_or_append_left owners (x ∷ []) o m l)) (omega (arith, b, done_long)))
          (λ (l : length owners ≤ m). let q : length owners ≡ m = omega (arith, l, lt, owners_long) in subst (λ (y : Owner). y.event < length (done ++ e ∷ [])) (sym (get_or_push owners x o m q)) (omega (arith, done_long)))
          (cases_lt m (length owners));
      made = λ m o d lt. ⊎_elim
          (λ (l : m < length owners).
          let old = get_or owners m o in
          let b = h.before m o l in
          subst (λ (y : Owner). IsAlloc y.worker m (get_or (done ++ e ∷ []) y.event d)) (sym (get_or_append_left owners (x ∷ []) o m l))
          (subst (λ (v : Event). IsAlloc old.worker m v) (sym (get_or_append_left done (e ∷ []) d old.event b)) (h.made m o d l)))
          (λ (l : length owners ≤ m).
          let q : length owners ≡ m = omega (arith, l, lt, owners_long) in
          let same : n ≡ m = omega (arith, at, count, q) in
          let own : IsAlloc w m e = (refl, same) in
          subst (λ (y : Owner). IsAlloc y.worker m (get_or (done ++ e ∷ []) y.event d)) (sym (get_or_push owners x o m q))
          (subst (λ (v : Event). IsAlloc w m v) (sym (get_or_push done e d (length done) refl)) own))
          (cases_lt m (length owners));
      noted = λ j d lt. ⊎_elim
          (λ (l : j < length done). subst (λ (v : Event). IsNoted (owners ++ x ∷ []) j v) (sym (get_or_append_left done (e ∷ []) d j l)) (noted_push owners x j (get_or done j d) (h.noted j d l)))
          (λ (l : length done ≤ j).
          let q : length done ≡ j = omega (arith, l, lt, done_long) in
          let within : n < length (owners ++ x ∷ []) = omega (arith, at, count, owners_long) in
          let place : length owners ≡ n = omega (arith, at, count) in
          let own : IsNoted (owners ++ x ∷ []) (length done) e = (within, λ o. get_or_push owners x o n place) in
          subst (λ (v : Event). IsNoted (owners ++ x ∷ []) j v) (sym (get_or_push done e d j q)) (subst (λ (k : ℕ). IsNoted (owners ++ x ∷ []) k e) q own))
          (cases_lt j (length done));
    }

owned_free : (owners : List Owner) (done : List Event) (w n : ℕ) → Owned owners done → n < allocations done → Owned owners (done ++ Free w n ∷ [])
owned_free owners done w n h lt =
    let e = Free w n in
    let count = h.count in
    let long = length_push done e in
    record {
      count = count ∙ sym (alloc_same done w n);
      before = λ m o l. let b = h.before m o l in omega (arith, b, long);
      made = λ m o d l. subst (λ (v : Event). IsAlloc (get_or owners m o).worker m v) (sym (get_or_append_left done (e ∷ []) d (get_or owners m o).event (h.before m o l))) (h.made m o d l);
      noted = λ j d l. ⊎_elim
          (λ (x : j < length done). subst (λ (v : Event). IsNoted owners j v) (sym (get_or_append_left done (e ∷ []) d j x)) (h.noted j d x))
          (λ (x : length done ≤ j).
          let q : length done ≡ j = omega (arith, x, l, long) in
          let own : IsNoted owners j e = omega (arith, lt, count) in
          subst (λ (v : Event). IsNoted owners j v) (sym (get_or_push done e d j q)) own)
          (cases_lt j (length done));
    }

owned_more : (owners : List Owner) (done : List Event) (e : Event) → Owned owners done → NameFits done e → Owned (owners_after owners (length done) e) (done ++ e ∷ [])
owned_more owners done (Alloc w n t s) h f = owned_alloc owners done w n t s h f
owned_more owners done (Free w n) h f = owned_free owners done w n h f.0

pub owned_next : (owners : List Owner) (es : List Event) (at : ℕ) (d : Event) → at < length es → Owned owners (take at es) → NameFits (take at es) (get_or es at d) → Owned (owners_after owners at (get_or es at d)) (take (at + 1) es)
owned_next owners es at d lt h f =
    let long : length (take at es) ≡ at = length-take-le at es (omega (arith, lt)) in
    subst (λ (k : ℕ). Owned (owners_after owners k (get_or es at d)) (take (at + 1) es)) long
    (subst (λ (done : List Event). Owned (owners_after owners (length (take at es)) (get_or es at d)) done) (sym (take_more es at d lt)) (owned_more owners (take at es) (get_or es at d) h f))

-- ---- names fit

pub names_fit : (count workers : ℕ) (before es : List Event) (k : ℕ) (d : Event) → AllFit count workers before es → k < length es → Fits count workers (before ++ take k es) (get_or es k d)
names_fit count workers before [] k d a lt = absurd (omega (arith, lt))
names_fit count workers before (e ∷ es) zero d a lt = subst (λ (b : List Event). Fits count workers b e) (sym (append-nil before)) a.0
names_fit count workers before (e ∷ es) (suc k) d a lt =
    subst (λ (b : List Event). Fits count workers b (get_or es k d)) (append_assoc before (e ∷ []) (take k es)) (names_fit count workers (before ++ e ∷ []) es k d a.1 (omega (arith, lt)))

fits_name : (count workers : ℕ) (before : List Event) (e : Event) → Fits count workers before e → NameFits before e
fits_name count workers before (Alloc w n t s) f = f.1
fits_name count workers before (Free w n) f = (f.1, f.2)

pub name_fits_at : (t : Trace) → WellFormed t → (at : ℕ) → at < length t.events → NameFitsAt t.events at
name_fits_at t w at lt = λ d. fits_name t.count t.workers (take at t.events) (get_or t.events at d) (names_fit t.count t.workers [] t.events at d w.fit lt)

-- ---- clashes

alloc_name : (w n : ℕ) (e : Event) → IsAlloc w n e → name_of e ≡ n
alloc_name w n (Alloc a b c d) h = h.1
alloc_name w n (Free a b) h = absurd h

alloc_worker : (w n : ℕ) (e : Event) → IsAlloc w n e → worker_of e ≡ w
alloc_worker w n (Alloc a b c d) h = h.0
alloc_worker w n (Free a b) h = absurd h

noted_name : (owners : List Owner) (j : ℕ) (e : Event) → IsNoted owners j e → name_of e < length owners
noted_name owners j (Alloc a b c d) h = h.0
noted_name owners j (Free a b) h = h

freed_at : (done : List Event) (j : ℕ) (d : Event) (w n m : ℕ) → j < length done → get_or done j d ≡ Free w n → n ≡ m → freed m done ≡ true
freed_at [] j d w n m lt e q = absurd (omega (arith, lt))
freed_at (x ∷ xs) zero d w n m lt e q = ap (λ (v : Event). freed m (v ∷ xs)) e ∙ ap (λ (b : Bool). b || freed m xs) (eq-eqb n m q)
freed_at (Alloc a b c s ∷ xs) (suc j) d w n m lt e q = freed_at xs j d w n m (omega (arith, lt)) e q
freed_at (Free a b ∷ xs) (suc j) d w n m lt e q = ap (λ (v : Bool). eqb b m || v) (freed_at xs j d w n m (omega (arith, lt)) e q) ∙ or_true (eqb b m)
  where
    or_true : (v : Bool) → v || true ≡ true
    or_true true = refl
    or_true false = refl

pub some_event : Event
some_event = Free 0 0

pub clash_yes : (es : List Event) (start k w n : ℕ) (owners : List Owner) (o : Owner) → k < length es → Owned owners (take k es) → ((d : Event) → get_or es k d ≡ Free w n) → n < length owners → o ≡ get_or owners n o → is_other o start w ≡ true → Clash es start k
clash_yes es start k w n owners o within h is lt e test =
    let long : length (take k es) ≡ k = length-take-le k es (omega (arith, within)) in
    let parts = and_parts (leb start o.event) (not (eqb o.worker w)) test in
    let below : o.event < length (take k es) = subst (λ (y : Owner). y.event < length (take k es)) (sym e) (h.before n o lt) in
    let early : o.event < k = omega (arith, below, long) in
    let made : (d : Event) → IsAlloc o.worker n (get_or es o.event d) =
    λ d. subst (λ (v : Event). IsAlloc o.worker n v) (get_or-take k es o.event d early) (subst (λ (y : Owner). IsAlloc y.worker n (get_or (take k es) y.event d)) (sym e) (h.made n o d lt)) in
    record {
      other = o.event;
      from = leb-true start o.event parts.0;
      before = early;
      name = λ d. alloc_name o.worker n (get_or es o.event d) (made d) ∙ sym (ap name_of (is d));
      worker = λ d q. eqb-false o.worker w (not-true (eqb o.worker w) parts.1) (sym (alloc_worker o.worker n (get_or es o.event d) (made d)) ∙ q ∙ ap worker_of (is d));
    }

clash_no_by : (owners : List Owner) (done : List Event) (start j w n : ℕ) (o : Owner) (x : Event) → IsNoted owners j x → j < length done → get_or done j some_event ≡ x → name_of x ≡ n → worker_of x ≢ w → start ≤ j → o ≡ get_or owners n o → freed n done ≡ false → is_other o start w ≡ false → ⊥
clash_no_by owners done start j w n o (Alloc a b c s) noted lt at name worker from e none test =
    let same : o ≡ owner a j = e ∙ ap (λ (k : ℕ). get_or owners k o) (sym name) ∙ noted.1 o in
    let event : o.event ≡ j = ap (λ (y : Owner). y.event) same in
    let who : o.worker ≡ a = ap (λ (y : Owner). y.worker) same in
    ⊎_elim {C = ⊥}
    (λ (f : leb start o.event ≡ false). let l = leb-false start o.event f in omega (arith, l, event, from))
    (λ (f : not (eqb o.worker w) ≡ false). worker (sym who ∙ eqb-true o.worker w (not-false (eqb o.worker w) f)))
    (and_cases (leb start o.event) (not (eqb o.worker w)) test)
clash_no_by owners done start j w n o (Free a b) noted lt at name worker from e none test = both_ways (freed n done) none (freed_at done j some_event a b n lt at name)

pub clash_no : (es : List Event) (start k w n : ℕ) (owners : List Owner) (o : Owner) → k < length es → Owned owners (take k es) → ((d : Event) → get_or es k d ≡ Free w n) → freed n (take k es) ≡ false → o ≡ get_or owners n o → is_other o start w ≡ false → ¬ Clash es start k
clash_no es start k w n owners o within h is none e test = λ c.
    let long : length (take k es) ≡ k = length-take-le k es (omega (arith, within)) in
    let before = c.before in
    let early : c.other < length (take k es) = omega (arith, before, long) in
    let same : get_or (take k es) c.other some_event ≡ get_or es c.other some_event = get_or-take k es c.other some_event before in
    clash_no_by owners (take k es) start c.other w n o (get_or es c.other some_event)
    (subst (λ (v : Event). IsNoted owners c.other v) same (h.noted c.other some_event early)) early same
    (c.name some_event ∙ ap name_of (is some_event)) (λ q. c.worker some_event (q ∙ sym (ap worker_of (is some_event)))) c.from e none test

pub clash_none : (es : List Event) (start k w n t s : ℕ) (owners : List Owner) → k < length es → Owned owners (take k es) → ((d : Event) → get_or es k d ≡ Alloc w n t s) → n ≡ allocations (take k es) → ¬ Clash es start k
clash_none es start k w n t s owners within h is fits = λ c.
    let long : length (take k es) ≡ k = length-take-le k es (omega (arith, within)) in
    let before = c.before in
    let count = h.count in
    let early : c.other < length (take k es) = omega (arith, before, long) in
    let same : get_or (take k es) c.other some_event ≡ get_or es c.other some_event = get_or-take k es c.other some_event before in
    let below = noted_name owners c.other (get_or es c.other some_event) (subst (λ (v : Event). IsNoted owners c.other v) same (h.noted c.other some_event early)) in
    let name : name_of (get_or es c.other some_event) ≡ n = c.name some_event ∙ ap name_of (is some_event) in
    omega (arith, below, name, fits, count)

-- ---- cuts

cuts_more : (es : List Event) (from start end : ℕ) (found : List Phase) → CutsTo es from found start → start < end → end ≤ length es → IsCalm es start end → Clash es start end → CutsTo es from (found ++ phase start end ∷ []) end
cuts_more es from start end [] h lt le calm clash = (sym h, subst (λ (k : ℕ). k < end) (sym h) lt, le, subst (λ (k : ℕ). IsCalm es k end) (sym h) calm, subst (λ (k : ℕ). Clash es k end) (sym h) clash, refl)
cuts_more es from start end (p ∷ ps) h lt le calm clash = (h.0, h.1, h.2, h.3, h.4, cuts_more es p.end start end ps h.5 lt le calm clash)

cuts_last : (es : List Event) (from start end : ℕ) (found : List Phase) → CutsTo es from found start → start < end → end ≡ length es → IsCalm es start end → PhasesFrom es from (found ++ phase start end ∷ [])
cuts_last es from start end [] h lt q calm =
    let le : end ≤ length es = omega (arith, q) in
    (sym h, subst (λ (k : ℕ). k < end) (sym h) lt, le, subst (λ (k : ℕ). IsCalm es k end) (sym h) calm, (λ l. absurd (omega (arith, l, q))), q)
cuts_last es from start end (p ∷ ps) h lt q calm = (h.0, h.1, h.2, h.3, (λ l. h.4), cuts_last es p.end start end ps h.5 lt q calm)

cuts_whole : (es : List Event) (from end : ℕ) (found : List Phase) → CutsTo es from found end → end ≡ length es → PhasesFrom es from found
cuts_whole es from end [] h q = h ∙ q
cuts_whole es from end (p ∷ ps) h q = (h.0, h.1, h.2, h.3, (λ l. h.4), cuts_whole es p.end end ps h.5 q)

-- ---- steps

pub cut_none : (es : List Event) → IsCut es 0 0 [] [] 0
cut_none es = record { cuts = refl; reached = omega arith; is_calm = λ k ge lt. absurd (omega (arith, lt)); owned = owned_none }

pub cut_calm : (es : List Event) (at start : ℕ) (owners : List Owner) (found : List Phase) → IsCut es at at owners found start → ¬ Clash es start at → IsCut es at (at + 1) owners found start
cut_calm es at start owners found h none = record {
  cuts = h.cuts;
  reached = h.reached;
  is_calm = λ k ge lt. ⊎_elim
      (λ (x : k < at). h.is_calm k ge x)
      (λ (x : at ≤ k). let q : at ≡ k = omega (arith, x, lt) in subst (λ (i : ℕ). ¬ Clash es start i) q none)
      (cases_lt k at);
  owned = h.owned;
}

pub cut_turn : (es : List Event) (at start : ℕ) (owners : List Owner) (found : List Phase) → at < length es → IsCut es at at owners found start → Clash es start at → IsCut es at (at + 1) owners (found ++ phase start at ∷ []) at
cut_turn es at start owners found within h clash =
    let from = clash.from in
    let before = clash.before in
    record {
      cuts = cuts_more es 0 start at found h.cuts (omega (arith, from, before)) (omega (arith, within)) h.is_calm clash;
      reached = omega arith;
      is_calm = λ k ge lt. λ c. let a = c.from in let b = c.before in omega (arith, a, b, ge, lt);
      owned = h.owned;
    }

pub cut_noted : (es : List Event) (at start : ℕ) (owners : List Owner) (found : List Phase) (d : Event) → at < length es → IsCut es at (at + 1) owners found start → NameFits (take at es) (get_or es at d) → IsCut es (at + 1) (at + 1) (owners_after owners at (get_or es at d)) found start
cut_noted es at start owners found d within h fits = let r = h.reached in record {
  cuts = h.cuts;
  reached = omega (arith, r);
  is_calm = h.is_calm;
  owned = owned_next owners es at d within h.owned fits;
}

pub cut_last : (es : List Event) (at start : ℕ) (owners : List Owner) (found : List Phase) → IsCut es at at owners found start → at ≡ length es → start < at → PhasesFrom es 0 (found ++ phase start at ∷ [])
cut_last es at start owners found h q lt = cuts_last es 0 start at found h.cuts lt q h.is_calm

pub cut_whole : (es : List Event) (at start : ℕ) (owners : List Owner) (found : List Phase) → IsCut es at at owners found start → at ≡ length es → at ≤ start → PhasesFrom es 0 found
cut_whole es at start owners found h q le = let r = h.reached in let same : start ≡ length es = omega (arith, r, q, le) in cuts_whole es 0 start found h.cuts same

free_fits : (t : Trace) (at : ℕ) (w n : ℕ) → WellFormed t → at < length t.events → ((d : Event) → Free w n ≡ get_or t.events at d) → NameFits (take at t.events) (Free w n)
free_fits t at w n f lt is = subst (λ (e : Event). NameFits (take at t.events) e) (sym (is some_event)) (name_fits_at t f at lt some_event)

alloc_fits : (t : Trace) (at : ℕ) (w n k s : ℕ) → WellFormed t → at < length t.events → ((d : Event) → Alloc w n k s ≡ get_or t.events at d) → NameFits (take at t.events) (Alloc w n k s)
alloc_fits t at w n k s f lt is = subst (λ (e : Event). NameFits (take at t.events) e) (sym (is some_event)) (name_fits_at t f at lt some_event)

pub name_within : (t : Trace) (at start : ℕ) (owners : List Owner) (found : List Phase) (w n : ℕ) → WellFormed t → at < length t.events → IsCut t.events at at owners found start → ((d : Event) → Free w n ≡ get_or t.events at d) → n < length owners
name_within t at start owners found w n f lt h is = let x = (free_fits t at w n f lt is).0 in let c = h.owned.count in omega (arith, x, c)

pub free_clashes : (t : Trace) (at start : ℕ) (owners : List Owner) (found : List Phase) (w n : ℕ) (o : Owner) → WellFormed t → at < length t.events → IsCut t.events at at owners found start → ((d : Event) → Free w n ≡ get_or t.events at d) → ((d : Owner) → o ≡ get_or owners n d) → is_other o start w ≡ true → Clash t.events start at
free_clashes t at start owners found w n o f lt h is own test =
    clash_yes t.events start at w n owners o lt h.owned (λ d. sym (is d)) (name_within t at start owners found w n f lt h is) (own o) test

pub free_is_calm : (t : Trace) (at start : ℕ) (owners : List Owner) (found : List Phase) (w n : ℕ) (o : Owner) → WellFormed t → at < length t.events → IsCut t.events at at owners found start → ((d : Event) → Free w n ≡ get_or t.events at d) → ((d : Owner) → o ≡ get_or owners n d) → is_other o start w ≡ false → ¬ Clash t.events start at
free_is_calm t at start owners found w n o f lt h is own test =
    clash_no t.events start at w n owners o lt h.owned (λ d. sym (is d)) (free_fits t at w n f lt is).1 (own o) test

pub alloc_is_calm : (t : Trace) (at start : ℕ) (owners : List Owner) (found : List Phase) (w n k s : ℕ) → WellFormed t → at < length t.events → IsCut t.events at at owners found start → ((d : Event) → Alloc w n k s ≡ get_or t.events at d) → ¬ Clash t.events start at
alloc_is_calm t at start owners found w n k s f lt h is =
    clash_none t.events start at w n k s owners lt h.owned (λ d. sym (is d)) (alloc_fits t at w n k s f lt is)

pub alloc_noted : (t : Trace) (at start : ℕ) (owners : List Owner) (found : List Phase) (w n k s : ℕ) → WellFormed t → at < length t.events → IsCut t.events at (at + 1) owners found start → ((d : Event) → Alloc w n k s ≡ get_or t.events at d) → IsCut t.events (at + 1) (at + 1) (owners ++ owner w at ∷ []) found start
alloc_noted t at start owners found w n k s f lt h is =
    subst (λ (e : Event). IsCut t.events (at + 1) (at + 1) (owners_after owners at e) found start) (sym (is some_event))
    (cut_noted t.events at start owners found some_event lt h (name_fits_at t f at lt some_event))

pub free_noted : (t : Trace) (at start : ℕ) (owners : List Owner) (found : List Phase) (w n : ℕ) → WellFormed t → at < length t.events → IsCut t.events at (at + 1) owners found start → ((d : Event) → Free w n ≡ get_or t.events at d) → IsCut t.events (at + 1) (at + 1) owners found start
free_noted t at start owners found w n f lt h is =
    subst (λ (e : Event). IsCut t.events (at + 1) (at + 1) (owners_after owners at e) found start) (sym (is some_event))
    (cut_noted t.events at start owners found some_event lt h (name_fits_at t f at lt some_event))
