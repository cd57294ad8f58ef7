-- What each event of a trace changes.
use Rattle.std.proofs.Common.{zero, suc, ◌≡◌, ◌≢◌, ⊎_elim, ℕ, ◌+◌, ◌<◌, ◌≤◌, Bool, true, false, cond, eqb, List, [], ◌∷◌, ◌++◌, length, get_or, take, drop, Option, Some, None, refl, sym, ap, ◌∙◌, subst, arith}
use Rattle.std.specs.Prelude.{MatchOption, Result, Ok, Err, OnOk}
use Rattle.std.proofs.lemmas.Bool.{cases_lt, eq-eqb, ne_eqb, both_ways}
use Rattle.std.proofs.lemmas.Bool.Decides.{eqb_tells}
use Rattle.std.proofs.lemmas.List.{append-nil, append_assoc, get_or_append_left, get_or_push, get_or-set_same, get_or-set_other, length-set, length-map, get_or-map, length_push, take_more, take_at, take-append-drop}
use Rattle.range_heap.specs.declared.call.HeapCall.{HeapCall}
use Rattle.range_heap.specs.declared.call.HeapEvent.TheVariants.{Grant, Refuse, Release}
use Rattle.range_heap.specs.declared.call.RangeCall.TheVariants.{Ask, GiveBack}
use Rattle.range_heap.specs.Blocks.{rounded, live}
use Rattle.range_heap.specs.History.{call_of, Legal}
use Rattle.range_heap.specs.Ranges.{range_at, AllLegal}
use Rattle.range_heap.specs.Seen.{Kept, AllHeaps}
use Rattle.range_heap.specs.Steps.{noted, Made, histories}
use Rattle.range_heap.proofs.Clear.{rounded_some, some_same}
use Rattle.range_heap.proofs.Histories.{live-snoc, legal-front, legal-last, clear_not_live}
use Rattle.range_heap.proofs.Apart.{stay_apart}
use Rattle.trace_format.specs.Reading.{allocations, freed}
use Rattle.trace_format.specs.WellFormed.{Fits, AllFit, WellFormed}
use Rattle.trace_format.specs.Phases.{name_of}
use Rattle.trace_format.specs.declared.trace.Event.{Event}
use Rattle.trace_format.specs.declared.trace.Event.TheVariants.{Alloc, Free}
use Rattle.trace_format.specs.declared.trace.Trace.{Trace}
use Rattle.trace_format.specs.declared.phase.Phase.{Phase}
use Rattle.trace_format.proofs.Notes.{alloc_more, alloc_same, freed_same, freed_now, freed_else}
use Rattle.trace_format.proofs.Cutting.{names_fit, some_event}
use Rattle.trace_replay.specs.Due.{token_of, is_token, fate_of, outcome, released, calls_of, due, by, CoversRange, Alone}
use Rattle.trace_replay.specs.Going.{Holds, Below, Going, Asked, GivenBack}
use Rattle.trace_replay.specs.Replayed.{AreFronts, Replayed}
use Rattle.trace_replay.specs.Report.{Reportable}
use Rattle.trace_replay.specs.declared.histories.Histories.{Histories}

-- ---- what is due

pub due_append : (f : List (Option ℕ)) (trace : List Event) (t : ℕ) (xs ys : List Event) → due f trace t (xs ++ ys) ≡ due f trace t xs ++ due f trace t ys
due_append f trace t [] ys = refl
due_append f trace t (x ∷ xs) ys =
    ap (λ (l : List HeapCall). calls_of f trace t x ++ l) (due_append f trace t xs ys) ∙ sym (append_assoc (calls_of f trace t x) (due f trace t xs) (due f trace t ys))

due_one : (f : List (Option ℕ)) (trace : List Event) (t : ℕ) (done : List Event) (e : Event) → due f trace t (done ++ e ∷ []) ≡ due f trace t done ++ calls_of f trace t e
due_one f trace t done e = due_append f trace t done (e ∷ []) ∙ ap (λ (l : List HeapCall). due f trace t done ++ l) (append-nil (calls_of f trace t e))

calls_fates : (f : List (Option ℕ)) (a : Option ℕ) (trace : List Event) (t : ℕ) (e : Event) → name_of e < length f → calls_of (f ++ a ∷ []) trace t e ≡ calls_of f trace t e
calls_fates f a trace t (Alloc w n token s) lt = ap (λ (o : Option ℕ). cond (eqb token t) (call_of w (outcome s o) ∷ []) []) (get_or_append_left f (a ∷ []) None n lt)
calls_fates f a trace t (Free w n) lt = ap (λ (o : Option ℕ). cond (is_token t (token_of n trace)) (released w o) []) (get_or_append_left f (a ∷ []) None n lt)

due_fates : (f : List (Option ℕ)) (a : Option ℕ) (trace : List Event) (t : ℕ) (es : List Event) → Below (length f) es → due (f ++ a ∷ []) trace t es ≡ due f trace t es
due_fates f a trace t [] b = refl
due_fates f a trace t (e ∷ es) b =
    ap (λ (l : List HeapCall). l ++ due (f ++ a ∷ []) trace t es) (calls_fates f a trace t e b.0) ∙ ap (λ (l : List HeapCall). calls_of f trace t e ++ l) (due_fates f a trace t es b.1)

pub below_more : (k m : ℕ) (es : List Event) → k ≤ m → Below k es → Below m es
below_more k m [] le b = tt
below_more k m (e ∷ es) le b = let x = b.0 in (omega (arith, x, le), below_more k m es le b.1)

pub below_one : (k : ℕ) (es : List Event) (e : Event) → Below k es → name_of e < k → Below k (es ++ e ∷ [])
below_one k [] e b lt = (lt, tt)
below_one k (x ∷ xs) e b lt = (b.0, below_one k xs e b.1 lt)

-- ---- histories

noted_same : (hs : List (List HeapCall)) (t : ℕ) (e : HeapCall) → t < length hs → get_or (noted hs t e) t [] ≡ get_or hs t [] ++ e ∷ []
noted_same hs t e lt = get_or-set_same hs t (get_or hs t [] ++ e ∷ []) [] lt

noted_other : (hs : List (List HeapCall)) (t u : ℕ) (e : HeapCall) → u ≢ t → get_or (noted hs t e) u [] ≡ get_or hs u []
noted_other hs t u e ne = get_or-set_other hs t u (get_or hs t [] ++ e ∷ []) [] ne

either : (b : Bool) → cond b true true ≡ true
either true = refl
either false = refl

live_asked : (h : List HeapCall) (w s p : ℕ) (a : Option ℕ) → live p h ≡ true → live p (h ++ call_of w (outcome s a) ∷ []) ≡ true
live_asked h w s p None l = live-snoc p h (call_of w (Refuse s)) ∙ l
live_asked h w s p (Some q) l = live-snoc p h (call_of w (Grant s q)) ∙ ap (λ (b : Bool). cond (eqb q p) true b) l ∙ either (eqb q p)

live_granted : (h : List HeapCall) (w s p : ℕ) → live p (h ++ call_of w (Grant s p) ∷ []) ≡ true
live_granted h w s p = live-snoc p h (call_of w (Grant s p)) ∙ ap (λ (b : Bool). cond b true (live p h)) (eq-eqb p p refl)

live_still : (h : List HeapCall) (w p q : ℕ) → q ≢ p → live p h ≡ true → live p (h ++ call_of w (Release q) ∷ []) ≡ true
live_still h w p q ne l = live-snoc p h (call_of w (Release q)) ∙ ap (λ (b : Bool). cond b false (live p h)) (ne_eqb q p ne) ∙ l

-- ---- an allocation

module _ (count : ℕ) (trace done : List Event) (fates : List (Option ℕ)) (hs : List (List HeapCall)) (w n t0 s : ℕ) (a : Option ℕ) (g : Going count trace done fates hs) (at : n ≡ allocations done) (lt0 : t0 < count) (token : token_of n trace ≡ Some t0) where
  asked_before : (m p t : ℕ) → Holds trace (done ++ Alloc w n t0 s ∷ []) (fates ++ a ∷ []) m p t → m < length fates → Holds trace done fates m p t
  asked_before m p t h lt = record {
    within = lt;
    place = sym (get_or_append_left fates (a ∷ []) None m lt) ∙ h.place;
    kept = sym (freed_same m done w n t0 s) ∙ h.kept;
    token = h.token;
  }

  asked_name : (m p t : ℕ) → Holds trace (done ++ Alloc w n t0 s ∷ []) (fates ++ a ∷ []) m p t → length fates ≤ m → m ≡ n
  asked_name m p t h le =
      let long = length_push fates a in
      let within = h.within in
      let named = g.named in
      omega (arith, le, long, within, named, at)

  asked_place : (m p t : ℕ) → Holds trace (done ++ Alloc w n t0 s ∷ []) (fates ++ a ∷ []) m p t → length fates ≤ m → a ≡ Some p
  asked_place m p t h le =
      let q = asked_name m p t h le in
      let named = g.named in
      let long : length fates ≡ m = omega (arith, q, named, at) in
      sym (get_or_push fates a None m long) ∙ h.place

  asked_range : (m p t : ℕ) → Holds trace (done ++ Alloc w n t0 s ∷ []) (fates ++ a ∷ []) m p t → length fates ≤ m → t ≡ t0
  asked_range m p t h le = some_same t t0 (sym h.token ∙ ap (λ (k : ℕ). token_of k trace) (asked_name m p t h le) ∙ token)

  asked_due : (t : ℕ) → due (fates ++ a ∷ []) trace t (done ++ Alloc w n t0 s ∷ []) ≡ due fates trace t done ++ cond (eqb t0 t) (call_of w (outcome s a) ∷ []) []
  asked_due t =
      let named = g.named in
      let long : length fates ≡ n = omega (arith, named, at) in
      due_one (fates ++ a ∷ []) trace t done (Alloc w n t0 s)
      ∙ ap (λ (l : List HeapCall). l ++ calls_of (fates ++ a ∷ []) trace t (Alloc w n t0 s)) (due_fates fates a trace t done g.below)
      ∙ ap (λ (o : Option ℕ). due fates trace t done ++ cond (eqb t0 t) (call_of w (outcome s o) ∷ []) []) (get_or_push fates a None n long)

  asked_order : (t : ℕ) → t < count → get_or (noted hs t0 (call_of w (outcome s a))) t [] ≡ due (fates ++ a ∷ []) trace t (done ++ Alloc w n t0 s ∷ [])
  asked_order t lt =
      let e = call_of w (outcome s a) in
      let ranges = g.ranges in
      ⊎_elim
      (λ (x : (eqb t0 t ≡ true) × (t0 ≡ t)).
      let in0 : t < length hs = omega (arith, lt, ranges) in
      ap (λ (k : ℕ). get_or (noted hs k e) t []) x.1 ∙ noted_same hs t e in0 ∙ ap (λ (l : List HeapCall). l ++ e ∷ []) (g.order t lt)
      ∙ ap (λ (b : Bool). due fates trace t done ++ cond b (e ∷ []) []) (sym x.0) ∙ sym (asked_due t))
      (λ (x : (eqb t0 t ≡ false) × (t0 ≢ t)).
      noted_other hs t0 t e (λ q. x.1 (sym q)) ∙ g.order t lt ∙ sym (append-nil (due fates trace t done))
      ∙ ap (λ (b : Bool). due fates trace t done ++ cond b (e ∷ []) []) (sym x.0) ∙ sym (asked_due t))
      (eqb_tells t0 t)

  asked_lives : (m p t : ℕ) → t < count → Holds trace (done ++ Alloc w n t0 s ∷ []) (fates ++ a ∷ []) m p t → live p (get_or (noted hs t0 (call_of w (outcome s a))) t []) ≡ true
  asked_lives m p t lt h =
      let e = call_of w (outcome s a) in
      let ranges = g.ranges in
      ⊎_elim
      (λ (x : m < length fates).
      let old : live p (get_or hs t []) ≡ true = g.lives m p t lt (asked_before m p t h x) in
      ⊎_elim
      (λ (y : (eqb t0 t ≡ true) × (t0 ≡ t)).
      let in0 : t < length hs = omega (arith, lt, ranges) in
      ap (λ (k : ℕ). live p (get_or (noted hs k e) t [])) y.1 ∙ ap (λ (l : List HeapCall). live p l) (noted_same hs t e in0) ∙ live_asked (get_or hs t []) w s p a old)
      (λ (y : (eqb t0 t ≡ false) × (t0 ≢ t)). ap (λ (l : List HeapCall). live p l) (noted_other hs t0 t e (λ q. y.1 (sym q))) ∙ old)
      (eqb_tells t0 t))
      (λ (x : length fates ≤ m).
      let in0 : t0 < length hs = omega (arith, lt0, ranges) in
      ap (λ (k : ℕ). live p (get_or (noted hs t0 e) k [])) (asked_range m p t h x) ∙ ap (λ (l : List HeapCall). live p l) (noted_same hs t0 e in0)
      ∙ ap (λ (o : Option ℕ). live p (get_or hs t0 [] ++ call_of w (outcome s o) ∷ [])) (asked_place m p t h x) ∙ live_granted (get_or hs t0 []) w s p)
      (cases_lt m (length fates))

  asked_new : ((p : ℕ) → a ≡ Some p → live p (get_or hs t0 []) ≡ false) → (m k p t : ℕ) → t < count → Holds trace (done ++ Alloc w n t0 s ∷ []) (fates ++ a ∷ []) m p t → Holds trace (done ++ Alloc w n t0 s ∷ []) (fates ++ a ∷ []) k p t → m < length fates → length fates ≤ k → ⊥
  asked_new fresh m k p t lt h i x y =
      both_ways (live p (get_or hs t0 [])) (fresh p (asked_place k p t i y))
      (subst (λ (v : ℕ). live p (get_or hs v []) ≡ true) (asked_range k p t i y) (g.lives m p t lt (asked_before m p t h x)))

  asked_apart : ((p : ℕ) → a ≡ Some p → live p (get_or hs t0 []) ≡ false) → (m k p t : ℕ) → t < count → Holds trace (done ++ Alloc w n t0 s ∷ []) (fates ++ a ∷ []) m p t → Holds trace (done ++ Alloc w n t0 s ∷ []) (fates ++ a ∷ []) k p t → m ≡ k
  asked_apart fresh m k p t lt h i =
      ⊎_elim
      (λ (x : m < length fates).
      ⊎_elim
      (λ (y : k < length fates). g.apart m k p t lt (asked_before m p t h x) (asked_before k p t i y))
      (λ (y : length fates ≤ k). absurd (asked_new fresh m k p t lt h i x y))
      (cases_lt k (length fates)))
      (λ (x : length fates ≤ m).
      ⊎_elim
      (λ (y : k < length fates). absurd (asked_new fresh k m p t lt i h y x))
      (λ (y : length fates ≤ k). asked_name m p t h x ∙ sym (asked_name k p t i y))
      (cases_lt k (length fates)))
      (cases_lt m (length fates))

  step_alloc : ((p : ℕ) → a ≡ Some p → live p (get_or hs t0 []) ≡ false) → Going count trace (done ++ Alloc w n t0 s ∷ []) (fates ++ a ∷ []) (noted hs t0 (call_of w (outcome s a)))
  step_alloc fresh =
      let long = length_push fates a in
      let more = alloc_more done w n t0 s in
      let named = g.named in
      record {
        ranges = length-set hs t0 (get_or hs t0 [] ++ call_of w (outcome s a) ∷ []) ∙ g.ranges;
        named = omega (arith, long, more, named);
        below = below_one (length (fates ++ a ∷ [])) done (Alloc w n t0 s) (below_more (length fates) (length (fates ++ a ∷ [])) done (omega (arith, long)) g.below) (omega (arith, long, named, at));
        tokens = λ m lt. ⊎_elim
            (λ (x : m < length fates). g.tokens m x)
            (λ (x : length fates ≤ m). let q : n ≡ m = omega (arith, x, lt, long, named, at) in record { token = t0; below = lt0; is = ap (λ (k : ℕ). token_of k trace) (sym q) ∙ token })
            (cases_lt m (length fates));
        order = asked_order;
        lives = asked_lives;
        apart = asked_apart fresh;
      }

-- ---- a release

module _ (count : ℕ) (trace done : List Event) (fates : List (Option ℕ)) (hs : List (List HeapCall)) (w n t0 : ℕ) (g : Going count trace done fates hs) (within : n < length fates) (lt0 : t0 < count) (token : token_of n trace ≡ Some t0) where
  freed_before : (m p t : ℕ) → Holds trace (done ++ Free w n ∷ []) fates m p t → Holds trace done fates m p t
  freed_before m p t h = record {
    within = h.within;
    place = h.place;
    kept = ⊎_elim
        (λ (x : (eqb n m ≡ true) × (n ≡ m)). absurd (both_ways (freed m (done ++ Free w n ∷ [])) h.kept (freed_now m done w n x.0)))
        (λ (x : (eqb n m ≡ false) × (n ≢ m)). sym (freed_else m done w n x.0) ∙ h.kept)
        (eqb_tells n m);
    token = h.token;
  }

  freed_other : (m p t : ℕ) → Holds trace (done ++ Free w n ∷ []) fates m p t → m ≢ n
  freed_other m p t h = λ q. both_ways (freed m (done ++ Free w n ∷ [])) h.kept (freed_now m done w n (eq-eqb n m (sym q)))

  freed_due : (t : ℕ) → due fates trace t (done ++ Free w n ∷ []) ≡ due fates trace t done ++ cond (eqb t0 t) (released w (fate_of fates n)) []
  freed_due t = due_one fates trace t done (Free w n) ∙ ap (λ (o : Option ℕ). due fates trace t done ++ cond (is_token t o) (released w (fate_of fates n)) []) token

  step_nothing : fate_of fates n ≡ None → Going count trace (done ++ Free w n ∷ []) fates hs
  step_nothing none = record {
    ranges = g.ranges;
    named = g.named ∙ sym (alloc_same done w n);
    below = below_one (length fates) done (Free w n) g.below within;
    tokens = g.tokens;
    order = λ t lt. g.order t lt ∙ sym (append-nil (due fates trace t done)) ∙ ap (λ (l : List HeapCall). due fates trace t done ++ l) (sym (nothing (eqb t0 t))) ∙ ap (λ (o : Option ℕ). due fates trace t done ++ cond (eqb t0 t) (released w o) []) (sym none) ∙ sym (freed_due t);
    lives = λ m p t lt h. g.lives m p t lt (freed_before m p t h);
    apart = λ m k p t lt h i. g.apart m k p t lt (freed_before m p t h) (freed_before k p t i);
  }
    where
      nothing : (b : Bool) → cond b (released w None) [] ≡ []
      nothing true = refl
      nothing false = refl

  freed_order : (p : ℕ) → fate_of fates n ≡ Some p → (t : ℕ) → t < count → get_or (noted hs t0 (call_of w (Release p))) t [] ≡ due fates trace t (done ++ Free w n ∷ [])
  freed_order p is t lt =
      let e = call_of w (Release p) in
      let ranges = g.ranges in
      let all : due fates trace t (done ++ Free w n ∷ []) ≡ due fates trace t done ++ cond (eqb t0 t) (e ∷ []) [] = freed_due t ∙ ap (λ (o : Option ℕ). due fates trace t done ++ cond (eqb t0 t) (released w o) []) is in
      ⊎_elim
      (λ (x : (eqb t0 t ≡ true) × (t0 ≡ t)).
      let in0 : t < length hs = omega (arith, lt, ranges) in
      ap (λ (k : ℕ). get_or (noted hs k e) t []) x.1 ∙ noted_same hs t e in0 ∙ ap (λ (l : List HeapCall). l ++ e ∷ []) (g.order t lt)
      ∙ ap (λ (b : Bool). due fates trace t done ++ cond b (e ∷ []) []) (sym x.0) ∙ sym all)
      (λ (x : (eqb t0 t ≡ false) × (t0 ≢ t)).
      noted_other hs t0 t e (λ q. x.1 (sym q)) ∙ g.order t lt ∙ sym (append-nil (due fates trace t done))
      ∙ ap (λ (b : Bool). due fates trace t done ++ cond b (e ∷ []) []) (sym x.0) ∙ sym all)
      (eqb_tells t0 t)

  freed_lives : (p : ℕ) → fate_of fates n ≡ Some p → freed n done ≡ false → (m q t : ℕ) → t < count → Holds trace (done ++ Free w n ∷ []) fates m q t → live q (get_or (noted hs t0 (call_of w (Release p))) t []) ≡ true
  freed_lives p is kept m q t lt h =
      let e = call_of w (Release p) in
      let ranges = g.ranges in
      let old : live q (get_or hs t []) ≡ true = g.lives m q t lt (freed_before m q t h) in
      ⊎_elim
      (λ (y : (eqb t0 t ≡ true) × (t0 ≡ t)).
      let in0 : t < length hs = omega (arith, lt, ranges) in
      let own : Holds trace done fates n p t = record { within = within; place = is; kept = kept; token = token ∙ ap Some y.1 } in
      let ne : p ≢ q = λ z. freed_other m q t h (g.apart m n q t lt (freed_before m q t h) (subst (λ (v : ℕ). Holds trace done fates n v t) z own)) in
      ap (λ (k : ℕ). live q (get_or (noted hs k e) t [])) y.1 ∙ ap (λ (l : List HeapCall). live q l) (noted_same hs t e in0) ∙ live_still (get_or hs t []) w q p ne old)
      (λ (y : (eqb t0 t ≡ false) × (t0 ≢ t)). ap (λ (l : List HeapCall). live q l) (noted_other hs t0 t e (λ z. y.1 (sym z))) ∙ old)
      (eqb_tells t0 t)

  step_free : (p : ℕ) → fate_of fates n ≡ Some p → freed n done ≡ false → Going count trace (done ++ Free w n ∷ []) fates (noted hs t0 (call_of w (Release p)))
  step_free p is kept = record {
    ranges = length-set hs t0 (get_or hs t0 [] ++ call_of w (Release p) ∷ []) ∙ g.ranges;
    named = g.named ∙ sym (alloc_same done w n);
    below = below_one (length fates) done (Free w n) g.below within;
    tokens = g.tokens;
    order = freed_order p is;
    lives = freed_lives p is kept;
    apart = λ m k q t lt h i. g.apart m k q t lt (freed_before m q t h) (freed_before k q t i);
  }

-- ---- the tokens of names

alloc_append : (xs ys : List Event) → allocations (xs ++ ys) ≡ allocations xs + allocations ys
alloc_append [] ys = omega arith
alloc_append (Alloc a b c d ∷ xs) ys = let e = alloc_append xs ys in omega (arith, e)
alloc_append (Free a b ∷ xs) ys = alloc_append xs ys

name_is : (count workers : ℕ) (before : List Event) (x : Event) (w n t s : ℕ) → Fits count workers before x → x ≡ Alloc w n t s → n ≡ allocations before
name_is count workers before x w n t s f e = (subst (λ (v : Event). Fits count workers before v) e f).1

token_at : (count workers : ℕ) (before es : List Event) (k : ℕ) (d : Event) (w n t s : ℕ) → AllFit count workers before es → k < length es → get_or es k d ≡ Alloc w n t s → token_of n es ≡ Some t
token_at count workers before [] k d w n t s f lt e = absurd (omega (arith, lt))
token_at count workers before (x ∷ xs) zero d w n t s f lt e = ap (λ (v : Event). token_of n (v ∷ xs)) e ∙ ap (λ (b : Bool). cond b (Some t) (token_of n xs)) (eq-eqb n n refl)
token_at count workers before (Alloc a b c z ∷ xs) (suc k) d w n t s f lt e =
    let x = Alloc a b c z in
    let within : k < length xs = omega (arith, lt) in
    let own = name_is count workers ((before ++ x ∷ []) ++ take k xs) (get_or xs k d) w n t s (names_fit count workers (before ++ x ∷ []) xs k d f.1 within) e in
    let sum = alloc_append (before ++ x ∷ []) (take k xs) in
    let more = alloc_more before a b c z in
    let name = f.0.1 in
    ap (λ (v : Bool). cond v (Some c) (token_of n xs)) (ne_eqb b n (λ q. omega (arith, own, sum, more, name, q))) ∙ token_at count workers (before ++ x ∷ []) xs k d w n t s f.1 within e
token_at count workers before (Free a b ∷ xs) (suc k) d w n t s f lt e = token_at count workers (before ++ Free a b ∷ []) xs k d w n t s f.1 (omega (arith, lt)) e

-- ---- one event of a well-formed trace

outcome_noted : (hs new : List (List HeapCall)) (who token size : ℕ) (a : Option ℕ) → MatchOption a (new ≡ noted hs token (call_of who (Refuse size))) (λ place. new ≡ noted hs token (call_of who (Grant size place))) → new ≡ noted hs token (call_of who (outcome size a))
outcome_noted hs new who token size None h = h
outcome_noted hs new who token size (Some p) h = h

fresh_place : (size : ℕ) (hs : List (List HeapCall)) (who t s p : ℕ) → t < length hs → AllLegal size (noted hs t (call_of who (Grant s p))) → live p (get_or hs t []) ≡ false
fresh_place size hs who t s p lt legal =
    let e = call_of who (Grant s p) in
    let long = length-set hs t (get_or hs t [] ++ e ∷ []) in
    let own : Legal (range_at size t) (get_or hs t [] ++ e ∷ []) = subst (λ (h : List HeapCall). Legal (range_at size t) h) (noted_same hs t e lt) (legal t (omega (arith, lt, long))) in
    let may = legal-last (range_at size t) (get_or hs t []) e own in
    let some = rounded_some s in
    clear_not_live (get_or hs t []) p (rounded s) (omega (arith, some)) may.0.clear

at_next : (count : ℕ) (trace : List Event) (at : ℕ) (d : Event) (fates : List (Option ℕ)) (hs : List (List HeapCall)) → at < length trace → Going count trace (take at trace ++ get_or trace at d ∷ []) fates hs → Going count trace (take (at + 1) trace) fates hs
at_next count trace at d fates hs lt g = subst (λ (done : List Event). Going count trace done fates hs) (sym (take_more trace at d lt)) g

pub made_alloc : (t : Trace) (at : ℕ) (d : Event) (who n token s : ℕ) (fates : List (Option ℕ)) (hs new : List (List HeapCall)) (a : Option ℕ) (size : ℕ) → WellFormed t → at < length t.events → get_or t.events at d ≡ Alloc who n token s → Going t.count t.events (take at t.events) fates hs → Made (Ask who token s) a hs new → AllLegal size new → Going t.count t.events (take (at + 1) t.events) (fates ++ a ∷ []) new
made_alloc t at d who n token s fates hs new a size w lt is g made legal =
    let es = t.events in
    let fits : Fits t.count t.workers (take at es) (Alloc who n token s) = subst (λ (e : Event). Fits t.count t.workers (take at es) e) is (names_fit t.count t.workers [] es at d w.fit lt) in
    let ranges = g.ranges in
    let below = fits.2 in
    let in0 : token < length hs = omega (arith, ranges, below) in
    let same : new ≡ noted hs token (call_of who (outcome s a)) = outcome_noted hs new who token s a (made.1 in0) in
    let legal' : AllLegal size (noted hs token (call_of who (outcome s a))) = subst (λ (x : List (List HeapCall)). AllLegal size x) same legal in
    let fresh : (p : ℕ) → a ≡ Some p → live p (get_or hs token []) ≡ false =
    λ p q. fresh_place size hs who token s p in0 (subst (λ (o : Option ℕ). AllLegal size (noted hs token (call_of who (outcome s o)))) q legal') in
    let next : Going t.count es (take at es ++ Alloc who n token s ∷ []) (fates ++ a ∷ []) (noted hs token (call_of who (outcome s a))) =
    step_alloc t.count es (take at es) fates hs who n token s a g fits.1 fits.2 (token_at t.count t.workers [] es at d who n token s w.fit lt is) fresh in
    at_next t.count es at d (fates ++ a ∷ []) new lt
    (subst (λ (x : List (List HeapCall)). Going t.count es (take at es ++ get_or es at d ∷ []) (fates ++ a ∷ []) x) (sym same)
    (subst (λ (e : Event). Going t.count es (take at es ++ e ∷ []) (fates ++ a ∷ []) (noted hs token (call_of who (outcome s a)))) (sym is) next))

free_fits : (t : Trace) (at : ℕ) (d : Event) (who n : ℕ) → WellFormed t → at < length t.events → get_or t.events at d ≡ Free who n → Fits t.count t.workers (take at t.events) (Free who n)
free_fits t at d who n w lt is = subst (λ (e : Event). Fits t.count t.workers (take at t.events) e) is (names_fit t.count t.workers [] t.events at d w.fit lt)

pub free_within : (t : Trace) (at : ℕ) (d : Event) (who n : ℕ) (fates : List (Option ℕ)) (hs : List (List HeapCall)) → WellFormed t → at < length t.events → get_or t.events at d ≡ Free who n → Going t.count t.events (take at t.events) fates hs → n < length fates
free_within t at d who n fates hs w lt is g = let f = (free_fits t at d who n w lt is).1 in let named = g.named in omega (arith, f, named)

pub made_nothing : (t : Trace) (at : ℕ) (d : Event) (who n : ℕ) (fates : List (Option ℕ)) (hs : List (List HeapCall)) → WellFormed t → at < length t.events → get_or t.events at d ≡ Free who n → Going t.count t.events (take at t.events) fates hs → fate_of fates n ≡ None → Going t.count t.events (take (at + 1) t.events) fates hs
made_nothing t at d who n fates hs w lt is g none =
    let es = t.events in
    let within = free_within t at d who n fates hs w lt is g in
    let r = g.tokens n within in
    at_next t.count es at d fates hs lt
    (subst (λ (e : Event). Going t.count es (take at es ++ e ∷ []) fates hs) (sym is)
    (step_nothing t.count es (take at es) fates hs who n r.token g within r.below r.is none))

pub made_free : (t : Trace) (at : ℕ) (d : Event) (who n p : ℕ) (fates : List (Option ℕ)) (hs new : List (List HeapCall)) (a : Option ℕ) → WellFormed t → at < length t.events → get_or t.events at d ≡ Free who n → Going t.count t.events (take at t.events) fates hs → fate_of fates n ≡ Some p → Made (GiveBack who p) a hs new → Going t.count t.events (take (at + 1) t.events) fates new
made_free t at d who n p fates hs new a w lt is g place made =
    let es = t.events in
    let fits = free_fits t at d who n w lt is in
    let within = free_within t at d who n fates hs w lt is g in
    let r = g.tokens n within in
    let ranges = g.ranges in
    let below = r.below in
    let own : Holds es (take at es) fates n p r.token = record { within = within; place = place; kept = fits.2; token = r.is } in
    let same : new ≡ noted hs r.token (call_of who (Release p)) = made.1 r.token (omega (arith, below, ranges)) (g.lives n p r.token r.below own) in
    at_next t.count es at d fates new lt
    (subst (λ (x : List (List HeapCall)). Going t.count es (take at es ++ get_or es at d ∷ []) fates x) (sym same)
    (subst (λ (e : Event). Going t.count es (take at es ++ e ∷ []) fates (noted hs r.token (call_of who (Release p)))) (sym is)
    (step_free t.count es (take at es) fates hs who n r.token g within r.below r.is p place fits.2)))

-- ---- the beginning and the end

history_of : Kept → List HeapCall
history_of k = k.history

none_kept : Kept
none_kept = record { first = 0; size = 0; room = 0; history = [] }

pub going_none : (count : ℕ) (trace : List Event) (all : AllHeaps) → length all.heaps ≡ count → ((t : ℕ) (d : Kept) → t < count → (get_or all.heaps t d).history ≡ []) → Going count trace [] [] (histories all)
going_none count trace all long empty = record {
  ranges = length-map all.heaps (λ (k : Kept). k.history) ∙ long;
  named = refl;
  below = tt;
  tokens = λ n lt. absurd (omega (arith, lt));
  order = λ t lt. get_or-map (λ (k : Kept). k.history) all.heaps t none_kept [] (omega (arith, lt, long)) ∙ empty t none_kept lt;
  lives = λ n p t lt h. absurd (let x = h.within in omega (arith, x));
  apart = λ m n p t lt h i. absurd (let x = h.within in omega (arith, x));
}

covers_range : (fates : List (Option ℕ)) (trace : List Event) (phases : List Phase) (t : ℕ) (h : List HeapCall) → h ≡ due fates trace t trace → CoversRange fates trace phases t h
covers_range fates trace phases t h e = record {
  of_each = λ w. ap (λ (l : List HeapCall). by w l) e;
  of_phases = λ k d lt w. ap (λ (l : List HeapCall). by w l) (front (get_or phases k d).start);
}
  where
    front : (n : ℕ) → take (length (due fates trace t (take n trace))) h ≡ due fates trace t (take n trace)
    front n =
        ap (λ (l : List HeapCall). take (length (due fates trace t (take n trace))) l) (e ∙ ap (λ (es : List Event). due fates trace t es) (sym (take-append-drop n trace)) ∙ due_append fates trace t (take n trace) (drop n trace))
        ∙ take_at (due fates trace t (take n trace)) (due fates trace t (drop n trace)) (length (due fates trace t (take n trace))) refl

abbrev pub histories_of : Trace → List (List HeapCall) → Histories
histories_of t hs = record { first = 16777216; size = t.size; mode = t.mode; ranges = hs }

pub alone : (t : Trace) (fates : List (Option ℕ)) (hs : List (List HeapCall)) → Going t.count t.events t.events fates hs → AllLegal t.size hs → Alone t (histories_of t hs)
alone t fates hs g legal = record {
  legal = legal;
  covers = record {
    first = refl;
    size = refl;
    mode = refl;
    count = g.ranges;
    fates = fates;
    one_each = g.named;
    ranges = λ phases cuts token lt. covers_range fates t.events phases token (get_or hs token []) (g.order token lt);
  };
  order = λ token lt. g.order token lt;
}

-- what the histories of a trace alone promise
fronts_legal : (size : ℕ) (fronts hs : List (List HeapCall)) → AllLegal size hs → AreFronts fronts hs → AllLegal size fronts
fronts_legal size fronts hs legal a = λ t lt.
    let count = a.count in
    legal-front (range_at size t) (get_or fronts t []) (a.rest t) (subst (λ (h : List HeapCall). Legal (range_at size t) h) (a.each t lt) (legal t (omega (arith, lt, count))))

pub replayed : (t : Trace) (h : Histories) → Alone t h → Replayed t h
replayed t h a = record {
  legal = a.legal;
  covers = a.covers;
  apart = λ fronts f. (stay_apart t.size fronts (fronts_legal t.size fronts h.ranges a.legal f)).blocks;
  halves = (stay_apart t.size h.ranges a.legal).halves;
}

pub reportable : (t : Trace) (hs : List (List HeapCall)) → WellFormed t → length hs ≡ t.count → AllLegal t.size hs → Reportable (histories_of t hs)
reportable t hs w count legal =
    let some = w.some in
    let most = w.most in
    record {
      first_below = omega arith;
      multiple = w.multiple;
      least = w.least;
      most = w.largest;
      some = omega (arith, some, count);
      count = omega (arith, most, count);
      legal = legal;
    }

pub on_ok : {T E : Type 0} {P Q : Type 0} (r : Result T E) → OnOk r P → (P → Q) → OnOk r Q
on_ok (Ok v) p f = f p
on_ok (Err e) p f = p

pub asked : (t : Trace) (at : ℕ) (who n token s : ℕ) (fates after : List (Option ℕ)) (old new : AllHeaps) → WellFormed t → at < length t.events → ((d : Event) → Alloc who n token s ≡ get_or t.events at d) → Going t.count t.events (take at t.events) fates (histories old) → Asked who token s fates after old new → Going t.count t.events (take (at + 1) t.events) after (histories new)
asked t at who n token s fates after old new w lt is g a =
    subst (λ (fs : List (Option ℕ)). Going t.count t.events (take (at + 1) t.events) fs (histories new)) (sym a.fates_are)
    (made_alloc t at some_event who n token s fates (histories old) (histories new) a.fate new.size w lt (sym (is some_event)) g a.made a.legal)

given_by : (t : Trace) (at : ℕ) (who n : ℕ) (fates : List (Option ℕ)) (hs new : List (List HeapCall)) (o : Option ℕ) → fate_of fates n ≡ o → WellFormed t → at < length t.events → get_or t.events at some_event ≡ Free who n → Going t.count t.events (take at t.events) fates hs → GivenBack who o hs new → Going t.count t.events (take (at + 1) t.events) fates new
given_by t at who n fates hs new None q w lt is g b =
    subst (λ (x : List (List HeapCall)). Going t.count t.events (take (at + 1) t.events) fates x) (sym b) (made_nothing t at some_event who n fates hs w lt is g q)
given_by t at who n fates hs new (Some p) q w lt is g b = made_free t at some_event who n p fates hs new b.0 w lt is g q b.1

pub given : (t : Trace) (at : ℕ) (who n : ℕ) (fates : List (Option ℕ)) (hs new : List (List HeapCall)) (o : Option ℕ) → o ≡ fate_of fates n → WellFormed t → at < length t.events → ((d : Event) → Free who n ≡ get_or t.events at d) → Going t.count t.events (take at t.events) fates hs → GivenBack who o hs new → Going t.count t.events (take (at + 1) t.events) fates new
given t at who n fates hs new o q w lt is g b = given_by t at who n fates hs new o (sym q) w lt (sym (is some_event)) g b

pub named_within : (t : Trace) (at : ℕ) (who n : ℕ) (fates : List (Option ℕ)) (hs : List (List HeapCall)) → WellFormed t → at < length t.events → ((d : Event) → Free who n ≡ get_or t.events at d) → Going t.count t.events (take at t.events) fates hs → n < length fates
named_within t at who n fates hs w lt is g = free_within t at some_event who n fates hs w lt (sym (is some_event)) g
