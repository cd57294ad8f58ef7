-- A trace has one replay.
use Rattle.std.proofs.Common.{◌≡◌, ⊎_elim, ℕ, ◌<◌, ◌≤◌, Bool, cond, eqb, List, [], ◌∷◌, ◌++◌, Option, Some, None, refl, sym, ap, ◌∙◌, subst, arith}
use Rattle.std.proofs.lemmas.Bool.{cases_lt, eq-eqb}
use Rattle.std.proofs.lemmas.List.{append-nil, append_assoc, get_or_default, same_lists}
use Rattle.token_modes.specs.declared.mode.Mode.{Mode}
use Rattle.range_heap.specs.declared.call.HeapCall.{HeapCall}
use Rattle.range_heap.specs.History.{Region, call_of, MayFollow, Legal}
use Rattle.range_heap.specs.Ranges.{range_at}
use Rattle.range_heap.proofs.Histories.{legal-front, legal-last}
use Rattle.trace_format.specs.Reading.{allocations}
use Rattle.trace_format.specs.WellFormed.{AllFit}
use Rattle.trace_format.specs.Phases.{name_of}
use Rattle.trace_format.specs.declared.trace.Event.{Event}
use Rattle.trace_format.specs.declared.trace.Event.TheVariants.{Alloc, Free}
use Rattle.trace_format.specs.declared.trace.Trace.{Trace}
use Rattle.trace_format.proofs.Notes.{alloc_more, alloc_same}
use Rattle.trace_replay.specs.Due.{token_of, is_token, fate_of, outcome, released, calls_of, due, Alone}
use Rattle.trace_replay.specs.Going.{Below}
use Rattle.trace_replay.specs.Laws.{OneReplay}
use Rattle.trace_replay.specs.declared.histories.Histories.{Histories}
use Rattle.trace_replay.proofs.Steps.{due_append, below_one, below_more}

-- ---- one answer

one_answer : (r : Region) (done : List HeapCall) (s : ℕ) (a b : Option ℕ) → MayFollow r done (outcome s a) → MayFollow r done (outcome s b) → a ≡ b
one_answer r done s None None x y = refl
one_answer r done s None (Some q) x y = absurd (x q y.0)
one_answer r done s (Some p) None x y = absurd (y p x.0)
one_answer r done s (Some p) (Some q) x y = ⊎_elim
    (λ (l : p < q). absurd (y.1 p l x.0))
    (λ (l : q ≤ p). ⊎_elim
    (λ (m : q < p). absurd (x.1 q m y.0))
    (λ (m : p ≤ q). let same : p ≡ q = omega (arith, l, m) in ap (λ (n : ℕ). Some n) same)
    (cases_lt q p))
    (cases_lt p q)

-- ---- what is due where the fates agree

calls_agree : (f g : List (Option ℕ)) (trace : List Event) (t : ℕ) (e : Event) → fate_of f (name_of e) ≡ fate_of g (name_of e) → calls_of f trace t e ≡ calls_of g trace t e
calls_agree f g trace t (Alloc w n token s) q = ap (λ (o : Option ℕ). cond (eqb token t) (call_of w (outcome s o) ∷ []) []) q
calls_agree f g trace t (Free w n) q = ap (λ (o : Option ℕ). cond (is_token t (token_of n trace)) (released w o) []) q

due_agree : (f g : List (Option ℕ)) (trace : List Event) (t : ℕ) (es : List Event) (k : ℕ) → ((n : ℕ) → n < k → fate_of f n ≡ fate_of g n) → Below k es → due f trace t es ≡ due g trace t es
due_agree f g trace t [] k a b = refl
due_agree f g trace t (e ∷ es) k a b =
    ap (λ (l : List HeapCall). l ++ due f trace t es) (calls_agree f g trace t e (a (name_of e) b.0)) ∙ ap (λ (l : List HeapCall). calls_of g trace t e ++ l) (due_agree f g trace t es k a b.1)

-- the outcome of an allocation may stand behind what is due before it
asked_follows : (r : Region) (f : List (Option ℕ)) (es done rest : List Event) (w n token s : ℕ) → es ≡ done ++ Alloc w n token s ∷ rest → Legal r (due f es token es) → MayFollow r (due f es token done) (outcome s (fate_of f n))
asked_follows r f es done rest w n token s q legal =
    let e = Alloc w n token s in
    let c = call_of w (outcome s (fate_of f n)) in
    let split : due f es token es ≡ (due f es token done ++ c ∷ []) ++ due f es token rest =
    ap (λ (l : List Event). due f es token l) q ∙ due_append f es token done (e ∷ rest)
    ∙ ap (λ (b : Bool). due f es token done ++ (cond b (c ∷ []) [] ++ due f es token rest)) (eq-eqb token token refl)
    ∙ sym (append_assoc (due f es token done) (c ∷ []) (due f es token rest)) in
    legal-last r (due f es token done) c (legal-front r (due f es token done ++ c ∷ []) (due f es token rest) (subst (λ (l : List HeapCall). Legal r l) split legal))

-- ---- event after event

module _ (count workers size : ℕ) (es : List Event) (f g : List (Option ℕ)) (lf : (t : ℕ) → t < count → Legal (range_at size t) (due f es t es)) (lg : (t : ℕ) → t < count → Legal (range_at size t) (due g es t es)) where
  step : (done rest : List Event) (w n token s : ℕ) → es ≡ done ++ Alloc w n token s ∷ rest → token < count → Below (allocations done) done → ((m : ℕ) → m < allocations done → fate_of f m ≡ fate_of g m) → fate_of f n ≡ fate_of g n
  step done rest w n token s q lt b a =
      one_answer (range_at size token) (due g es token done) s (fate_of f n) (fate_of g n)
      (subst (λ (d : List HeapCall). MayFollow (range_at size token) d (outcome s (fate_of f n))) (due_agree f g es token done (allocations done) a b) (asked_follows (range_at size token) f es done rest w n token s q (lf token lt)))
      (asked_follows (range_at size token) g es done rest w n token s q (lg token lt))

  all_same : (done rest : List Event) → es ≡ done ++ rest → AllFit count workers done rest → Below (allocations done) done → ((m : ℕ) → m < allocations done → fate_of f m ≡ fate_of g m) → (t : ℕ) → due f es t es ≡ due g es t es
  all_same done [] q fit b a t =
      let whole : es ≡ done = q ∙ append-nil done in
      ap (λ (l : List Event). due f es t l) whole ∙ due_agree f g es t done (allocations done) a b ∙ ap (λ (l : List Event). due g es t l) (sym whole)
  all_same done (Alloc w n token s ∷ rest) q fit b a t =
      let e = Alloc w n token s in
      let more = alloc_more done w n token s in
      let name = fit.0.1 in
      let here : fate_of f n ≡ fate_of g n = step done rest w n token s q fit.0.2 b a in
      all_same (done ++ e ∷ []) rest (q ∙ sym (append_assoc done (e ∷ []) rest)) fit.1
      (below_one (allocations (done ++ e ∷ [])) done e (below_more (allocations done) (allocations (done ++ e ∷ [])) done (omega (arith, more)) b) (omega (arith, more, name)))
      (λ m lt. ⊎_elim
      (λ (x : m < allocations done). a m x)
      (λ (x : allocations done ≤ m). let same : n ≡ m = omega (arith, x, lt, more, name) in subst (λ (v : ℕ). fate_of f v ≡ fate_of g v) same here)
      (cases_lt m (allocations done)))
      t
  all_same done (Free w n ∷ rest) q fit b a t =
      let e = Free w n in
      let same = alloc_same done w n in
      let name = fit.0.1 in
      all_same (done ++ e ∷ []) rest (q ∙ sym (append_assoc done (e ∷ []) rest)) fit.1
      (below_one (allocations (done ++ e ∷ [])) done e (below_more (allocations done) (allocations (done ++ e ∷ [])) done (omega (arith, same)) b) (omega (arith, same, name)))
      (λ m lt. a m (omega (arith, lt, same)))
      t

-- ---- the law

abbrev made : ℕ → ℕ → Mode → List (List HeapCall) → Histories
made first size mode ranges = record { first = first; size = size; mode = mode; ranges = ranges }

due_legal : (t : Trace) (h : Histories) (a : Alone t h) (u : ℕ) → u < t.count → Legal (range_at t.size u) (due a.covers.fates t.events u t.events)
due_legal t h a u lt =
    let count = a.covers.count in
    subst (λ (l : List HeapCall). Legal (range_at t.size u) l) (a.order u lt) (a.legal u (omega (arith, lt, count)))

pub one_replay : OneReplay
one_replay t h k w a b =
    let f = a.covers.fates in
    let g = b.covers.fates in
    let few = a.covers.count in
    let few' = b.covers.count in
    let same : (u : ℕ) → due f t.events u t.events ≡ due g t.events u t.events =
    all_same t.count t.workers t.size t.events f g (due_legal t h a) (due_legal t k b) [] t.events refl w.fit tt (λ m lt. absurd (omega (arith, lt))) in
    let ranges : h.ranges ≡ k.ranges =
    same_lists h.ranges k.ranges (few ∙ sym few')
    (λ u d lt.
    let within : u < t.count = omega (arith, lt, few) in
    get_or_default h.ranges u d [] lt ∙ a.order u within ∙ same u ∙ sym (b.order u within) ∙ get_or_default k.ranges u [] d (omega (arith, within, few'))) in
    ap (λ (x : ℕ). made x h.size h.mode h.ranges) (a.covers.first ∙ sym b.covers.first) ∙ ap (λ (x : ℕ). made k.first x h.mode h.ranges) (a.covers.size ∙ sym b.covers.size)
    ∙ ap (λ (x : Mode). made k.first k.size x h.ranges) (a.covers.mode ∙ sym b.covers.mode) ∙ ap (λ (x : List (List HeapCall)). made k.first k.size k.mode x) ranges
