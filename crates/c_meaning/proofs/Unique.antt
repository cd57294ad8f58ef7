-- A run has at most one output, end and log.
use Rattle.std.proofs.Common.{◌≡◌, ℕ, Bool, true, false, List, [], ◌∷◌, ◌++◌, Option, Some, None, refl, sym, ap, subst, ◌∙◌, ⊎_elim, arith, eq-eqb}
use Rattle.std.specs.Prelude.{slice_get, nat_eq, if◌then◌else◌}
use Rattle.std.proofs.lemmas.Bool.{cases_lt}
use Rattle.c_core.specs.declared.values.End.{End}
use Rattle.range_heap.specs.declared.call.HeapCall.{HeapCall}
use Rattle.range_heap.specs.declared.call.HeapEvent.{HeapEvent}
use Rattle.range_heap.specs.declared.call.HeapEvent.TheVariants as event
use Rattle.range_heap.specs.History.{Region, FitsAt, MayFollow, LegalFrom, call_of}
use Rattle.c_meaning.specs.declared.log.LogEntry.{LogEntry}
use Rattle.c_meaning.specs.declared.log.LogEntry.TheVariants.{Grant, Refuse, Release}
use Rattle.c_meaning.specs.Run.{Label, Request, Alloc, Free, Run, Ended, Asks, Frees, Begins, Result, after, answered}
use Rattle.c_meaning.specs.Meaning.{Tokens, token_of}
use Rattle.c_meaning.specs.Log.{answers_of, by_token, WasGranted, MatchesFrom}
use Rattle.c_meaning.specs.Laws.{OneRun}

-- the lowest place is one
one_lowest : (r : Region) (past : List HeapCall) (s p q : ℕ) → MayFollow r past (event.Grant s p) → MayFollow r past (event.Grant s q) → p ≡ q
one_lowest r past s p q a b =
    ⊎_elim (λ lt. absurd (b.1 p lt a.0)) (λ le. ⊎_elim (λ lt. absurd (a.1 q lt b.0)) (λ le'. omega arith) (cases_lt q p)) (cases_lt p q)

pair : {A B : Type 0} {a a' : A} {b b' : B} → a ≡ a' → b ≡ b' → ◌≡◌ {A = A × B} (a, b) (a', b')
pair e f = λ i. (e i, f i)

-- one event, where it is of the token
abbrev event_if : HeapEvent → Bool → List HeapCall
event_if e b = if b then call_of 0 e ∷ [] else []

abbrev past_if : List HeapCall → HeapEvent → Bool → List HeapCall
past_if past e b = if b then past ++ call_of 0 e ∷ [] else past

abbrev pasts : (ℕ → List HeapCall) → HeapEvent → ℕ → ℕ → List HeapCall
pasts past e t token = past_if (past token) e (nat_eq t token)

legal_back : (r : Region) (past : List HeapCall) (e : HeapEvent) (b : Bool) (h : List HeapCall) → LegalFrom r past (event_if e b ++ h) → LegalFrom r (past_if past e b) h
legal_back r past e true h l = l.1
legal_back r past e false h l = l

legal_now : (r : Region) (past : List HeapCall) (e : HeapEvent) (b : Bool) (h : List HeapCall) → true ≡ b → LegalFrom r past (event_if e b ++ h) → MayFollow r past e
legal_now r past e true h t l = l.0
legal_now r past e false h t l = let f : ⊥ = cc in absurd f

module _ (tok : Tokens) (ranges : ℕ → Region) where
  -- what is known of the run and its log, step by step
  abbrev RunsTo : Run → List LogEntry → (ℕ → List HeapCall) → List LogEntry → List ℕ → End → Type 0
  RunsTo (Ended o e) done past [] o' e' = (o ≡ o') × (e ≡ e')
  RunsTo (Ended o e) done past (x ∷ log) o' e' = ⊥
  RunsTo (Begins r) done past log o e = RunsTo r done past log o e
  RunsTo (Asks l s a go) done past [] o e = ⊥
  RunsTo (Asks l s a go) done past (Grant t z p ∷ log) o e = (t ≡ token_of tok l) × (z ≡ s) × MayFollow (ranges t) (past t) (event.Grant z p) × RunsTo (go true) (done ++ Grant t z p ∷ []) (pasts past (event.Grant z p) t) log o e
  RunsTo (Asks l s a go) done past (Refuse t z ∷ log) o e = (t ≡ token_of tok l) × (z ≡ s) × ((p : ℕ) → FitsAt (ranges t) (past t) z 16 p → ⊥) × RunsTo (go false) (done ++ Refuse t z ∷ []) (pasts past (event.Refuse z) t) log o e
  RunsTo (Asks l s a go) done past (Release t p ∷ log) o e = ⊥
  RunsTo (Frees j r) done past [] o e = ⊥
  RunsTo (Frees j r) done past (Grant t z p ∷ log) o e = ⊥
  RunsTo (Frees j r) done past (Refuse t z ∷ log) o e = ⊥
  RunsTo (Frees j r) done past (Release t p ∷ log) o e = WasGranted (slice_get done j) t p × RunsTo r (done ++ Release t p ∷ []) (pasts past (event.Release p) t) log o e

  abbrev LegalAll : (ℕ → List HeapCall) → List LogEntry → Type 0
  LegalAll past log = (t : ℕ) → LegalFrom (ranges t) (past t) (by_token log t)

  -- an answer of the rest, without its first request
  after_inv : (q : Request) (x : Option Result) (r : Result) → after q x ≡ Some r → (r' : Result) × (x ≡ Some r') × (r ≡ record r' { requests = q ∷ r'.requests })
  after_inv q None r h = let f : ⊥ = cc in absurd f
  after_inv q (Some r') r h = (r', refl, (cc))

  here : (past : ℕ → List HeapCall) (e : HeapEvent) (t : ℕ) (h : ℕ → List HeapCall) → ((u : ℕ) → LegalFrom (ranges u) (past u) (event_if e (nat_eq t u) ++ h u)) → MayFollow (ranges t) (past t) e
  here past e t h l = legal_now (ranges t) (past t) e (nat_eq t t) (h t) (sym (eq-eqb t t refl)) (l t)

  later : (past : ℕ → List HeapCall) (e : HeapEvent) (t : ℕ) (h : ℕ → List HeapCall) → ((u : ℕ) → LegalFrom (ranges u) (past u) (event_if e (nat_eq t u) ++ h u)) → (u : ℕ) → LegalFrom (ranges u) (pasts past e t u) (h u)
  later past e t h l u = legal_back (ranges u) (past u) e (nat_eq t u) (h u) (l u)

  unsome : (r r' : Result) → Some r ≡ Some r' → r ≡ r'
  unsome r r' h = cc

  to_ended : (o : List ℕ) (e : End) (done : List LogEntry) (past : ℕ → List HeapCall) (log : List LogEntry) (qs : List Request) (o' : List ℕ) (e' : End) (answers : List Bool) → answered (Ended o e) answers ≡ Some (record { output = o'; end = e'; requests = qs }) → MatchesFrom tok done qs log → RunsTo (Ended o e) done past log o' e'
  to_ended o e done past log qs o' e' (a ∷ rest) h m = let f : ⊥ = cc in absurd f
  to_ended o e done past [] qs o' e' [] h m = let g = unsome _ _ h in (ap (λ r. r.output) g, ap (λ r. r.end) g)
  to_ended o e done past (x ∷ log) [] o' e' [] h m = absurd m
  to_ended o e done past (x ∷ log) (q ∷ qs) o' e' [] h m = let f = ap (λ r. r.requests) (unsome _ _ h) in let g : ⊥ = cc in absurd g

  -- the first request is the one that the run makes
  first_is : (q : Request) (x : Option Result) (o : List ℕ) (e : End) (qs : List Request) → after q x ≡ Some (record { output = o; end = e; requests = qs }) → (rest : List Request) × (qs ≡ q ∷ rest) × (x ≡ Some (record { output = o; end = e; requests = rest }))
  first_is q x o e qs h =
      let i = after_inv q x _ h in
      (i.0.requests, ap (λ r. r.requests) i.2, i.1 ∙ ap Some (ap (λ r. record i.0 { output = r.output; end = r.end }) (sym i.2)))

  asks_first : (lb : Label) (s al : ℕ) (go : Bool → Run) (answers : List Bool) (o : List ℕ) (e : End) (qs : List Request) → answered (Asks lb s al go) answers ≡ Some (record { output = o; end = e; requests = qs }) → (rest : List Request) × (qs ≡ Alloc lb s al ∷ rest)
  asks_first lb s al go [] o e qs h = let f : ⊥ = cc in absurd f
  asks_first lb s al go (a ∷ rest) o e qs h = let i = first_is (Alloc lb s al) (answered (go a) rest) o e qs h in (i.0, i.1)

  to_runs : (run : Run) (done : List LogEntry) (past : ℕ → List HeapCall) (log : List LogEntry) (qs : List Request) (o : List ℕ) (e : End) → answered run (answers_of log) ≡ Some (record { output = o; end = e; requests = qs }) → MatchesFrom tok done qs log → LegalAll past log → RunsTo run done past log o e
  to_runs (Ended o' e') done past log qs o e h m l = to_ended o' e' done past log qs o e (answers_of log) h m
  to_runs (Begins r) done past log qs o e h m l = to_runs r done past log qs o e h m l
  to_runs (Asks lb s al go) done past [] qs o e h m l = let f : ⊥ = cc in absurd f
  to_runs (Asks lb s al go) done past (Grant t z p ∷ log) qs o e h m l =
      let i = first_is (Alloc lb s al) (answered (go true) (answers_of log)) o e qs h in
      let m' = subst (λ q. MatchesFrom tok done q (Grant t z p ∷ log)) i.1 m in
      (m'.0, m'.1, here past (event.Grant z p) t (by_token log) l, to_runs (go true) (done ++ Grant t z p ∷ []) (pasts past (event.Grant z p) t) log i.0 o e i.2 m'.3 (later past (event.Grant z p) t (by_token log) l))
  to_runs (Asks lb s al go) done past (Refuse t z ∷ log) qs o e h m l =
      let i = first_is (Alloc lb s al) (answered (go false) (answers_of log)) o e qs h in
      let m' = subst (λ q. MatchesFrom tok done q (Refuse t z ∷ log)) i.1 m in
      (m'.0, m'.1, here past (event.Refuse z) t (by_token log) l, to_runs (go false) (done ++ Refuse t z ∷ []) (pasts past (event.Refuse z) t) log i.0 o e i.2 m'.3 (later past (event.Refuse z) t (by_token log) l))
  to_runs (Asks lb s al go) done past (Release t p ∷ log) qs o e h m l =
      let i = asks_first lb s al go (answers_of log) o e qs h in
      absurd (subst (λ q. MatchesFrom tok done q (Release t p ∷ log)) i.1 m)
  to_runs (Frees j r) done past [] qs o e h m l =
      let i = first_is (Free j) (answered r []) o e qs h in
      absurd (subst (λ q. MatchesFrom tok done q []) i.1 m)
  to_runs (Frees j r) done past (Grant t z p ∷ log) qs o e h m l =
      let i = first_is (Free j) (answered r (true ∷ answers_of log)) o e qs h in
      absurd (subst (λ q. MatchesFrom tok done q (Grant t z p ∷ log)) i.1 m)
  to_runs (Frees j r) done past (Refuse t z ∷ log) qs o e h m l =
      let i = first_is (Free j) (answered r (false ∷ answers_of log)) o e qs h in
      absurd (subst (λ q. MatchesFrom tok done q (Refuse t z ∷ log)) i.1 m)
  to_runs (Frees j r) done past (Release t p ∷ log) qs o e h m l =
      let i = first_is (Free j) (answered r (answers_of log)) o e qs h in
      let m' = subst (λ q. MatchesFrom tok done q (Release t p ∷ log)) i.1 m in
      (m'.0, to_runs r (done ++ Release t p ∷ []) (pasts past (event.Release p) t) log i.0 o e i.2 m'.1 (later past (event.Release p) t (by_token log) l))

  Same : List ℕ → End → List LogEntry → List ℕ → End → List LogEntry → Type 0
  Same o e log o' e' log' = (o ≡ o') × (e ≡ e') × (log ≡ log')

  one_granted : (x : Option LogEntry) (t p t' p' : ℕ) → WasGranted x t p → WasGranted x t' p' → (t ≡ t') × (p ≡ p')
  one_granted (Some (Grant t z p)) t1 p1 t2 p2 a b = (sym a.0 ∙ b.0, sym a.1 ∙ b.1)
  one_granted (Some (Refuse t z)) t1 p1 t2 p2 a b = absurd a
  one_granted (Some (Release t p)) t1 p1 t2 p2 a b = absurd a
  one_granted None t1 p1 t2 p2 a b = absurd a

  -- two logs of one run that begin with the same entry
  joined : (x y : LogEntry) (o o' : List ℕ) (e e' : End) (log log' : List LogEntry) → x ≡ y → Same o e log o' e' log' → Same o e (x ∷ log) o' e' (y ∷ log')
  unfolding Same
  joined x y o o' e e' log log' h a = (a.0, a.1, (cc (h, a.2)))

  unique : (run : Run) (done : List LogEntry) (past : ℕ → List HeapCall) (log log' : List LogEntry) (o o' : List ℕ) (e e' : End) → RunsTo run done past log o e → RunsTo run done past log' o' e' → Same o e log o' e' log'
  unfolding Same
  unique (Ended a b) done past [] [] o o' e e' h k = (sym h.0 ∙ k.0, sym h.1 ∙ k.1, refl)
  unique (Ended a b) done past [] (y ∷ log') o o' e e' h k = absurd k
  unique (Ended a b) done past (x ∷ log) log' o o' e e' h k = absurd h
  unique (Begins r) done past log log' o o' e e' h k = unique r done past log log' o o' e e' h k
  unique (Asks lb s al go) done past [] log' o o' e e' h k = absurd h
  unique (Asks lb s al go) done past (Release t p ∷ log) log' o o' e e' h k = absurd h
  unique (Asks lb s al go) done past (Grant t z p ∷ log) [] o o' e e' h k = absurd k
  unique (Asks lb s al go) done past (Grant t z p ∷ log) (Release t' p' ∷ log') o o' e e' h k = absurd k
  unique (Asks lb s al go) done past (Grant t z p ∷ log) (Refuse t' z' ∷ log') o o' e e' h k =
      let et : t ≡ t' = h.0 ∙ sym k.0 in let ez : z ≡ z' = h.1 ∙ sym k.1 in
      absurd (k.2 p (subst (λ u. FitsAt (ranges u) (past u) z' 16 p) et (subst (λ u. FitsAt (ranges t) (past t) u 16 p) ez h.2.0)))
  unique (Asks lb s al go) done past (Refuse t z ∷ log) [] o o' e e' h k = absurd k
  unique (Asks lb s al go) done past (Refuse t z ∷ log) (Release t' p' ∷ log') o o' e e' h k = absurd k
  unique (Asks lb s al go) done past (Refuse t z ∷ log) (Grant t' z' p' ∷ log') o o' e e' h k =
      let et : t' ≡ t = k.0 ∙ sym h.0 in let ez : z' ≡ z = k.1 ∙ sym h.1 in
      absurd (h.2 p' (subst (λ u. FitsAt (ranges u) (past u) z 16 p') et (subst (λ u. FitsAt (ranges t') (past t') u 16 p') ez k.2.0)))
  unique (Asks lb s al go) done past (Refuse t z ∷ log) (Refuse t' z' ∷ log') o o' e e' h k =
      let et : t' ≡ t = k.0 ∙ sym h.0 in let ez : z' ≡ z = k.1 ∙ sym h.1 in
      let ex : Refuse t' z' ≡ Refuse t z = cc in
      let k' = subst (λ (x : ℕ × ℕ). RunsTo (go false) (done ++ Refuse x.0 x.1 ∷ []) (pasts past (event.Refuse x.1) x.0) log' o' e') (pair et ez) k.3 in
      joined _ _ o o' e e' log log' (sym ex) (unique (go false) (done ++ Refuse t z ∷ []) (pasts past (event.Refuse z) t) log log' o o' e e' h.3 k')
  unique (Asks lb s al go) done past (Grant t z p ∷ log) (Grant t' z' p' ∷ log') o o' e e' h k =
      let et : t' ≡ t = k.0 ∙ sym h.0 in let ez : z' ≡ z = k.1 ∙ sym h.1 in
      let low = subst (λ (x : ℕ × ℕ). MayFollow (ranges x.0) (past x.0) (event.Grant x.1 p')) (pair et ez) k.2 in
      let ep : p' ≡ p = one_lowest (ranges t) (past t) z p' p low h.2 in
      let ex : Grant t' z' p' ≡ Grant t z p = cc in
      let k' = subst (λ (x : ℕ × (ℕ × ℕ)). RunsTo (go true) (done ++ Grant x.0 x.1.0 x.1.1 ∷ []) (pasts past (event.Grant x.1.0 x.1.1) x.0) log' o' e') (pair et (pair ez ep)) k.3 in
      joined _ _ o o' e e' log log' (sym ex) (unique (go true) (done ++ Grant t z p ∷ []) (pasts past (event.Grant z p) t) log log' o o' e e' h.3 k')
  unique (Frees j r) done past [] log' o o' e e' h k = absurd h
  unique (Frees j r) done past (Grant t z p ∷ log) log' o o' e e' h k = absurd h
  unique (Frees j r) done past (Refuse t z ∷ log) log' o o' e e' h k = absurd h
  unique (Frees j r) done past (Release t p ∷ log) [] o o' e e' h k = absurd k
  unique (Frees j r) done past (Release t p ∷ log) (Grant t' z' p' ∷ log') o o' e e' h k = absurd k
  unique (Frees j r) done past (Release t p ∷ log) (Refuse t' z' ∷ log') o o' e e' h k = absurd k
  unique (Frees j r) done past (Release t p ∷ log) (Release t' p' ∷ log') o o' e e' h k =
      let g = one_granted (slice_get done j) t' p' t p k.0 h.0 in
      let et = g.0 in let ep = g.1 in
      let ex : Release t' p' ≡ Release t p = cc in
      let k' = subst (λ (x : ℕ × ℕ). RunsTo r (done ++ Release x.0 x.1 ∷ []) (pasts past (event.Release x.1) x.0) log' o' e') (pair et ep) k.1 in
      joined _ _ o o' e e' log log' (sym ex) (unique r (done ++ Release t p ∷ []) (pasts past (event.Release p) t) log log' o o' e e' h.1 k')

pub one_run : OneRun
unfolding Same
one_run run tok ranges o o' e e' log log' a b =
    unique tok ranges run [] (λ t. []) log log' o o' e e' (to_runs tok ranges run [] (λ t. []) log a.requests o e a.means a.matches a.legal) (to_runs tok ranges run [] (λ t. []) log' b.requests o' e' b.means b.matches b.legal)
