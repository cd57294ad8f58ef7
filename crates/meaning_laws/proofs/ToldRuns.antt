-- What is told of a run decides its output, end and log.
use Rattle.std.proofs.Common.{◌≡◌, ℕ, Bool, true, false, List, [], ◌∷◌, ◌++◌, Option, Some, None, sym, ap, subst}
use Rattle.std.specs.Prelude.{slice_get}
use Rattle.c_core.specs.declared.values.End.{End}
use Rattle.range_heap.specs.History.{Region}
use Rattle.c_meaning.specs.declared.log.LogEntry.{LogEntry}
use Rattle.c_meaning.specs.declared.log.LogEntry.TheVariants.{Grant, Refuse, Release}
use Rattle.c_meaning.specs.Run.{Request, Alloc, Free, Run, Ended, Asks, Frees, Begins, Result, after, answered}
use Rattle.c_meaning.specs.Meaning.{Tokens}
use Rattle.c_meaning.specs.Log.{answers_of, WasGranted, MatchesFrom, IsRun}
use Rattle.meaning_laws.specs.Told.{Told, EndedAs, AsksFor, GivesBack, told_with, ToldDecides}

-- what is told goes on with this log, behind an earlier part of it, to this output and end
abbrev pub Logs : Told → List LogEntry → List LogEntry → List ℕ → End → Type 0
Logs (EndedAs o' e') done [] o e = (o' ≡ o) × (e' ≡ e)
Logs (EndedAs o' e') done (x ∷ log) o e = ⊥
Logs (AsksFor u s a go) done [] o e = ⊥
Logs (AsksFor u s a go) done (Grant t z p ∷ log) o e = (t ≡ u) × (z ≡ s) × (a ≡ 16) × Logs (go true) (done ++ Grant t z p ∷ []) log o e
Logs (AsksFor u s a go) done (Refuse t z ∷ log) o e = (t ≡ u) × (z ≡ s) × (a ≡ 16) × Logs (go false) (done ++ Refuse t z ∷ []) log o e
Logs (AsksFor u s a go) done (Release t p ∷ log) o e = ⊥
Logs (GivesBack j r) done [] o e = ⊥
Logs (GivesBack j r) done (Grant t z p ∷ log) o e = ⊥
Logs (GivesBack j r) done (Refuse t z ∷ log) o e = ⊥
Logs (GivesBack j r) done (Release t p ∷ log) o e = WasGranted (slice_get done j) t p × Logs r (done ++ Release t p ∷ []) log o e

abbrev result : List ℕ → End → List Request → Option Result
result o e qs = Some (record { output = o; end = e; requests = qs })

after_is : (q : Request) (x : Option Result) (o : List ℕ) (e : End) (qs : List Request) → after q x ≡ result o e qs
    → (rest : List Request) × (x ≡ result o e rest) × (qs ≡ q ∷ rest)
after_is q None o e qs h = absurd (let f : None ≡ result o e qs = h in cc)
after_is q (Some r) o e qs h =
    let g : record r { requests = q ∷ r.requests } ≡ record { output = o; end = e; requests = qs } = cc in
    let go : r.output ≡ o = ap (λ (x : Result). x.output) g in
    let ge : r.end ≡ e = ap (λ (x : Result). x.end) g in
    (r.requests, (λ i. Some (record { output = go i; end = ge i; requests = r.requests })), sym (ap (λ (x : Result). x.requests) g))

ended_is : (o o' : List ℕ) (e e' : End) (qs : List Request) → result o' e' [] ≡ result o e qs → (o' ≡ o) × (e' ≡ e) × (qs ≡ [])
ended_is o o' e e' qs h =
    let g : record { output = o'; end = e'; requests = [] } ≡ record { output = o; end = e; requests = qs } = cc in
    (ap (λ (x : Result). x.output) g, ap (λ (x : Result). x.end) g, sym (ap (λ (x : Result). x.requests) g))

module _ (seen : End → End) (tok : Tokens) where
  ended_logs : (o' : List ℕ) (e' : End) (done log : List LogEntry) (o : List ℕ) (e : End) (qs : List Request) (answers : List Bool) → answered (Ended o' e') answers ≡ result o e qs → MatchesFrom tok done qs log
      → Logs (EndedAs o' (seen e')) done log o (seen e)
  ended_logs o' e' done log o e qs (a ∷ answers) h m = absurd (let f : None ≡ result o e qs = h in cc)
  ended_logs o' e' done [] o e qs [] h m = let g = ended_is o o' e e' qs h in (g.0, ap seen g.1)
  ended_logs o' e' done (x ∷ log) o e qs [] h m = let g = ended_is o o' e e' qs h in absurd (subst (λ l. MatchesFrom tok done l (x ∷ log)) g.2 m)

  none_left : (q : Request) (done : List LogEntry) (x : Option Result) (o : List ℕ) (e : End) (qs : List Request) → after q x ≡ result o e qs → MatchesFrom tok done qs [] → ⊥
  none_left q done x o e qs h m = let g = after_is q x o e qs h in subst (λ l. MatchesFrom tok done l []) g.2 m

  pub logs : (run : Run) (done log : List LogEntry) (o : List ℕ) (e : End) (qs : List Request) → answered run (answers_of log) ≡ result o e qs → MatchesFrom tok done qs log
      → Logs (told_with seen tok run) done log o (seen e)
  logs (Ended o' e') done log o e qs h m = ended_logs o' e' done log o e qs (answers_of log) h m
  logs (Begins r) done log o e qs h m = logs r done log o e qs h m
  logs (Asks l s a go) done [] o e qs h m = absurd (let f : None ≡ result o e qs = h in cc)
  logs (Asks l s a go) done (Grant t z p ∷ log) o e qs h m =
      let g = after_is (Alloc l s a) (answered (go true) (answers_of log)) o e qs h in
      let m' = subst (λ (q : List Request). MatchesFrom tok done q (Grant t z p ∷ log)) g.2 m in
      (m'.0, m'.1, m'.2, logs (go true) (done ++ Grant t z p ∷ []) log o e g.0 g.1 m'.3)
  logs (Asks l s a go) done (Refuse t z ∷ log) o e qs h m =
      let g = after_is (Alloc l s a) (answered (go false) (answers_of log)) o e qs h in
      let m' = subst (λ (q : List Request). MatchesFrom tok done q (Refuse t z ∷ log)) g.2 m in
      (m'.0, m'.1, m'.2, logs (go false) (done ++ Refuse t z ∷ []) log o e g.0 g.1 m'.3)
  logs (Asks l s a go) done (Release t p ∷ log) o e qs h m = released (answers_of log) h
    where
      released : (answers : List Bool) → answered (Asks l s a go) answers ≡ result o e qs → ⊥
      released [] k = let f : None ≡ result o e qs = k in cc
      released (b ∷ answers) k =
          let g = after_is (Alloc l s a) (answered (go b) answers) o e qs k in
          subst (λ (q : List Request). MatchesFrom tok done q (Release t p ∷ log)) g.2 m
  logs (Frees j r) done [] o e qs h m = none_left (Free j) done (answered r []) o e qs h m
  logs (Frees j r) done (Grant t z p ∷ log) o e qs h m =
      let g = after_is (Free j) (answered r (true ∷ answers_of log)) o e qs h in
      subst (λ (q : List Request). MatchesFrom tok done q (Grant t z p ∷ log)) g.2 m
  logs (Frees j r) done (Refuse t z ∷ log) o e qs h m =
      let g = after_is (Free j) (answered r (false ∷ answers_of log)) o e qs h in
      subst (λ (q : List Request). MatchesFrom tok done q (Refuse t z ∷ log)) g.2 m
  logs (Frees j r) done (Release t p ∷ log) o e qs h m =
      let g = after_is (Free j) (answered r (answers_of log)) o e qs h in
      let m' = subst (λ (q : List Request). MatchesFrom tok done q (Release t p ∷ log)) g.2 m in
      (m'.0, logs r (done ++ Release t p ∷ []) log o e g.0 g.1 m'.1)

  -- and back: the run has such an end, and requests that match the log
  pub from_logs : (run : Run) (done log : List LogEntry) (o : List ℕ) (e : End) → Logs (told_with seen tok run) done log o e
      → (end : End) × (seen end ≡ e) × (qs : List Request) × (answered run (answers_of log) ≡ result o end qs) × MatchesFrom tok done qs log
  from_logs (Ended o' e') done [] o e h = (e', h.1, [], ap (λ x. result x e' []) h.0, tt)
  from_logs (Ended o' e') done (x ∷ log) o e h = absurd h
  from_logs (Begins r) done log o e h = from_logs r done log o e h
  from_logs (Asks l s a go) done [] o e h = absurd h
  from_logs (Asks l s a go) done (Grant t z p ∷ log) o e h =
      let k = from_logs (go true) (done ++ Grant t z p ∷ []) log o e h.3 in
      (k.0, k.1, Alloc l s a ∷ k.2, ap (after (Alloc l s a)) k.3, (h.0, h.1, h.2, k.4))
  from_logs (Asks l s a go) done (Refuse t z ∷ log) o e h =
      let k = from_logs (go false) (done ++ Refuse t z ∷ []) log o e h.3 in
      (k.0, k.1, Alloc l s a ∷ k.2, ap (after (Alloc l s a)) k.3, (h.0, h.1, h.2, k.4))
  from_logs (Asks l s a go) done (Release t p ∷ log) o e h = absurd h
  from_logs (Frees j r) done [] o e h = absurd h
  from_logs (Frees j r) done (Grant t z p ∷ log) o e h = absurd h
  from_logs (Frees j r) done (Refuse t z ∷ log) o e h = absurd h
  from_logs (Frees j r) done (Release t p ∷ log) o e h =
      let k = from_logs r (done ++ Release t p ∷ []) log o e h.1 in
      (k.0, k.1, Free j ∷ k.2, ap (after (Free j)) k.3, (h.0, k.4))

-- two runs of which the same is told, with their ends seen in some way
pub seen_decides : (seen : End → End) (run run' : Run) (tok tok' : Tokens) (ranges : ℕ → Region) (output : List ℕ) (end : End) (log : List LogEntry)
    → told_with seen tok run ≡ told_with seen tok' run' → IsRun run tok ranges output end log → (end' : End) × (seen end' ≡ seen end) × IsRun run' tok' ranges output end' log
seen_decides seen run run' tok tok' ranges output end log same h =
    let l = logs seen tok run [] log output end h.requests h.means h.matches in
    let k = from_logs seen tok' run' [] log output (seen end) (subst (λ r. Logs r [] log output (seen end)) same l) in
    (k.0, k.1, record { requests = k.2; means = k.3; matches = k.4; legal = h.legal })

pub told_decides : ToldDecides
told_decides run run' tok tok' ranges output end log same h =
    let k = seen_decides (λ e. e) run run' tok tok' ranges output end log same h in
    subst (λ e. IsRun run' tok' ranges output e log) k.1 k.2
