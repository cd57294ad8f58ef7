-- A run whose releases are of live blocks has an output, an end and a log.
use Rattle.std.proofs.Common.{◌≡◌, ⊎_elim, ℕ, Bool, true, false, List, [], ◌∷◌, ◌++◌, Some, refl, sym, ap, subst, ◌∙◌, append_assoc, append-nil}
use Rattle.std.specs.Prelude.{slice_get, nat_eq, if◌then◌else◌}
use Rattle.std.proofs.lemmas.Bool.Decides.{Decides-eqb}
use Rattle.c_core.specs.declared.values.End.{End}
use Rattle.range_heap.specs.declared.call.HeapCall.{HeapCall}
use Rattle.range_heap.specs.declared.call.HeapEvent.{HeapEvent}
use Rattle.range_heap.specs.declared.call.HeapEvent.TheVariants as event
use Rattle.range_heap.specs.Blocks.{live}
use Rattle.range_heap.specs.History.{Region, FitsAt, MayFollow, LegalFrom, call_of}
use Rattle.c_meaning.specs.declared.log.LogEntry.{LogEntry}
use Rattle.c_meaning.specs.declared.log.LogEntry.TheVariants.{Grant, Refuse, Release}
use Rattle.c_meaning.specs.Run.{Request, Alloc, Free, Run, Ended, Asks, Frees, Begins, after, answered}
use Rattle.c_meaning.specs.Meaning.{Tokens, token_of}
use Rattle.c_meaning.specs.Log.{answers_of, by_token, WasGranted, MatchesFrom, IsRun}
use Rattle.meaning_laws.proofs.Lowest.{lowest}

-- one event, where it is of the token
abbrev pub event_if : HeapEvent → Bool → List HeapCall
event_if e b = if b then call_of 0 e ∷ [] else []

abbrev pub event_of : LogEntry → HeapEvent
event_of (Grant t z p) = event.Grant z p
event_of (Refuse t z) = event.Refuse z
event_of (Release t p) = event.Release p

abbrev pub token_in : LogEntry → ℕ
token_in (Grant t z p) = t
token_in (Refuse t z) = t
token_in (Release t p) = t

one_entry : (x : LogEntry) (log : List LogEntry) (u : ℕ) → by_token (x ∷ log) u ≡ event_if (event_of x) (nat_eq (token_in x) u) ++ by_token log u
one_entry (Grant t z p) log u = refl
one_entry (Refuse t z) log u = refl
one_entry (Release t p) log u = refl

-- the history of a token, with one entry more
pub by_token-snoc : (log : List LogEntry) (x : LogEntry) (u : ℕ) → by_token (log ++ x ∷ []) u ≡ by_token log u ++ event_if (event_of x) (nat_eq (token_in x) u)
by_token-snoc [] x u = one_entry x [] u ∙ append-nil _
by_token-snoc (y ∷ log) x u =
    one_entry y (log ++ x ∷ []) u
    ∙ ap (λ l. event_if (event_of y) (nat_eq (token_in y) u) ++ l) (by_token-snoc log x u)
    ∙ sym (append_assoc (event_if (event_of y) (nat_eq (token_in y) u)) (by_token log u) (event_if (event_of x) (nat_eq (token_in x) u)))
    ∙ ap (λ l. l ++ event_if (event_of x) (nat_eq (token_in x) u)) (sym (one_entry y log u))

-- each release that is to come is of a live block, whatever is granted and refused before it
module _ (tok : Tokens) (ranges : ℕ → Region) where
  abbrev pub Sound : Run → List LogEntry → Type 0
  Sound (Ended o e) log = Unit {0}
  Sound (Begins r) log = Sound r log
  Sound (Asks l s a go) log =
      (a ≡ 16)
      × ((p : ℕ) → FitsAt (ranges (token_of tok l)) (by_token log (token_of tok l)) s 16 p → Sound (go true) (log ++ Grant (token_of tok l) s p ∷ []))
      × Sound (go false) (log ++ Refuse (token_of tok l) s ∷ [])
  Sound (Frees j r) log = (t : ℕ) × (p : ℕ) × WasGranted (slice_get log j) t p × (live p (by_token log t) ≡ true) × Sound r (log ++ Release t p ∷ [])

-- what follows an earlier part of the log
record Comes (tok : Tokens) (ranges : ℕ → Region) (run : Run) (done : List LogEntry) : Type 0 where
  pub output : List ℕ
  pub end : End
  pub log : List LogEntry
  pub requests : List Request
  pub means : answered run (answers_of log) ≡ Some (record { output = output; end = end; requests = requests })
  pub matches : MatchesFrom tok done requests log
  pub legal : (t : ℕ) → LegalFrom (ranges t) (by_token done t) (by_token log t)

more_legal : (r : Region) (past : List HeapCall) (e : HeapEvent) (b : Bool) (h : List HeapCall) → (b ≡ true → MayFollow r past e) → LegalFrom r (past ++ event_if e b) h → LegalFrom r past (event_if e b ++ h)
more_legal r past e true h m l = (m refl, l)
more_legal r past e false h m l = subst (λ (d : List HeapCall). LegalFrom r d h) (append-nil past) l

-- an entry that may stand there, and what follows it
next_legal : (ranges : ℕ → Region) (done : List LogEntry) (x : LogEntry) (log : List LogEntry) → MayFollow (ranges (token_in x)) (by_token done (token_in x)) (event_of x)
    → ((t : ℕ) → LegalFrom (ranges t) (by_token (done ++ x ∷ []) t) (by_token log t)) → (t : ℕ) → LegalFrom (ranges t) (by_token done t) (by_token (x ∷ log) t)
next_legal ranges done x log may l t =
    subst (λ (h : List HeapCall). LegalFrom (ranges t) (by_token done t) h) (sym (one_entry x log t))
    (more_legal (ranges t) (by_token done t) (event_of x) (nat_eq (token_in x) t) (by_token log t)
    (λ same. subst (λ u. MayFollow (ranges u) (by_token done u) (event_of x)) ((Decides-eqb (token_in x) t).0 same) may)
    (subst (λ (h : List HeapCall). LegalFrom (ranges t) h (by_token log t)) (by_token-snoc done x t) (l t)))

module _ (tok : Tokens) (ranges : ℕ → Region) where
  comes : (run : Run) (done : List LogEntry) → Sound tok ranges run done → Comes tok ranges run done
  comes (Ended o e) done s = record { output = o; end = e; log = []; requests = []; means = refl; matches = tt; legal = λ t. tt }
  comes (Begins r) done s =
      let c = comes r done s in
      record { output = c.output; end = c.end; log = c.log; requests = c.requests; means = c.means; matches = c.matches; legal = c.legal }
  comes (Frees j r) done s =
      let c = comes r (done ++ Release s.0 s.1 ∷ []) s.4 in
      record {
        output = c.output;
        end = c.end;
        log = Release s.0 s.1 ∷ c.log;
        requests = Free j ∷ c.requests;
        means = ap (after (Free j)) c.means;
        matches = (s.2, c.matches);
        legal = next_legal ranges done (Release s.0 s.1) c.log s.3 c.legal;
      }
  comes (Asks l z a go) done s =
      ⊎_elim
      (λ place. let c = comes (go true) (done ++ Grant (token_of tok l) z place.0 ∷ []) (s.1 place.0 place.1.0) in
      record {
        output = c.output;
        end = c.end;
        log = Grant (token_of tok l) z place.0 ∷ c.log;
        requests = Alloc l z a ∷ c.requests;
        means = ap (after (Alloc l z a)) c.means;
        matches = (refl, refl, s.0, c.matches);
        legal = next_legal ranges done (Grant (token_of tok l) z place.0) c.log place.1 c.legal;
      })
      (λ none. let c = comes (go false) (done ++ Refuse (token_of tok l) z ∷ []) s.2 in
      record {
        output = c.output;
        end = c.end;
        log = Refuse (token_of tok l) z ∷ c.log;
        requests = Alloc l z a ∷ c.requests;
        means = ap (after (Alloc l z a)) c.means;
        matches = (refl, refl, s.0, c.matches);
        legal = next_legal ranges done (Refuse (token_of tok l) z) c.log none c.legal;
      })
      (lowest (ranges (token_of tok l)) (by_token done (token_of tok l)) z)

pub goes : (tok : Tokens) (ranges : ℕ → Region) (run : Run) → Sound tok ranges run []
    → (output : List ℕ) × (end : End) × (log : List LogEntry) × IsRun run tok ranges output end log
goes tok ranges run s =
    let c = comes tok ranges run [] s in
    (c.output, c.end, c.log, record { requests = c.requests; means = c.means; matches = c.matches; legal = c.legal })
