-- Runs advance with their logs.
use Rattle.std.proofs.Common.{◌≡◌, ℕ, Bool, true, false, List, [], ◌∷◌, ◌++◌, Option, Some, None, refl, sym, ap, subst, ◌∙◌, ⊎_elim, append_assoc, append-nil}
use Rattle.std.specs.Prelude.{slice_get, nat_eq}
use Rattle.std.proofs.lemmas.Bool.Decides.{Decides-eqb}
use Rattle.c_core.specs.declared.values.End.{End}
use Rattle.range_heap.specs.declared.call.HeapCall.{HeapCall}
use Rattle.range_heap.specs.declared.call.HeapEvent.{HeapEvent}
use Rattle.range_heap.specs.declared.call.HeapEvent.TheVariants as event
use Rattle.range_heap.specs.Blocks.{live}
use Rattle.range_heap.specs.History.{Region, MayFollow, LegalFrom}
use Rattle.c_meaning.specs.declared.log.LogEntry.{LogEntry}
use Rattle.c_meaning.specs.declared.log.LogEntry.TheVariants.{Grant, Refuse, Release}
use Rattle.c_meaning.specs.Run.{Label, Alloc, Free, Run, Ended, Asks, Frees, Begins, after}
use Rattle.c_meaning.specs.Meaning.{Tokens, token_of, run_of}
use Rattle.c_meaning.specs.Log.{by_token, WasGranted, IsRun, ranges_of}
use Rattle.meaning_laws.proofs.Goes.{event_if, event_of, token_in, by_token-snoc, Sound}
use Rattle.meaning_laws.proofs.Lowest.{lowest}
use Rattle.meaning_laws.proofs.Sound.{sound_of, run_sound}
use Rattle.machine_log.specs.Reached.{Completes, Releases, BeginsReached, Advances, Arrives, RunsAdvance}

one_entry : (x : LogEntry) (log : List LogEntry) (u : ℕ) → by_token (x ∷ log) u ≡ event_if (event_of x) (nat_eq (token_in x) u) ++ by_token log u
one_entry (Grant t z p) log u = refl
one_entry (Refuse t z) log u = refl
one_entry (Release t p) log u = refl

more_legal : (r : Region) (past : List HeapCall) (e : HeapEvent) (b : Bool) (h : List HeapCall) → (b ≡ true → MayFollow r past e) → LegalFrom r (past ++ event_if e b) h → LegalFrom r past (event_if e b ++ h)
more_legal r past e true h m l = (m refl, l)
more_legal r past e false h m l = subst (λ (d : List HeapCall). LegalFrom r d h) (append-nil past) l

-- an entry that may stand there, and what follows it
next_legal : (ranges : ℕ → Region) (done : List LogEntry) (x : LogEntry) (log : List LogEntry) → MayFollow (ranges (token_in x)) (by_token done (token_in x)) (event_of x)
    → ((t : ℕ) → LegalFrom (ranges t) (by_token (done ++ x ∷ []) t) (by_token log t)) → (t : ℕ) → LegalFrom (ranges t) (by_token done t) (by_token (x ∷ log) t)
next_legal ranges done x log may l t =
    subst (λ (h : List HeapCall). LegalFrom (ranges t) (by_token done t) h) (sym (one_entry x log t))
    (more_legal (ranges t) (by_token done t) (event_of x) (nat_eq (token_in x) t) (by_token log t)
    (λ same. subst (λ u. MayFollow (ranges u) (by_token done u) (event_of x)) ((Decides-eqb (token_in x) t).0 same) may)
    (subst (λ (h : List HeapCall). LegalFrom (ranges t) h (by_token log t)) (by_token-snoc done x t) (l t)))

module _ (tok : Tokens) (ranges : ℕ → Region) where
  releases_of : (r : Run) (log : List LogEntry) → Sound tok ranges r log → Releases tok ranges r log
  releases_of (Ended o e) log h = tt
  releases_of (Begins r) log h = releases_of r log h
  releases_of (Asks l s a go) log h = (h.0, (λ p fits. releases_of (go true) (log ++ Grant (token_of tok l) s p ∷ []) (h.1 p fits)), releases_of (go false) (log ++ Refuse (token_of tok l) s ∷ []) h.2)
  releases_of (Frees j r) log h = (h.0, h.1, h.2, h.3, releases_of r (log ++ Release h.0 h.1 ∷ []) h.4)

  -- each run whose releases are of live blocks can be completed
  abbrev Completed : Run → List LogEntry → Type 0
  Completed run done = (output : List ℕ) × (end : End) × (more : List LogEntry) × Completes tok ranges run done output end more

  completed : (run : Run) (done : List LogEntry) → Releases tok ranges run done → Completed run done
  completed (Ended o e) done h = (o, e, [], record { requests = []; means = refl; matches = tt; legal = λ t. tt })
  completed (Begins r) done h = let c = completed r done h in (c.0, c.1, c.2, record { requests = c.3.requests; means = c.3.means; matches = c.3.matches; legal = c.3.legal })
  completed (Frees j r) done h =
      let x = Release h.0 h.1 in
      let c = completed r (done ++ x ∷ []) h.4 in (
        c.0,
        c.1,
        x ∷ c.2,
        record {
          requests = Free j ∷ c.3.requests;
          means = ap (after (Free j)) c.3.means;
          matches = (h.2, c.3.matches);
          legal = next_legal ranges done x c.2 h.3 c.3.legal;
        },
      )
  completed (Asks l z a go) done h =
      ⊎_elim
      (λ place. let x = Grant (token_of tok l) z place.0 in let c = completed (go true) (done ++ x ∷ []) (h.1 place.0 place.1.0) in (
        c.0,
        c.1,
        x ∷ c.2,
        record {
          requests = Alloc l z a ∷ c.3.requests;
          means = ap (after (Alloc l z a)) c.3.means;
          matches = (refl, refl, h.0, c.3.matches);
          legal = next_legal ranges done x c.2 place.1 c.3.legal;
        },
      ))
      (λ none. let x = Refuse (token_of tok l) z in let c = completed (go false) (done ++ x ∷ []) h.2 in (
        c.0,
        c.1,
        x ∷ c.2,
        record {
          requests = Alloc l z a ∷ c.3.requests;
          means = ap (after (Alloc l z a)) c.3.means;
          matches = (refl, refl, h.0, c.3.matches);
          legal = next_legal ranges done x c.2 none c.3.legal;
        },
      ))
      (lowest (ranges (token_of tok l)) (by_token done (token_of tok l)) z)

  -- an entry in front of what completes
  with_grant : (l : Label) (z a p : ℕ) (go : Bool → Run) (done : List LogEntry) (o : List ℕ) (e : End) (more : List LogEntry) → a ≡ 16
      → MayFollow (ranges (token_of tok l)) (by_token done (token_of tok l)) (event.Grant z p)
      → Completes tok ranges (go true) (done ++ Grant (token_of tok l) z p ∷ []) o e more → Completes tok ranges (Asks l z a go) done o e (Grant (token_of tok l) z p ∷ more)
  with_grant l z a p go done o e more al may c = record {
    requests = Alloc l z a ∷ c.requests;
    means = ap (after (Alloc l z a)) c.means;
    matches = (refl, refl, al, c.matches);
    legal = next_legal ranges done (Grant (token_of tok l) z p) more may c.legal;
  }

  with_refusal : (l : Label) (z a : ℕ) (go : Bool → Run) (done : List LogEntry) (o : List ℕ) (e : End) (more : List LogEntry) → a ≡ 16
      → MayFollow (ranges (token_of tok l)) (by_token done (token_of tok l)) (event.Refuse z)
      → Completes tok ranges (go false) (done ++ Refuse (token_of tok l) z ∷ []) o e more → Completes tok ranges (Asks l z a go) done o e (Refuse (token_of tok l) z ∷ more)
  with_refusal l z a go done o e more al may c = record {
    requests = Alloc l z a ∷ c.requests;
    means = ap (after (Alloc l z a)) c.means;
    matches = (refl, refl, al, c.matches);
    legal = next_legal ranges done (Refuse (token_of tok l) z) more may c.legal;
  }

  with_release : (j t p : ℕ) (r : Run) (done : List LogEntry) (o : List ℕ) (e : End) (more : List LogEntry)
      → WasGranted (slice_get done j) t p → MayFollow (ranges t) (by_token done t) (event.Release p)
      → Completes tok ranges r (done ++ Release t p ∷ []) o e more → Completes tok ranges (Frees j r) done o e (Release t p ∷ more)
  with_release j t p r done o e more was may c = record {
    requests = Free j ∷ c.requests;
    means = ap (after (Free j)) c.means;
    matches = (was, c.matches);
    legal = next_legal ranges done (Release t p) more may c.legal;
  }

  -- the same entry, behind those that are there
  moved : (run : Run) (o : List ℕ) (e : End) (log : List LogEntry) (x : LogEntry) (more : List LogEntry) → IsRun run tok ranges o e (log ++ (x ∷ more)) → IsRun run tok ranges o e ((log ++ x ∷ []) ++ more)
  moved run o e log x more h = subst (λ (l : List LogEntry). IsRun run tok ranges o e l) (sym (append_assoc log (x ∷ []) more)) h

  one_granted : (x : Option LogEntry) (t p t' p' : ℕ) → WasGranted x t p → WasGranted x t' p' → (t ≡ t') × (p ≡ p')
  one_granted (Some (Grant t z p)) t1 p1 t2 p2 a b = (sym a.0 ∙ b.0, sym a.1 ∙ b.1)
  one_granted (Some (Refuse t z)) t1 p1 t2 p2 a b = absurd a
  one_granted (Some (Release t p)) t1 p1 t2 p2 a b = absurd a
  one_granted None t1 p1 t2 p2 a b = absurd a

  -- what was released was live, and no other release can stand there
  same_release : (j t p u q : ℕ) (r : Run) (log : List LogEntry) → WasGranted (slice_get log j) t p → WasGranted (slice_get log j) u q → (live q (by_token log u) ≡ true) × Releases tok ranges r (log ++ Release u q ∷ [])
      → (live p (by_token log t) ≡ true) × Releases tok ranges r (log ++ Release t p ∷ [])
  same_release j t p u q r log was other h =
      let e = one_granted (slice_get log j) u q t p other was in
      subst (λ (k : ℕ). (live p (by_token log k) ≡ true) × Releases tok ranges r (log ++ Release k p ∷ [])) e.0
      (subst (λ (k : ℕ). (live k (by_token log u) ≡ true) × Releases tok ranges r (log ++ Release u k ∷ [])) e.1 h)

  advances : (run : Run) (log : List LogEntry) → Advances tok ranges run log
  advances run log = record {
    begun = λ r h. record {
      completes = λ o e more c. h.completes o e more (record { requests = c.requests; means = c.means; matches = c.matches; legal = c.legal });
      releases = h.releases;
    };
    granted = λ l z a p go h may. record {
      completes = λ o e more c. moved run o e log (Grant (token_of tok l) z p) more (h.completes o e (Grant (token_of tok l) z p ∷ more) (with_grant l z a p go log o e more h.releases.0 may c));
      releases = h.releases.1 p may.0;
    };
    refused = λ l z a go h may. record {
      completes = λ o e more c. moved run o e log (Refuse (token_of tok l) z) more (h.completes o e (Refuse (token_of tok l) z ∷ more) (with_refusal l z a go log o e more h.releases.0 may c));
      releases = h.releases.2;
    };
    released = λ j t p r h was.
        let s = same_release j t p h.releases.0 h.releases.1 r log was h.releases.2 (h.releases.3, h.releases.4) in
        record {
          completes = λ o e more c. moved run o e log (Release t p) more (h.completes o e (Release t p ∷ more) (with_release j t p r log o e more was s.0 c));
          releases = s.1;
        };
    is_live = λ j t p r h was. (same_release j t p h.releases.0 h.releases.1 r log was h.releases.2 (h.releases.3, h.releases.4)).0;
  }

  arrives : (run : Run) (log : List LogEntry) → Arrives tok ranges run log
  arrives run log = record {
    ended = λ o e h. subst (λ (l : List LogEntry). IsRun run tok ranges o e l) (append-nil log) (h.completes o e [] (record { requests = []; means = refl; matches = tt; legal = λ t. tt }));
    prefix = λ now h. let c = completed now log h.releases in (c.0, c.1, c.2, h.completes c.0 c.1 c.2 c.3);
  }

pub runs_advance : RunsAdvance
runs_advance tok ranges run log = (advances tok ranges run log, arrives tok ranges run log)

pub runs_begin : BeginsReached
runs_begin c tok input steps count size =
    record {
      completes = λ o e more h. record { requests = h.requests; means = h.means; matches = h.matches; legal = h.legal };
      releases = releases_of tok (ranges_of count size) (run_of c tok.mark input steps) [] (sound_of tok (ranges_of count size) (run_of c tok.mark input steps) [] (run_sound tok (ranges_of count size) c tok.mark input steps));
    }
