-- Parts of a library call, one after another.
use Rattle.std.proofs.Common.{◌≡◌, ℕ, List, length, true, false, Result, Ok, Err, IsErr, IfOk, sym, ap, subst, ◌∙◌, arith}
use Rattle.c_core.specs.declared.values.End.{End}
use Rattle.c_core.specs.Blocks.{Blocks}
use Rattle.range_heap.specs.History.{Region}
use Rattle.range_heap.specs.Seen.{AllHeaps}
use Rattle.c_meaning.specs.declared.log.LogEntry.{LogEntry}
use Rattle.c_meaning.specs.Run.{Run}
use Rattle.c_meaning.specs.World.{State, M, Acted, acted}
use Rattle.c_meaning.specs.Meaning.{Tokens}
use Rattle.c_meaning.specs.Log.{ranges_of}
use Rattle.machine_access.specs.Acts.{acted_of, over_blocks}
use Rattle.machine_state.specs.declared.ledger.Ledger.{Ledger}
use Rattle.machine_state.specs.State.{state_in, regions, SameRanges}
use Rattle.machine_state.proofs.Sound.{keeps_then}
use Rattle.machine_library.specs.Leads.{Leads, continued, Runs, valued, Called}

pub leads_same : (tok : Tokens) (ranges : ℕ → Region) (log : List LogEntry) (r : Run) → Leads tok ranges log r log r
leads_same tok ranges log r = record { reached = λ run h. h; less = omega arith }

pub leads_then : (tok : Tokens) (ranges : ℕ → Region) (log log1 log2 : List LogEntry) (a b c : Run) → Leads tok ranges log a log1 b → Leads tok ranges log1 b log2 c → Leads tok ranges log a log2 c
leads_then tok ranges log log1 log2 a b c x y = record {
  reached = λ run h. y.reached run (x.reached run h);
  less = let p = x.less in let q = y.less in omega (arith, p, q);
}

pub regions_same : (old new : AllHeaps) → SameRanges old new → regions new ≡ regions old
regions_same old new s = ap (λ (n : ℕ). ranges_of n new.size) s.1 ∙ ap (λ (n : ℕ). ranges_of (length old.heaps) n) s.0

module _ {A B E : Type 0} (tok : Tokens) (m : M A) (f : A → M B) (bs mid now : Blocks) (l l_mid l_now : Ledger) where
  -- what follows a part that gave a value
  pub runs_then : (a : A) (r : Result (Result B End) E) → SameRanges l.ranges l_mid.ranges → Runs {E = E} A tok m bs l mid l_mid (Ok (Ok a)) → Runs {E = E} B tok (f a) mid l_mid now l_now r
      → Runs {E = E} B tok (λ k s. m (λ a. f a k) s) bs l now l_now r
  runs_then a (Ok q) same x y = λ k.
      leads_then tok (regions l.ranges) l.rest.log.items l_mid.rest.log.items l_now.rest.log.items (m (λ a. f a k) (state_in bs l)) (f a k (state_in mid l_mid)) (continued q k (state_in now l_now))
      (x (λ a. f a k)) (subst (λ (g : ℕ → Region). Leads tok g l_mid.rest.log.items (f a k (state_in mid l_mid)) l_now.rest.log.items (continued q k (state_in now l_now))) (regions_same l.ranges l_mid.ranges same) (y k))
  runs_then a (Err e) same x y = λ k.
      let z = y k in (
        z.0,
        leads_then tok (regions l.ranges) l.rest.log.items l_mid.rest.log.items l_now.rest.log.items (m (λ a. f a k) (state_in bs l)) (f a k (state_in mid l_mid)) z.0
            (x (λ a. f a k)) (subst (λ (g : ℕ → Region). Leads tok g l_mid.rest.log.items (f a k (state_in mid l_mid)) l_now.rest.log.items z.0) (regions_same l.ranges l_mid.ranges same) z.1),
      )

  -- there was no memory for it
  pub runs_fails : (e d : E) → Runs {E = E} A tok m bs l mid l_mid (Err e) → Runs {E = E} B tok (λ k s. m (λ a. f a k) s) bs l mid l_mid (Err d)
  runs_fails e d x = λ k. x (λ a. f a k)

-- a part that asks for nothing
pub runs_acts : {A : Type 0} (E : Type 0) (tok : Tokens) (m : M A) (bs now : Blocks) (l l_now : Ledger) (r : Result A End) → ((k : A → State → Run) → m k (state_in bs l) ≡ continued r k (state_in now l_now))
    → l_now.rest.log.items ≡ l.rest.log.items → Runs {E = E} A tok m bs l now l_now (Ok r)
runs_acts E tok m bs now l l_now r h same = λ k.
    subst (λ (g : List LogEntry). Leads tok (regions l.ranges) l.rest.log.items (m k (state_in bs l)) g (continued r k (state_in now l_now))) (sym same)
    (subst (λ (b : Run). Leads tok (regions l.ranges) l.rest.log.items b l.rest.log.items (continued r k (state_in now l_now))) (sym (h k))
    (leads_same tok (regions l.ranges) l.rest.log.items (continued r k (state_in now l_now))))

-- an answer that is an error
pub runs_err : {A E : Type 0} (tok : Tokens) (m : M A) (bs now : Blocks) (l l_now : Ledger) (r : Result (Result A End) E) → IsErr r
    → ((k : A → State → Run) → (later : Run) × Leads tok (regions l.ranges) l.rest.log.items (m k (state_in bs l)) l_now.rest.log.items later) → Runs {E = E} A tok m bs l now l_now r
runs_err tok m bs now l l_now (Ok q) i h = absurd (let f : false ≡ true = i in cc)
runs_err tok m bs now l l_now (Err e) i h = h

pub runs_err_value : {A E : Type 0} (tok : Tokens) (m : M A) (bs now : Blocks) (l l_now : Ledger) (r : Result A E) → IsErr r
    → ((k : A → State → Run) → (later : Run) × Leads tok (regions l.ranges) l.rest.log.items (m k (state_in bs l)) l_now.rest.log.items later) → Runs {E = E} A tok m bs l now l_now (valued r)
runs_err_value tok m bs now l l_now (Ok q) i h = absurd (let f : false ≡ true = i in cc)
runs_err_value tok m bs now l l_now (Err e) i h = h

-- nothing was done yet
pub nothing_done : {A : Type 0} (tok : Tokens) (m : M A) (bs : Blocks) (l l_now : Ledger) → l_now.rest.log.items ≡ l.rest.log.items
    → (k : A → State → Run) → (later : Run) × Leads tok (regions l.ranges) l.rest.log.items (m k (state_in bs l)) l_now.rest.log.items later
nothing_done tok m bs l l_now same = λ k. (
  m k (state_in bs l),
  subst (λ (g : List LogEntry). Leads tok (regions l.ranges) l.rest.log.items (m k (state_in bs l)) g (m k (state_in bs l))) (sym same) (leads_same tok (regions l.ranges) l.rest.log.items (m k (state_in bs l))),
)

-- a part that begins as another one does
pub runs_as : {A E : Type 0} (tok : Tokens) (m n : M A) (bs mid now : Blocks) (l l_now : Ledger) (r : Result (Result A End) E) → ((k : A → State → Run) → m k (state_in bs l) ≡ n k (state_in mid l))
    → Runs {E = E} A tok n mid l now l_now r → Runs {E = E} A tok m bs l now l_now r
runs_as tok m n bs mid now l l_now (Ok q) h x = λ k.
    subst (λ (b : Run). Leads tok (regions l.ranges) l.rest.log.items b l_now.rest.log.items (continued q k (state_in now l_now))) (sym (h k)) (x k)
runs_as tok m n bs mid now l l_now (Err e) h x = λ k.
    let z = x k in (z.0, subst (λ (b : Run). Leads tok (regions l.ranges) l.rest.log.items b l_now.rest.log.items z.0) (sym (h k)) z.1)

-- ---- quiet steps

pub acted_in : {A : Type 0} (o : Acted A) (r : Result A End) (bs cs : Blocks) (l : Ledger) (k : A → State → Run) → o ≡ acted_of r (over_blocks cs (state_in bs l).world) → acted o k (state_in bs l) ≡ continued r k (state_in cs l)
acted_in o (Ok a) bs cs l k e = ap (λ p. acted p k (state_in bs l)) e
acted_in o (Err end) bs cs l k e = ap (λ p. acted p k (state_in bs l)) e

-- ---- what stays

pub called_then : (a b c : List ℕ) (l m n : Ledger) → Called a l b m → Called b m c n → Called a l c n
called_then a b c l m n x y = record {
  keeps = keeps_then a b c l m n x.keeps y.keeps;
  ticks = y.ticks ∙ x.ticks;
  locals = y.locals ∙ x.locals;
}

-- a part that asks for nothing, where there may be no memory
pub runs_quiet : {A E : Type 0} (tok : Tokens) (m : M A) (bs : Blocks) (l l_now : Ledger) (r : Result (Result A End) E)
    → IfOk r (λ q. (k : A → State → Run) → m k (state_in bs l) ≡ continued q k (state_in bs l_now)) → l_now.rest.log.items ≡ l.rest.log.items → Runs {E = E} A tok m bs l bs l_now r
runs_quiet {A} {E} tok m bs l l_now (Ok q) h same = runs_acts E tok m bs bs l l_now q h same
runs_quiet tok m bs l l_now (Err e) h same = nothing_done tok m bs l l_now same

pub if_ok_map : {A E : Type 0} {P Q : A → Type 0} (r : Result A E) → ((a : A) → P a → Q a) → IfOk r P → IfOk r Q
if_ok_map (Ok a) f h = f a h
if_ok_map (Err e) f h = tt
