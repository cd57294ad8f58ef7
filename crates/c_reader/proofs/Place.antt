-- What the reader answers: the unit that the tokens spell, or the place where they go wrong.
use Rattle.std.proofs.Common.{◌≡◌, List, [], ◌∷◌, ◌++◌, Option, Some, None, refl, sym, ◌∙◌, ap, append_assoc, append-nil}
use Rattle.c_tree.specs.Tok.{Tok}
use Rattle.c_tree.specs.Tree.{External}
use Rattle.std.specs.List.{AllByRecursion}
use Rattle.c_tree.specs.Put.{toks}
use Rattle.c_tree.specs.Wf.{Env, WfUnit}
use Rattle.c_reader.specs.Inside.{Mode, State, want_external, in_attribute, specs, declarator, after_attributes, want_init, after_init, expr, stmt}
use Rattle.c_reader.specs.Machine.{Read, on_step, run, unit_at, Answer, answer_end, answer}
use Rattle.c_reader.specs.Machine as machine
use Rattle.c_reader.proofs.Ok.{ModeOk}
use Rattle.c_reader.proofs.Before.{before}
use Rattle.c_reader.proofs.Sound.{ValidTok, Reached, Stops, Ran, ran}
use Rattle.c_reader.proofs.Plug.{plug}
use Rattle.c_reader.proofs.Statements.{parses}

-- the tokens begin a well-formed unit
abbrev pub BeginsTok : List Tok → Type 0
BeginsTok ts = (v : List External) × WfUnit [] v × (q : List Tok) × (toks v ≡ ts ++ q)

abbrev pub SpellsTok : List Tok → List External → Type 0
SpellsTok ts v = WfUnit [] v × (toks v ≡ ts)

-- those before rest begin a unit, and with one token more they do not
abbrev pub PlaceTok : List Tok → List Tok → Type 0
PlaceTok ts rest = (done : List Tok) × (ts ≡ done ++ rest) × BeginsTok done × ((x : Tok) (more : List Tok) → rest ≡ x ∷ more → BeginsTok (done ++ x ∷ []) → ⊥)

abbrev pub Told : List Tok → Answer → Type 0
Told ts (Answer.unit v) = SpellsTok ts v
Told ts (Answer.wrong rest) = PlaceTok ts rest

pub begin_ok : ModeOk machine.begin.env machine.begin.mode
begin_ok = (tt, refl)

abbrev Ends : (List Tok → List Tok) → Option (List External) → Type 0
Ends f None = Unit {0}
Ends f (Some v) = WfUnit [] v × (toks v ≡ f [])

ends : (m : Mode) (env : Env) → ModeOk env m → Ends (before m) (unit_at m)
ends (want_external done) env h = (h.0, refl)
ends (in_attribute m a) env h = tt
ends (specs m) env h = tt
ends (declarator m) env h = tt
ends (after_attributes r) env h = tt
ends (want_init k) env h = tt
ends (after_init k x) env h = tt
ends (expr m) env h = tt
ends (stmt m) env h = tt

pub reached_begins : (ts : List Tok) (s : State) → Reached machine.begin.mode ts s → BeginsTok ts
reached_begins ts s r = let h = plug s.mode s.env r.ok in (h.v, h.wf, h.q, h.spells ∙ r.spells h.q)

told_end : (ts : List Tok) (s : State) (o : Option (List External)) → Ends (before s.mode) o → Reached machine.begin.mode ts s → Told ts (answer_end o)
told_end ts s (Some v) h r = (h.0, h.1 ∙ r.spells [] ∙ append-nil ts)
told_end ts s None h r = (ts, sym (append-nil ts), reached_begins ts s r, λ x more e b. cc)

-- one token more is never taken
no_more : (ts rest : List Tok) (s : Stops machine.begin ts rest) (x : Tok) (more : List Tok) → rest ≡ x ∷ more → BeginsTok (s.done ++ x ∷ []) → ⊥
no_more ts rest s x more e b =
    let same : x ≡ s.x = (let both : x ∷ more ≡ s.x ∷ s.more = sym e ∙ s.rest_is in cc) in
    let q = s.x ∷ b.2 in
    let spelled : toks b.0 ≡ s.done ++ q = b.3 ∙ append_assoc s.done (x ∷ []) b.2 ∙ ap (λ z. s.done ++ z ∷ b.2) same in
    let stuck_there : machine.read (s.done ++ q) ≡ Answer.wrong q = ap answer (s.same q ∙ ap (λ o. on_step s.x b.2 o (λ after. run after b.2)) s.no_step) in
    let reads_it : machine.read (s.done ++ q) ≡ Answer.unit b.0 = ap machine.read (sym spelled) ∙ parses b.0 b.1 in
    let clash : Answer.unit b.0 ≡ Answer.wrong q = sym reads_it ∙ stuck_there in
    cc

told_ran : (ts : List Tok) (r : Read) → Ran machine.begin ts r → Told ts (answer r)
told_ran ts (Read.reached s) h = told_end ts s (unit_at s.mode) (ends s.mode s.env h.ok) h
told_ran ts (Read.stuck rest) h = (h.done, h.all, reached_begins h.done h.last h.reach, no_more ts rest h)

pub told : (ts : List Tok) → AllByRecursion ValidTok ts → Told ts (machine.read ts)
told ts v = told_ran ts (run machine.begin ts) (ran ts machine.begin v begin_ok)
