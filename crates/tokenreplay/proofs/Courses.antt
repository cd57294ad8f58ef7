-- What follows from the course that a run takes.
use Rattle.std.proofs.Common.{◌≡◌, ◌≢◌, ◌⊎◌, inl, inr, ℕ, List, [], Option, Some, None, IfSome, false, refl, sym, ap, ◌∙◌, subst, arith}
use Rattle.std.specs.Prelude.{◌==◌}
use Rattle.std.proofs.lemmas.Bool.Decides.{nat_tests}
use Rattle.std.proofs.lemmas.List.{append-nil}
use Rattle.tok_base.specs.Status.{code_of}
use Rattle.std.specs.Io.KnownBytes.{Appends}
use Rattle.tok_base.specs.Fault.{Rose}
use Rattle.tok_base.specs.Files.{Contents, Tally}
use Rattle.tok_base.specs.declared.status.Status.{Status}
use Rattle.tok_base.specs.declared.status.Status.TheVariants.{Done, Usage, FileFault, WriteFault, TooLong, Lex, Syntax, NoMemory, TooDeep, ReadFault, Check, Trap, Spent, StackFull, OutputFull, ReservedName, Stateful, BadTrace, InUnit, Clash, NoMain, NoBlock}
use Rattle.tok_base.specs.declared.status.TraceRule.{TraceRule}
use Rattle.tok_base.specs.declared.status.Which.{Which}
use Rattle.tok_base.specs.declared.status.Which.TheVariants as which
use Rattle.tokenreplay.specs.Course as c
use Rattle.tokenreplay.specs.Course.{file_of, HasText, IsTooLong, IsBroken, NamesTooLong, NamesText, Course, writes, refuses, TextComes, Comes, line_of, Written, Change, Holds, Fails, Writes, Stays, Ends, Runs, Due, IsDue, Reports, status_of, out_of, report_of}

pub differ : (a b : Status) → (code_of a == code_of b) ≡ false → a ≡ b → ⊥
differ a b h e = let k : code_of a ≡ code_of b = ap code_of e in grind (arith, nat_tests)

told_of : {A : Type 0} (P : A → Type 0) (m : Option A) (a : A) → m ≡ Some a → IfSome m P → P a
told_of P m a e h = let Q : Option _ → Type 0 = λ o. IfSome o P in subst Q e h

none_or_some : {A : Type 0} {B : Type 0} (m : Option A) (a : A) → m ≡ None → m ≡ Some a → B
none_or_some m a n e = let x : None ≡ Some a = sym n ∙ e in absurd (cc)

stays_appends : (sink : Change) → Stays sink → Appends sink.old.bytes sink.new.bytes []
stays_appends sink e = let P : Written → Type 0 = λ w. Appends sink.old.bytes w.bytes [] in subst P (sym e) (same sink.old.bytes)
  where
    same : (b : Option (List ℕ)) → Appends b b []
    same None = tt
    same (Some xs) = sym (append-nil xs)

module _ (words : List (List ℕ)) (files : Option Contents) (tally now : Tally) where
  abbrev K : Course → Type 0
  K = Comes words files tally now

  -- why a refusal is answered
  abbrev Cause : Status → Type 0
  Cause Usage = file_of words ≡ None
  Cause FileFault = (name : List ℕ) × (file_of words ≡ Some name) × Rose tally.faults now.faults × (now.failed ≡ Some name)
  Cause (TooLong which.Unit) = NamesTooLong words files
  Cause (TooLong which.Input) = ⊥
  Cause (BadTrace i rule) = NamesText words files (IsBroken i rule)
  Cause WriteFault = ⊥
  Cause NoMemory = Prim.Unit {0}
  Cause Done = Prim.Unit {0}
  Cause ReadFault = ⊥
  Cause (Check rule span) = ⊥
  Cause (Trap reason span) = ⊥
  Cause Spent = ⊥
  Cause StackFull = ⊥
  Cause OutputFull = ⊥
  Cause (ReservedName span) = ⊥
  Cause (Stateful span) = ⊥
  Cause (Lex p) = ⊥
  Cause (Syntax k) = ⊥
  Cause TooDeep = ⊥
  Cause (InUnit unit fault) = ⊥
  Cause (Clash unit span) = ⊥
  Cause NoMain = ⊥
  Cause NoBlock = ⊥

  text_caused : (name text : List ℕ) (k : Course) → file_of words ≡ Some name → HasText files name text
      → TextComes text k → Cause (status_of k)
  text_caused name text _ a h (c.bad_trace i rule b) = record { name = name; text = text; asked = a; file = h; is = b }
  text_caused name text _ a h (c.reported t hs r p) = tt

  caused : (k : Course) → K k → Cause (status_of k)
  caused _ (c.usage n t) = n
  caused _ (c.file_fault o a b d) = (o, a, b, d)
  caused _ (c.too_long o a l t) = (o, a, l)
  caused _ (c.read o text k a h x t) = text_caused o text k a h x
  caused _ (c.no_memory t) = tt

  no_write_fault : (k : Course) → K k → status_of k ≡ WriteFault → ⊥
  no_write_fault k x e = subst Cause e (caused k x)

  kept : (k : Course) → K k → (status_of k ≡ FileFault → ⊥) → now ≡ tally
  kept _ (c.usage n t) f = t
  kept _ (c.file_fault o a b d) f = absurd (f refl)
  kept _ (c.too_long o a l t) f = t
  kept _ (c.read o text k a h x t) f = t
  kept _ (c.no_memory t) f = t

  -- a refusal may be answered as want of memory, but for that of the file
  pub starved : (k : Course) → K k → (status_of k ≡ FileFault → ⊥) → K (refuses NoMemory)
  starved k x f = c.no_memory (kept k x f)

  module _ (status : Status) (out report : Change) where
    abbrev pub R : Type 0
    R = Runs words files tally now status out report

    abbrev Held : Course → Type 0
    Held (writes text) = Holds out.old out.new text × Stays report
    Held (refuses refusal) = Holds report.old report.new (line_of refusal) × Stays out

    good : (g : Status) (sink : Change) (text : List ℕ) → Writes status g sink text → status ≢ WriteFault → (status ≡ g) × Holds sink.old sink.new text
    good g sink text (inl h) n = h
    good g sink text (inr h) n = absurd (n h.0)

    -- where no write failed
    whole : (k : Course) → Ends k status out report → status ≢ WriteFault → (status ≡ status_of k) × Held k
    whole (writes text) w n = let h = good Done out text w.0 n in (h.0, (h.1, w.1))
    whole (refuses r) w n = let h = good r report (line_of r) w.0 n in (h.0, (h.1, w.1))

    cause : R → (want : Status) → status ≡ want → want ≢ WriteFault → Cause want
    cause r want e n =
        let h = whole r.course r.ends (λ f. n (sym e ∙ f)) in
        subst Cause (sym h.0 ∙ e) (caused r.course r.comes)

    pub usage : R → status ≡ Usage → file_of words ≡ None
    usage r e = cause r Usage e (differ Usage WriteFault refl)

    pub file_fault : R → status ≡ FileFault → Cause FileFault
    file_fault r e = cause r FileFault e (differ FileFault WriteFault refl)

    too_long_so : (w : Which) → Cause (TooLong w) → (w ≡ which.Unit) × NamesTooLong words files
    too_long_so which.Unit x = (refl, x)
    too_long_so which.Input x = absurd x

    pub too_long : R → (w : Which) → status ≡ TooLong w → (w ≡ which.Unit) × NamesTooLong words files
    too_long r w e = too_long_so w (cause r (TooLong w) e (differ (TooLong w) WriteFault refl))

    pub bad_trace : R → (i : ℕ) (rule : TraceRule) → status ≡ BadTrace i rule → NamesText words files (IsBroken i rule)
    bad_trace r i rule e = cause r (BadTrace i rule) e (differ (BadTrace i rule) WriteFault refl)

    -- ---- failed writes

    abbrev SomeRose : Type 0
    SomeRose = Rose out.old.faults out.new.faults ⊎ Rose report.old.faults report.new.faults

    failed : (g : Status) (sink : Change) (text : List ℕ) → Writes status g sink text → status ≡ WriteFault → (g ≡ WriteFault → ⊥) → Rose sink.old.faults sink.new.faults
    failed g sink text (inl h) e n = absurd (n (sym h.0 ∙ e))
    failed g sink text (inr h) e n = h.1.rose

    some_failed : (k : Course) → K k → Ends k status out report → status ≡ WriteFault → SomeRose
    some_failed (writes text) x w e = inl (failed Done out text w.0 e (differ Done WriteFault refl))
    some_failed (refuses r) x w e = inr (failed r report (line_of r) w.0 e (no_write_fault (refuses r) x))

    pub write_fault : R → status ≡ WriteFault → SomeRose
    write_fault r e = some_failed r.course r.comes r.ends e

    -- ---- the words are none that the program takes

    abbrev Three : Type 0
    Three = (status ≡ Usage) ⊎ ((status ≡ WriteFault) ⊎ (status ≡ NoMemory))

    usage_or_fault : Writes status Usage report (line_of Usage) → Three
    usage_or_fault (inl h) = inl h.0
    usage_or_fault (inr h) = inr (inl h.0)

    memory_or_fault : Writes status NoMemory report (line_of NoMemory) → Three
    memory_or_fault (inl h) = inr (inr h.0)
    memory_or_fault (inr h) = inr (inl h.0)

    usage_only_go : (k : Course) → K k → Ends k status out report → file_of words ≡ None → Three
    usage_only_go _ (c.usage n t) w e = usage_or_fault w.0
    usage_only_go _ (c.file_fault o a b d) w e = none_or_some (file_of words) o e a
    usage_only_go _ (c.too_long o a l t) w e = none_or_some (file_of words) o e a
    usage_only_go _ (c.read o text k a h x t) w e = none_or_some (file_of words) o e a
    usage_only_go _ (c.no_memory t) w e = memory_or_fault w.0

    pub usage_only : R → file_of words ≡ None → Three
    usage_only r e = usage_only_go r.course r.comes r.ends e

    -- ---- what stands after a refusal

    abbrev Refused : Type 0
    Refused = Appends report.old.bytes report.new.bytes (line_of status) × (out.new.bytes ≡ out.old.bytes)

    refused_so : (k : Course) → status ≡ status_of k → Held k → status ≢ Done → Refused
    refused_so (writes text) e h d = absurd (d e)
    refused_so (refuses r) e h d =
        let P : Status → Type 0 = λ s. Appends report.old.bytes report.new.bytes (line_of s) in
        (subst P (sym e) h.0.bytes, ap (λ x. x.bytes) h.1)

    pub refused : R → status ≢ Done → status ≢ WriteFault → Refused
    refused r d f = let h = whole r.course r.ends f in refused_so r.course h.0 h.1 d

    pub files_kept : R → status ≢ FileFault → status ≢ WriteFault → now ≡ tally
    files_kept r d f = let h = whole r.course r.ends f in kept r.course r.comes (λ e. d (h.0 ∙ e))

    abbrev Kept : Type 0
    Kept = (out.new.faults ≡ out.old.faults) × (report.new.faults ≡ report.old.faults)

    kept_so : (k : Course) → Held k → Kept
    kept_so (writes text) h = (h.0.kept, ap (λ x. x.faults) h.1)
    kept_so (refuses r) h = (ap (λ x. x.faults) h.1, h.0.kept)

    pub sinks_kept : R → status ≢ WriteFault → Kept
    sinks_kept r f = kept_so r.course (whole r.course r.ends f).1

    -- ---- what is due

    due_course : (all : Contents) → files ≡ Some all → (Rose tally.faults now.faults → ⊥) → (k : Course) → K k → status_of k ≢ NoMemory → Due words all k
    due_course all e p _ (c.usage n t) m = c.due_usage n
    due_course all e p _ (c.file_fault o a b d) m = absurd (p b)
    due_course all e p _ (c.too_long o a l t) m = c.due_too_long o a (told_of (λ x. IsTooLong x o) files all e l)
    due_course all e p _ (c.read o text k a h x t) m = c.due_text o text k a (subst (λ f. HasText f o text) e h) x
    due_course all e p _ (c.no_memory t) m = absurd (m refl)

    due_held : (all : Contents) (k : Course) → Due words all k → status ≡ status_of k → Held k → IsDue words all status out report
    due_held all (writes text) d e h = record { course = writes text; due = d; answered = e; out_holds = h.0.bytes; report_holds = stays_appends report h.1 }
    due_held all (refuses r) d e h = record { course = refuses r; due = d; answered = e; out_holds = stays_appends out h.1; report_holds = h.0.bytes }

    pub due : R → (all : Contents) → files ≡ Some all → (Rose tally.faults now.faults → ⊥) → (Rose out.old.faults out.new.faults → ⊥)
        → (Rose report.old.faults report.new.faults → ⊥) → status ≢ NoMemory → IsDue words all status out report
    due r all e p q v m =
        let h = whole r.course r.ends (λ f. no_rise (write_fault r f)) in
        due_held all r.course (due_course all e p r.course r.comes (λ x. m (h.0 ∙ x))) h.0 h.1
      where
        no_rise : SomeRose → ⊥
        no_rise (inl x) = q x
        no_rise (inr x) = v x

    -- ---- what was written is a report

    report_text : (name text : List ℕ) (k : Course) → file_of words ≡ Some name → HasText files name text
        → TextComes text k → status_of k ≡ Done → Held k → Reports words files out
    report_text name text _ a h (c.bad_trace i rule b) e w = absurd (differ (BadTrace i rule) Done refl e)
    report_text name text _ a h (c.reported t hs r p) e w = record { name = name; text = text; trace = t; histories = hs; asked = a; file = h; reads = r; replayed = p; written = w.0.bytes }

    report_go : (k : Course) → K k → status_of k ≡ Done → Held k → Reports words files out
    report_go _ (c.usage n t) e w = absurd (differ Usage Done refl e)
    report_go _ (c.file_fault o a b d) e w = absurd (differ FileFault Done refl e)
    report_go _ (c.too_long o a l t) e w = absurd (differ (TooLong which.Unit) Done refl e)
    report_go _ (c.read o text k a h x t) e w = report_text o text k a h x e w
    report_go _ (c.no_memory t) e w = absurd (differ NoMemory Done refl e)

    pub reports : R → status ≡ Done → Reports words files out
    reports r e =
        let h = whole r.course r.ends (λ f. differ Done WriteFault refl (sym e ∙ f)) in
        report_go r.course r.comes (sym h.0 ∙ e) h.1
