-- What the words come to, and how a run ends that tells a refusal.
use Rattle.std.proofs.Common.{◌≡◌, inl, inr, ℕ, List, Option, Some, Result, Ok, Err, refl, sym, subst}
use Rattle.tok_base.specs.Files.{Contents, Tally}
use Rattle.tok_base.specs.declared.status.Status.{Status}
use Rattle.tok_base.specs.declared.status.Status.TheVariants as status
use Rattle.tok_base.specs.declared.status.Which.TheVariants as which
use Rattle.trace_format.specs.Lines.{lines}
use Rattle.trace_format.specs.Reading.{trace_in}
use Rattle.trace_format.specs.Noted.{OrNoMemory}
use Rattle.trace_format.specs.declared.trace.Trace.{Trace}
use Rattle.trace_format.specs.declared.trace.TraceEnd.{TraceEnd}
use Rattle.trace_format.specs.declared.trace.TraceEnd.TheVariants as end
use Rattle.tokenreplay.specs.declared.course.Refusal.{Refusal}
use Rattle.tokenreplay.specs.declared.course.Refusal.TheVariants as refusal
use Rattle.tokenreplay.specs.Course as c
use Rattle.tokenreplay.specs.Course.{file_of, Comes, Course, writes, refuses, HasText, TextComes, Change, Stays, Runs, Writes, line_of}
use Rattle.tokenreplay.specs.Reading.{IsReport, ReadsFile, Replays, Serves, Takes, Tells, WritesOrTells, course_of, refusal_of}
use Rattle.tokenreplay.proofs.Courses.{differ, starved}

pub broken_text : (text : List ℕ) (e : TraceEnd) → OrNoMemory (Err e) (trace_in (lines text)) → Replays text (Err (refusal_of e))
broken_text text (end.Line i rule) (inl q) = inl (c.bad_trace i rule (sym q))
broken_text text (end.Line i rule) (inr q) = absurd (cc)
broken_text text end.NoMemory q = inr refl

pub whole_text : (text : List ℕ) (t : Trace) (report : List ℕ) → OrNoMemory (Ok t) (trace_in (lines text)) → IsReport t report → Replays text (Ok report)
whole_text text t report (inl e) r = let P : List ℕ → Type 0 = λ w. TextComes text (writes w) in inl (subst P (sym r.1) (c.reported t r.0 (sym e) r.2))
whole_text text t report (inr e) r = absurd (cc)

module _ (words : List (List ℕ)) (files : Option Contents) (tally now : Tally) where
  text_served : (name text : List ℕ) (r : Result (List ℕ) Refusal) → file_of words ≡ Some name → HasText files name text
      → now ≡ tally → Replays text r → Takes words files tally now r
  text_served name text r e h t (inl x) = c.read name text (course_of r) e h x t
  text_served name text r e h t (inr n) = subst (Takes words files tally now) (sym n) (c.no_memory t)

  unread_served : (name : List ℕ) (e : Refusal) → file_of words ≡ Some name → ReadsFile files tally now name (Err e) → Takes words files tally now (Err e)
  unread_served name refusal.Usage a h = absurd h
  unread_served name refusal.FileFault a h = c.file_fault name a h.0 h.1
  unread_served name refusal.TooLong a h = c.too_long name a h.0 h.1
  unread_served name (refusal.BadTrace i rule) a h = absurd h
  unread_served name refusal.NoMemory a h = c.no_memory h

  pub served : (name : List ℕ) (r : Result (List ℕ) Refusal) → file_of words ≡ Some name → Serves name files tally now r → Takes words files tally now r
  served name r e (inl h) = text_served name h.0 r e h.1 h.2 h.3
  served name r e (inr h) = subst (Takes words files tally now) (sym h.1) (unread_served name h.0 e h.2)

  module _ (s : Status) (out report : Change) where
    or_told : (g : Status) → Comes words files tally now (refuses g) → (g ≡ status.FileFault → ⊥) → WritesOrTells s g report (line_of g) → Stays out
        → Runs words files tally now s out report
    or_told g x f (inl w) k = record { course = refuses g; comes = x; ends = (w, k) }
    or_told g x f (inr w) k = record { course = refuses status.NoMemory; comes = starved words files tally now (refuses g) x f; ends = (w, k) }

    plain : (g : Status) → Comes words files tally now (refuses g) → Writes s g report (line_of g) → Stays out → Runs words files tally now s out report
    plain g x w k = record { course = refuses g; comes = x; ends = (w, k) }

    pub told : (e : Refusal) → Takes words files tally now (Err e) → Tells s e report → Stays out → Runs words files tally now s out report
    told refusal.Usage x w k = plain status.Usage x w k
    told refusal.FileFault x w k = plain status.FileFault x w k
    told refusal.TooLong x w k = plain (status.TooLong which.Unit) x w k
    told (refusal.BadTrace i rule) x w k = or_told (status.BadTrace i rule) x (differ (status.BadTrace i rule) status.FileFault refl) w k
    told refusal.NoMemory x w k = plain status.NoMemory x w k
