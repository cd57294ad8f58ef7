-- What the options come to is what the words come to, and how a run ends that tells a refusal.
use Rattle.std.proofs.Common.{◌≡◌, inl, inr, ℕ, List, Option, Some, Result, Ok, Err, refl, sym, subst}
use Rattle.tok_base.specs.Files.{Contents, Tally}
use Rattle.tok_base.specs.declared.status.Status.{Status}
use Rattle.tok_base.specs.declared.status.Status.TheVariants as status
use Rattle.tok_base.specs.declared.status.Which.TheVariants as which
use Rattle.c_tree.specs.Bare.{bare_unit}
use Rattle.c_tree.specs.Depth.{IsFlat}
use Rattle.c_tree.specs.Printed.{unit_text}
use Rattle.c_tree.specs.View.{view_unit}
use Rattle.c_tree.specs.declared.statement.Unit as tree
use Rattle.call_rewriter.specs.Tagged.{tagged}
use Rattle.command_line.specs.declared.options.Options.{Options}
use Rattle.alloctoken.specs.declared.course.Refusal.{Refusal}
use Rattle.alloctoken.specs.declared.course.Refusal.TheVariants as refusal
use Rattle.command_line.specs.Options.{options_of}
use Rattle.alloctoken.specs.Course as c
use Rattle.alloctoken.specs.Course.{Reads, Comes, writes, refuses, HasText, TextComes, Change, Stays, Runs, Writes, line_of}
use Rattle.alloctoken.specs.Reading.{ReadsFile, ReadsUnit, Rewrites, Serves, Takes, Tells, WritesNumbered, course_of}
use Rattle.alloctoken.proofs.Courses.{differ, starved}

pub refused_text : (text : List ℕ) (max : ℕ) (e : Refusal) → ReadsUnit text (Err e) → Rewrites text max (Err e)
refused_text text max refusal.Usage h = absurd h
refused_text text max refusal.FileFault h = absurd h
refused_text text max refusal.TooLong h = absurd h
refused_text text max (refusal.Lex p) h = inl (c.bad_character p h)
refused_text text max (refusal.Syntax k) h =
    let P : ℕ → Type 0 = λ n. TextComes text max (refuses (status.Syntax n)) in
    inl (subst P h.1 (c.syntax h.0 h.2))
refused_text text max refusal.TooDeep h = inl (c.too_deep h)
refused_text text max refusal.NoMemory h = inr refl

pub rewrites_text : (text : List ℕ) (max : ℕ) (unit : tree.Unit) (written : List ℕ) → Reads text (bare_unit (view_unit unit)) × IsFlat (bare_unit (view_unit unit))
    → written ≡ unit_text (tagged max (bare_unit (view_unit unit))) → Rewrites text max (Ok written)
rewrites_text text max unit written h e =
    let P : List ℕ → Type 0 = λ w. TextComes text max (writes w) in
    inl (subst P (sym e) (c.rewritten (bare_unit (view_unit unit)) h.0 h.1))

module _ (words : List (List ℕ)) (files : Option Contents) (tally now : Tally) where
  text_served : (o : Options) (text : List ℕ) (r : Result (List ℕ) Refusal) → options_of words ≡ Some o → HasText files o.file text
      → now ≡ tally → Rewrites text o.max r → Takes words files tally now r
  text_served o text r e h t (inl x) = c.read o text (course_of r) e h x t
  text_served o text r e h t (inr n) = subst (Takes words files tally now) (sym n) (c.no_memory t)

  unread_served : (o : Options) (e : Refusal) → options_of words ≡ Some o → ReadsFile files tally now o.file (Err e) → Takes words files tally now (Err e)
  unread_served o refusal.Usage a h = absurd h
  unread_served o refusal.FileFault a h = c.file_fault o a h.0 h.1
  unread_served o refusal.TooLong a h = c.too_long o a h.0 h.1
  unread_served o (refusal.Lex p) a h = absurd h
  unread_served o (refusal.Syntax k) a h = absurd h
  unread_served o refusal.TooDeep a h = absurd h
  unread_served o refusal.NoMemory a h = c.no_memory h

  pub served : (o : Options) (r : Result (List ℕ) Refusal) → options_of words ≡ Some o → Serves o files tally now r → Takes words files tally now r
  served o r e (inl h) = text_served o h.0 r e h.1 h.2 h.3
  served o r e (inr h) = subst (Takes words files tally now) (sym h.1) (unread_served o h.0 e h.2)

  module _ (s : Status) (out report : Change) where
    numbered : (g : Status) → Comes words files tally now (refuses g) → (g ≡ status.FileFault → ⊥) → WritesNumbered s g report (line_of g) → Stays out
        → Runs words files tally now s out report
    numbered g x f (inl w) k = record { course = refuses g; comes = x; ends = (w, k) }
    numbered g x f (inr w) k = record { course = refuses status.NoMemory; comes = starved words files tally now (refuses g) x f; ends = (w, k) }

    plain : (g : Status) → Comes words files tally now (refuses g) → Writes s g report (line_of g) → Stays out → Runs words files tally now s out report
    plain g x w k = record { course = refuses g; comes = x; ends = (w, k) }

    pub told : (e : Refusal) → Takes words files tally now (Err e) → Tells s e report → Stays out → Runs words files tally now s out report
    told refusal.Usage x w k = plain status.Usage x w k
    told refusal.FileFault x w k = plain status.FileFault x w k
    told refusal.TooLong x w k = plain (status.TooLong which.Unit) x w k
    told (refusal.Lex p) x w k = numbered (status.Lex p) x (differ (status.Lex p) status.FileFault refl) w k
    told (refusal.Syntax n) x w k = numbered (status.Syntax n) x (differ (status.Syntax n) status.FileFault refl) w k
    told refusal.TooDeep x w k = plain status.TooDeep x w k
    told refusal.NoMemory x w k = plain status.NoMemory x w k
