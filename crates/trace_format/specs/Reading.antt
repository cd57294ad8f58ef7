-- Which lines are a trace, and which line is the first that breaks a rule.
use Rattle.std.specs.Prelude.{ℕ, ◌+◌, ◌*◌, ◌%◌, Bool, true, false, ◌&&◌, ◌||◌, not, leb, nat_lt, eqb, bytes_eq, codes, List, [], ◌∷◌, ◌++◌, Option, Some, None, Result, Ok, Err, if◌then◌else◌}
use Rattle.tok_base.specs.declared.status.TraceRule.{TraceRule}
use Rattle.tok_base.specs.declared.status.TraceRule.TheVariants.{Many, Form, Range, Name, Freed}
use Rattle.token_modes.specs.declared.mode.Mode.{Mode}
use Rattle.token_modes.specs.declared.mode.Mode.TheVariants.{Increment, Random, TypeHash, Split}
use Rattle.trace_format.specs.Lines.{words}
use Rattle.trace_format.specs.Fields.{event_fields, ranges_fields, workers_fields}
use Rattle.trace_format.specs.declared.lines.Fields.{Fields}
use Rattle.trace_format.specs.declared.lines.Fields.TheVariants as fields
use Rattle.trace_format.specs.declared.trace.Event.{Event}
use Rattle.trace_format.specs.declared.trace.Event.TheVariants.{Alloc, Free}
use Rattle.trace_format.specs.declared.trace.Trace.{Trace}
use Rattle.trace_format.specs.declared.trace.TraceEnd.{TraceEnd}
use Rattle.trace_format.specs.declared.trace.TraceEnd.TheVariants.{Line}

-- how many of the events are allocations; each is named by the number of those before it
abbrev pub allocations : List Event → ℕ
allocations [] = 0
allocations (Alloc worker name token size ∷ es) = 1 + allocations es
allocations (Free worker name ∷ es) = allocations es

-- whether one of the events frees what has this name
abbrev pub freed : ℕ → List Event → Bool
freed n [] = false
freed n (Alloc worker name token size ∷ es) = freed n es
freed n (Free worker name ∷ es) = eqb name n || freed n es

-- with so many ranges and workers, the rule that an event breaks behind these events
abbrev pub broken : ℕ → ℕ → List Event → Fields → Option TraceRule
broken count workers before (fields.Alloc worker name token size) =
    if not (nat_lt worker workers && nat_lt token count) then Some Range else if eqb name (allocations before) then None else Some Name
broken count workers before (fields.Free worker name) =
    if not (nat_lt worker workers) then Some Range else if nat_lt name (allocations before) && not (freed name before) then None else Some Freed

abbrev pub event_of : Fields → Event
event_of (fields.Alloc worker name token size) = Alloc worker name token size
event_of (fields.Free worker name) = Free worker name

abbrev pub fitting : ℕ → Option TraceRule → Event → Result Event TraceEnd
fitting i None e = Ok e
fitting i (Some rule) e = Err (Line i rule)

abbrev pub shaped : ℕ → ℕ → ℕ → List Event → Option Fields → Result Event TraceEnd
shaped count workers i before None = Err (Line i Form)
shaped count workers i before (Some f) = fitting i (broken count workers before f) (event_of f)

-- the event of line i
abbrev pub event_at : ℕ → ℕ → ℕ → List Event → List ℕ → Result Event TraceEnd
event_at count workers i before line = if leb i 1000004 then shaped count workers i before (event_fields (words line)) else Err (Line i Many)

-- a step and what follows it
abbrev pub then_ : {A B E : Type 0} → Result A E → (A → Result B E) → Result B E
then_ (Ok a) next = next a
then_ (Err e) next = Err e

-- the events of the lines from line i on, behind those before
abbrev pub events_from : ℕ → ℕ → ℕ → List Event → List (List ℕ) → Result (List Event) TraceEnd
events_from count workers i before [] = Ok before
events_from count workers i before (l ∷ ls) = then_ (event_at count workers i before l) (λ e. events_from count workers (i + 1) (before ++ e ∷ []) ls)

-- ---- the header

-- line i, and the lines behind it
abbrev pub line_at : ℕ → List (List ℕ) → Result (List ℕ × List (List ℕ)) TraceEnd
line_at i [] = Err (Line i Form)
line_at i (l ∷ ls) = Ok (l, ls)

abbrev pub or_form : {A : Type 0} → ℕ → Option A → Result A TraceEnd
or_form i None = Err (Line i Form)
or_form i (Some a) = Ok a

abbrev pub in_range : {A : Type 0} → ℕ → Bool → A → Result A TraceEnd
in_range i fits a = if fits then Ok a else Err (Line i Range)

abbrev pub is_first : List ℕ → Result (Unit {0}) TraceEnd
is_first line = if bytes_eq line (codes "alloctoken-trace 1") then Ok tt else Err (Line 1 Form)

-- 1 to 256 ranges of a multiple of 16 from 16 to 1048576 bytes, together at most 33554432
abbrev pub ranges_fit : ℕ → ℕ → Bool
ranges_fit count size = leb 1 count && leb count 256 && eqb (size % 16) 0 && leb 16 size && leb size 1048576 && leb (count * size) 33554432

abbrev pub ranges_of : List ℕ → Result (ℕ × ℕ) TraceEnd
ranges_of line = then_ (or_form 2 (ranges_fields (words line))) (λ r. in_range 2 (ranges_fit r.0 r.1) r)

abbrev pub mode_named : List ℕ → Option Mode
mode_named line = if bytes_eq line (codes "mode increment") then Some Increment else if bytes_eq line (codes "mode random") then Some Random
    else if bytes_eq line (codes "mode typehash") then Some TypeHash else if bytes_eq line (codes "mode typehashpointersplit") then Some Split else None

abbrev pub workers_of : List ℕ → Result ℕ TraceEnd
workers_of line = then_ (or_form 4 (workers_fields (words line))) (λ w. in_range 4 (leb 1 w && leb w 64) w)

abbrev pub trace_of : ℕ × ℕ → Mode → ℕ → List Event → Trace
trace_of ranges mode workers events = record { count = ranges.0; size = ranges.1; mode = mode; workers = workers; events = events }

-- the trace that the lines are
abbrev pub trace_in : List (List ℕ) → Result Trace TraceEnd
trace_in ls =
    then_ (line_at 1 ls) (λ a. then_ (is_first a.0) (λ _.
    then_ (line_at 2 a.1) (λ b. then_ (ranges_of b.0) (λ ranges.
    then_ (line_at 3 b.1) (λ c. then_ (or_form 3 (mode_named c.0)) (λ mode.
    then_ (line_at 4 c.1) (λ d. then_ (workers_of d.0) (λ workers.
    then_ (events_from ranges.0 workers 5 [] d.1) (λ events. Ok (trace_of ranges mode workers events))))))))))
