-- Worked examples of traces.
use Rattle.std.specs.Prelude.{◌≡◌, ℕ, codes, List, [], ◌∷◌, ◌++◌, Result, Ok, Err}
use Rattle.tok_base.specs.declared.status.TraceRule.{TraceRule}
use Rattle.tok_base.specs.declared.status.TraceRule.TheVariants.{Many, Form, Range, Name, Freed}
use Rattle.token_modes.specs.declared.mode.Mode.{Mode}
use Rattle.token_modes.specs.declared.mode.Mode.TheVariants.{TypeHash, Split}
use Rattle.trace_format.specs.Lines.{lines}
use Rattle.trace_format.specs.Reading.{event_at, trace_in}
use Rattle.trace_format.specs.declared.trace.Event.{Event}
use Rattle.trace_format.specs.declared.trace.Event.TheVariants.{Alloc, Free}
use Rattle.trace_format.specs.declared.trace.Trace.{Trace}
use Rattle.trace_format.specs.declared.trace.TraceEnd.TheVariants.{Line}

-- a text of these lines, each with its line end
abbrev pub text_of : List (List ℕ) → List ℕ
text_of [] = []
text_of (l ∷ ls) = l ++ 10 ∷ text_of ls

-- two workers and two ranges, and these lines behind the header
abbrev pub two_ranges : List (List ℕ) → List (List ℕ)
two_ranges ls = codes "alloctoken-trace 1" ∷ codes "ranges 2 64" ∷ codes "mode typehashpointersplit" ∷ codes "workers 2" ∷ ls

-- one allocation of each worker, and these lines behind them
abbrev pub two_allocations : List (List ℕ) → List (List ℕ)
two_allocations ls = two_ranges (codes "a 0 0 0 16" ∷ codes "a 1 1 1 8" ∷ ls)

abbrev pub first_trace : Trace
first_trace = record { count = 2; size = 64; mode = Split; workers = 2; events = Alloc 0 0 0 16 ∷ Alloc 1 1 1 8 ∷ Free 1 0 ∷ [] }

abbrev pub Reads : List (List ℕ) → Trace → Type 0
Reads ls t = trace_in (lines (text_of ls)) ≡ Ok t

abbrev pub Breaks : List (List ℕ) → ℕ → TraceRule → Type 0
Breaks ls i rule = trace_in (lines (text_of ls)) ≡ Err (Line i rule)

-- one range of one unit, in which an allocation is refused
abbrev pub one_unit : List (List ℕ)
one_unit = codes "alloctoken-trace 1" ∷ codes "ranges 1 16" ∷ codes "mode typehash" ∷ codes "workers 1" ∷ codes "a 0 0 0 16" ∷ codes "a 0 1 0 1" ∷ codes "f 0 0" ∷ codes "a 0 2 0 1" ∷ []

abbrev pub second_trace : Trace
second_trace = record { count = 1; size = 16; mode = TypeHash; workers = 1; events = Alloc 0 0 0 16 ∷ Alloc 0 1 0 1 ∷ Free 0 0 ∷ Alloc 0 2 0 1 ∷ [] }

pub record Examples : Type 0 where
  pub first : Reads (two_allocations (codes "f 1 0" ∷ [])) first_trace
  pub no_last_end : trace_in (lines (codes "alloctoken-trace 1" ++ 10 ∷ codes "ranges 2 64" ++ 10 ∷ codes "mode typehash" ++ 10 ∷ codes "workers 2")) ≡ Ok (record { count = 2; size = 64; mode = TypeHash; workers = 2; events = [] })
  pub second : Reads one_unit second_trace
  pub no_name : Breaks (two_allocations (codes "f 1" ∷ [])) 7 Form
  pub freed_twice : Breaks (two_allocations (codes "f 1 0" ∷ codes "f 0 0" ∷ [])) 8 Freed
  pub never_allocated : Breaks (two_allocations (codes "f 1 2" ∷ [])) 7 Freed
  pub too_many : event_at 2 2 1000005 [] (codes "a 0 0 0 16") ≡ Err (Line 1000005 Many)
  pub many_before_form : event_at 2 2 1000005 [] [] ≡ Err (Line 1000005 Many)
  pub as_many_as_may_be : event_at 2 2 1000004 [] (codes "a 0 0 0 16") ≡ Ok (Alloc 0 0 0 16)
  pub name_skipped : Breaks (two_ranges (codes "a 0 1 0 16" ∷ [])) 5 Name
  pub name_again : Breaks (two_allocations (codes "a 0 1 0 16" ∷ [])) 7 Name
  pub no_such_worker : Breaks (two_ranges (codes "a 2 0 0 16" ∷ [])) 5 Range
  pub no_such_token : Breaks (two_ranges (codes "a 0 1 2 16" ∷ [])) 5 Range
  pub leading_zero : Breaks (two_ranges (codes "a 0 00 0 16" ∷ [])) 5 Form
  pub largest_size : Reads (two_ranges (codes "a 0 0 0 18446744073709551615" ∷ [])) (record { count = 2; size = 64; mode = Split; workers = 2; events = Alloc 0 0 0 18446744073709551615 ∷ [] })
  pub too_large_a_number : Breaks (two_ranges (codes "a 0 0 0 18446744073709551616" ∷ [])) 5 Form
  pub empty_line : Breaks (two_allocations ([] ∷ [])) 7 Form
  pub empty : Breaks [] 1 Form
  pub header_cut : Breaks (codes "alloctoken-trace 1" ∷ codes "ranges 2 64" ∷ codes "mode random" ∷ []) 4 Form
  pub no_range : Breaks (codes "alloctoken-trace 1" ∷ codes "ranges 0 64" ∷ []) 2 Range
  pub not_whole_units : Breaks (codes "alloctoken-trace 1" ∷ codes "ranges 1 24" ∷ []) 2 Range
  pub ranges_too_large : Breaks (codes "alloctoken-trace 1" ∷ codes "ranges 33 1048576" ∷ []) 2 Range
