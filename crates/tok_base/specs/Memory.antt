-- A source, a sink and files in memory.
use Rattle.std.specs.Prelude.{◌≡◌, ℕ, zero, suc, ltb, ◌+◌, ◌-◌, ◌^◌, ◌++◌, ◌||◌, min, Bool, List, [], ◌∷◌, Option, Some, None, eqb, bytes_eq, find, option_map, Result, Ok, Err, length, take, drop, if◌then◌else◌}
use Rattle.std.specs.List.{list_any}
use Rattle.tok_base.specs.Files.{Tally}
use Rattle.tok_base.specs.declared.files.ReadEnd.{ReadEnd}
use Rattle.tok_base.specs.declared.files.ReadEnd.TheVariants.{Fault, TooLong, NoMemory}

-- a count that stays at its greatest number
abbrev pub counted : ℕ → ℕ
counted n = min (n + 1) (2 ^ 64 - 1)

-- the call of this number is to fail
abbrev pub is_to_fail : List ℕ → ℕ → Bool
is_to_fail fails call = list_any (λ n. eqb n call) fails

-- the bytes of the first file of this name
abbrev pub bytes_of : List (List ℕ × List ℕ) → List ℕ → Option (List ℕ)
bytes_of files name = option_map (λ f. f.1) (find (λ f. bytes_eq f.0 name) files)

-- a source: the bytes left, the most that a call gives, the calls that are to fail, the calls and the faults so far
pub record SourceState : Type 0 where
  pub rest : List ℕ
  pub most : ℕ
  pub fails : List ℕ
  pub calls : ℕ
  pub faults : ℕ

-- a sink: what was written, how many bytes still fit, the most that a call takes, the calls that are to fail, the
-- calls and the faults so far
pub record SinkState : Type 0 where
  pub written : List ℕ
  pub room : ℕ
  pub most : ℕ
  pub fails : List ℕ
  pub calls : ℕ
  pub faults : ℕ

-- files by name, the calls that are to fail, the calls and the faults so far, the name that failed last
pub record FilesState : Type 0 where
  pub files : List (List ℕ × List ℕ)
  pub fails : List ℕ
  pub calls : ℕ
  pub faults : ℕ
  pub failed : Option (List ℕ)

-- how many bytes a read gives into a buffer of this length; none at a call that is to fail. A read of nothing is no call
abbrev pub given : SourceState → ℕ → Option ℕ
given s zero = Some 0
given s (suc n) = if is_to_fail s.fails s.calls then None else Some (min (min (suc n) (length s.rest)) s.most)

-- the source after a call that gives so many bytes
abbrev pub after_give : SourceState → Option ℕ → SourceState
after_give s None = record s { calls = counted s.calls; faults = counted s.faults }
after_give s (Some n) = record s { rest = drop n s.rest; calls = counted s.calls }

-- the source after a read into a buffer of this length
abbrev pub after_source_read : SourceState → ℕ → SourceState
after_source_read s zero = s
after_source_read s (suc n) = after_give s (given s (suc n))

-- the buffer after it
abbrev pub filled : SourceState → List ℕ → Option ℕ → List ℕ
filled s buf None = buf
filled s buf (Some n) = take n s.rest ++ drop n buf

-- how many bytes a write takes; none at a call that is to fail, or finds no room. A write of nothing is no call
abbrev pub taken : SinkState → List ℕ → Option ℕ
taken s [] = Some 0
taken s (b ∷ bs) = if eqb s.room 0 || is_to_fail s.fails s.calls then None else Some (min (min (length (b ∷ bs)) s.room) s.most)

-- the sink after a call that takes so many of the bytes
abbrev pub after_call : SinkState → List ℕ → Option ℕ → SinkState
after_call s bytes None = record s { calls = counted s.calls; faults = counted s.faults }
after_call s bytes (Some n) = record s { written = s.written ++ take n bytes; room = s.room - n; calls = counted s.calls }

-- the sink after a write
abbrev pub after_write : SinkState → List ℕ → SinkState
after_write s [] = s
after_write s (b ∷ bs) = after_call s (b ∷ bs) (taken s (b ∷ bs))

-- what a read of the name finds: nothing at a call that is to fail, or of a name that isn't there
abbrev pub found : FilesState → List ℕ → Option (List ℕ)
found s name = if is_to_fail s.fails s.calls then None else bytes_of s.files name

-- what a read of the name answers, but for want of memory
abbrev pub answer_of : Option (List ℕ) → ℕ → Result (List ℕ) ReadEnd
answer_of None limit = Err Fault
answer_of (Some bytes) limit = if ltb limit (length bytes) then Err TooLong else Ok bytes

-- it is this answer, or there was no memory
abbrev pub Answers : Result (List ℕ) ReadEnd → Result (List ℕ) ReadEnd → Type 0
Answers wanted (Err NoMemory) = Unit {0}
Answers wanted (Err Fault) = wanted ≡ Err Fault
Answers wanted (Err TooLong) = wanted ≡ Err TooLong
Answers wanted (Ok bytes) = wanted ≡ Ok bytes

-- the files after a read of the name with this answer: each call is counted, also one that finds no memory
abbrev pub after_file_read : FilesState → List ℕ → Result (List ℕ) ReadEnd → FilesState
after_file_read s name (Err Fault) = record s { calls = counted s.calls; faults = counted s.faults; failed = Some name }
after_file_read s name (Err TooLong) = record s { calls = counted s.calls }
after_file_read s name (Err NoMemory) = record s { calls = counted s.calls }
after_file_read s name (Ok bytes) = record s { calls = counted s.calls }

abbrev pub tally_of : FilesState → Tally
tally_of s = record { faults = s.faults; failed = s.failed }
