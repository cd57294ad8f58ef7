-- What more small programs mean, by computation, and two whole runs with their logs.
use Rattle.std.specs.Prelude.{◌≡◌, true, false, [], ◌∷◌, pos, negsuc}
use Rattle.tok_base.specs.declared.reason.Reason.TheVariants as reason
use Rattle.c_core.specs.declared.values.End.TheVariants.{Exit, Trap, StackFull}
use Rattle.c_core.specs.Tree.{At, Func}
use Rattle.c_core.specs.WellFormed.{well_formed}
use Rattle.c_meaning.specs.declared.log.LogEntry.TheVariants.{Grant, Refuse}
use Rattle.c_meaning.specs.Run.{Alloc, Free, Site}
use Rattle.c_meaning.specs.Meaning.{Tokens}
use Rattle.c_meaning.specs.Log.{RunOf}
use Rattle.c_meaning.specs.Examples.{runs, gives, ends}
use Rattle.c_meaning.specs.Programs.{span, null, third_is_refused}
use Rattle.c_meaning.specs.MorePrograms.{zeroed_block, too_large, no_such_range, grown_block, compares, of_texts, length_from, copied, calls_f, frees_local, large_local, moves_pointer}

-- `calloc` gives zero bytes, and its size is the exact product; a granted `realloc` asks, copies and then frees
abbrev pub RequestExamples : Type 0
RequestExamples =
    (runs zeroed_block [] (true ∷ []) 1000 ≡ gives [] (Exit (pos 0)) (Alloc (Site 0) 6 16 ∷ []))
    × (runs too_large [] (false ∷ []) 1000 ≡ gives [] (Exit (pos 1)) (Alloc (Site 0) 36893488147419103232 16 ∷ []))
    × (runs grown_block [] (true ∷ true ∷ []) 1000 ≡ gives [] (Exit (pos 7)) (Alloc (Site 0) 4 16 ∷ Alloc (Site 1) 8 16 ∷ Free 0 ∷ []))

abbrev pub TextExamples : Type 0
TextExamples =
    (runs (compares 0 2) [] [] 1000 ≡ ends (Exit (pos 0)))
    × (runs (compares 1 2) [] [] 1000 ≡ ends (Exit (negsuc 0)))
    × (runs (compares 1 0) [] [] 1000 ≡ ends (Exit (pos 0)))
    × (runs (compares 0 3) [] [] 1000 ≡ ends (Trap reason.Bounds (span 70)))
    × (runs (of_texts (length_from 0)) [] [] 1000 ≡ ends (Exit (pos 1)))
    × (runs (of_texts (length_from 1)) [] [] 1000 ≡ ends (Exit (pos 0)))
    × (runs (of_texts (length_from 2)) [] [] 1000 ≡ ends (Trap reason.Bounds (span 70)))
    × (runs copied [] [] 1000 ≡ ends (Exit (pos 5)))
    × (runs (moves_pointer 1) [] [] 1000 ≡ ends (Exit (pos 0)))
    × (runs (moves_pointer 2) [] [] 1000 ≡ ends (Trap reason.Bounds (span 50)))
    × (runs (moves_pointer 3) [] [] 1000 ≡ ends (Trap reason.PointerRange (span 40)))

abbrev pub MoreTraps : Type 0
MoreTraps =
    (runs (calls_f (At (span 55) (Func 1))) [] [] 1000 ≡ ends (Trap reason.NoReturn (span 60)))
    × (runs (calls_f (At (span 55) (Func 2))) [] [] 1000 ≡ ends (Trap reason.NoBody (span 55)))
    × (runs (calls_f null) [] [] 1000 ≡ ends (Trap reason.NoFunction (span 60)))
    × (runs frees_local [] [] 1000 ≡ ends (Trap reason.BadFree (span 70)))
    × (runs large_local [] [] 1000 ≡ ends StackFull)

abbrev pub MoreAreFormed : Type 0
MoreAreFormed =
    (well_formed zeroed_block ≡ true)
    × (well_formed too_large ≡ true)
    × (well_formed no_such_range ≡ true)
    × (well_formed grown_block ≡ true)
    × (well_formed (compares 1 2) ≡ true)
    × (well_formed (of_texts (length_from 0)) ≡ true)
    × (well_formed copied ≡ true)
    × (well_formed (calls_f (At (span 55) (Func 2))) ≡ true)
    × (well_formed (calls_f null) ≡ true)
    × (well_formed frees_local ≡ true)
    × (well_formed large_local ≡ true)
    × (well_formed (moves_pointer 1) ≡ true)

abbrev all_zero : Tokens
all_zero = record { site = λ k. 0; mark = λ k. 0; fallback = 0 }

-- one range of 32 bytes: two blocks of 16 fill it, and the third request is refused; a token that has no range gets nothing
pub record RunExamples : Type 0 where
  pub filled : RunOf third_is_refused all_zero [] 1000 1 32 [] (Exit (pos 1)) (Grant 0 0 16777216 ∷ Grant 0 16 16777232 ∷ Refuse 0 1 ∷ [])
  pub without_range : RunOf no_such_range all_zero [] 1000 1 32 [] (Exit (pos 1)) (Refuse 5 16 ∷ [])
