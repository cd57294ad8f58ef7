-- What small programs mean, all by computation.
use Rattle.std.specs.Prelude.{◌≡◌, ℕ, Bool, true, false, List, [], ◌∷◌, pos, Option, Some, None, codes}
use Rattle.tok_base.specs.declared.reason.Reason.TheVariants as reason
use Rattle.c_core.specs.declared.values.End.{End}
use Rattle.c_core.specs.declared.values.End.TheVariants.{Exit, Trap, Spent}
use Rattle.c_core.specs.declared.tree.LibMark.TheVariants as mark
use Rattle.c_core.specs.Tree.{Program}
use Rattle.c_meaning.specs.Run.{Request, Alloc, Free, Site, Token, Result}
use Rattle.c_core.specs.Library.{callee_of}
use Rattle.num_ops.specs.declared.kinds.IntKind.TheVariants as k
use Rattle.c_core.specs.declared.values.Pointer.TheVariants.{Null, Object, Function}
use Rattle.c_core.specs.declared.values.Value.TheVariants as value
use Rattle.c_meaning.specs.Rules.{int, number_in, pointer_in, is_null}
use Rattle.c_meaning.specs.Meaning.{Tokens, meaning}
use Rattle.c_meaning.specs.Programs.{span, read_of_new_block, read_of_dead_block, third_is_refused, refused_realloc, three_turns, overflow, echo, calls_sum, sum_type, other_type, calls_itself, torn, overlapping, writes_text}

abbrev tokens : Tokens
tokens = record { site = λ k. k; mark = λ k. k; fallback = 0 }

abbrev pub runs : Program → List ℕ → List Bool → ℕ → Option Result
runs c input answers ticks = meaning c tokens input answers ticks

abbrev pub gives : List ℕ → End → List Request → Option Result
gives output end requests = Some (record { output = output; end = end; requests = requests })

abbrev pub ends : End → Option Result
ends end = gives [] end []

-- operands of both sorts, and what the rules take a pointer for where an integer stands, or the other way round
abbrev pub OperandRows : Type 0
OperandRows =
    (number_in (int k.Long (pos 7)) ≡ record { kind = k.Long; value = pos 7 })
    × (number_in (value.Ptr (Object 3 16)) ≡ record { kind = k.Int; value = pos 0 })
    × (pointer_in (value.Ptr (Object 3 16)) ≡ Object 3 16)
    × (pointer_in (int k.Long (pos 7)) ≡ Null)
    × (is_null Null ≡ true)
    × (is_null (Object 3 16) ≡ false)
    × (is_null (Function 0) ≡ false)

-- a new block's cells are undefined, whatever stood in the block before it; a freed block stays dead, though a new
-- one may have its place; a refused `realloc` keeps the old block
abbrev pub AllocationExamples : Type 0
AllocationExamples =
    (runs read_of_new_block [] (true ∷ true ∷ []) 1000 ≡ gives [] (Trap reason.Indeterminate (span 127)) (Alloc (Site 0) 16 16 ∷ Free 0 ∷ Alloc (Site 1) 16 16 ∷ []))
    × (runs read_of_dead_block [] (true ∷ true ∷ []) 1000 ≡ gives [] (Trap reason.Dead (span 144)) (Alloc (Site 0) 16 16 ∷ Free 0 ∷ Alloc (Site 1) 16 16 ∷ []))
    × (runs third_is_refused [] (true ∷ true ∷ false ∷ []) 1000 ≡ gives [] (Exit (pos 1)) (Alloc (Site 0) 0 16 ∷ Alloc (Site 1) 16 16 ∷ Alloc (Site 2) 1 16 ∷ []))
    × (runs third_is_refused [] (true ∷ true ∷ []) 1000 ≡ None)
    × (runs third_is_refused [] (true ∷ true ∷ true ∷ true ∷ []) 1000 ≡ None)
    × (runs refused_realloc [] (true ∷ true ∷ false ∷ true ∷ []) 1000 ≡ gives [] (Exit (pos 7)) (Alloc (Token 0) 16 16 ∷ Alloc (Token 1) 32 16 ∷ Alloc (Token 1) 16 16 ∷ Free 1 ∷ Alloc (Token 1) 16 16 ∷ Free 0 ∷ []))

-- how many ticks a run takes, and what it has put out when they are spent
abbrev pub EndExamples : Type 0
EndExamples =
    (runs three_turns [] (true ∷ true ∷ true ∷ []) 16 ≡ gives [] (Exit (pos 3)) (Alloc (Site 0) 1 16 ∷ Alloc (Site 0) 1 16 ∷ Alloc (Site 0) 1 16 ∷ []))
    × (runs three_turns [] (true ∷ true ∷ true ∷ []) 15 ≡ gives [] Spent (Alloc (Site 0) 1 16 ∷ Alloc (Site 0) 1 16 ∷ Alloc (Site 0) 1 16 ∷ []))
    × (runs echo (97 ∷ 98 ∷ []) [] 14 ≡ gives (97 ∷ 98 ∷ []) (Exit (pos 0)) [])
    × (runs echo (97 ∷ 98 ∷ []) [] 13 ≡ gives (97 ∷ 98 ∷ []) Spent [])
    × (runs calls_itself [] [] 20 ≡ ends Spent)

abbrev pub TrapExamples : Type 0
TrapExamples =
    (runs overflow [] [] 1000 ≡ ends (Trap reason.Overflow (span 44)))
    × (runs torn [] [] 1000 ≡ ends (Trap reason.TornPointer (span 99)))
    × (runs overlapping [] [] 1000 ≡ ends (Trap reason.Overlap (span 70)))
    × (runs writes_text [] [] 1000 ≡ ends (Trap reason.ReadOnly (span 87)))

abbrev pub CallExamples : Type 0
CallExamples =
    (runs (calls_sum sum_type) [] [] 1000 ≡ ends (Exit (pos 7)))
    × (runs (calls_sum sum_type) [] [] 6 ≡ ends (Exit (pos 7)))
    × (runs (calls_sum sum_type) [] [] 5 ≡ ends Spent)
    × (runs (calls_sum other_type) [] [] 1000 ≡ ends (Trap reason.BadCall (span 60)))
    × (callee_of (codes "free") ≡ Some (3, mark.Untagged))
    × (callee_of (codes "__alloc_token_malloc") ≡ Some (0, mark.Given))
    × (callee_of (codes "__alloc_token_17_realloc") ≡ Some (2, mark.Fixed 17))
    × (callee_of (codes "__alloc_token_07_malloc") ≡ None)
    × (callee_of (codes "__alloc_token_65536_malloc") ≡ None)
    × (callee_of (codes "__alloc_token_free") ≡ None)
