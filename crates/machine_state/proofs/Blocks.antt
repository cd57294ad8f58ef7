-- What a change of the blocks is, where their cells don't matter.
use Rattle.std.proofs.Common.{◌≡◌, ◌⊎◌, ⊎_elim, inl, inr, ℕ, zero, suc, ◌+◌, ◌<◌, ◌≤◌, Bool, true, false, List, [], ◌∷◌, ◌++◌, length, set, replicate, Option, Some, None, Result, Ok, Err, refl, sym, ap, subst, ◌∙◌, arith}
use Rattle.std.specs.Prelude.{slice_get, slice_set, if◌then◌else◌, not, ◌&&◌, nat_lt, ◌==◌, ◌%◌}
use Rattle.c_core.specs.declared.values.BlockKind.{BlockKind}
use Rattle.c_core.specs.declared.values.Pointer.{Pointer}
use Rattle.c_core.specs.declared.values.Value.{Value}
use Rattle.c_core.specs.declared.values.Scalar.{Scalar}
use Rattle.c_core.specs.declared.values.Cell.{Cell}
use Rattle.c_core.specs.declared.values.Cell.TheVariants.{Undefined, Byte}
use Rattle.c_core.specs.declared.values.Fault.{Fault}
use Rattle.c_core.specs.Values.{scalar_size, cells_of}
use Rattle.c_core.specs.Blocks.{Block, Blocks, Site, placed, killed, killed_in, dead, written, replaced, reached, if_reached, store, copy, fill, moved, overlap, cells_at, initialised, initialised_in}
use Rattle.c_meaning.specs.World.{is_heap, heaps_before}
use Rattle.c_meaning.proofs.Sorted.{OkIs}
use Rattle.meaning_laws.proofs.Quiet.{IsThere, reached_there, at_reached}
use Rattle.machine_state.specs.Stands.{Stand, stand_of, stands_of, ended, ended_at, heaps_at}
use Rattle.machine_state.proofs.Lists.{some_is, none_is}

pub stands_long : (bs : Blocks) (starts : List ℕ) → length starts ≡ length bs → length (stands_of bs starts) ≡ length bs
stands_long [] starts e = refl
stands_long (b ∷ bs) [] e = absurd (omega (arith, e))
stands_long (b ∷ bs) (s ∷ starts) e = ap suc (stands_long bs starts (omega (arith, e)))

-- a block and where it starts
pub stands_at : (bs : Blocks) (starts : List ℕ) (n : ℕ) (b : Block) (s : ℕ) → slice_get bs n ≡ Some b → slice_get starts n ≡ Some s → slice_get (stands_of bs starts) n ≡ Some (stand_of b s)
stands_at [] starts n b s e f = none_is b e
stands_at (c ∷ bs) [] n b s e f = none_is s f
stands_at (c ∷ bs) (t ∷ starts) zero b s e f = ap (λ x. Some (stand_of x t)) (some_is c b e) ∙ ap (λ x. Some (stand_of b x)) (some_is t s f)
stands_at (c ∷ bs) (t ∷ starts) (suc n) b s e f = stands_at bs starts n b s e f

pub stands_more : (bs : Blocks) (starts : List ℕ) (b : Block) (s : ℕ) → length starts ≡ length bs → stands_of (bs ++ b ∷ []) (starts ++ s ∷ []) ≡ stands_of bs starts ++ stand_of b s ∷ []
stands_more [] [] b s e = refl
stands_more [] (t ∷ starts) b s e = absurd (omega (arith, e))
stands_more (c ∷ bs) [] b s e = absurd (omega (arith, e))
stands_more (c ∷ bs) (t ∷ starts) b s e = ap (λ l. stand_of c t ∷ l) (stands_more bs starts b s (omega (arith, e)))

pub stands_placed : (bs : Blocks) (starts : List ℕ) (kind : BlockKind) (size at : ℕ) → length starts ≡ length bs
    → stands_of (placed bs kind size) (starts ++ at ∷ []) ≡ stands_of bs starts ++ record { kind = kind; size = size; live = true; at = at } ∷ []
stands_placed bs starts kind size at e = stands_more bs starts (record { kind = kind; size = size; live = true; cells = replicate size Undefined }) at e

-- a block in the place of one that is like it but for its cells
pub stands_set : (bs : Blocks) (starts : List ℕ) (n : ℕ) (b c : Block) → slice_get bs n ≡ Some b → c.kind ≡ b.kind → c.size ≡ b.size → c.live ≡ b.live → stands_of (slice_set bs n c) starts ≡ stands_of bs starts
stands_set [] starts n b c e k z l = refl
stands_set (x ∷ bs) [] zero b c e k z l = refl
stands_set (x ∷ bs) [] (suc n) b c e k z l = refl
stands_set (x ∷ bs) (s ∷ starts) zero b c e k z l =
    let f : x ≡ b = some_is x b e in
    let same : stand_of c s ≡ stand_of b s =
    ap (λ (y : BlockKind). let t : Stand = record { kind = y; size = c.size; live = c.live; at = s } in t) k
    ∙ ap (λ (y : ℕ). let t : Stand = record { kind = b.kind; size = y; live = c.live; at = s } in t) z
    ∙ ap (λ (y : Bool). let t : Stand = record { kind = b.kind; size = b.size; live = y; at = s } in t) l in
    ap (λ y. y ∷ stands_of bs starts) (same ∙ ap (λ y. stand_of y s) (sym f))
stands_set (x ∷ bs) (s ∷ starts) (suc n) b c e k z l = ap (λ y. stand_of x s ∷ y) (stands_set bs starts n b c e k z l)

-- what keeps the blocks but for cells
abbrev pub Alike : Blocks → Blocks → Type 0
Alike old new = (length new ≡ length old) × ((starts : List ℕ) → stands_of new starts ≡ stands_of old starts)

length_set : (bs : Blocks) (n : ℕ) (c : Block) → length (slice_set bs n c) ≡ length bs
length_set [] n c = refl
length_set (b ∷ bs) zero c = refl
length_set (b ∷ bs) (suc n) c = ap suc (length_set bs n c)

pub alike_written : (bs : Blocks) (site : Site) (cells : List Cell) → IsThere bs site → Alike bs (written bs site cells)
alike_written bs site cells e = (
  length_set bs site.number _,
  λ starts. stands_set bs starts site.number site.block (record (site.block) { cells = replaced site.block.cells site.offset cells }) e refl refl refl,
)

pub alike_store : (bs : Blocks) (p : Pointer) (kind : Scalar) (v : Value) → OkIs (Alike bs) (store bs p kind v)
alike_store bs p kind v = at_reached (Alike bs) bs (reached bs p (scalar_size kind) (scalar_size kind) true) (λ site. Ok (written bs site (cells_of v))) (reached_there bs p (scalar_size kind) (scalar_size kind) true) (λ site e. alike_written bs site (cells_of v) e)

pub alike_fill : (bs : Blocks) (p : Pointer) (byte count : ℕ) → OkIs (Alike bs) (fill bs p byte count)
alike_fill bs p byte count = at_reached (Alike bs) bs (reached bs p count 1 true) (λ site. Ok (written bs site (replicate count (Byte byte)))) (reached_there bs p count 1 true) (λ site e. alike_written bs site (replicate count (Byte byte)) e)

alike_if : (bs : Blocks) (b : Bool) (e : Fault) (r : Blocks) → Alike bs r → OkIs (Alike bs) (let x : Result Blocks Fault = if b then Err e else Ok r in x)
alike_if bs true e r h = tt
alike_if bs false e r h = h

pub alike_copy : (bs : Blocks) (to from : Pointer) (count : ℕ) (may_overlap : Bool) → OkIs (Alike bs) (copy bs to from count may_overlap)
alike_copy bs to from count may_overlap =
    at_reached (Alike bs) bs (reached bs to count 1 true) (λ t. if_reached (reached bs from count 1 false) (λ f. moved bs t f count may_overlap)) (reached_there bs to count 1 true)
    (λ t e. at_reached (Alike bs) bs (reached bs from count 1 false) (λ f. moved bs t f count may_overlap) (reached_there bs from count 1 false)
    (λ f g. alike_if bs (not may_overlap && overlap t f count) Fault.Overlap (written bs t (cells_at f count)) (alike_written bs t (cells_at f count) e)))

-- from what a call of the memory ensures
pub alike_ok : (bs cs : Blocks) (r : Result Blocks Fault) → OkIs (Alike bs) r → r ≡ Ok cs → Alike bs cs
alike_ok bs cs r h e = subst (λ (x : Result Blocks Fault). OkIs (Alike bs) x) e h

pub alike_initialised : (bs : Blocks) (n offset : ℕ) (c : Cell) → Alike bs (initialised bs n offset c)
alike_initialised bs n offset c = go (slice_get bs n) refl
  where
    go : (o : Option Block) → slice_get bs n ≡ o → Alike bs (initialised_in bs n offset c o)
    go None e = (refl, λ starts. refl)
    go (Some b) e = (length_set bs n _, λ starts. stands_set bs starts n b (record b { cells = slice_set b.cells offset c }) e refl refl refl)

-- ---- a block ends

stands_dead : (bs : Blocks) (starts : List ℕ) (n : ℕ) (b : Block) → slice_get bs n ≡ Some b → stands_of (slice_set bs n (dead b)) starts ≡ ended_at n (stands_of bs starts)
stands_dead [] starts n b e = refl
stands_dead (x ∷ bs) [] zero b e = refl
stands_dead (x ∷ bs) [] (suc n) b e = refl
stands_dead (x ∷ bs) (s ∷ starts) zero b e = ap (λ y. ended (stand_of y s) ∷ stands_of bs starts) (sym (some_is x b e))
stands_dead (x ∷ bs) (s ∷ starts) (suc n) b e = ap (λ y. stand_of x s ∷ y) (stands_dead bs starts n b e)

ended_past : (bs : Blocks) (starts : List ℕ) (n : ℕ) → slice_get bs n ≡ None → ended_at n (stands_of bs starts) ≡ stands_of bs starts
ended_past [] starts n e = refl
ended_past (x ∷ bs) [] n e = refl
ended_past (x ∷ bs) (s ∷ starts) zero e = absurd (let f : Some x ≡ None = e in cc)
ended_past (x ∷ bs) (s ∷ starts) (suc n) e = ap (λ y. stand_of x s ∷ y) (ended_past bs starts n e)

pub stands_killed : (bs : Blocks) (starts : List ℕ) (n : ℕ) → stands_of (killed bs n) starts ≡ ended_at n (stands_of bs starts)
stands_killed bs starts n = go (slice_get bs n) refl
  where
    go : (o : Option Block) → slice_get bs n ≡ o → stands_of (killed_in bs n o) starts ≡ ended_at n (stands_of bs starts)
    go None e = sym (ended_past bs starts n e)
    go (Some b) e = stands_dead bs starts n b e

pub length_killed : (bs : Blocks) (n : ℕ) → length (killed bs n) ≡ length bs
length_killed bs n = go (slice_get bs n)
  where
    go : (o : Option Block) → length (killed_in bs n o) ≡ length bs
    go None = refl
    go (Some b) = length_set bs n (dead b)

-- ---- allocated blocks before a number

pub heaps_same : (n : ℕ) (bs : Blocks) (starts : List ℕ) → length starts ≡ length bs → heaps_before n bs ≡ heaps_at n (stands_of bs starts)
heaps_same zero bs starts e = refl
heaps_same (suc n) [] starts e = refl
heaps_same (suc n) (b ∷ bs) [] e = absurd (omega (arith, e))
heaps_same (suc n) (b ∷ bs) (s ∷ starts) e = ap (λ h. (if is_heap b.kind then 1 else 0) + h) (heaps_same n bs starts (omega (arith, e)))
