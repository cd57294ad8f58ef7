-- Fixed objects get their places, and then their cells.
use Rattle.std.proofs.Common.{◌≡◌, ℕ, zero, suc, ◌+◌, ◌-◌, ◌<◌, ◌≤◌, Bool, true, false, List, [], ◌∷◌, ◌++◌, length, take, drop, get_or, set, replicate, Option, Some, None, refl, sym, ap, ◌∙◌, arith}
use Rattle.std.specs.Prelude.{slice_get, slice_index, nat_le, if◌then◌else◌}
use Rattle.std.proofs.lemmas.List.{map-append, length-map, length-replicate, length-take-le, take_more, drop_more, take_all, drop_all, set-set, set_at, replicate_more}
use Rattle.std.proofs.lemmas.Option.{slice_get_within}
use Rattle.c_core.specs.declared.values.BlockKind.TheVariants as kind
use Rattle.c_core.specs.declared.values.Cell.{Cell}
use Rattle.c_core.specs.declared.values.Cell.TheVariants.{Undefined, Byte}
use Rattle.c_core.specs.declared.values.End.{End}
use Rattle.c_core.specs.declared.values.End.TheVariants.{StackFull}
use Rattle.c_core.specs.declared.tree.FixedObject.{FixedObject}
use Rattle.c_core.specs.Blocks.{Block, Blocks, initialised, initialised_in, is_live}
use Rattle.range_heap.specs.Blocks.{rounded}
use Rattle.range_heap.proofs.Clear.{rounded_not_below}
use Rattle.block_memory.specs.Shape.{sizes_of, Tells}
use Rattle.block_memory.specs.declared.memory.BlockInfo.{BlockInfo}
use Rattle.c_meaning.specs.World.{State, Acted, Gives, Stops, take_room, is_heap}
use Rattle.c_meaning.specs.Storage.{fixed_kind, fixed_block, set_cells, with_fixed}
use Rattle.machine_frames.specs.Views.{state_of}
use Rattle.machine_frames.specs.declared.state.Rest.{Rest}
use Rattle.machine_steps.specs.Steps.{Made, Makes, Ends, made_by, made_fixed, then_made}
use Rattle.machine_state.specs.State.{state_in}
use Rattle.machine_state.specs.declared.ledger.Ledger.{Ledger}
use Rattle.machine_state.proofs.Lists.{some_is, none_is}
use Rattle.machine_objects.specs.Made.{made_of}
use Rattle.machine_objects.specs.Fixed.{placed_kind, placed_size, placed_room, unfilled, with_cells, with_cells_in, cells_in, cells_of, grown, all_filled, all_unfilled, ArePlaced, AreMade}

-- ---- places

fixed_other : (d r : Bool) → is_heap (if d then (if r then kind.ReadOnly else kind.Fixed) else kind.Fixed) ≡ false
fixed_other true true = refl
fixed_other true false = refl
fixed_other false r = refl

pub placed_other : (o : FixedObject) → is_heap (placed_kind o) ≡ false
placed_other o = fixed_other o.defined o.read_only

fixed_small : (d : Bool) (n : ℕ) → (if d then rounded n else 0) ≤ 4194304 → (if d then n else 0) ≤ 16777216
fixed_small true n h = let r = rounded_not_below n in omega (arith, h, r)
fixed_small false n h = omega arith

pub placed_small : (o : FixedObject) (room : ℕ) → placed_room o ≤ room → room ≤ 4194304 → placed_size o ≤ 16777216
placed_small o room h k = fixed_small o.defined o.size (omega (arith, h, k))

-- the room behind what was taken, or not
abbrev pub taken : Rest → ℕ → Rest
taken r n = if nat_le n r.room then record r { room = r.room - n } else r

abbrev taking : (n : ℕ) → Bool → State → (State → Made) → Made
taking n b s go = then_made (made_by (let a : Acted (Unit {0}) = if b then Gives tt (record (s.world) { room = s.world.room - n }) else Stops StackFull in a) s) go

pub object_placed : (bs : Blocks) (r now : Rest) (o : FixedObject) → nat_le (placed_room o) r.room ≡ true → now ≡ taken r (placed_room o)
    → made_of None (state_of (bs ++ fixed_block o ∷ []) now) ≡ made_fixed (o ∷ []) (state_of bs r)
object_placed bs r now o f is =
    let took : Rest = record r { room = r.room - placed_room o } in
    let here : now ≡ took = is ∙ ap (λ b. let n : Rest = if b then took else r in n) f in
    ap (λ (n : Rest). Makes (state_of (bs ++ fixed_block o ∷ []) n)) here
    ∙ sym (ap (λ b. taking (placed_room o) b (state_of bs r) (λ s. Makes (record s { world = with_fixed o s.world }))) f)

pub object_full : (bs : Blocks) (r now : Rest) (o : FixedObject) → nat_le (placed_room o) r.room ≡ false → now ≡ taken r (placed_room o)
    → made_of (Some StackFull) (state_of bs now) ≡ made_fixed (o ∷ []) (state_of bs r)
object_full bs r now o f is =
    let took : Rest = record r { room = r.room - placed_room o } in
    let here : now ≡ r = is ∙ ap (λ b. let n : Rest = if b then took else r in n) f in
    ap (λ (n : Rest). Ends StackFull (state_of bs n)) here
    ∙ sym (ap (λ b. taking (placed_room o) b (state_of bs r) (λ s. Makes (record s { world = with_fixed o s.world }))) f)

-- ---- one after another

then_then : (m : Made) (f g : State → Made) → then_made (then_made m f) g ≡ then_made m (λ s. then_made (f s) g)
then_then (Makes s) f g = refl
then_then (Ends e s) f g = refl

one_more : (o : FixedObject) (fixed : List FixedObject) (s : State) → made_fixed (o ∷ fixed) s ≡ then_made (made_fixed (o ∷ []) s) (made_fixed fixed)
one_more o fixed s = sym (then_then (made_by (take_room (placed_room o) s.world) s) (λ s. Makes (record s { world = with_fixed o s.world })) (made_fixed fixed))

filled_more : (fixed : List FixedObject) (i : ℕ) (o : FixedObject) → i < length fixed → o ≡ get_or fixed i o → all_filled (take (i + 1) fixed) ≡ all_filled (take i fixed) ++ fixed_block o ∷ []
filled_more fixed i o h e =
    ap all_filled (take_more fixed i o h ∙ ap (λ (x : FixedObject). take i fixed ++ x ∷ []) (sym e)) ∙ map-append fixed_block (take i fixed) (o ∷ [])

pub unfilled_more : (fixed : List FixedObject) (i : ℕ) (o : FixedObject) → i < length fixed → o ≡ get_or fixed i o → all_unfilled (take (i + 1) fixed) ≡ all_unfilled (take i fixed) ++ unfilled o ∷ []
unfilled_more fixed i o h e =
    ap all_unfilled (take_more fixed i o h ∙ ap (λ (x : FixedObject). take i fixed ++ x ∷ []) (sym e)) ∙ map-append unfilled (take i fixed) (o ∷ [])

objects_left : (fixed : List FixedObject) (i : ℕ) (o : FixedObject) (s : State) → i < length fixed → o ≡ get_or fixed i o → made_fixed (drop i fixed) s ≡ then_made (made_fixed (o ∷ []) s) (made_fixed (drop (i + 1) fixed))
objects_left fixed i o s h e =
    ap (λ l. made_fixed l s) (drop_more fixed i o h ∙ ap (λ (x : FixedObject). x ∷ drop (i + 1) fixed) (sym e)) ∙ one_more o (drop (i + 1) fixed) s

pub objects_step : (fixed : List FixedObject) (i : ℕ) (o : FixedObject) (l now : Ledger) → i < length fixed → o ≡ get_or fixed i o
    → made_of None (state_in (grown None (all_filled (take i fixed)) (fixed_block o)) now) ≡ made_fixed (o ∷ []) (state_in (all_filled (take i fixed)) l)
    → made_fixed (drop (i + 1) fixed) (state_in (all_filled (take (i + 1) fixed)) now) ≡ made_fixed (drop i fixed) (state_in (all_filled (take i fixed)) l)
objects_step fixed i o l now h e m =
    ap (λ b. made_fixed (drop (i + 1) fixed) (state_in b now)) (filled_more fixed i o h e)
    ∙ ap (λ x. then_made x (made_fixed (drop (i + 1) fixed))) m
    ∙ sym (objects_left fixed i o (state_in (all_filled (take i fixed)) l) h e)

pub objects_over : (fixed : List FixedObject) (i : ℕ) (o : FixedObject) (end : End) (old l now : Ledger) (bs : Blocks) → i < length fixed → o ≡ get_or fixed i o
    → made_fixed (drop i fixed) (state_in (all_filled (take i fixed)) l) ≡ made_fixed fixed (state_in [] old)
    → made_of (Some end) (state_in (all_filled (take i fixed)) now) ≡ made_fixed (o ∷ []) (state_in (all_filled (take i fixed)) l)
    → ArePlaced (Some end) fixed bs old now
objects_over fixed i o end old l now bs h e run m = (
  all_filled (take i fixed),
  sym run ∙ objects_left fixed i o (state_in (all_filled (take i fixed)) l) h e ∙ ap (λ x. then_made x (made_fixed (drop (i + 1) fixed))) (sym m),
)

pub objects_end : (fixed : List FixedObject) (i : ℕ) (bs : Blocks) (old now : Ledger) → length fixed ≤ i
    → made_fixed (drop i fixed) (state_in (all_filled (take i fixed)) now) ≡ made_fixed fixed (state_in [] old) → bs ≡ all_unfilled (take i fixed)
    → ArePlaced None fixed bs old now
objects_end fixed i bs old now h run is = (
  sym run
      ∙ ap (λ l. made_fixed l (state_in (all_filled (take i fixed)) now)) (drop_all i fixed h)
      ∙ ap (λ l. Makes (state_in (all_filled l) now)) (take_all i fixed h),
  is ∙ ap all_unfilled (take_all i fixed h),
)

pub objects_begin : (fixed : List FixedObject) (bs : Blocks) → bs ≡ [] → bs ≡ all_unfilled (take 0 fixed)
objects_begin fixed bs e = e

-- all have their cells
pub filled_made : (fixed : List FixedObject) (bs cs : Blocks) (old now : Ledger) → ArePlaced None fixed bs old now → cs ≡ all_filled fixed → AreMade None fixed cs old now
filled_made fixed bs cs old now p e = p.0 ∙ ap (λ b. Makes (state_in b now)) (sym e)

pub over_made : (fixed : List FixedObject) (bs cs : Blocks) (end : End) (old now : Ledger) → ArePlaced (Some end) fixed bs old now → AreMade (Some end) fixed cs old now
over_made fixed bs cs end old now p = p

-- ---- cells

there : (bs : Blocks) (n : ℕ) → n < length bs → (b : Block) × (slice_get bs n ≡ Some b)
there [] n h = absurd (omega (arith, h))
there (b ∷ bs) zero h = (b, refl)
there (b ∷ bs) (suc n) h = there bs n (omega (arith, h))

get_set : (bs : Blocks) (n : ℕ) (b c : Block) → slice_get bs n ≡ Some b → slice_get (set bs n c) n ≡ Some c
get_set [] n b c e = none_is b e
get_set (x ∷ bs) zero b c e = refl
get_set (x ∷ bs) (suc n) b c e = get_set bs n b c e

set_same : (bs : Blocks) (n : ℕ) (b : Block) → slice_get bs n ≡ Some b → set bs n b ≡ bs
set_same [] n b e = refl
set_same (x ∷ bs) zero b e = ap (λ (y : Block). y ∷ bs) (sym (some_is x b e))
set_same (x ∷ bs) (suc n) b e = ap (λ l. x ∷ l) (set_same bs n b e)

with_there : (bs : Blocks) (n : ℕ) (b : Block) (xs : List Cell) → slice_get bs n ≡ Some b → with_cells bs n xs ≡ set bs n (record b { cells = xs })
with_there bs n b xs e = ap (with_cells_in bs n xs) e

cells_there : (bs : Blocks) (n : ℕ) (b : Block) → slice_get bs n ≡ Some b → cells_in bs n ≡ b.cells
cells_there bs n b e = ap cells_of e

-- a block with its own cells
pub with_own : (bs : Blocks) (n : ℕ) (xs : List Cell) → n < length bs → cells_in bs n ≡ xs → bs ≡ with_cells bs n xs
with_own bs n xs h e =
    let o = there bs n h in
    let b = o.0 in
    sym (set_same bs n b o.1)
    ∙ ap (λ (c : List Cell). let x : Block = record b { cells = c } in set bs n x) (sym (cells_there bs n b o.1) ∙ e)
    ∙ sym (with_there bs n b xs o.1)

-- one more cell is written
pub cell_written : (bs now new : Blocks) (n offset : ℕ) (c : Cell) (xs : List Cell) → n < length bs → now ≡ with_cells bs n xs → new ≡ initialised now n offset c → new ≡ with_cells bs n (set xs offset c)
cell_written bs now new n offset c xs h e f =
    let o = there bs n h in
    let b = o.0 in
    let x : Block = record b { cells = xs } in
    let y : Block = record b { cells = set xs offset c } in
    let is : now ≡ set bs n x = e ∙ with_there bs n b xs o.1 in
    let at : slice_get now n ≡ Some x = ap (λ l. slice_get l n) is ∙ get_set bs n b x o.1 in
    f ∙ ap (initialised_in now n offset c) at ∙ ap (λ l. set l n y) is ∙ set-set bs n x y ∙ sym (with_there bs n b (set xs offset c) o.1)

-- and once more
pub cells_again : (bs now new : Blocks) (n : ℕ) (xs ys : List Cell) → n < length bs → now ≡ with_cells bs n xs → new ≡ with_cells now n ys → new ≡ with_cells bs n ys
cells_again bs now new n xs ys h e f =
    let o = there bs n h in
    let b = o.0 in
    let x : Block = record b { cells = xs } in
    let y : Block = record b { cells = ys } in
    let is : now ≡ set bs n x = e ∙ with_there bs n b xs o.1 in
    let at : slice_get now n ≡ Some x = ap (λ l. slice_get l n) is ∙ get_set bs n b x o.1 in
    f ∙ with_there now n x ys at ∙ ap (λ l. set l n y) is ∙ set-set bs n x y ∙ sym (with_there bs n b ys o.1)

pub cells_now : (bs now : Blocks) (n : ℕ) (xs : List Cell) → n < length bs → now ≡ with_cells bs n xs → cells_in now n ≡ xs
cells_now bs now n xs h e =
    let o = there bs n h in
    let x : Block = record (o.0) { cells = xs } in
    cells_there now n x (ap (λ l. slice_get l n) (e ∙ with_there bs n o.0 xs o.1) ∙ get_set bs n o.0 x o.1)

-- so many cells are zero
abbrev pub zeroed_to : ℕ → ℕ → List Cell
zeroed_to size n = replicate n (Byte 0) ++ replicate (size - n) Undefined

pub zeroed_more : (size n : ℕ) → n < size → set (zeroed_to size n) n (Byte 0) ≡ zeroed_to size (n + 1)
zeroed_more size n h =
    let k : size - n ≡ suc (size - (n + 1)) = omega (arith, h) in
    ap (λ (m : ℕ). set (replicate n (Byte 0) ++ replicate m Undefined) n (Byte 0)) k
    ∙ set_at (replicate n (Byte 0)) Undefined (replicate (size - (n + 1)) Undefined) (Byte 0) n (length-replicate n (Byte 0))
    ∙ seam (replicate n (Byte 0)) (replicate (size - (n + 1)) Undefined)
    ∙ ap (λ l. l ++ replicate (size - (n + 1)) Undefined) (replicate_more n (Byte 0))
  where
    seam : (xs ys : List Cell) → xs ++ Byte 0 ∷ ys ≡ (xs ++ Byte 0 ∷ []) ++ ys
    seam [] ys = refl
    seam (x ∷ xs) ys = ap (λ l. x ∷ l) (seam xs ys)

pub zeroed_all : (size : ℕ) → zeroed_to size size ≡ replicate size (Byte 0)
zeroed_all size =
    let k : size - size ≡ 0 = omega arith in
    ap (λ (m : ℕ). replicate size (Byte 0) ++ replicate m Undefined) k ∙ none (replicate size (Byte 0))
  where
    none : (xs : List Cell) → xs ++ [] ≡ xs
    none [] = refl
    none (x ∷ xs) = ap (λ l. x ∷ l) (none xs)

pub zeroed_none : (size : ℕ) → replicate size Undefined ≡ zeroed_to size 0
zeroed_none size = ap (λ (m : ℕ). replicate m Undefined) (omega arith)

-- ---- the cells of an initialiser

pub cells_step : (xs : List Cell) (cells : List (ℕ × Cell)) (i : ℕ) (d : ℕ × Cell) → i < length cells
    → set_cells (set xs (get_or cells i d).0 (get_or cells i d).1) (drop (i + 1) cells) ≡ set_cells xs (drop i cells)
cells_step xs cells i d h = ap (set_cells xs) (sym (drop_more cells i d h))

pub cells_end : (xs : List Cell) (cells : List (ℕ × Cell)) (i : ℕ) → length cells ≤ i → set_cells xs (drop i cells) ≡ xs
cells_end xs cells i h = ap (set_cells xs) (drop_all i cells h)

-- ---- objects

abbrev block_if : (d : Bool) → FixedObject → List Cell → Block
block_if d o xs = record { kind = if d then fixed_kind o else kind.Fixed; size = if d then o.size else 0; live = true; cells = xs }

abbrev filled_if : (o : FixedObject) (d : Bool) → Block
filled_if o d =
    if d then record { kind = fixed_kind o; size = o.size; live = true; cells = set_cells (replicate o.size (Byte 0)) o.cells }
    else record { kind = kind.Fixed; size = 0; live = true; cells = [] }

pub declared_filled : (bs : Blocks) (n : ℕ) (o : FixedObject) → slice_get bs n ≡ Some (unfilled o) → o.defined ≡ false → bs ≡ set bs n (fixed_block o)
declared_filled bs n o e f =
    let same : fixed_block o ≡ unfilled o =
    ap (filled_if o) f ∙ sym (ap (λ (d : Bool). block_if d o (replicate (if d then o.size else 0) Undefined)) f) in
    sym (set_same bs n (unfilled o) e) ∙ ap (λ (b : Block). set bs n b) (sym same)

pub defined_cells : (bs : Blocks) (n : ℕ) (o : FixedObject) → slice_get bs n ≡ Some (unfilled o) → o.defined ≡ true → cells_in bs n ≡ replicate o.size Undefined
defined_cells bs n o e f = cells_there bs n (unfilled o) e ∙ ap (λ (d : Bool). replicate (if d then o.size else 0) Undefined) f

pub defined_filled : (bs now new : Blocks) (n : ℕ) (o : FixedObject) → slice_get bs n ≡ Some (unfilled o) → o.defined ≡ true
    → now ≡ with_cells bs n (replicate o.size (Byte 0)) → new ≡ with_cells now n (set_cells (cells_in now n) o.cells) → new ≡ set bs n (fixed_block o)
defined_filled bs now new n o e f is was =
    let h = slice_get_within bs n (unfilled o) e in
    let zeroes = replicate o.size (Byte 0) in
    let xs = set_cells zeroes o.cells in
    let last : new ≡ with_cells now n xs = was ∙ ap (λ c. with_cells now n (set_cells c o.cells)) (cells_now bs now n zeroes h is) in
    let same : fixed_block o ≡ record (unfilled o) { cells = xs } = ap (filled_if o) f ∙ sym (ap (λ (d : Bool). block_if d o xs) f) in
    cells_again bs now new n zeroes xs h is last ∙ with_there bs n (unfilled o) xs e ∙ ap (λ (b : Block). set bs n b) (sym same)

abbrev pub partly : List FixedObject → ℕ → Blocks
partly fixed i = all_filled (take i fixed) ++ all_unfilled (drop i fixed)

get_partly : (bs cs : Blocks) (b : Block) (i : ℕ) → length bs ≡ i → slice_get (bs ++ b ∷ cs) i ≡ Some b
get_partly [] cs b zero e = refl
get_partly [] cs b (suc i) e = absurd (omega (arith, e))
get_partly (x ∷ bs) cs b zero e = absurd (omega (arith, e))
get_partly (x ∷ bs) cs b (suc i) e = get_partly bs cs b i (omega (arith, e))

long_filled : (fixed : List FixedObject) (i : ℕ) → i < length fixed → length (all_filled (take i fixed)) ≡ i
long_filled fixed i h = length-map (take i fixed) fixed_block ∙ length-take-le i fixed (omega (arith, h))

partly_at : (fixed : List FixedObject) (i : ℕ) (o : FixedObject) → i < length fixed → o ≡ get_or fixed i o → partly fixed i ≡ all_filled (take i fixed) ++ unfilled o ∷ all_unfilled (drop (i + 1) fixed)
partly_at fixed i o h e = ap (λ l. all_filled (take i fixed) ++ all_unfilled l) (drop_more fixed i o h ∙ ap (λ (x : FixedObject). x ∷ drop (i + 1) fixed) (sym e))

pub next_there : (fixed : List FixedObject) (bs : Blocks) (i : ℕ) (o : FixedObject) → i < length fixed → o ≡ get_or fixed i o → bs ≡ partly fixed i → slice_get bs i ≡ Some (unfilled o)
next_there fixed bs i o h e is =
    ap (λ l. slice_get l i) (is ∙ partly_at fixed i o h e) ∙ get_partly (all_filled (take i fixed)) (all_unfilled (drop (i + 1) fixed)) (unfilled o) i (long_filled fixed i h)

pub next_filled : (fixed : List FixedObject) (bs cs : Blocks) (i : ℕ) (o : FixedObject) → i < length fixed → o ≡ get_or fixed i o → bs ≡ partly fixed i → cs ≡ set bs i (fixed_block o) → cs ≡ partly fixed (i + 1)
next_filled fixed bs cs i o h e is f =
    f
    ∙ ap (λ l. set l i (fixed_block o)) (is ∙ partly_at fixed i o h e)
    ∙ set_at (all_filled (take i fixed)) (unfilled o) (all_unfilled (drop (i + 1) fixed)) (fixed_block o) i (long_filled fixed i h)
    ∙ seam (all_filled (take i fixed)) (fixed_block o) (all_unfilled (drop (i + 1) fixed))
    ∙ ap (λ l. l ++ all_unfilled (drop (i + 1) fixed)) (sym (filled_more fixed i o h e))
  where
    seam : (xs : Blocks) (b : Block) (ys : Blocks) → xs ++ b ∷ ys ≡ (xs ++ b ∷ []) ++ ys
    seam [] b ys = refl
    seam (x ∷ xs) b ys = ap (λ l. x ∷ l) (seam xs b ys)

pub partly_none : (fixed : List FixedObject) → all_unfilled fixed ≡ partly fixed 0
partly_none fixed = refl

pub partly_all : (fixed : List FixedObject) (i : ℕ) → length fixed ≤ i → partly fixed i ≡ all_filled fixed
partly_all fixed i h =
    ap (λ l. all_filled (take i fixed) ++ all_unfilled l) (drop_all i fixed h)
    ∙ none (all_filled (take i fixed))
    ∙ ap all_filled (take_all i fixed h)
  where
    none : (xs : Blocks) → xs ++ [] ≡ xs
    none [] = refl
    none (x ∷ xs) = ap (λ l. x ∷ l) (none xs)

-- ---- what is told of a block

told_live : (o : Option Block) (info : BlockInfo) (b : Block) → o ≡ Some b → Tells o info → (info.live ≡ b.live) × (info.size ≡ b.size)
told_live None info b e t = none_is b e
told_live (Some c) info b e t = let s = some_is c b e in (t.2 ∙ ap (λ (x : Block). x.live) s, t.1 ∙ ap (λ (x : Block). x.size) s)

pub within_live : (bs : Blocks) (n : ℕ) (info : BlockInfo) → n < length bs → Tells (slice_get bs n) info → info.live ≡ true → is_live bs n ≡ true
within_live bs n info h t l =
    let o = there bs n h in
    ap live_of o.1 ∙ sym (told_live (slice_get bs n) info o.0 o.1 t).0 ∙ l
  where
    live_of : Option Block → Bool
    live_of None = false
    live_of (Some b) = b.live

size_there : (bs : Blocks) (n : ℕ) (b : Block) → slice_get bs n ≡ Some b → slice_index (sizes_of bs) n ≡ b.size
size_there [] n b e = none_is b e
size_there (x ∷ bs) zero b e = ap (λ (y : Block). y.size) (some_is x b e)
size_there (x ∷ bs) (suc n) b e = size_there bs n b e

pub within_size : (bs : Blocks) (sizes : List ℕ) (n : ℕ) (info : BlockInfo) → sizes ≡ sizes_of bs → n < length bs → Tells (slice_get bs n) info → info.size ≡ slice_index sizes n
within_size bs sizes n info e h t =
    let o = there bs n h in
    (told_live (slice_get bs n) info o.0 o.1 t).1 ∙ sym (size_there bs n o.0 o.1) ∙ ap (λ (l : List ℕ). slice_index l n) (sym e)

length_set : (bs : Blocks) (n : ℕ) (b : Block) → length (set bs n b) ≡ length bs
length_set [] n b = refl
length_set (x ∷ bs) zero b = refl
length_set (x ∷ bs) (suc n) b = ap suc (length_set bs n b)

pub length_with : (bs now : Blocks) (n : ℕ) (xs : List Cell) → n < length bs → now ≡ with_cells bs n xs → n < length now
length_with bs now n xs h e =
    let o = there bs n h in
    let long : length now ≡ length bs = ap (λ (l : Blocks). length l) (e ∙ with_there bs n o.0 xs o.1) ∙ length_set bs n (record (o.0) { cells = xs }) in
    omega (arith, h, long)
