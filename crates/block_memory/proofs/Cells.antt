-- Blocks as lists of cells: one of them is changed.
use Rattle.std.proofs.Common.{◌≡◌, ℕ, zero, suc, ◌+◌, ◌<◌, ◌≤◌, Bool, true, false, List, [], ◌∷◌, ◌++◌, length, take, drop, map, set, get_or, replicate, Option, Some, None, Result, Ok, Err, refl, sym, ap, ◌∙◌, subst, arith}
use Rattle.std.specs.Prelude.{slice_get}
use Rattle.std.proofs.lemmas.List.{length-map, map-set, map-append, length-drop, length-take-le}
use lib.Seq.{paste}
use Rattle.std.proofs.lemmas.Option.{same_Some, slice_get_within, slice_get_read}
use Rattle.c_core.specs.declared.values.Cell.{Cell}
use Rattle.c_core.specs.declared.values.Cell.TheVariants.{Undefined}
use Rattle.c_core.specs.declared.values.BlockKind.{BlockKind}
use Rattle.c_core.specs.declared.values.Pointer.{Pointer}
use Rattle.c_core.specs.declared.values.Fault.{Fault}
use Rattle.c_core.specs.Blocks.{Block, Blocks, reached, replaced, written, cells_at, placed}
use Rattle.block_memory.specs.Given.{AreGiven}
use Rattle.block_memory.specs.Shape.{sizes_of, AreKept, place_of}
use Rattle.block_memory.specs.CellForm.{block_of, blocks_in, starts_in}
use Rattle.block_memory.specs.declared.access.Place.{Place}
use Rattle.block_memory.specs.declared.cell_memory.CellBlock.{CellBlock}
use Rattle.block_memory.proofs.Reaching.{Reached, reach_ok, site_at}
use Rattle.block_memory.proofs.Steps.{block_there, Wrote, wrote_at, room_at, cells_given, cells_long}
use Rattle.block_memory.proofs.Keeping.{kept_placed}

map_same : {A B : Type 0} (f : A → B) (xs : List A) (n : ℕ) (x y : A) → slice_get xs n ≡ Some x → f y ≡ f x → map f (set xs n y) ≡ map f xs
map_same f [] n x y e s = refl
map_same f (z ∷ xs) zero x y e s = ap (λ b. b ∷ map f xs) (s ∙ ap f (sym (same_Some z x e)))
map_same f (z ∷ xs) (suc n) x y e s = ap (λ l. f z ∷ l) (map_same f xs n x y e s)

pub size_at : (bs : Blocks) (n : ℕ) (b : Block) → slice_get bs n ≡ Some b → get_or (sizes_of bs) n 0 ≡ b.size
size_at [] n b e = cc
size_at (d ∷ bs) zero b e = ap (λ (x : Block). x.size) (same_Some d b e)
size_at (d ∷ bs) (suc n) b e = size_at bs n b e

-- where a block starts doesn't change
pub starts_same : (items : List CellBlock) (n : ℕ) (x y : CellBlock) → n < length items → x ≡ get_or items n x → y.at ≡ x.at → starts_in (set items n y) ≡ starts_in items
starts_same items n x y h e s = map_same (λ (b : CellBlock). b.at) items n x y (slice_get_read items (length items) n x refl h e) s

module _ (items : List CellBlock) (bs : Blocks) (view : blocks_in items ≡ bs) where
  pub is_there : (n : ℕ) (x : CellBlock) → n < length items → x ≡ get_or items n x → slice_get bs n ≡ Some (block_of x)
  is_there n x h e = ap (λ l. slice_get l n) (sym view) ∙ block_there block_of items n x h e

  pub set_is : (n : ℕ) (y : CellBlock) (b : Block) → block_of y ≡ b → blocks_in (set items n y) ≡ set bs n b
  set_is n y b e = map-set block_of items n y ∙ ap (λ l. set l n (block_of y)) view ∙ ap (λ c. set bs n c) e

  pub within : (n : ℕ) (b : Block) → slice_get bs n ≡ Some b → n < length items
  within n b e =
      let l = slice_get_within bs n b e in
      let m = length-map items block_of in
      let v : length (blocks_in items) ≡ length bs = ap (λ x. length x) view in
      omega (arith, l, m, v)

  pub below : (n : ℕ) → n < length bs → n < length items
  below n h =
      let m = length-map items block_of in
      let v : length (blocks_in items) ≡ length bs = ap (λ x. length x) view in
      omega (arith, h, m, v)

  pub kept_view : AreKept (sizes_of (blocks_in items)) (blocks_in items) → AreKept (sizes_of bs) bs
  kept_view k = subst (λ l. AreKept (sizes_of l) l) view k

  module _ (k : AreKept (sizes_of (blocks_in items)) (blocks_in items)) (p : Pointer) (count align : ℕ) (writes : Bool) (place : Place) (ok : Ok place ≡ place_of (reached bs p count align writes)) where
    pub reach : Reached bs p count align writes place
    reach = reach_ok bs p count align writes place (sym ok)

    pub reach_within : place.number < length items
    reach_within = within place.number reach.block reach.found

    module _ (x : CellBlock) (e : x ≡ get_or items place.number x) where
      pub same_block : reach.block ≡ block_of x
      same_block = same_Some reach.block (block_of x) (sym reach.found ∙ is_there place.number x reach_within e)

      pub room_there : place.offset + count ≤ length x.cells.items
      room_there =
          let r = room_at bs (kept_view k) p count align writes place reach in
          let s : length reach.block.cells ≡ length x.cells.items = ap (λ (b : Block). length b.cells) same_block in
          omega (arith, r, s)

  module _ (k : AreKept (sizes_of (blocks_in items)) (blocks_in items)) (p : Pointer) (count align : ℕ) (place : Place) (ok : Ok place ≡ place_of (reached bs p count align true)) (x : CellBlock) (e : x ≡ get_or items place.number x) where
    -- the block that holds the place is put back with new cells
    pub cells_wrote : (cells : List Cell) (y : CellBlock) → length cells ≡ count → AreGiven (sizes_of bs) cells → block_of y ≡ record (block_of x) { cells = replaced x.cells.items place.offset cells } → Wrote bs (blocks_in (set items place.number y)) p count align place cells
    cells_wrote cells y l g s =
        let r = reach k p count align true place ok in
        let b : r.block ≡ block_of x = same_block k p count align true place ok x e in
        wrote_at bs (blocks_in (set items place.number y)) p count align place cells r (kept_view k) l g
        (set_is place.number y (record (block_of x) { cells = replaced x.cells.items place.offset cells }) s
        ∙ ap (λ (c : Block). set bs place.number (record c { cells = replaced c.cells place.offset cells })) (sym b))

paste_is : (d : List Cell) (at start n m : ℕ) → m ≡ n → start + n ≤ length d → paste d at (drop start d) m ≡ replaced d at (take n (drop start d))
paste_is d at start n m e h =
    let l = length-drop start d in
    let k : length (take n (drop start d)) ≡ n = length-take-le n (drop start d) (omega (arith, l, h)) in
    ap (λ j. paste d at (drop start d) j) e ∙ ap (λ j. take at d ++ take n (drop start d) ++ drop (at + j) d) (sym k)

-- a copy between the two places that are reached
module _ (items : List CellBlock) (bs : Blocks) (view : blocks_in items ≡ bs) (k : AreKept (sizes_of (blocks_in items)) (blocks_in items)) (to from : Pointer) (n : ℕ) (place source : Place) (ok : Ok place ≡ place_of (reached bs to n 1 true)) (ok2 : Ok source ≡ place_of (reached bs from n 1 false)) (x : CellBlock) (e : x ≡ get_or items place.number x) (z : CellBlock) (f : z ≡ get_or items source.number z) where
  abbrev copies : List Cell
  copies = cells_at (site_at source.number source.offset (reach items bs view k from n 1 false source ok2).block) n

  source_is : take n (drop source.offset z.cells.items) ≡ copies
  source_is = ap (λ (b : Block). take n (drop source.offset b.cells)) (sym (same_block items bs view k from n 1 false source ok2 z f))

  pub copies_long : length copies ≡ n
  copies_long = cells_long bs (kept_view items bs view k) from n 1 false source (reach items bs view k from n 1 false source ok2)

  pub copy_wrote : (y : CellBlock) (cells : List Cell) → cells ≡ take n (drop source.offset z.cells.items) → block_of y ≡ record (block_of x) { cells = replaced x.cells.items place.offset cells } → Wrote bs (blocks_in (set items place.number y)) to n 1 place copies
  copy_wrote y cells c s =
      cells_wrote items bs view k to n 1 place ok x e copies y copies_long
      (cells_given bs (kept_view items bs view k) from n 1 false source (reach items bs view k from n 1 false source ok2))
      (s ∙ ap (λ l. let b : Block = record (block_of x) { cells = replaced x.cells.items place.offset l } in b) (c ∙ source_is))

-- a block is placed
pub placed_kept : (items after : List CellBlock) (bs : Blocks) (view : blocks_in items ≡ bs) (kind : BlockKind) (size : ℕ) (b : CellBlock) → after ≡ items ++ b ∷ [] → block_of b ≡ record { kind = kind; size = size; live = true; cells = replicate size Undefined } → AreKept (sizes_of (blocks_in items)) (blocks_in items) → AreKept (sizes_of (blocks_in after)) (blocks_in after)
placed_kept items after bs view kind size b e s k =
    let is : blocks_in after ≡ placed bs kind size =
    ap blocks_in e ∙ map-append block_of items (b ∷ []) ∙ ap (λ l. l ++ block_of b ∷ []) view ∙ ap (λ c. bs ++ c ∷ []) s in
    subst (λ l. AreKept (sizes_of l) l) (sym is) (kept_placed bs kind size (kept_view items bs view k))
