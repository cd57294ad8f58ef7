-- What a call did to the row is what the definition says, and keeps what holds of the row.
use Rattle.std.proofs.Common.{◌≡◌, IsTrue, ℕ, zero, suc, ◌+◌, ◌<◌, ◌≤◌, ◌^◌, Bool, true, false, List, [], ◌∷◌, ◌++◌, length, take, drop, set, get_or, replicate, Some, Ok, refl, sym, ap, ◌∙◌, subst, arith}
use Rattle.std.specs.Prelude.{if◌then◌else◌, slice_get}
use Rattle.std.proofs.lemmas.Option.{same_Some, slice_get_read, slice_get_within}
use Rattle.std.proofs.lemmas.List.{length-map, length-replicate, append_assoc, set_split}
use Rattle.c_core.specs.declared.values.Cell.{Cell}
use Rattle.c_core.specs.declared.values.Cell.TheVariants.{Undefined, Byte, Part}
use Rattle.c_core.specs.declared.values.BlockKind.{BlockKind}
use Rattle.c_core.specs.declared.values.Pointer.{Pointer}
use Rattle.c_core.specs.declared.values.Pointer.TheVariants.{Null, Object, Function}
use Rattle.c_core.specs.declared.values.Value.{Value}
use Rattle.c_core.specs.declared.values.Value.TheVariants as value
use Rattle.c_core.specs.Blocks.{Block, Blocks, reached, replaced, cells_at, placed, killed, dead, is_live, initialised}
use Rattle.block_memory.specs.Given.{IsGiven, IsGivenValue, IsGivenCell, AreGiven}
use Rattle.block_memory.specs.Rooms.{room, IsFree}
use Rattle.block_memory.specs.Shape.{Stored, sizes_of, AreKept, place_of}
use Rattle.block_memory.specs.declared.access.Place.{Place}
use Rattle.block_memory.proofs.Cells.{size_at}
use Rattle.block_memory.proofs.Keeping.{kept_at, kept_length, kept_placed}
use Rattle.block_memory.proofs.Reaching.{Reached, reach_ok, site_at}
use Rattle.block_memory.proofs.Steps.{block_there, Wrote, Kept, wrote_at, kept_as, killed_is, killed_kept, initialised_is, initialised_kept, live_at, cells_long, cells_given}
use Rattle.packed_memory.specs.Packed.{over, HasWord, HoldsWord, PartHasWord}
use Rattle.packed_memory.specs.Form.{block_over, blocks_over, starts_over, stored_over, IsClear, AreClear, AreInside, IsPacked}
use Rattle.packed_memory.specs.declared.memory.PackedBlock.{PackedBlock}
use Rattle.packed_memory.specs.declared.memory.PackedMemory.TheInside.{Inside}
use Rattle.packed_memory.proofs.Rows.{part_of_part, length-over}
use Rattle.packed_memory.proofs.Standing.{blocks_written, inside_at, size_room, free_clear, clear_placed, inside_placed, blocks_placed, killed_block, clear_killed, inside_killed, blocks_killed, starts_set}

live_cells : (b : Bool) (cells : List Cell) → b ≡ true → (if b then cells else []) ≡ cells
live_cells b cells e = rw e refl

-- each size is below the end of the addresses
sizes_small : (row : List Cell) (top : ℕ) (items : List PackedBlock) (n : ℕ) → AreInside top items → get_or (sizes_of (blocks_over row items)) n 0 ≤ top
sizes_small row top [] n i = omega arith
sizes_small row top (x ∷ items) zero i = omega (arith, i.0)
sizes_small row top (x ∷ items) (suc n) i = sizes_small row top items n i.1

-- a cell is written as a part of one cell
set_over : (cells : List Cell) (o : ℕ) (c : Cell) → o < length cells → replaced cells o (c ∷ []) ≡ set cells o c
set_over cells o c h =
    let one : List Cell = c ∷ [] in
    let e : o + length one ≡ suc o = omega arith in
    ap (λ k. take o cells ++ one ++ drop k cells) e ∙ append_assoc (take o cells) one (drop (suc o) cells) ∙ sym (set_split cells o c h)

module _ (m : Inside) (s : Stored) (is : stored_over m ≡ s) (inv : IsPacked m) where
  abbrev row : List Cell
  row = m.cells

  abbrev items : List PackedBlock
  items = m.blocks.items

  abbrev bs : Blocks
  bs = s.blocks

  view : blocks_over row items ≡ bs
  view = ap (λ (t : Stored). t.blocks) is

  pub top_is : length row ≡ s.top
  top_is = ap (λ (t : Stored). t.top) is

  pub starts_are : starts_over items ≡ s.starts
  starts_are = ap (λ (t : Stored). t.starts) is

  pub kept : AreKept (sizes_of bs) bs
  kept = subst (λ l. AreKept (sizes_of l) l) view inv.kept

  has_word : (n o : ℕ) → IsGiven (sizes_of bs) (Object n o) → HasWord (Object n o)
  has_word n o g =
      let l = sizes_small row (length row) items n inv.inside in
      let e : get_or (sizes_of (blocks_over row items)) n 0 ≡ get_or (sizes_of bs) n 0 = ap (λ l. get_or (sizes_of l) n 0) view in
      omega (arith, l, e, g.1, inv.small)

  pub value_word : (v : Value) → IsGivenValue (sizes_of bs) v → HoldsWord v
  value_word (value.Int n) g = tt
  value_word (value.Ptr Null) g = tt
  value_word (value.Ptr (Object n o)) g = has_word n o g
  value_word (value.Ptr (Function f)) g = tt

  pub cell_word : (c : Cell) → IsGivenCell (sizes_of bs) c → PartHasWord c
  cell_word Undefined g = tt
  cell_word (Byte b) g = tt
  cell_word (Part Null i) g = absurd g.0
  cell_word (Part (Object n o) i) g = has_word n o g.0
  cell_word (Part (Function f) i) g = tt

  is_within : (n : ℕ) (b : Block) → slice_get bs n ≡ Some b → n < length items
  is_within n b e =
      let l = slice_get_within bs n b e in
      let k = length-map items (block_over row) in
      let v : length (blocks_over row items) ≡ length bs = ap (λ x. length x) view in
      omega (arith, l, k, v)

  is_there : (n : ℕ) (x : PackedBlock) → n < length items → x ≡ get_or items n x → slice_get bs n ≡ Some (block_over row x)
  is_there n x h e = ap (λ l. slice_get l n) (sym view) ∙ block_there (block_over row) items n x h e

  module _ (p : Pointer) (count align : ℕ) (writes : Bool) (place : Place) (ok : Ok place ≡ place_of (reached bs p count align writes)) where
    pub reach : Reached bs p count align writes place
    reach = reach_ok bs p count align writes place (sym ok)

    pub reach_within : place.number < length items
    reach_within = is_within place.number reach.block reach.found

    module _ (x : PackedBlock) (e : x ≡ get_or items place.number x) where
      item : slice_get items place.number ≡ Some x
      item = slice_get_read items (length items) place.number x refl reach_within e

      same_block : reach.block ≡ block_over row x
      same_block = same_Some reach.block (block_over row x) (sym reach.found ∙ is_there place.number x reach_within e)

      block_live : x.live ≡ true
      block_live = ap (λ (b : Block). b.live) (sym same_block) ∙ reach.live

      fits : place.offset + count ≤ x.size
      fits = subst (λ (b : Block). place.offset + count ≤ b.size) same_block reach.within

      ends : x.at + x.size ≤ length row
      ends = inside_at (length row) items place.number x inv.inside item

      -- the place in the row
      pub room_there : (x.at + place.offset + count ≤ length row) × (length row < 2 ^ 30)
      room_there = (omega (arith, ends, fits), inv.small)

      -- what stands at the place, in the row
      pub cells_there : cells_at (site_at place.number place.offset reach.block) count ≡ take count (drop (x.at + place.offset) row)
      cells_there =
          ap (λ (b : Block). take count (drop place.offset b.cells)) same_block
          ∙ ap (λ cells. take count (drop place.offset cells)) (live_cells x.live (take x.size (drop x.at row)) block_live)
          ∙ part_of_part row x.at x.size place.offset count fits

  -- what a call that wrote cells owes
  pub record Written (after : List Cell) (p : Pointer) (count align : ℕ) (place : Place) (cells : List Cell) : Type 0 where
    pub wrote : Wrote bs (blocks_over after items) p count align place cells
    pub packed : IsPacked (record m { cells = after })
    pub top : length after ≡ s.top

  module _ (p : Pointer) (count align : ℕ) (place : Place) (ok : Ok place ≡ place_of (reached bs p count align true)) (x : PackedBlock) (e : x ≡ get_or items place.number x) where
    row_wrote : (cells after : List Cell) → length cells ≡ count → AreGiven (sizes_of bs) cells → after ≡ over row (x.at + place.offset) cells → Wrote bs (blocks_over after items) p count align place cells
    row_wrote cells after l g a =
        let b : (reach p count align true place ok).block ≡ block_over row x = same_block p count align true place ok x e in
        let f = fits p count align true place ok x e in
        wrote_at bs (blocks_over after items) p count align place cells (reach p count align true place ok) kept l g
        (ap (λ r. blocks_over r items) a
        ∙ blocks_written row cells place.offset x (block_live p count align true place ok x e) (omega (arith, f, l)) (ends p count align true place ok x e) items place.number (item p count align true place ok x e) inv.clear
        ∙ ap (λ (t : Blocks). set t place.number (record (block_over row x) { cells = replaced (block_over row x).cells place.offset cells })) view
        ∙ ap (λ (c : Block). set bs place.number (record c { cells = replaced c.cells place.offset cells })) (sym b))

    pub row_written : (cells after : List Cell) → length cells ≡ count → AreGiven (sizes_of bs) cells → after ≡ over row (x.at + place.offset) cells → Written after p count align place cells
    row_written cells after l g a =
        let w = row_wrote cells after l g a in
        let t = (room_there p count align true place ok x e).0 in
        let same : length after ≡ length row = ap (λ k. length k) a ∙ length-over row (x.at + place.offset) cells (omega (arith, t, l)) in
        record {
          wrote = w;
          packed = record { small = omega (arith, inv.small, same); inside = subst (λ k. AreInside k items) (sym same) inv.inside; clear = inv.clear; kept = w.kept.kept };
          top = same ∙ top_is;
        }

  -- a copy between the two places that are reached
  module _ (to from : Pointer) (n : ℕ) (place source : Place) (ok : Ok place ≡ place_of (reached bs to n 1 true)) (ok2 : Ok source ≡ place_of (reached bs from n 1 false)) (x : PackedBlock) (e : x ≡ get_or items place.number x) (z : PackedBlock) (f : z ≡ get_or items source.number z) where
    pub row_copied : (after : List Cell) → after ≡ over row (x.at + place.offset) (take n (drop (z.at + source.offset) row)) → Written after to n 1 place (cells_at (site_at source.number source.offset (reach from n 1 false source ok2).block) n)
    row_copied after a =
        let r = reach from n 1 false source ok2 in
        let cells = cells_at (site_at source.number source.offset r.block) n in
        row_written to n 1 place ok x e cells after (cells_long bs kept from n 1 false source r) (cells_given bs kept from n 1 false source r)
        (a ∙ ap (λ l. over row (x.at + place.offset) l) (sym (cells_there from n 1 false source ok2 z f)))

  -- a block that was given
  module _ (n : ℕ) (h : n < length bs) (x : PackedBlock) (e : x ≡ get_or items n x) where
    pub given_within : n < length items
    given_within = let m = length-map items (block_over row) in let v : length (blocks_over row items) ≡ length bs = ap (λ (l : Blocks). length l) view in omega (arith, h, m, v)

    given_item : slice_get items n ≡ Some x
    given_item = slice_get_read items (length items) n x refl given_within e

    given_there : slice_get bs n ≡ Some (block_over row x)
    given_there = is_there n x given_within e

    -- it is killed
    pub killed_are : blocks_over row (set items n (killed_block x)) ≡ killed bs n
    killed_are = blocks_killed row items n x ∙ ap (λ (l : Blocks). set l n (dead (block_over row x))) view ∙ sym (killed_is bs n (block_over row x) given_there)

    pub killed_keeps : Kept bs (blocks_over row (set items n (killed_block x)))
    killed_keeps =
        kept_as bs (blocks_over row (set items n (killed_block x))) (set bs n (dead (block_over row x)))
        (killed_are ∙ killed_is bs n (block_over row x) given_there) (killed_kept bs n (block_over row x) given_there kept)

    pub killed_inside : AreInside (length row) (set items n (killed_block x))
    killed_inside = inside_killed (length row) items n x given_item inv.inside

    pub killed_clear : AreClear (set items n (killed_block x))
    killed_clear = clear_killed items n x inv.clear

    pub killed_small : length row < 2 ^ 30
    killed_small = inv.small

    pub killed_starts : starts_over (set items n (killed_block x)) ≡ s.starts
    killed_starts = starts_set items n x (killed_block x) given_item refl ∙ starts_are

  -- a block of which it is known that it lives
  module _ (n : ℕ) (h : IsTrue (is_live bs n)) (x : PackedBlock) (e : x ≡ get_or items n x) where
    live : (b : Block) × (slice_get bs n ≡ Some b) × (b.live ≡ true)
    live = live_at bs n h

    pub live_within : n < length items
    live_within = is_within n live.0 live.1

    live_item : slice_get items n ≡ Some x
    live_item = slice_get_read items (length items) n x refl live_within e

    live_there : slice_get bs n ≡ Some (block_over row x)
    live_there = is_there n x live_within e

    lives : x.live ≡ true
    lives = ap (λ (d : Block). d.live) (same_Some (block_over row x) live.0 (sym live_there ∙ live.1)) ∙ live.2

    -- one cell of it is written
    module _ (o : ℕ) (inside : o < get_or (sizes_of bs) n 0) where
      cell_fits : o < x.size
      cell_fits = let z = size_at bs n (block_over row x) live_there in omega (arith, z, inside)

      cell_ends : x.at + x.size ≤ length row
      cell_ends = inside_at (length row) items n x inv.inside live_item

      pub cell_room : (x.at + o < length row) × (length row < 2 ^ 30)
      cell_room = (omega (arith, cell_fits, cell_ends), inv.small)

      pub record Initialised (after : List Cell) (c : Cell) : Type 0 where
        pub written : blocks_over after items ≡ initialised bs n o c
        pub sizes : sizes_of (blocks_over after items) ≡ sizes_of bs
        pub packed : IsPacked (record m { cells = after })
        pub top : length after ≡ s.top

      pub cell_written : (c : Cell) (after : List Cell) → IsGivenCell (sizes_of bs) c → after ≡ over row (x.at + o) (c ∷ []) → Initialised after c
      cell_written c after g a =
          let b = block_over row x in
          let long : length b.cells ≡ x.size = kept_length (sizes_of bs) b lives (kept_at (sizes_of bs) bs n b kept live_there) in
          let one : length (c ∷ []) ≡ 1 = refl in
          let w : blocks_over after items ≡ set bs n (record b { cells = set b.cells o c }) =
          ap (λ r. blocks_over r items) a
          ∙ blocks_written row (c ∷ []) o x lives (omega (arith, cell_fits, one)) cell_ends items n live_item inv.clear
          ∙ ap (λ (t : Blocks). set t n (record b { cells = replaced b.cells o (c ∷ []) })) view
          ∙ ap (λ l. let d : Block = record b { cells = l } in set bs n d) (set_over b.cells o c (omega (arith, long, cell_fits))) in
          let k = kept_as bs (blocks_over after items) (set bs n (record b { cells = set b.cells o c })) w (initialised_kept bs n o c b live_there g kept) in
          let same : length after ≡ length row = ap (λ r. length r) a ∙ length-over row (x.at + o) (c ∷ []) (omega (arith, cell_room.0, one)) in
          record {
            written = w ∙ sym (initialised_is bs n o c b live_there);
            sizes = k.sizes;
            packed = record { small = omega (arith, inv.small, same); inside = subst (λ t. AreInside t items) (sym same) inv.inside; clear = inv.clear; kept = k.kept };
            top = same ∙ top_is;
          }

  -- a block is placed
  module _ (kind : BlockKind) (size at : ℕ) (ends : at + room kind size ≤ s.top) (free : IsFree bs s.starts at (room kind size)) where
    place_fits : at + room kind size ≤ length row
    place_fits = omega (arith, ends, top_is)

    place_clear : IsClear at (room kind size) items
    place_clear =
        free_clear row items at (room kind size)
        (subst (λ l. IsFree l (starts_over items) at (room kind size)) (sym view) (subst (λ l. IsFree bs l at (room kind size)) (sym starts_are) free))

    pub place_room : (at + room kind size ≤ length row) × (at + size ≤ length row) × (length row < 2 ^ 30)
    place_room = let z = size_room kind size in (place_fits, omega (arith, z, place_fits), inv.small)

    pub record Placed (row_after : List Cell) (after : List PackedBlock) : Type 0 where
      pub placed_are : blocks_over row_after after ≡ placed bs kind size
      pub small : length row_after < 2 ^ 30
      pub inside : AreInside (length row_after) after
      pub clear : AreClear after
      pub kept : AreKept (sizes_of (blocks_over row_after after)) (blocks_over row_after after)
      pub top : length row_after ≡ s.top

    pub row_placed : (row_after : List Cell) (after : List PackedBlock) → row_after ≡ over row at (replicate (room kind size) Undefined) → after ≡ items ++ record { kind = kind; live = true; size = size; at = at } ∷ [] → Placed row_after after
    row_placed row_after after a h =
        let d : PackedBlock = record { kind = kind; live = true; size = size; at = at } in
        let r = room kind size in
        let w : blocks_over row_after after ≡ placed bs kind size =
        ap (λ l. blocks_over l after) a ∙ ap (λ l. blocks_over (over row at (replicate r Undefined)) l) h
        ∙ blocks_placed row items d refl place_fits place_clear ∙ ap (λ (l : Blocks). placed l kind size) view in
        let n : length (replicate r Undefined) ≡ r = length-replicate r Undefined in
        let same : length row_after ≡ length row = ap (λ l. length l) a ∙ length-over row at (replicate r Undefined) (omega (arith, n, place_fits)) in
        let ends2 : at + size ≤ length row = place_room.1 in
        record {
          placed_are = w;
          small = omega (arith, inv.small, same);
          inside = subst (λ t. AreInside t after) (sym same) (subst (λ l. AreInside (length row) l) (sym h) (inside_placed (length row) items d inv.inside ends2));
          clear = subst (λ l. AreClear l) (sym h) (clear_placed items d inv.clear place_clear);
          kept = subst (λ l. AreKept (sizes_of l) l) (sym w) (kept_placed bs kind size kept);
          top = same ∙ top_is;
        }
