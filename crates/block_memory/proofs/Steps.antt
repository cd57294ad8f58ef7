-- What a call did to the blocks is what the definition says, and keeps what holds of them.
use Rattle.std.proofs.Common.{◌≡◌, IsTrue, ℕ, zero, suc, ◌+◌, ◌<◌, ◌≤◌, Bool, true, false, not, ◌&&◌, List, [], ◌∷◌, ◌++◌, length, take, drop, map, set, get_or, replicate, Option, Some, None, Result, Ok, Err, refl, sym, ap, ◌∙◌, subst, arith}
use Rattle.std.specs.Prelude.{if◌then◌else◌, slice_get, IfOk, option_map, ◌/◌}
use Rattle.std.proofs.lemmas.List.{length-map, length-replicate, length-take-le, length-drop}
use Rattle.std.proofs.lemmas.Option.{slice_get-map, slice_get_read}
use Rattle.c_core.specs.declared.values.Cell.{Cell}
use Rattle.c_core.specs.declared.values.Cell.TheVariants.{Undefined, Byte, Part}
use Rattle.c_core.specs.declared.values.Pointer.{Pointer}
use Rattle.c_core.specs.declared.values.Pointer.TheVariants.{Null, Object, Function}
use Rattle.c_core.specs.declared.values.Value.{Value}
use Rattle.c_core.specs.declared.values.Value.TheVariants as value
use Rattle.c_core.specs.declared.values.Scalar.{Scalar}
use Rattle.c_core.specs.declared.values.BlockKind.{BlockKind}
use Rattle.c_core.specs.declared.values.Fault.{Fault}
use Rattle.c_core.specs.declared.values.Fault.TheVariants.{Overlap}
use Rattle.c_core.specs.Values.{cells_of, kind_of, scalar_size, value_in, little_endian}
use Rattle.c_core.specs.Blocks.{Block, Blocks, Site, reached, if_reached, replaced, written, cells_at, moved, load, store, copy, fill, killed, killed_in, dead, is_live, is_live_in, initialised, initialised_in, placed}
use Rattle.block_memory.specs.Given.{IsGiven, IsGivenValue, IsGivenCell, AreGiven}
use Rattle.block_memory.specs.Shape.{sizes_of, IsKept, AreKept, are_over}
use Rattle.block_memory.specs.declared.access.Place.{Place}
use Rattle.block_memory.proofs.Reaching.{Reached, site_at}
use Rattle.block_memory.proofs.Keeping.{given_take, given_drop, given_replicate, given_cells, value_given, kept_at, kept_length, kept_written, kept_cell, kept_dead, kept_placed, sizes_set, sizes_placed}

-- the element of a list that was read, as a block
pub block_there : {A : Type 0} (f : A → Block) (xs : List A) (n : ℕ) (x : A) → n < length xs → x ≡ get_or xs n x → slice_get (map f xs) n ≡ Some (f x)
block_there f xs n x h e = slice_get-map f xs n ∙ ap (λ o. option_map f o) (slice_get_read xs (length xs) n x refl h e)

pub record Kept (bs new : Blocks) : Type 0 where
  pub sizes : sizes_of new ≡ sizes_of bs
  pub kept : AreKept (sizes_of new) new

module _ (bs : Blocks) (k : AreKept (sizes_of bs) bs) where
  -- cells are written at a place
  pub wrote : (p : Pointer) (count align : ℕ) (place : Place) (r : Reached bs p count align true place) (cells : List Cell) → length cells ≡ count → AreGiven (sizes_of bs) cells → Kept bs (written bs (site_at place.number place.offset r.block) cells)
  wrote p count align place r cells l g = record {
    sizes = sizes_set bs place.number r.block (record (r.block) { cells = replaced r.block.cells place.offset cells }) r.found refl;
    kept = kept_written bs place.number place.offset r.block cells r.found r.live (omega (arith, l, r.within)) g k;
  }

  pub room_at : (p : Pointer) (count align : ℕ) (writes : Bool) (place : Place) (r : Reached bs p count align writes place) → place.offset + count ≤ length r.block.cells
  room_at p count align writes place r =
      let l = kept_length (sizes_of bs) r.block r.live (kept_at (sizes_of bs) bs place.number r.block k r.found) in
      omega (arith, l, r.within)

  -- what stands at a place
  pub cells_given : (p : Pointer) (count align : ℕ) (writes : Bool) (place : Place) (r : Reached bs p count align writes place) → AreGiven (sizes_of bs) (cells_at (site_at place.number place.offset r.block) count)
  cells_given p count align writes place r =
      let kb = kept_at (sizes_of bs) bs place.number r.block k r.found in
      given_take (sizes_of bs) count (drop place.offset r.block.cells) (given_drop (sizes_of bs) place.offset r.block.cells kb.1)

  pub cells_long : (p : Pointer) (count align : ℕ) (writes : Bool) (place : Place) (r : Reached bs p count align writes place) → length (cells_at (site_at place.number place.offset r.block) count) ≡ count
  cells_long p count align writes place r =
      let room = room_at p count align writes place r in
      let d = length-drop place.offset r.block.cells in
      length-take-le count (drop place.offset r.block.cells) (omega (arith, room, d))

-- cells were written at a place that is reached
pub record Wrote (bs new : Blocks) (p : Pointer) (count align : ℕ) (place : Place) (cells : List Cell) : Type 0 where
  pub reached : Reached bs p count align true place
  pub is : new ≡ written bs (site_at place.number place.offset reached.block) cells
  pub kept : Kept bs new

pub kept_as : (bs new other : Blocks) → new ≡ other → Kept bs other → Kept bs new
kept_as bs new other e k = record { sizes = ap sizes_of e ∙ k.sizes; kept = subst (λ l. AreKept (sizes_of l) l) (sym e) k.kept }

pub wrote_at : (bs new : Blocks) (p : Pointer) (count align : ℕ) (place : Place) (cells : List Cell) (r : Reached bs p count align true place) → AreKept (sizes_of bs) bs → length cells ≡ count → AreGiven (sizes_of bs) cells → new ≡ written bs (site_at place.number place.offset r.block) cells → Wrote bs new p count align place cells
wrote_at bs new p count align place cells r k l g e = record {
  reached = r;
  is = e;
  kept = kept_as bs new (written bs (site_at place.number place.offset r.block) cells) e (wrote bs k p count align place r cells l g);
}

length-little : (count n : ℕ) → length (little_endian count n) ≡ count
length-little zero n = refl
length-little (suc count) n = ap (λ m. suc m) (length-little count (n / 256))

pub length-value : (v : Value) → length (cells_of v) ≡ scalar_size (kind_of v)
length-value (value.Int n) = length-map (little_endian _ _) Byte ∙ length-little _ _
length-value (value.Ptr Null) = refl
length-value (value.Ptr (Object n o)) = refl
length-value (value.Ptr (Function f)) = refl

-- the definitions where the place is reached
module _ (bs : Blocks) (place : Place) where
  pub store_is : (p : Pointer) (kind : Scalar) (v : Value) (size : ℕ) → size ≡ scalar_size kind → (r : Reached bs p size size true place) → store bs p kind v ≡ Ok (written bs (site_at place.number place.offset r.block) (cells_of v))
  store_is p kind v size e r =
      ap (λ n. if_reached (reached bs p n n true) (λ site. Ok (written bs site (cells_of v)))) (sym e) ∙ ap (λ x. if_reached x (λ site. Ok (written bs site (cells_of v)))) r.is

  pub load_is : (p : Pointer) (kind : Scalar) (size : ℕ) → size ≡ scalar_size kind → (r : Reached bs p size size false place) → load bs p kind ≡ value_in kind (take (scalar_size kind) (drop place.offset r.block.cells))
  load_is p kind size e r =
      ap (λ n. if_reached (reached bs p n n false) (λ site. value_in kind (cells_at site (scalar_size kind)))) (sym e) ∙ ap (λ x. if_reached x (λ site. value_in kind (cells_at site (scalar_size kind)))) r.is

  pub fill_is : (p : Pointer) (byte count : ℕ) (r : Reached bs p count 1 true place) → fill bs p byte count ≡ Ok (written bs (site_at place.number place.offset r.block) (replicate count (Byte byte)))
  fill_is p byte count r = ap (λ x. if_reached x (λ site. Ok (written bs site (replicate count (Byte byte))))) r.is

  module _ (to from : Pointer) (count : ℕ) (may : Bool) (source : Place) (t : Reached bs to count 1 true place) (f : Reached bs from count 1 false source) where
    copy_moves : copy bs to from count may ≡ moved bs (site_at place.number place.offset t.block) (site_at source.number source.offset f.block) count may
    copy_moves =
        ap (λ x. if_reached x (λ a. if_reached (reached bs from count 1 false) (λ b. moved bs a b count may))) t.is
        ∙ ap (λ x. if_reached x (λ b. moved bs (site_at place.number place.offset t.block) b count may)) f.is

    pub copy_is : (not may && are_over place source count) ≡ false → copy bs to from count may ≡ Ok (written bs (site_at place.number place.offset t.block) (cells_at (site_at source.number source.offset f.block) count))
    copy_is e = copy_moves ∙ ap (λ b. if b then Err Overlap else Ok (written bs (site_at place.number place.offset t.block) (cells_at (site_at source.number source.offset f.block) count))) e

    pub copy_over : (not may && are_over place source count) ≡ true → copy bs to from count may ≡ Err Overlap
    copy_over e = copy_moves ∙ ap (λ b. if b then Err Overlap else Ok (written bs (site_at place.number place.offset t.block) (cells_at (site_at source.number source.offset f.block) count))) e

  pub copy_unread : (to from : Pointer) (count : ℕ) (may : Bool) (t : Reached bs to count 1 true place) (f : Fault) → reached bs from count 1 false ≡ Err f → copy bs to from count may ≡ Err f
  copy_unread to from count may t f e =
      ap (λ x. if_reached x (λ a. if_reached (reached bs from count 1 false) (λ b. moved bs a b count may))) t.is
      ∙ ap (λ x. if_reached x (λ b. moved bs (site_at place.number place.offset t.block) b count may)) e

-- a live block
live_in : (ob : Option Block) → IsTrue (is_live_in ob) → (b : Block) × (ob ≡ Some b) × (b.live ≡ true)
live_in None h = cc
live_in (Some b) h = (b, refl, h)

pub live_at : (bs : Blocks) (n : ℕ) → IsTrue (is_live bs n) → (b : Block) × (slice_get bs n ≡ Some b) × (b.live ≡ true)
live_at bs n h = live_in (slice_get bs n) h

pub killed_is : (bs : Blocks) (n : ℕ) (b : Block) → slice_get bs n ≡ Some b → killed bs n ≡ set bs n (dead b)
killed_is bs n b e = ap (λ x. killed_in bs n x) e

pub initialised_is : (bs : Blocks) (n o : ℕ) (c : Cell) (b : Block) → slice_get bs n ≡ Some b → initialised bs n o c ≡ set bs n (record b { cells = set b.cells o c })
initialised_is bs n o c b e = ap (λ x. initialised_in bs n o c x) e

pub killed_kept : (bs : Blocks) (n : ℕ) (b : Block) → slice_get bs n ≡ Some b → AreKept (sizes_of bs) bs → Kept bs (set bs n (dead b))
killed_kept bs n b e k = record { sizes = sizes_set bs n b (dead b) e refl; kept = kept_dead bs n b e k }

pub initialised_kept : (bs : Blocks) (n o : ℕ) (c : Cell) (b : Block) → slice_get bs n ≡ Some b → IsGivenCell (sizes_of bs) c → AreKept (sizes_of bs) bs → Kept bs (set bs n (record b { cells = set b.cells o c }))
initialised_kept bs n o c b e g k = record { sizes = sizes_set bs n b (record b { cells = set b.cells o c }) e refl; kept = kept_cell bs n o b c e g k }

-- a call of which it is known what it wrote
pub stored : (bs new : Blocks) (p : Pointer) (kind : Scalar) (v : Value) (size : ℕ) (place : Place) → size ≡ scalar_size kind → Wrote bs new p size size place (cells_of v) → store bs p kind v ≡ Ok new
stored bs new p kind v size place e w = store_is bs place p kind v size e w.reached ∙ ap (λ l. Ok l) (sym w.is)

pub filled : (bs new : Blocks) (p : Pointer) (byte count : ℕ) (place : Place) → Wrote bs new p count 1 place (replicate count (Byte byte)) → fill bs p byte count ≡ Ok new
filled bs new p byte count place w = fill_is bs place p byte count w.reached ∙ ap (λ l. Ok l) (sym w.is)

-- a copy of which it is known what it wrote
pub copied : (bs new : Blocks) (to from : Pointer) (count : ℕ) (may : Bool) (place source : Place) (f : Reached bs from count 1 false source) → (not may && are_over place source count) ≡ false → Wrote bs new to count 1 place (cells_at (site_at source.number source.offset f.block) count) → copy bs to from count may ≡ Ok new
copied bs new to from count may place source f e w = copy_is bs place to from count may source w.reached f e ∙ ap (λ l. Ok l) (sym w.is)

given_result : (bs : Blocks) (kind : Scalar) (cells : List Cell) (x : Result Value Fault) → AreGiven (sizes_of bs) cells → x ≡ value_in kind cells → IfOk x (λ v. IsGivenValue (sizes_of bs) v)
given_result bs kind cells (Ok v) g e = value_given (sizes_of bs) kind cells v g (sym e)
given_result bs kind cells (Err f) g e = tt

-- what a load gives
pub load_gives : (bs : Blocks) (k : AreKept (sizes_of bs) bs) (p : Pointer) (kind : Scalar) (size : ℕ) (place : Place) → size ≡ scalar_size kind → (r : Reached bs p size size false place) → (x : Result Value Fault) → x ≡ load bs p kind → IfOk x (λ v. IsGivenValue (sizes_of bs) v)
load_gives bs k p kind size place e r x is =
    let g = cells_given bs k p size size false place r in
    let h : AreGiven (sizes_of bs) (take (scalar_size kind) (drop place.offset r.block.cells)) = subst (λ n. AreGiven (sizes_of bs) (take n (drop place.offset r.block.cells))) e g in
    given_result bs kind (take (scalar_size kind) (drop place.offset r.block.cells)) x h (is ∙ load_is bs place p kind size e r)
