-- What each change of the blocks keeps.
use Rattle.std.proofs.Common.{◌≡◌, ℕ, zero, suc, ◌+◌, ◌-◌, ◌<◌, ◌≤◌, Bool, true, false, List, [], ◌∷◌, ◌++◌, length, take, drop, map, set, get_or, replicate, Option, Some, None, Result, Ok, Err, refl, sym, ap, ◌∙◌, subst, arith}
use Rattle.std.specs.Prelude.{if◌then◌else◌, slice_get}
use Rattle.std.proofs.lemmas.List.{length-take-le, length-drop, length-append, length-set, get_or_append_left, map-set, map-append, length-map, length-replicate}
use Rattle.std.proofs.lemmas.Option.{same_Some}
use Rattle.c_core.specs.declared.values.Cell.{Cell}
use Rattle.c_core.specs.declared.values.Cell.TheVariants.{Undefined, Byte, Part}
use Rattle.c_core.specs.declared.values.Pointer.{Pointer}
use Rattle.c_core.specs.declared.values.Pointer.TheVariants.{Null, Object, Function}
use Rattle.c_core.specs.declared.values.Value.{Value}
use Rattle.c_core.specs.declared.values.Value.TheVariants as value
use Rattle.c_core.specs.declared.values.Scalar.{Scalar}
use Rattle.c_core.specs.declared.values.Scalar.TheVariants as scalar
use Rattle.c_core.specs.declared.values.BlockKind.{BlockKind}
use Rattle.c_core.specs.declared.values.Fault.{Fault}
use Rattle.c_core.specs.declared.values.Fault.TheVariants.{TornPointer, Indeterminate}
use Rattle.num_ops.specs.Numbers.{Number}
use Rattle.c_core.specs.Values.{cells_of, value_in, scalar_in, pointer_in, pointer_cells, parts, has_undefined, has_part, same_cells, little_endian}
use Rattle.c_core.specs.Blocks.{Block, Blocks, replaced, placed, dead}
use Rattle.block_memory.specs.Given.{IsGiven, IsGivenValue, IsGivenCell, HasParts, AreGiven}
use Rattle.block_memory.specs.Shape.{sizes_of, IsKept, AreKept}

module _ (sizes : List ℕ) where
  pub given_take : (n : ℕ) (cells : List Cell) → AreGiven sizes cells → AreGiven sizes (take n cells)
  given_take zero cells g = tt
  given_take (suc n) [] g = tt
  given_take (suc n) (c ∷ cells) g = (g.0, given_take n cells g.1)

  pub given_drop : (n : ℕ) (cells : List Cell) → AreGiven sizes cells → AreGiven sizes (drop n cells)
  given_drop zero cells g = g
  given_drop (suc n) [] g = tt
  given_drop (suc n) (c ∷ cells) g = given_drop n cells g.1

  pub given_append : (cells more : List Cell) → AreGiven sizes cells → AreGiven sizes more → AreGiven sizes (cells ++ more)
  given_append [] more g h = h
  given_append (c ∷ cells) more g h = (g.0, given_append cells more g.1 h)

  pub given_replaced : (cells : List Cell) (at : ℕ) (new : List Cell) → AreGiven sizes cells → AreGiven sizes new → AreGiven sizes (replaced cells at new)
  given_replaced cells at new g h =
      given_append (take at cells ++ new) (drop (at + length new) cells) (given_append (take at cells) new (given_take at cells g) h) (given_drop (at + length new) cells g)

  pub given_replicate : (n : ℕ) (c : Cell) → IsGivenCell sizes c → AreGiven sizes (replicate n c)
  given_replicate zero c g = tt
  given_replicate (suc n) c g = (g, given_replicate n c g)

  pub given_set : (cells : List Cell) (at : ℕ) (c : Cell) → AreGiven sizes cells → IsGivenCell sizes c → AreGiven sizes (set cells at c)
  given_set [] at c g h = tt
  given_set (d ∷ cells) zero c g h = (h, g.1)
  given_set (d ∷ cells) (suc at) c g h = (g.0, given_set cells at c g.1 h)

  given_bytes : (bytes : List ℕ) → AreGiven sizes (map Byte bytes)
  given_bytes [] = tt
  given_bytes (b ∷ bytes) = (tt, given_bytes bytes)

  given_parts : (p : Pointer) → HasParts sizes p → AreGiven sizes (parts p)
  given_parts p g = ((g, omega arith), ((g, omega arith), ((g, omega arith), ((g, omega arith), ((g, omega arith), ((g, omega arith), ((g, omega arith), ((g, omega arith), tt))))))))

  given_pointer : (p : Pointer) → IsGiven sizes p → AreGiven sizes (pointer_cells p)
  given_pointer Null g = (tt, (tt, (tt, (tt, (tt, (tt, (tt, (tt, tt))))))))
  given_pointer (Object n o) g = given_parts (Object n o) g
  given_pointer (Function f) g = given_parts (Function f) g

  -- the cells of a value
  pub given_cells : (v : Value) → IsGivenValue sizes v → AreGiven sizes (cells_of v)
  given_cells (value.Int n) g = given_bytes _
  given_cells (value.Ptr p) g = given_pointer p g

  parts_given : (p : Pointer) → HasParts sizes p → IsGiven sizes p
  parts_given Null g = absurd g
  parts_given (Object n o) g = g
  parts_given (Function f) g = g

  chosen_pointer : (b : Bool) (p : Pointer) (f : Fault) (v : Value) → IsGiven sizes p → (if b then Ok (value.Ptr p) else Err f) ≡ Ok v → IsGivenValue sizes v
  chosen_pointer true p f v g e = let h : value.Ptr p ≡ v = cc in subst (λ x. IsGivenValue sizes x) h g
  chosen_pointer false p f v g e = cc

  pointer_given : (cells : List Cell) (v : Value) → AreGiven sizes cells → pointer_in cells ≡ Ok v → IsGivenValue sizes v
  pointer_given [] v g e = chosen_pointer (same_cells [] (replicate 8 (Byte 0))) Null TornPointer v tt e
  pointer_given (Undefined ∷ cells) v g e = chosen_pointer (same_cells (Undefined ∷ cells) (replicate 8 (Byte 0))) Null TornPointer v tt e
  pointer_given (Byte b ∷ cells) v g e = chosen_pointer (same_cells (Byte b ∷ cells) (replicate 8 (Byte 0))) Null TornPointer v tt e
  pointer_given (Part p i ∷ cells) v g e = chosen_pointer (same_cells (Part p i ∷ cells) (parts p)) p TornPointer v (parts_given p g.0.0) e

  chosen_int : (b : Bool) (n : Number) (f : Fault) (v : Value) → (if b then Err f else Ok (value.Int n)) ≡ Ok v → IsGivenValue sizes v
  chosen_int true n f v e = cc
  chosen_int false n f v e = let h : value.Int n ≡ v = cc in subst (λ x. IsGivenValue sizes x) h tt

  scalar_given : (kind : Scalar) (cells : List Cell) (v : Value) → AreGiven sizes cells → scalar_in kind cells ≡ Ok v → IsGivenValue sizes v
  scalar_given (scalar.Int kind) cells v g e = chosen_int (has_part cells) _ _ v e
  scalar_given scalar.Ptr cells v g e = pointer_given cells v g e

  defined : (b : Bool) (f : Fault) (r : Result Value Fault) (v : Value) → (if b then Err f else r) ≡ Ok v → r ≡ Ok v
  defined true f r v e = cc
  defined false f r v e = e

  -- the value that cells hold
  pub value_given : (kind : Scalar) (cells : List Cell) (v : Value) → AreGiven sizes cells → value_in kind cells ≡ Ok v → IsGivenValue sizes v
  value_given kind cells v g e = scalar_given kind cells v g (defined (has_undefined cells) Indeterminate (scalar_in kind cells) v e)

  pub kept_at : (bs : Blocks) (n : ℕ) (b : Block) → AreKept sizes bs → slice_get bs n ≡ Some b → IsKept sizes b
  kept_at [] n b k e = cc
  kept_at (c ∷ bs) zero b k e = subst (λ x. IsKept sizes x) (same_Some c b e) k.0
  kept_at (c ∷ bs) (suc n) b k e = kept_at bs n b k.1 e

  kept_set : (bs : Blocks) (n : ℕ) (b : Block) → AreKept sizes bs → IsKept sizes b → AreKept sizes (set bs n b)
  kept_set [] n b k h = tt
  kept_set (c ∷ bs) zero b k h = (h, k.1)
  kept_set (c ∷ bs) (suc n) b k h = (k.0, kept_set bs n b k.1 h)

  kept_append : (bs more : Blocks) → AreKept sizes bs → AreKept sizes more → AreKept sizes (bs ++ more)
  kept_append [] more k h = h
  kept_append (b ∷ bs) more k h = (k.0, kept_append bs more k.1 h)

pub length-replaced : (cells : List Cell) (at : ℕ) (new : List Cell) → at + length new ≤ length cells → length (replaced cells at new) ≡ length cells
length-replaced cells at new h =
    let a = length-append (take at cells ++ new) (drop (at + length new) cells) in
    let b = length-append (take at cells) new in
    let c = length-take-le at cells (omega arith) in
    let d = length-drop (at + length new) cells in
    omega (arith, a, b, c, d)

pub sizes_set : (bs : Blocks) (n : ℕ) (b c : Block) → slice_get bs n ≡ Some b → c.size ≡ b.size → sizes_of (set bs n c) ≡ sizes_of bs
sizes_set [] n b c e s = refl
sizes_set (d ∷ bs) zero b c e s = ap (λ x. x ∷ sizes_of bs) (s ∙ ap (λ (x : Block). x.size) (sym (same_Some d b e)))
sizes_set (d ∷ bs) (suc n) b c e s = ap (λ xs. d.size ∷ xs) (sizes_set bs n b c e s)

-- a block is changed
kept_changed : (bs : Blocks) (n : ℕ) (b c : Block) → slice_get bs n ≡ Some b → c.size ≡ b.size → AreKept (sizes_of bs) bs → IsKept (sizes_of bs) c → AreKept (sizes_of (set bs n c)) (set bs n c)
kept_changed bs n b c e s k h = subst (λ sizes. AreKept sizes (set bs n c)) (sym (sizes_set bs n b c e s)) (kept_set (sizes_of bs) bs n c k h)

live_size : (b : Block) → b.live ≡ true → (if b.live then b.size else 0) ≡ b.size
live_size b l = rw l refl

pub kept_length : (sizes : List ℕ) (b : Block) → b.live ≡ true → IsKept sizes b → length b.cells ≡ b.size
kept_length sizes b l k = k.0 ∙ live_size b l

-- cells are written
pub kept_written : (bs : Blocks) (n o : ℕ) (b : Block) (new : List Cell) → slice_get bs n ≡ Some b → b.live ≡ true → o + length new ≤ b.size → AreGiven (sizes_of bs) new → AreKept (sizes_of bs) bs → AreKept (sizes_of (set bs n (record b { cells = replaced b.cells o new }))) (set bs n (record b { cells = replaced b.cells o new }))
kept_written bs n o b new e l w g k =
    let kb = kept_at (sizes_of bs) bs n b k e in
    let len : length b.cells ≡ b.size = kept_length (sizes_of bs) b l kb in
    let same : length (replaced b.cells o new) ≡ length b.cells = length-replaced b.cells o new (omega (arith, w, len)) in
    kept_changed bs n b (record b { cells = replaced b.cells o new }) e refl k
    (same ∙ kb.0, given_replaced (sizes_of bs) b.cells o new kb.1 g)

pub kept_cell : (bs : Blocks) (n o : ℕ) (b : Block) (c : Cell) → slice_get bs n ≡ Some b → IsGivenCell (sizes_of bs) c → AreKept (sizes_of bs) bs → AreKept (sizes_of (set bs n (record b { cells = set b.cells o c }))) (set bs n (record b { cells = set b.cells o c }))
kept_cell bs n o b c e g k =
    let kb = kept_at (sizes_of bs) bs n b k e in
    kept_changed bs n b (record b { cells = set b.cells o c }) e refl k
    (length-set b.cells o c ∙ kb.0, given_set (sizes_of bs) b.cells o c kb.1 g)

pub kept_dead : (bs : Blocks) (n : ℕ) (b : Block) → slice_get bs n ≡ Some b → AreKept (sizes_of bs) bs → AreKept (sizes_of (set bs n (dead b))) (set bs n (dead b))
kept_dead bs n b e k = kept_changed bs n b (dead b) e refl k (refl, tt)

module _ (sizes : List ℕ) (size : ℕ) where
  given_more : (p : Pointer) → IsGiven sizes p → IsGiven (sizes ++ size ∷ []) p
  given_more Null g = tt
  given_more (Object n o) g = (
    let l = length-append sizes (size ∷ []) in omega (arith, l, g.0),
    let e = get_or_append_left sizes (size ∷ []) 0 n g.0 in omega (arith, e, g.1),
  )
  given_more (Function f) g = tt

  parts_more : (p : Pointer) → HasParts sizes p → HasParts (sizes ++ size ∷ []) p
  parts_more Null g = absurd g
  parts_more (Object n o) g = given_more (Object n o) g
  parts_more (Function f) g = tt

  cells_more : (cells : List Cell) → AreGiven sizes cells → AreGiven (sizes ++ size ∷ []) cells
  cells_more [] g = tt
  cells_more (Undefined ∷ cells) g = (tt, cells_more cells g.1)
  cells_more (Byte b ∷ cells) g = (tt, cells_more cells g.1)
  cells_more (Part p i ∷ cells) g = ((parts_more p g.0.0, g.0.1), cells_more cells g.1)

  kept_more : (bs : Blocks) → AreKept sizes bs → AreKept (sizes ++ size ∷ []) bs
  kept_more [] k = tt
  kept_more (b ∷ bs) k = ((k.0.0, cells_more b.cells k.0.1), kept_more bs k.1)

pub sizes_placed : (bs : Blocks) (kind : BlockKind) (size : ℕ) → sizes_of (placed bs kind size) ≡ sizes_of bs ++ size ∷ []
sizes_placed bs kind size = map-append (λ (b : Block). b.size) bs (record { kind = kind; size = size; live = true; cells = replicate size Undefined } ∷ [])

-- a block is made
pub kept_placed : (bs : Blocks) (kind : BlockKind) (size : ℕ) → AreKept (sizes_of bs) bs → AreKept (sizes_of (placed bs kind size)) (placed bs kind size)
kept_placed bs kind size k =
    let sizes = sizes_of bs ++ size ∷ [] in
    subst (λ s. AreKept s (placed bs kind size)) (sym (sizes_placed bs kind size))
    (kept_append sizes bs (record { kind = kind; size = size; live = true; cells = replicate size Undefined } ∷ []) (kept_more (sizes_of bs) size bs k)
    ((length-replicate size Undefined, given_replicate sizes size Undefined tt), tt))
