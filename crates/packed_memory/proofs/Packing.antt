-- Rows of bytes and words as rows of cells.
use Rattle.std.proofs.Common.{◌≡◌, ℕ, zero, suc, ◌+◌, ◌*◌, ◌/◌, ◌%◌, ◌^◌, ◌<◌, ◌≤◌, List, [], ◌∷◌, ◌++◌, length, take, drop, map, replicate, get_or, set, Some, refl, sym, ap, ◌∙◌, arith}
use Rattle.std.proofs.lemmas.List.{length-take-le, length-append, length-drop, length-replicate, take_more, take_more_set, take_all}
use Rattle.std.proofs.lemmas.Option.{get_or_from_slice_get, slice_get_within}
use Rattle.std.specs.Prelude.{slice_get}
use Rattle.c_core.specs.declared.values.Cell.{Cell}
use Rattle.c_core.specs.declared.values.Cell.TheVariants.{Part}
use Rattle.c_core.specs.declared.values.Pointer.{Pointer}
use Rattle.c_core.specs.declared.values.Pointer.TheVariants.{Object, Function}
use Rattle.c_core.specs.Blocks.{replaced}
use Rattle.packed_memory.specs.Packed.{of_sort, cell_in, cells_in, over}

pub length-cells : (bytes words : List ℕ) → length words ≡ length bytes → length (cells_in bytes words) ≡ length bytes
length-cells [] words e = refl
length-cells (b ∷ bytes) [] e = absurd (omega (arith, e))
length-cells (b ∷ bytes) (w ∷ words) e = ap (λ n. suc n) (length-cells bytes words (omega (arith, e)))

pub take-cells : (n : ℕ) (bytes words : List ℕ) → take n (cells_in bytes words) ≡ cells_in (take n bytes) (take n words)
take-cells zero bytes words = refl
take-cells (suc n) [] words = refl
take-cells (suc n) (b ∷ bytes) [] = refl
take-cells (suc n) (b ∷ bytes) (w ∷ words) = ap (λ cells. cell_in b w ∷ cells) (take-cells n bytes words)

pub drop-cells : (n : ℕ) (bytes words : List ℕ) → length words ≡ length bytes → drop n (cells_in bytes words) ≡ cells_in (drop n bytes) (drop n words)
drop-cells zero bytes words e = refl
drop-cells (suc n) [] words e = refl
drop-cells (suc n) (b ∷ bytes) [] e = absurd (omega (arith, e))
drop-cells (suc n) (b ∷ bytes) (w ∷ words) e = drop-cells n bytes words (omega (arith, e))

pub append-cells : (bytes words more others : List ℕ) → length words ≡ length bytes → cells_in (bytes ++ more) (words ++ others) ≡ cells_in bytes words ++ cells_in more others
append-cells [] [] more others e = refl
append-cells [] (w ∷ words) more others e = absurd (omega (arith, e))
append-cells (b ∷ bytes) [] more others e = absurd (omega (arith, e))
append-cells (b ∷ bytes) (w ∷ words) more others e = ap (λ cells. cell_in b w ∷ cells) (append-cells bytes words more others (omega (arith, e)))

front : (a b new others : List ℕ) → length b ≡ length a → length others ≡ length new → length (b ++ others) ≡ length (a ++ new)
front a b new others e f = omega (arith, length-append a new, length-append b others, e, f)

-- bytes and words are written at the same places
pub over-cells : (bytes words : List ℕ) (at : ℕ) (new others : List ℕ) → length words ≡ length bytes → length others ≡ length new → at + length new ≤ length bytes → cells_in (over bytes at new) (over words at others) ≡ replaced (cells_in bytes words) at (cells_in new others)
over-cells bytes words at new others e f h =
    let l = length-cells new others f in
    let a = length-take-le at bytes (omega arith) in
    let b = length-take-le at words (omega (arith, e)) in
    let c = append-cells (take at bytes ++ new) (take at words ++ others) (drop (at + length new) bytes) (drop (at + length new) words) (front (take at bytes) (take at words) new others (omega (arith, a, b)) f) in
    let d = append-cells (take at bytes) (take at words) new others (omega (arith, a, b)) in
    ap (λ k. cells_in (over bytes at new) (take at words ++ others ++ drop (at + k) words)) f
    ∙ c
    ∙ ap (λ r. r ++ cells_in (drop (at + length new) bytes) (drop (at + length new) words)) d
    ∙ ap (λ r. r ++ cells_in new others ++ cells_in (drop (at + length new) bytes) (drop (at + length new) words)) (sym (take-cells at bytes words))
    ∙ ap (λ r. take at (cells_in bytes words) ++ cells_in new others ++ r) (sym (drop-cells (at + length new) bytes words e))
    ∙ ap (λ k. take at (cells_in bytes words) ++ cells_in new others ++ drop (at + k) (cells_in bytes words)) (sym l)

pub same-cells : (w n : ℕ) (bytes : List ℕ) → length bytes ≡ n → cells_in bytes (replicate n w) ≡ map (λ b. cell_in b w) bytes
same-cells w zero [] e = refl
same-cells w (suc n) [] e = refl
same-cells w zero (b ∷ bytes) e = absurd (omega (arith, e))
same-cells w (suc n) (b ∷ bytes) e = ap (λ cells. cell_in b w ∷ cells) (same-cells w n bytes (omega (arith, e)))

pub one-cell : (n b w : ℕ) → cells_in (replicate n b) (replicate n w) ≡ replicate n (cell_in b w)
one-cell zero b w = refl
one-cell (suc n) b w = ap (λ cells. cell_in b w ∷ cells) (one-cell n b w)

-- a part of a pointer, by its word
sort_is : (k b n o s m p : ℕ) → s ≡ k → m ≡ n → p ≡ o → of_sort s b m p ≡ of_sort k b n o
sort_is k b n o s m p e f g = rw (e, f, g) refl

pub object_in : (b n o : ℕ) → n < 2 ^ 32 → cell_in b (2 + 4 * n + 2 ^ 34 * o) ≡ Part (Object n o) b
object_in b n o h = sort_is 2 b n o ((2 + 4 * n + 2 ^ 34 * o) % 4) ((2 + 4 * n + 2 ^ 34 * o) / 4 % 2 ^ 32) ((2 + 4 * n + 2 ^ 34 * o) / 2 ^ 34) (omega arith) (omega (arith, h)) (omega (arith, h))

pub function_in : (b n : ℕ) → n < 2 ^ 32 → cell_in b (3 + 4 * n) ≡ Part (Function n) b
function_in b n h = sort_is 3 b n 0 ((3 + 4 * n) % 4) ((3 + 4 * n) / 4 % 2 ^ 32) ((3 + 4 * n) / 2 ^ 34) (omega arith) (omega (arith, h)) (omega (arith, h))

-- what stands at one place
cell_at : (bytes words : List ℕ) (n : ℕ) → n < length bytes → length words ≡ length bytes → slice_get (cells_in bytes words) n ≡ Some (cell_in (get_or bytes n 0) (get_or words n 0))
cell_at [] words n h e = absurd (omega (arith, h))
cell_at (x ∷ bytes) [] n h e = absurd (omega (arith, e))
cell_at (x ∷ bytes) (y ∷ words) zero h e = refl
cell_at (x ∷ bytes) (y ∷ words) (suc n) h e = cell_at bytes words n (omega (arith, h)) (omega (arith, e))

-- a row of cells is as long as its bytes
pub row_length : (bytes words : List ℕ) (cells : List Cell) → cells_in bytes words ≡ cells → length words ≡ length bytes → length bytes ≡ length cells
row_length bytes words cells view e = sym (length-cells bytes words e) ∙ ap (λ l. length l) view

module _ (bytes words : List ℕ) (cells : List Cell) (view : cells_in bytes words ≡ cells) (e : length words ≡ length bytes) where
  both : (at : ℕ) (new others : List ℕ) → length others ≡ length new → at + length new ≤ length cells → cells_in (over bytes at new) (over words at others) ≡ replaced cells at (cells_in new others)
  both at new others f h =
      let l = row_length bytes words cells view e in
      over-cells bytes words at new others e f (omega (arith, l, h)) ∙ ap (λ r. replaced r at (cells_in new others)) view

  -- bytes were written that have one word
  pub cells_put : (at w n : ℕ) (new after others : List ℕ) → n ≡ length new → at + length new ≤ length cells → after ≡ over bytes at new → others ≡ over words at (replicate n w) → cells_in after others ≡ replaced cells at (map (λ b. cell_in b w) new)
  cells_put at w n new after others f h g k =
      let l = length-replicate n w in
      ap (λ r. cells_in r others) g ∙ ap (λ r. cells_in (over bytes at new) r) k
      ∙ both at new (replicate n w) (omega (arith, l, f)) h
      ∙ ap (λ r. replaced cells at r) (same-cells w n new (sym f))

  -- one cell was written everywhere
  pub cells_spread : (at n b w : ℕ) (after others : List ℕ) → at + n ≤ length cells → after ≡ over bytes at (replicate n b) → others ≡ over words at (replicate n w) → cells_in after others ≡ replaced cells at (replicate n (cell_in b w))
  cells_spread at n b w after others h g k =
      let l = length-replicate n w in
      let m = length-replicate n b in
      ap (λ r. cells_in r others) g ∙ ap (λ r. cells_in (over bytes at (replicate n b)) r) k
      ∙ both at (replicate n b) (replicate n w) (omega (arith, l, m)) (omega (arith, m, h))
      ∙ ap (λ r. replaced cells at r) (one-cell n b w)

  -- a part was copied
  pub cells_copied : (to from n : ℕ) (after others : List ℕ) → to + n ≤ length cells → from + n ≤ length cells → after ≡ over bytes to (take n (drop from bytes)) → others ≡ over words to (take n (drop from words)) → cells_in after others ≡ replaced cells to (take n (drop from cells))
  cells_copied to from n after others h i g k =
      let r = row_length bytes words cells view e in
      let l : length (take n (drop from bytes)) ≡ n = length-take-le n (drop from bytes) (let d = length-drop from bytes in omega (arith, d, r, i)) in
      let m : length (take n (drop from words)) ≡ n = length-take-le n (drop from words) (let d = length-drop from words in omega (arith, d, r, e, i)) in
      let d : length (drop from words) ≡ length (drop from bytes) = (let a = length-drop from bytes in let b = length-drop from words in omega (arith, a, b, e)) in
      ap (λ r. cells_in r others) g ∙ ap (λ r. cells_in (over bytes to (take n (drop from bytes))) r) k
      ∙ both to (take n (drop from bytes)) (take n (drop from words)) (omega (arith, l, m)) (omega (arith, l, h))
      ∙ ap (λ r. replaced cells to r) (sym (take-cells n (drop from bytes) (drop from words)) ∙ ap (λ r. take n r) (sym (drop-cells from bytes words e)) ∙ ap (λ r. take n (drop from r)) view)

  cells_part : (at n : ℕ) → cells_in (take n (drop at bytes)) (take n (drop at words)) ≡ take n (drop at cells)
  cells_part at n =
      sym (take-cells n (drop at bytes) (drop at words)) ∙ ap (λ r. take n r) (sym (drop-cells at bytes words e)) ∙ ap (λ r. take n (drop at r)) view

  -- the same of slices
  pub slices_part : (at n k : ℕ) (slice others : List ℕ) → slice ≡ bytes → others ≡ words → k ≡ n → cells_in (take k (drop at slice)) (take k (drop at others)) ≡ take n (drop at cells)
  slices_part at n k slice others f g h =
      ap (λ j. cells_in (take j (drop at slice)) (take j (drop at others))) h
      ∙ ap (λ l. cells_in (take n (drop at l)) (take n (drop at others))) f
      ∙ ap (λ l. cells_in (take n (drop at bytes)) (take n (drop at l))) g
      ∙ cells_part at n

-- one cell more
pub next_cell : (cells : List Cell) (bytes words : List ℕ) (n : ℕ) (c : Cell) → n < length cells → n < length bytes → length words ≡ length bytes → c ≡ cell_in (get_or bytes n 0) (get_or words n 0) → take n cells ≡ take n (cells_in bytes words) → take (n + 1) (set cells n c) ≡ take (n + 1) (cells_in bytes words)
next_cell cells bytes words n c h k e d is =
    let row = cells_in bytes words in
    let there : slice_get row n ≡ Some c = cell_at bytes words n k e ∙ ap (λ x. Some x) (sym d) in
    take_more_set cells n c h ∙ ap (λ l. l ++ c ∷ []) is
    ∙ ap (λ x. take n row ++ x ∷ []) (sym (get_or_from_slice_get row n c c there))
    ∙ sym (take_more row n c (slice_get_within row n c there))

pub all_cells : (cells : List Cell) (bytes words : List ℕ) (n : ℕ) → length bytes ≡ n → length words ≡ n → take n cells ≡ take n (cells_in bytes words) → take n cells ≡ cells_in bytes words
all_cells cells bytes words n e f is =
    let l = length-cells bytes words (f ∙ sym e) in
    is ∙ take_all n (cells_in bytes words) (omega (arith, l, e))

-- the cells of one word
pub parts_are : (w : ℕ) (p : Pointer) (bytes : List ℕ) → ((b : ℕ) → cell_in b w ≡ Part p b) → map (λ b. cell_in b w) bytes ≡ map (Part p) bytes
parts_are w p [] f = refl
parts_are w p (b ∷ bytes) f = ap (λ c. c ∷ map (λ b. cell_in b w) bytes) (f b) ∙ ap (λ l. Part p b ∷ l) (parts_are w p bytes f)
