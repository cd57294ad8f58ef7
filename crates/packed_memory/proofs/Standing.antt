-- Blocks that stand in one row of cells, each apart from the others.
use Rattle.std.proofs.Common.{◌≡◌, ⊎_elim, inl, inr, ℕ, zero, suc, ◌+◌, ◌≤◌, Bool, true, false, List, [], ◌∷◌, ◌++◌, length, take, drop, set, replicate, Some, refl, sym, ap, ◌∙◌, subst, arith}
use Rattle.std.specs.Prelude.{if◌then◌else◌, slice_get, ◌==◌}
use Rattle.std.proofs.lemmas.Option.{same_Some}
use Rattle.std.proofs.lemmas.Bool.{eqb-true}
use Rattle.std.proofs.lemmas.List.{map-set, map-append, length-replicate, nil_from_length, take-replicate, drop-take, length-drop}
use Rattle.c_core.specs.declared.values.Cell.{Cell}
use Rattle.c_core.specs.declared.values.Cell.TheVariants.{Undefined}
use Rattle.c_core.specs.declared.values.BlockKind.{BlockKind}
use Rattle.c_core.specs.declared.values.BlockKind.TheVariants as kind
use Rattle.c_core.specs.Blocks.{Block, replaced, placed, dead}
use Rattle.block_memory.specs.Rooms.{room, rounded, AreApart, IsFree}
use Rattle.packed_memory.specs.Packed.{over}
use Rattle.packed_memory.specs.Form.{block_over, blocks_over, starts_over, IsClear, AreClear, AreInside}
use Rattle.packed_memory.specs.declared.memory.PackedBlock.{PackedBlock}
use Rattle.packed_memory.proofs.Rows.{over_nothing, take-over_below, drop-over_above, drop-over, take-over, part-over}

-- a block has room for its bytes
fixed_room : (b : Bool) (size : ℕ) → b ≡ (size == 0) → size ≤ (if b then 0 else rounded size)
fixed_room true size e = let z : size ≡ 0 = eqb-true size 0 (sym e) in omega (arith, z)
fixed_room false size e = omega arith

pub size_room : (k : BlockKind) (size : ℕ) → size ≤ room k size
size_room kind.Fixed size = fixed_room (size == 0) size refl
size_room kind.ReadOnly size = omega arith
size_room kind.Auto size = omega arith
size_room kind.Heap size = omega arith

apart_sym : (a n b m : ℕ) → AreApart a n b m → AreApart b m a n
apart_sym a n b m h =
    ⊎_elim (λ z. inr (inl z)) (λ r. ⊎_elim (λ z. inl z) (λ s. ⊎_elim (λ u. inr (inr (inr u))) (λ u. inr (inr (inl u))) s) r) h

abbrev block_with : PackedBlock → List Cell → Block
block_with e cells = record { kind = e.kind; size = e.size; live = e.live; cells = cells }

live_cells : (b : Bool) (cells : List Cell) → b ≡ true → (if b then cells else []) ≡ cells
live_cells b cells e = rw e refl

-- a part of the row that is apart from a write is as before
module _ (row new : List Cell) (w : ℕ) (within : w + length new ≤ length row) where
  unchanged_none : (at size : ℕ) → length new ≡ 0 → take size (drop at (over row w new)) ≡ take size (drop at row)
  unchanged_none at size z = ap (λ l. take size (drop at (over row w l))) (nil_from_length new z) ∙ ap (λ r. take size (drop at r)) (over_nothing row w)

  unchanged_below : (at size : ℕ) → at + size ≤ w → take size (drop at (over row w new)) ≡ take size (drop at row)
  unchanged_below at size h =
      sym (drop-take at size (over row w new)) ∙ ap (λ r. drop at r) (take-over_below (at + size) row w new h (omega (arith, within))) ∙ drop-take at size row

  unchanged_above : (at size : ℕ) → w + length new ≤ at → take size (drop at (over row w new)) ≡ take size (drop at row)
  unchanged_above at size h = ap (λ r. take size r) (drop-over_above at row w new h within)

  unchanged_empty : (at size : ℕ) → size ≡ 0 → take size (drop at (over row w new)) ≡ take size (drop at row)
  unchanged_empty at size z = ap (λ k. take k (drop at (over row w new))) z ∙ sym (ap (λ k. take k (drop at row)) z)

  -- the write is in an interval that is apart from the part's own
  module _ (a n : ℕ) (from : a ≤ w) (to : w + length new ≤ a + n) where
    unchanged : (at size more : ℕ) → size ≤ more → AreApart at more a n → take size (drop at (over row w new)) ≡ take size (drop at row)
    unchanged at size more h apart =
        ⊎_elim (λ z. unchanged_empty at size (omega (arith, h, z)))
        (λ r. ⊎_elim (λ z. unchanged_none at size (omega (arith, from, to, z)))
        (λ s. ⊎_elim (λ u. unchanged_below at size (omega (arith, h, u, from))) (λ u. unchanged_above at size (omega (arith, u, to))) s) r)
        apart

    block_cells : (b : Bool) (at size more : ℕ) → size ≤ more → (b ≡ true → AreApart at more a n) → (if b then take size (drop at (over row w new)) else []) ≡ (if b then take size (drop at row) else [])
    block_cells true at size more h f = unchanged at size more h (f refl)
    block_cells false at size more h f = refl

    block_apart : (e : PackedBlock) → (e.live ≡ true → AreApart e.at (room e.kind e.size) a n) → block_over (over row w new) e ≡ block_over row e
    block_apart e f =
        ap (λ cells. block_with e cells) (block_cells e.live e.at e.size (room e.kind e.size) (size_room e.kind e.size) f)

    pub blocks_apart : (es : List PackedBlock) → IsClear a n es → blocks_over (over row w new) es ≡ blocks_over row es
    blocks_apart [] c = refl
    blocks_apart (e ∷ es) c = ap (λ b. b ∷ blocks_over (over row w new) es) (block_apart e c.0) ∙ ap (λ bs. block_over row e ∷ bs) (blocks_apart es c.1)

pub inside_at : (top : ℕ) (es : List PackedBlock) (n : ℕ) (e : PackedBlock) → AreInside top es → slice_get es n ≡ Some e → e.at + e.size ≤ top
inside_at top [] n e i g = cc
inside_at top (d ∷ es) zero e i g = subst (λ (x : PackedBlock). x.at + x.size ≤ top) (same_Some d e g) i.0
inside_at top (d ∷ es) (suc n) e i g = inside_at top es n e i.1 g

clear_at : (a k : ℕ) (es : List PackedBlock) (n : ℕ) (e : PackedBlock) → IsClear a k es → slice_get es n ≡ Some e → e.live ≡ true → AreApart e.at (room e.kind e.size) a k
clear_at a k [] n e c g l = cc
clear_at a k (d ∷ es) zero e c g l = subst (λ (x : PackedBlock). x.live ≡ true → AreApart x.at (room x.kind x.size) a k) (same_Some d e g) c.0 l
clear_at a k (d ∷ es) (suc n) e c g l = clear_at a k es n e c.1 g l

-- the block that is written
module _ (row new : List Cell) (o : ℕ) (e : PackedBlock) (live : e.live ≡ true) (fits : o + length new ≤ e.size) (inside : e.at + e.size ≤ length row) where
  abbrev w : ℕ
  w = e.at + o

  within : w + length new ≤ length row
  within = omega (arith, fits, inside)

  from : e.at ≤ w
  from = omega arith

  to : w + length new ≤ e.at + room e.kind e.size
  to = let r = size_room e.kind e.size in omega (arith, r, fits)

  own_cells : take e.size (drop e.at (over row w new)) ≡ replaced (take e.size (drop e.at row)) o new
  own_cells =
      ap (λ r. take e.size r) (drop-over e.at o row new (omega (arith, fits, inside)))
      ∙ take-over e.size o (drop e.at row) new fits (let d = length-drop e.at row in omega (arith, d, inside))

  abbrev written_block : Block
  written_block = record (block_over row e) { cells = replaced (block_over row e).cells o new }

  own_block : block_over (over row w new) e ≡ written_block
  own_block =
      ap (λ cells. block_with e cells)
      (live_cells e.live (take e.size (drop e.at (over row w new))) live ∙ own_cells
      ∙ ap (λ cells. replaced cells o new) (sym (live_cells e.live (take e.size (drop e.at row)) live)))

  pub blocks_written : (es : List PackedBlock) (n : ℕ) → slice_get es n ≡ Some e → AreClear es → blocks_over (over row w new) es ≡ set (blocks_over row es) n written_block
  blocks_written [] n g c = cc
  blocks_written (d ∷ es) zero g c =
      let same : d ≡ e = same_Some d e g in
      let others : IsClear e.at (room e.kind e.size) es = subst (λ (x : PackedBlock). x.live ≡ true → IsClear x.at (room x.kind x.size) es) same c.0 live in
      ap (λ x. block_over (over row w new) x ∷ blocks_over (over row w new) es) same
      ∙ ap (λ b. b ∷ blocks_over (over row w new) es) own_block
      ∙ ap (λ bs. written_block ∷ bs) (blocks_apart row new w within e.at (room e.kind e.size) from to es others)
  blocks_written (d ∷ es) (suc n) g c =
      let other : d.live ≡ true → AreApart d.at (room d.kind d.size) e.at (room e.kind e.size) =
      λ l. apart_sym e.at (room e.kind e.size) d.at (room d.kind d.size) (clear_at d.at (room d.kind d.size) es n e (c.0 l) g live) in
      ap (λ b. b ∷ blocks_over (over row w new) es) (block_apart row new w within e.at (room e.kind e.size) from to d other)
      ∙ ap (λ bs. block_over row d ∷ bs) (blocks_written es n g c.1)

-- a block is placed
clear_more : (a k : ℕ) (es : List PackedBlock) (e : PackedBlock) → IsClear a k es → AreApart e.at (room e.kind e.size) a k → IsClear a k (es ++ e ∷ [])
clear_more a k [] e c h = ((λ l. h), tt)
clear_more a k (d ∷ es) e c h = (c.0, clear_more a k es e c.1 h)

pub clear_placed : (es : List PackedBlock) (e : PackedBlock) → AreClear es → IsClear e.at (room e.kind e.size) es → AreClear (es ++ e ∷ [])
clear_placed [] e c h = ((λ l. tt), tt)
clear_placed (d ∷ es) e c h = (
  (λ l. clear_more d.at (room d.kind d.size) es e (c.0 l) (apart_sym d.at (room d.kind d.size) e.at (room e.kind e.size) (h.0 l))),
  clear_placed es e c.1 h.1,
)

pub inside_placed : (top : ℕ) (es : List PackedBlock) (e : PackedBlock) → AreInside top es → e.at + e.size ≤ top → AreInside top (es ++ e ∷ [])
inside_placed top [] e i h = (h, tt)
inside_placed top (d ∷ es) e i h = (i.0, inside_placed top es e i.1 h)

pub free_clear : (row : List Cell) (es : List PackedBlock) (a k : ℕ) → IsFree (blocks_over row es) (starts_over es) a k → IsClear a k es
free_clear row [] a k f = tt
free_clear row (e ∷ es) a k f = (f.0, free_clear row es a k f.1)

pub blocks_placed : (row : List Cell) (es : List PackedBlock) (e : PackedBlock) → e.live ≡ true → e.at + room e.kind e.size ≤ length row → IsClear e.at (room e.kind e.size) es → blocks_over (over row e.at (replicate (room e.kind e.size) Undefined)) (es ++ e ∷ []) ≡ placed (blocks_over row es) e.kind e.size
blocks_placed row es e l h c =
    let r = room e.kind e.size in
    let s : e.size ≤ r = size_room e.kind e.size in
    let new = replicate r Undefined in
    let n : length new ≡ r = length-replicate r Undefined in
    let own : take e.size (drop e.at (over row e.at new)) ≡ replicate e.size Undefined = part-over row e.at new e.size (omega (arith, s, n)) (omega (arith, n, h)) ∙ take-replicate e.size r Undefined s in
    map-append (block_over (over row e.at new)) es (e ∷ [])
    ∙ ap (λ bs. bs ++ block_over (over row e.at new) e ∷ []) (blocks_apart row new e.at (omega (arith, n, h)) e.at r (omega arith) (omega (arith, n)) es c)
    ∙ ap (λ b. blocks_over row es ++ b ∷ []) (ap (λ cells. block_with e cells) (live_cells e.live (take e.size (drop e.at (over row e.at new))) l ∙ own) ∙ ap (λ b. let x : Block = record { kind = e.kind; size = e.size; live = b; cells = replicate e.size Undefined } in x) l)

-- a block is killed
abbrev pub killed_block : PackedBlock → PackedBlock
killed_block e = record e { live = false }

dead_clear : (a k : ℕ) (es : List PackedBlock) (n : ℕ) (e : PackedBlock) → IsClear a k es → IsClear a k (set es n (killed_block e))
dead_clear a k [] n e c = tt
dead_clear a k (d ∷ es) zero e c = ((λ l. cc), c.1)
dead_clear a k (d ∷ es) (suc n) e c = (c.0, dead_clear a k es n e c.1)

pub clear_killed : (es : List PackedBlock) (n : ℕ) (e : PackedBlock) → AreClear es → AreClear (set es n (killed_block e))
clear_killed [] n e c = tt
clear_killed (d ∷ es) zero e c = ((λ l. cc), c.1)
clear_killed (d ∷ es) (suc n) e c = ((λ l. dead_clear d.at (room d.kind d.size) es n e (c.0 l)), clear_killed es n e c.1)

pub inside_killed : (top : ℕ) (es : List PackedBlock) (n : ℕ) (e : PackedBlock) → slice_get es n ≡ Some e → AreInside top es → AreInside top (set es n (killed_block e))
inside_killed top [] n e g i = tt
inside_killed top (d ∷ es) zero e g i = (subst (λ (x : PackedBlock). x.at + x.size ≤ top) (same_Some d e g) i.0, i.1)
inside_killed top (d ∷ es) (suc n) e g i = (i.0, inside_killed top es n e g i.1)

pub blocks_killed : (row : List Cell) (es : List PackedBlock) (n : ℕ) (e : PackedBlock) → blocks_over row (set es n (killed_block e)) ≡ set (blocks_over row es) n (dead (block_over row e))
blocks_killed row es n e = map-set (block_over row) es n (killed_block e)

pub starts_set : (es : List PackedBlock) (n : ℕ) (e d : PackedBlock) → slice_get es n ≡ Some e → d.at ≡ e.at → starts_over (set es n d) ≡ starts_over es
starts_set [] n e d g s = refl
starts_set (c ∷ es) zero e d g s = ap (λ x. x ∷ starts_over es) (s ∙ ap (λ (x : PackedBlock). x.at) (sym (same_Some c e g)))
starts_set (c ∷ es) (suc n) e d g s = ap (λ xs. c.at ∷ xs) (starts_set es n e d g s)
