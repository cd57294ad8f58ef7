-- What is known of the blocks of a memory by what it tells of each.
use Rattle.std.proofs.Common.{◌≡◌, IsTrue, ℕ, zero, suc, ◌+◌, true, List, [], ◌∷◌, length, take, get_or, Option, Some, None, refl, sym, ap, ◌∙◌, subst, arith}
use Rattle.std.specs.Prelude.{slice_get}
use Rattle.std.proofs.lemmas.Option.{same_Some}
use Rattle.std.proofs.lemmas.List.{length-map}
use Rattle.c_core.specs.Blocks.{Block, Blocks, is_live, is_live_in}
use Rattle.block_memory.specs.Rooms.{room, AreApart, IsFree}
use Rattle.block_memory.specs.Shape.{Tells, sizes_of}
use Rattle.block_memory.specs.declared.memory.BlockInfo.{BlockInfo}
use Rattle.block_memory.proofs.Cells.{size_at}

-- there are as many blocks as sizes
pub count_of : (sizes : List ℕ) (bs : Blocks) → sizes ≡ sizes_of bs → length bs ≡ length sizes
count_of sizes bs e = sym (ap (λ l. length l) e ∙ length-map bs (λ (b : Block). b.size))

size_in : (bs : Blocks) (n : ℕ) (ob : Option Block) (info : BlockInfo) → slice_get bs n ≡ ob → Tells ob info → get_or (sizes_of bs) n 0 ≡ info.size
size_in bs n None info e t = absurd t
size_in bs n (Some b) info e t = size_at bs n b e ∙ sym t.1

pub told_size : (sizes : List ℕ) (bs : Blocks) (n : ℕ) (info : BlockInfo) → sizes ≡ sizes_of bs → Tells (slice_get bs n) info → get_or sizes n 0 ≡ info.size
told_size sizes bs n info e t = ap (λ l. get_or l n 0) e ∙ size_in bs n (slice_get bs n) info refl t

live_in : (ob : Option Block) (info : BlockInfo) → Tells ob info → info.live ≡ true → IsTrue (is_live_in ob)
live_in None info t l = absurd t
live_in (Some b) info t l = sym t.2 ∙ l

pub told_live : (bs : Blocks) (n : ℕ) (info : BlockInfo) → Tells (slice_get bs n) info → info.live ≡ true → IsTrue (is_live bs n)
told_live bs n info t l = live_in (slice_get bs n) info t l

module _ (at more : ℕ) (info : BlockInfo) (off : info.live ≡ true → AreApart info.at (room info.kind info.size) at more) where
  off_in : (b : Block) (s : ℕ) → Tells (Some b) info → s ≡ info.at → b.live ≡ true → AreApart s (room b.kind b.size) at more
  off_in b s t e l =
      let h : AreApart info.at (room info.kind info.size) at more = off (t.2 ∙ l) in
      rw (e, sym t.0, sym t.1) h

  -- one block more keeps off
  free_next : (bs : Blocks) (starts : List ℕ) (n : ℕ) (ob : Option Block) → slice_get bs n ≡ ob → Tells ob info → slice_get starts n ≡ Some info.at → IsFree (take n bs) (take n starts) at more → IsFree (take (suc n) bs) (take (suc n) starts) at more
  free_next bs starts n None e t f p = absurd t
  free_next [] starts n (Some b) e t f p = tt
  free_next (c ∷ bs) [] n (Some b) e t f p = tt
  free_next (c ∷ bs) (s ∷ starts) zero (Some b) e t f p = (subst (λ (x : Block). x.live ≡ true → AreApart s (room x.kind x.size) at more) (sym (same_Some c b e)) (off_in b s t (same_Some s info.at f)), tt)
  free_next (c ∷ bs) (s ∷ starts) (suc n) (Some b) e t f p = (p.0, free_next bs starts n (Some b) e t f p.1)

  pub free_more : (bs : Blocks) (starts : List ℕ) (n : ℕ) → Tells (slice_get bs n) info → slice_get starts n ≡ Some info.at → IsFree (take n bs) (take n starts) at more → IsFree (take (n + 1) bs) (take (n + 1) starts) at more
  free_more bs starts n t f p =
      let e : suc n ≡ n + 1 = omega arith in
      subst (λ k. IsFree (take k bs) (take k starts) at more) e (free_next bs starts n (slice_get bs n) refl t f p)

free_whole : (bs : Blocks) (starts : List ℕ) (at more : ℕ) → IsFree (take (length bs) bs) (take (length bs) starts) at more → IsFree bs starts at more
free_whole [] starts at more p = tt
free_whole (b ∷ bs) [] at more p = tt
free_whole (b ∷ bs) (s ∷ starts) at more p = (p.0, free_whole bs starts at more p.1)

pub free_all : (bs : Blocks) (starts : List ℕ) (n at more : ℕ) → n ≡ length bs → IsFree (take n bs) (take n starts) at more → IsFree bs starts at more
free_all bs starts n at more e p = free_whole bs starts at more (subst (λ k. IsFree (take k bs) (take k starts) at more) e p)
