-- The region's end, and what stands there.
use Rattle.std.proofs.Common.{◌≡◌, ℕ, zero, suc, ◌+◌, ◌-◌, ◌<◌, Bool, true, false, not, IsTrue, List, [], ◌∷◌, ◌++◌, length, get_or, take, Option, Some, None, refl, sym, ap, subst, ◌∙◌, arith, append-nil}
use Rattle.std.specs.Prelude.{slice_get}
use Rattle.std.specs.Option.{option_to_list}
use Rattle.std.proofs.lemmas.List.{take_more, take_all, nil_from_length}
use Rattle.c_core.specs.Blocks.{Block, Blocks}
use Rattle.block_memory.specs.Shape.{Tells}
use Rattle.block_memory.specs.declared.memory.BlockInfo.{BlockInfo}
use Rattle.c_meaning.specs.declared.log.LogEntry.{LogEntry}
use Rattle.range_heap.specs.Seen.{AllHeaps}
use Rattle.machine_frames.proofs.Pushes.{pushed}
use Rattle.machine_state.specs.declared.ledger.Spot.{Spot}
use Rattle.machine_state.specs.Stands.{Stand, stand_of, stands_of, AreLow, Stands, end_of}
use Rattle.machine_state.specs.declared.ledger.Ledger.{Ledger}
use Rattle.machine_state.specs.State.{IsSound, spots_of}
use Rattle.machine_state.proofs.Blocks.{stands_long}
use Rattle.machine_state.proofs.Lists.{some_is, none_is}
use Rattle.machine_state.proofs.Objects.{object_left}
use Rattle.machine_objects.specs.Made.{IsTopDead}

pub spots_more : (xs : List Spot) (s : Spot) → spots_of (xs ++ s ∷ []) ≡ s ∷ spots_of xs
spots_more xs s = pushed (λ x. x) [] xs s

-- the topmost object is the last one
pub spots_top : (xs : List Spot) (m : ℕ) (s : Spot) → m ≡ length xs → (m ≡ 0 → ⊥) → s ≡ get_or xs (m - 1) s → spots_of xs ≡ s ∷ spots_of (take (m - 1) xs)
spots_top xs m s k h e =
    let n = m - 1 in
    let a : take (n + 1) xs ≡ take n xs ++ get_or xs n s ∷ [] = take_more xs n s (omega (arith, h, k)) in
    let b : take (n + 1) xs ≡ xs = take_all (n + 1) xs (omega (arith, h, k)) in
    ap spots_of (sym b ∙ a ∙ ap (λ x. take n xs ++ x ∷ []) (sym e)) ∙ spots_more (take n xs) s

pub top_low : (count : ℕ) (xs : List Spot) (m : ℕ) (s : Spot) → m ≡ length xs → (m ≡ 0 → ⊥) → s ≡ get_or xs (m - 1) s → AreLow count (spots_of xs) → s.number < count
top_low count xs m s k h e a = (subst (λ l. AreLow count l) (spots_top xs m s k h e) a).1

told_dead : (o : Option Block) (info : BlockInfo) (b : Block) → Tells o info → not info.live ≡ true → o ≡ Some b → b.live ≡ false
told_dead None info b t n e = absurd t
told_dead (Some c) info b t n e = ap (λ (x : Block). x.live) (sym (some_is c b e)) ∙ sym t.2 ∙ not_true info.live n
  where
    not_true : (x : Bool) → not x ≡ true → x ≡ false
    not_true true h = absurd (let f : false ≡ true = h in cc)
    not_true false h = refl

stand_block : (bs : Blocks) (starts : List ℕ) (n : ℕ) (x : Stand) → slice_get (stands_of bs starts) n ≡ Some x → (b : Block) × (slice_get bs n ≡ Some b) × (x.live ≡ b.live)
stand_block [] starts n x e = none_is x e
stand_block (b ∷ bs) [] n x e = none_is x e
stand_block (b ∷ bs) (s ∷ starts) zero x e = (b, refl, ap (λ (y : Stand). y.live) (sym (some_is (stand_of b s) x e)))
stand_block (b ∷ bs) (s ∷ starts) (suc n) x e = stand_block bs starts n x e

pub top_dead : (bs : Blocks) (starts : List ℕ) (xs : List Spot) (m : ℕ) (s : Spot) (info : BlockInfo) → m ≡ length xs → (m ≡ 0 → ⊥) → s ≡ get_or xs (m - 1) s
    → Tells (slice_get bs s.number) info → IsTrue (not info.live) → IsTopDead (stands_of bs starts) (spots_of xs)
top_dead bs starts xs m s info k h e t n =
    subst (λ l. IsTopDead (stands_of bs starts) l) (sym (spots_top xs m s k h e))
    (λ x f. let o = stand_block bs starts s.number x f in o.2 ∙ told_dead (slice_get bs s.number) info o.0 t n o.1)

pub top_end : (xs : List Spot) (m : ℕ) (s : Spot) → m ≡ length xs → (m ≡ 0 → ⊥) → s ≡ get_or xs (m - 1) s → s.end ≡ end_of (spots_of xs)
top_end xs m s k h e = ap end_of (sym (spots_top xs m s k h e))

pub no_end : (xs : List Spot) → length xs ≡ 0 → 0 ≡ end_of (spots_of xs)
no_end xs e = ap (λ l. end_of (spots_of l)) (sym (nil_from_length xs e))

abbrev pub rest_of : Option Spot → List Spot → List Spot
rest_of None rest = rest
rest_of (Some s) rest = s ∷ rest

pub pop_spots : (xs ys : List Spot) (o : Option Spot) → xs ≡ ys ++ option_to_list o → spots_of xs ≡ rest_of o (spots_of ys)
pop_spots xs ys None e = ap spots_of (e ∙ append-nil ys)
pop_spots xs ys (Some s) e = ap spots_of e ∙ spots_more ys s

-- a dead object leaves
pub popped : (bs : Blocks) (starts : List ℕ) (spots rest : List Spot) (o : Option Spot) → IsTopDead (stands_of bs starts) spots → spots ≡ rest_of o rest
    → (AreLow (length bs) spots → AreLow (length bs) rest) × ((top : ℕ) (all : AllHeaps) (log : List LogEntry) → Stands top all spots log (stands_of bs starts) → Stands top all rest log (stands_of bs starts))
popped bs starts spots rest None d e = (λ a. subst (λ l. AreLow (length bs) l) e a, λ top all log s. subst (λ l. Stands top all l log (stands_of bs starts)) e s)
popped bs starts spots rest (Some x) d e =
    let dead = subst (λ l. IsTopDead (stands_of bs starts) l) e d in (
      λ a. (subst (λ l. AreLow (length bs) l) e a).2,
      λ top all log s. object_left top all x rest log (stands_of bs starts) (subst (λ l. Stands top all l log (stands_of bs starts)) e s) dead,
    )

pub low_given : (bs : Blocks) (starts : List ℕ) (top : ℕ) (l : Ledger) → IsSound bs starts top l → AreLow (length bs) (spots_of l.region.items)
low_given bs starts top l s = subst (λ n. AreLow n (spots_of l.region.items)) (stands_long bs starts s.long) s.stands.low
