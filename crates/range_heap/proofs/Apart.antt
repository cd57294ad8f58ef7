-- Blocks of legal histories begin at different places, and those of different ranges do not meet.
use Rattle.std.proofs.Common.{zero, suc, ◌≡◌, ◌≢◌, ◌⊎◌, ⊎_elim, inl, inr, ℕ, ◌+◌, ◌-◌, ◌*◌, ◌/◌, ◌<◌, ◌≤◌, Bool, true, false, cond, nat_lt, List, [], ◌∷◌, ◌++◌, length, get_or, Some, None, refl, ap, ◌∙◌, subst, arith}
use Rattle.std.proofs.lemmas.Bool.{ltb-true, ltb-false}
use Rattle.std.proofs.lemmas.Nat.{row_fits, div-mul-add}
use Rattle.range_heap.specs.declared.call.HeapCall.{HeapCall}
use Rattle.range_heap.specs.declared.call.HeapEvent.{HeapEvent}
use Rattle.range_heap.specs.declared.call.HeapEvent.TheVariants.{Grant, Refuse, Release}
use Rattle.range_heap.specs.declared.half.Half.TheVariants.{Lower, Upper}
use Rattle.range_heap.specs.Blocks.{rounded, Block, live_blocks, live_at, live, IsClear, AllApart}
use Rattle.range_heap.specs.History.{Region, MayFollow, LegalFrom, Legal}
use Rattle.range_heap.specs.Seen.{Kept}
use Rattle.range_heap.specs.Ranges.{range_first, range_at, InRange, AllLegal, all_blocks, Grants, EverGranted, StayApart, Standing}
use Rattle.range_heap.proofs.Clear.{rounded_some, some_of}
use Rattle.range_heap.proofs.Histories.{AllWithin, legal_good, within_at}

clear_get : (bs : List Block) (at n j : ℕ) (d : Block) → IsClear bs at n → j < length bs → (at + n ≤ (get_or bs j d).place) ⊎ ((get_or bs j d).place + rounded (get_or bs j d).size ≤ at)
clear_get [] at n j d c lt = absurd (omega (arith, lt))
clear_get (b ∷ bs) at n zero d c lt = c.0
clear_get (b ∷ bs) at n (suc j) d c lt = clear_get bs at n j d c.1 (omega (arith, lt))

starts_differ : (bs : List Block) → AllApart bs → (i j : ℕ) (d : Block) → i < j → j < length bs → (get_or bs i d).place ≢ (get_or bs j d).place
starts_differ [] a i j d lt within e = absurd (omega (arith, within))
starts_differ (b ∷ bs) a i zero d lt within e = absurd (omega (arith, lt))
starts_differ (b ∷ bs) a zero (suc j) d lt within e =
    let some = rounded_some b.size in
    let more = rounded_some (get_or bs j d).size in
    ⊎_elim {C = ⊥} (λ (x : b.place + rounded b.size ≤ (get_or bs j d).place). omega (arith, x, e, some)) (λ (x : (get_or bs j d).place + rounded (get_or bs j d).size ≤ b.place). omega (arith, x, e, more))
    (clear_get bs b.place (rounded b.size) j d a.0 (omega (arith, within)))
starts_differ (b ∷ bs) a (suc i) (suc j) d lt within e = starts_differ bs a.1 i j d (omega (arith, lt)) (omega (arith, within)) e

pub live_starts : (r : Region) (h : List HeapCall) → Legal r h → (i j : ℕ) (d : Block) → i < j → j < length (live_blocks h) → (get_or (live_blocks h) i d).place ≢ (get_or (live_blocks h) j d).place
live_starts r h l = starts_differ (live_blocks h) (legal_good r h l).1

-- the blocks of ranges one behind the other

abbrev pub AllAbove : ℕ → List Block → Type 0
AllAbove low [] = Unit {0}
AllAbove low (b ∷ bs) = (low ≤ b.place) × AllAbove low bs

above_less : (low lower : ℕ) (bs : List Block) → lower ≤ low → AllAbove low bs → AllAbove lower bs
above_less low lower [] le a = tt
above_less low lower (b ∷ bs) le a = (omega (arith, a.0, le), above_less low lower bs le a.1)

above_append : (low : ℕ) (xs ys : List Block) → AllAbove low xs → AllAbove low ys → AllAbove low (xs ++ ys)
above_append low [] ys a b = b
above_append low (x ∷ xs) ys a b = (a.0, above_append low xs ys a.1 b)

within_above : (r : Region) (bs : List Block) → AllWithin r bs → AllAbove r.first bs
within_above r [] a = tt
within_above r (b ∷ bs) a = (a.0.1, within_above r bs a.1)

clear_above : (ys : List Block) (at n low : ℕ) → at + n ≤ low → AllAbove low ys → IsClear ys at n
clear_above [] at n low le a = tt
clear_above (y ∷ ys) at n low le a = (inl (omega (arith, a.0, le)), clear_above ys at n low le a.1)

clear_append : (xs ys : List Block) (at n : ℕ) → IsClear xs at n → IsClear ys at n → IsClear (xs ++ ys) at n
clear_append [] ys at n c d = d
clear_append (x ∷ xs) ys at n c d = (c.0, clear_append xs ys at n c.1 d)

apart_append : (r : Region) (xs ys : List Block) → AllWithin r xs → AllApart xs → AllAbove (r.first + r.size) ys → AllApart ys → AllApart (xs ++ ys)
apart_append r [] ys w a above b = b
apart_append r (x ∷ xs) ys w a above b = (
  clear_append xs ys x.place (rounded x.size) a.0 (clear_above ys x.place (rounded x.size) (r.first + r.size) w.0.2 above),
  apart_append r xs ys w.1 a.1 above b,
)

row_more : (size u : ℕ) → range_first size (u + 1) ≡ range_first size u + size
row_more size u = grind arith

all_apart : (size u : ℕ) (hs : List (List HeapCall)) → ((t : ℕ) → t < length hs → Legal (range_at size (u + t)) (get_or hs t [])) → AllAbove (range_first size u) (all_blocks hs) × AllApart (all_blocks hs)
all_apart size u [] l = (tt, tt)
all_apart size u (h ∷ hs) l =
    let here : Legal (range_at size u) h = subst (λ (t : ℕ). Legal (range_at size t) h) (omega arith) (l 0 (omega arith)) in
    let g = legal_good (range_at size u) h here in
    let rest = all_apart size (u + 1) hs (λ t lt. subst (λ (v : ℕ). Legal (range_at size v) (get_or hs t [])) (omega arith) (l (suc t) (omega (arith, lt)))) in
    let step : range_first size (u + 1) ≡ range_first size u + size = row_more size u in (
      above_append (range_first size u) (live_blocks h) (all_blocks hs) (within_above (range_at size u) (live_blocks h) g.0) (above_less (range_first size (u + 1)) (range_first size u) (all_blocks hs) (omega (arith, step)) rest.0),
      apart_append (range_at size u) (live_blocks h) (all_blocks hs) g.0 g.1 (subst (λ (low : ℕ). AllAbove low (all_blocks hs)) step rest.0) rest.1,
    )

-- what was ever granted lies in the range

event_within : (r : Region) (done : List HeapCall) (w : HeapEvent) (a : ℕ) → MayFollow r done w → Grants w a → (r.first ≤ a) × (a < r.first + r.size)
event_within r done (Grant size place) a m g = (omega (arith, m.0.above, g.0), omega (arith, m.0.within, g.1))
event_within r done (Refuse size) a m g = absurd g
event_within r done (Release place) a m g = absurd g

granted_within : (r : Region) (done h : List HeapCall) (a : ℕ) → LegalFrom r done h → EverGranted h a → (r.first ≤ a) × (a < r.first + r.size)
granted_within r done [] a l g = absurd g
granted_within r done (e ∷ es) a l (inl g) = event_within r done e.what a l.0 g
granted_within r done (e ∷ es) a l (inr g) = granted_within r (done ++ e ∷ []) es a l.1 g

pub one_range : (size t u a : ℕ) → t < u → InRange size t a → InRange size u a → ⊥
one_range size t u a lt i j =
    let rows : t * size + size ≤ u * size = row_fits t size u size lt (omega arith) in
    omega (arith, rows, i.1, j.0)

lower_test : (x y : Bool) → cond x (Some Lower) (cond y (Some Upper) None) ≡ Some Lower → x ≡ true
lower_test true y e = refl
lower_test false true e = absurd (cc)
lower_test false false e = absurd (cc)

upper_test : (x y : Bool) → cond x (Some Lower) (cond y (Some Upper) None) ≡ Some Upper → (x ≡ false) × (y ≡ true)
upper_test true y e = absurd (cc)
upper_test false true e = (refl, refl)
upper_test false false e = absurd (cc)

pub stay_apart : (size : ℕ) (hs : List (List HeapCall)) → AllLegal size hs → StayApart hs
stay_apart size hs l = record {
  blocks = (all_apart size 0 hs (λ t lt. subst (λ (u : ℕ). Legal (range_at size u) (get_or hs t [])) (omega arith) (l t lt))).1;
  halves = λ a i j.
      let n = length hs in
      let low : i.0 < n / 2 = ltb-true i.0 (n / 2) (lower_test (nat_lt i.0 (n / 2)) (nat_lt i.0 (2 * (n / 2))) i.1) in
      let up = upper_test (nat_lt j.0 (n / 2)) (nat_lt j.0 (2 * (n / 2))) j.1 in
      let from : n / 2 ≤ j.0 = ltb-false j.0 (n / 2) up.0 in
      let to : j.0 < 2 * (n / 2) = ltb-true j.0 (2 * (n / 2)) up.1 in
      one_range size i.0 j.0 a (omega (arith, low, from))
      (granted_within (range_at size i.0) [] (get_or hs i.0 []) a (l i.0 (omega (arith, low))) i.2)
      (granted_within (range_at size j.0) [] (get_or hs j.0 []) a (l j.0 (omega (arith, to))) j.2);
}

-- the range of a live block
abbrev pub none_kept : Kept
none_kept = record { first = 0; size = 0; room = 0; history = [] }

pub live_range : (size : ℕ) (heaps : List Kept) → Standing size heaps → (place t : ℕ) → t < length heaps → ((d : Kept) → live place (get_or heaps t d).history ≡ true) → InRange size t place
live_range size heaps s place t lt alive =
    let b = some_of (live_at place (get_or heaps t none_kept).history) (alive none_kept) in
    let g = legal_good (range_at size t) (get_or heaps t none_kept).history (s.legal t none_kept lt) in
    let w = within_at (range_at size t) (live_blocks (get_or heaps t none_kept).history) place b.0 g.0 b.1 in
    (w.1, omega (arith, w.2, rounded_some b.0))

pub number_of : (size t place : ℕ) → InRange size t place → (place - 16777216) / size ≡ t
number_of size t place i =
    let e : place - 16777216 ≡ t * size + (place - range_first size t) = omega (arith, i.0) in
    ap (λ n. n / size) e ∙ div-mul-add t size (place - range_first size t) (omega (arith, i.0, i.1))
