-- What calls on the ranges note in their histories.
use Rattle.std.proofs.Common.{◌≡◌, ⊎_elim, ℕ, ◌<◌, ◌≤◌, Bool, true, false, List, [], ◌∷◌, ◌++◌, length, get_or, set, map, Option, Some, None, is_some, refl, sym, ap, ◌∙◌, subst, arith}
use Rattle.std.proofs.lemmas.Bool.{cases_lt}
use Rattle.std.proofs.lemmas.List.{get_or-map, map-set, length-map, set-get_or, length-set}
use Rattle.std.specs.Prelude.{Result, Ok, Err, OnErr, MatchOption}
use Rattle.range_heap.specs.declared.call.HeapCall.{HeapCall}
use Rattle.range_heap.specs.declared.call.HeapEvent.{HeapEvent}
use Rattle.range_heap.specs.declared.call.HeapEvent.TheVariants.{Grant, Refuse, Release}
use Rattle.range_heap.specs.declared.call.RangeCall.{RangeCall}
use Rattle.range_heap.specs.declared.call.RangeCall.TheVariants.{Ask, GiveBack}
use Rattle.range_heap.specs.Blocks.{live_blocks, live_at, live}
use Rattle.range_heap.specs.History.{call_of, Legal}
use Rattle.range_heap.specs.Seen.{Kept, AllHeaps}
use Rattle.range_heap.specs.Ranges.{range_at, InRange, AllLegal, Standing}
use Rattle.range_heap.specs.Steps.{Granted, Released, Roomier, Changed, HasLive, histories, noted, Made, MadeAll}
use Rattle.range_heap.proofs.Clear.{rounded_some, some_of}
use Rattle.range_heap.proofs.Histories.{legal_good, within_at}
use Rattle.range_heap.proofs.Apart.{one_range, none_kept}

abbrev pub history_of : Kept → List HeapCall
history_of k = k.history

pub get_history : (heaps : List Kept) (t : ℕ) (d : Kept) → t < length heaps → get_or (map history_of heaps) t [] ≡ (get_or heaps t d).history
get_history heaps t d lt = get_or-map history_of heaps t d [] lt

pub standing_legal : (size : ℕ) (heaps : List Kept) → Standing size heaps → AllLegal size (map history_of heaps)
standing_legal size heaps s t lt =
    let within : t < length heaps = (let e = length-map heaps history_of in omega (arith, e, lt)) in
    subst (λ h. Legal (range_at size t) h) (sym (get_history heaps t none_kept within)) (s.legal t none_kept within)

set_history : (old new : AllHeaps) (t : ℕ) (after : Kept) → new.heaps ≡ set old.heaps t after → histories new ≡ set (histories old) t after.history
set_history old new t after e = ap (λ l. map history_of l) e ∙ map-set history_of old.heaps t after

pub reserved : (token : ℕ) (old new : AllHeaps) → (length old.heaps ≤ token → new ≡ old) → (token < length old.heaps → Changed token Roomier old new) → (histories new ≡ histories old) × (new.size ≡ old.size) × (length new.heaps ≡ length old.heaps)
reserved token old new outside inside = ⊎_elim
    (λ (lt : token < length old.heaps).
    let c = inside lt in
    let w = c.way none_kept in
    let same : c.after.history ≡ get_or (histories old) token [] = w.history ∙ sym (get_history old.heaps token none_kept lt) in (
      set_history old new token c.after c.heaps ∙ ap (λ h. set (histories old) token h) same ∙ set-get_or (histories old) token [],
      c.same_size,
      ap (λ l. length l) c.heaps ∙ length-set old.heaps token c.after,
    ))
    (λ (le : length old.heaps ≤ token). let e = outside le in (ap histories e, ap (λ a. a.size) e, ap (λ a. length a.heaps) e))
    (cases_lt token (length old.heaps))

answer_of : (who token size : ℕ) (answer : Option ℕ) (old new : AllHeaps) → token < length old.heaps → Changed token (Granted who size answer) old new → MatchOption answer (histories new ≡ noted (histories old) token (call_of who (Refuse size))) (λ p. histories new ≡ noted (histories old) token (call_of who (Grant size p)))
answer_of who token size None old new lt c =
    let w = c.way none_kept in
    (set_history old new token c.after c.heaps ∙ ap (λ h. set (histories old) token h) (w.entry ∙ ap (λ h. h ++ call_of who (Refuse size) ∷ []) (sym (get_history old.heaps token none_kept lt))))
answer_of who token size (Some p) old new lt c =
    let w = c.way none_kept in
    (set_history old new token c.after c.heaps ∙ ap (λ h. set (histories old) token h) (w.entry ∙ ap (λ h. h ++ call_of who (Grant size p) ∷ []) (sym (get_history old.heaps token none_kept lt))))

pub made_ask : (who token size : ℕ) (answer : Option ℕ) (old mid new : AllHeaps) → histories mid ≡ histories old → (length mid.heaps ≤ token → (answer ≡ None) × (new ≡ mid)) → (token < length mid.heaps → Changed token (Granted who size answer) mid new) → Made (Ask who token size) answer (histories old) (histories new)
made_ask who token size answer old mid new same outside inside =
    let long = length-map mid.heaps history_of in
    subst (λ hs. Made (Ask who token size) answer hs (histories new)) same (
      λ le. let o = outside (omega (arith, le, long)) in (o.0, ap histories o.1),
      λ lt. let within : token < length mid.heaps = omega (arith, lt, long) in answer_of who token size answer mid new within (inside within),
    )

-- a live block lies in its range
pub live_inside : (size : ℕ) (hs : List (List HeapCall)) → AllLegal size hs → (place t : ℕ) → t < length hs → live place (get_or hs t []) ≡ true → InRange size t place
live_inside size hs l place t lt alive =
    let b = some_of (live_at place (get_or hs t [])) alive in
    let g = legal_good (range_at size t) (get_or hs t []) (l t lt) in
    let w = within_at (range_at size t) (live_blocks (get_or hs t [])) place b.0 g.0 b.1 in
    (w.1, omega (arith, w.2, rounded_some b.0))

same_range : (size t u place : ℕ) → InRange size t place → InRange size u place → u ≡ t
same_range size t u place i j = ⊎_elim
    (λ (lt : t < u). absurd (one_range size t u place lt i j))
    (λ (le : u ≤ t). ⊎_elim (λ (lt : u < t). absurd (one_range size u t place lt j i)) (λ (ge : t ≤ u). omega (arith, le, ge)) (cases_lt u t))
    (cases_lt t u)

true_not : (b : Bool) {P : Type 0} → b ≡ true → b ≡ false → P
true_not b e f = absurd (cc)

pub made_nothing : (who place size : ℕ) (hs : List (List HeapCall)) → ((t : ℕ) → t < length hs → live place (get_or hs t []) ≡ true → ⊥) → Made (GiveBack who place) None hs hs
made_nothing who place size hs none = (refl, λ t lt alive. absurd (none t lt alive), λ _. refl)

pub made_back : (who place size t : ℕ) (old mid new : AllHeaps) → histories mid ≡ histories old → AllLegal size (histories mid) → t < length mid.heaps → live place (get_or (histories mid) t []) ≡ true → Changed t (Released who place) mid new → Made (GiveBack who place) None (histories old) (histories new)
made_back who place size t old mid new same legal lt alive c =
    let long = length-map mid.heaps history_of in
    let within : t < length (histories mid) = omega (arith, lt, long) in
    let w = c.way none_kept in
    let here : histories new ≡ noted (histories mid) t (call_of who (Release place)) = set_history mid new t c.after c.heaps ∙ ap (λ h. set (histories mid) t h) (w.entry ∙ ap (λ h. h ++ call_of who (Release place) ∷ []) (sym (get_history mid.heaps t none_kept lt))) in
    subst (λ hs. Made (GiveBack who place) None hs (histories new)) same (
      refl,
      λ u l a.
          let e : u ≡ t = same_range size t u place (live_inside size (histories mid) legal place t within alive) (live_inside size (histories mid) legal place u l a) in
          here ∙ ap (λ v. noted (histories mid) v (call_of who (Release place))) (sym e),
      λ none. true_not (live place (get_or (histories mid) t [])) alive (none t within),
    )

-- no block is live at a place that lies in range t and begins none there
pub none_else : (size : ℕ) (hs : List (List HeapCall)) → AllLegal size hs → (place t : ℕ) → InRange size t place → live_at place (get_or hs t []) ≡ None → (u : ℕ) → u < length hs → live place (get_or hs u []) ≡ true → ⊥
none_else size hs l place t i none u lt alive =
    let e : u ≡ t = same_range size t u place i (live_inside size hs l place u lt alive) in
    let here : live place (get_or hs t []) ≡ true = subst (λ v. live place (get_or hs v []) ≡ true) e alive in
    true_not (live place (get_or hs t [])) here (ap is_some none)

pub made_more : (cs : List RangeCall) (c : RangeCall) (answer : Option ℕ) (old mid new : List (List HeapCall)) → MadeAll cs old mid → Made c answer mid new → MadeAll (cs ++ c ∷ []) old new
made_more [] c answer old mid new m n = (answer, new, subst (λ hs. Made c answer hs new) m n, refl)
made_more (x ∷ xs) c answer old mid new m n = (m.0, m.1, m.2, made_more xs c answer m.1 mid new m.3 n)

pub on_err : {T E : Type 0} {P : Type 0} (r : Result T E) → P → OnErr r P
on_err (Ok x) p = tt
on_err (Err e) p = p

pub none_from : (o : Option ℕ) → is_some o ≡ false → o ≡ None
none_from None e = refl
none_from (Some x) e = absurd (cc)

-- a live block is still there once room was made
pub still_live : (place t : ℕ) (old mid : AllHeaps) → histories mid ≡ histories old → length mid.heaps ≡ length old.heaps → t < length old.heaps → live place (get_or (histories old) t []) ≡ true → ((d : Kept) → 0 < (get_or mid.heaps t d).room) → HasLive mid place t
still_live place t old mid same long lt alive room =
    let within : t < length mid.heaps = omega (arith, lt, long) in
    record {
      within = within;
      is_live = λ d. subst (λ h. live place h ≡ true) (ap (λ hs. get_or hs t []) (sym same) ∙ get_history mid.heaps t d within) alive;
      room = room;
    }
