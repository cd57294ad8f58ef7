-- Objects end.
use Rattle.std.proofs.Common.{◌≡◌, ℕ, zero, suc, ◌+◌, ◌<◌, ◌≤◌, List, [], ◌∷◌, ◌++◌, length, take, drop, get_or, Option, Some, None, refl, sym, ap, subst, ◌∙◌, arith}
use Rattle.std.specs.Prelude.{slice_get, IfSome}
use Rattle.std.proofs.lemmas.List.{take_more, length-take-le}
use Rattle.c_core.specs.Blocks.{Blocks, killed}
use Rattle.c_meaning.specs.World.{World, State, block_in, local_block, end_local, end_locals, without_local, give_room}
use Rattle.c_meaning.specs.Meaning.{parameters}
use Rattle.machine_frames.specs.Views.{state_of}
use Rattle.machine_frames.specs.declared.state.Rest.{Rest}
use Rattle.machine_state.specs.declared.ledger.Ledger.{Ledger}
use Rattle.machine_state.specs.State.{IsLocal, AreLocals, IsSound, Keeps}
use Rattle.machine_state.proofs.Sound.{sound_rest, more_none}
use Rattle.machine_objects.specs.Made.{ending}

pub get_drop : (xs : List (Option ℕ)) (base x : ℕ) → slice_get (drop base xs) x ≡ slice_get xs (base + x)
get_drop xs zero x = let e : x ≡ 0 + x = omega arith in ap (slice_get xs) e
get_drop [] (suc base) x = refl
get_drop (y ∷ xs) (suc base) x = get_drop xs base x ∙ (let e : suc (base + x) ≡ suc base + x = omega arith in ap (slice_get (y ∷ xs)) e)

local_at : (count : ℕ) (xs : List (Option ℕ)) (at n : ℕ) → slice_get xs at ≡ Some (Some n) → AreLocals count xs → n < count
local_at count [] at n e a = absurd (let f : None ≡ Some (Some n) = e in cc)
local_at count (x ∷ xs) zero n e a = let f : x ≡ Some n = same x (Some n) e in subst (λ o. IsLocal count o) f a.0
  where
    same : (a b : Option ℕ) → Some a ≡ Some b → a ≡ b
    same a b e = cc
local_at count (x ∷ xs) (suc at) n e a = local_at count xs at n e a.1

pub entry_given : (xs : List (Option ℕ)) (at : ℕ) (o : Option ℕ) → o ≡ block_in (slice_get xs at) → IfSome o (λ n. (count : ℕ) → AreLocals count xs → n < count)
entry_given xs at None e = tt
entry_given xs at (Some n) e = λ count a. local_at count xs at n (there (slice_get xs at) e) a
  where
    there : (p : Option (Option ℕ)) → Some n ≡ block_in p → p ≡ Some (Some n)
    there None f = absurd (let g : Some n ≡ None = f in cc)
    there (Some q) f = ap Some (sym f)

-- ---- states

pub killed_state : (bs cs : Blocks) (r : Rest) (x n : ℕ) → cs ≡ killed bs n → Some n ≡ local_block (state_of bs r).world x
    → state_of cs r ≡ record (state_of bs r) { world = without_local (local_block (state_of bs r).world x) (state_of bs r).world }
killed_state bs cs r x n e is =
    ap (λ (b : Blocks). state_of b r) e ∙ ap (λ (o : Option ℕ). let z : State = record (state_of bs r) { world = without_local o (state_of bs r).world } in z) is

pub kept_state : (bs : Blocks) (r : Rest) (x : ℕ) → None ≡ local_block (state_of bs r).world x
    → state_of bs r ≡ record (state_of bs r) { world = without_local (local_block (state_of bs r).world x) (state_of bs r).world }
kept_state bs r x is = ap (λ (o : Option ℕ). let z : State = record (state_of bs r) { world = without_local o (state_of bs r).world } in z) is

-- room is given back
pub given_state : (cs : Blocks) (r now : Rest) (s : State) (w : World) (n : ℕ) → state_of cs r ≡ record s { world = w } → now ≡ record r { room = r.room + n }
    → state_of cs now ≡ record s { world = give_room n w }
given_state cs r now s w n h e = ap (state_of cs) e ∙ ap (λ (t : State). let z : State = record t { world = give_room n t.world } in z) h

-- and what holds still does
pub sound_given : (bs : Blocks) (starts : List ℕ) (top : ℕ) (l now : Ledger) (n : ℕ) → IsSound bs starts top l → now.rest ≡ record (l.rest) { room = l.rest.room + n } → now.rest.room ≤ 4194304
    → now.ranges ≡ l.ranges → now.region.items ≡ l.region.items → now.count ≡ l.count → IsSound bs starts top now
sound_given bs starts top l now n s e most ranges region count =
    sound_rest bs starts top l now s ranges region count (ap (λ (r : Rest). r.log.items) e)
    (subst (λ (r : Rest). AreLocals (length bs) r.locals.items) (sym e) s.locals)
    (subst (λ (r : Rest). r.base ≤ length r.locals.items) (sym e) s.base) most
    (subst (λ (r : Rest). r.read ≤ length r.input.items) (sym e) s.read)

pub keeps_given : (given given_now : List ℕ) (l now : Ledger) (n : ℕ) → given_now ≡ given → now.rest ≡ record (l.rest) { room = l.rest.room + n } → now.ranges ≡ l.ranges → now.fallback ≡ l.fallback → Keeps given l given_now now
keeps_given given given_now l now n same e ranges fallback = record {
  sizes = more_none given given_now same;
  base = ap (λ (r : Rest). r.base) e;
  saved = ap (λ (r : Rest). take r.base r.locals.items) e;
  ranges = (ap (λ a. a.size) ranges, ap (λ a. length a.heaps) ranges);
  fallback = fallback;
}

-- ---- one after another

pub end_append : (xs ys : List (ℕ × ℕ)) (w : World) → end_locals (xs ++ ys) w ≡ end_locals xs (end_locals ys w)
end_append [] ys w = refl
end_append (o ∷ xs) ys w = ap (end_local o.0 o.1) (end_append xs ys w)

pub ending_step : (objects : List (ℕ × ℕ)) (left : ℕ) (o : ℕ × ℕ) (s now : State) → left < length objects → o ≡ get_or objects left o
    → now ≡ record s { world = end_local o.0 o.1 s.world } → ending (take left objects) now ≡ ending (take (left + 1) objects) s
ending_step objects left o s now h e m =
    let t : take (left + 1) objects ≡ take left objects ++ o ∷ [] = take_more objects left o h ∙ ap (λ (p : ℕ × ℕ). take left objects ++ p ∷ []) (sym e) in
    ap (ending (take left objects)) m
    ∙ ap (λ w. let z : State = record s { world = w } in z) (sym (end_append (take left objects) (o ∷ []) s.world))
    ∙ ap (λ l. ending l s) (sym t)

parameters_append : (x : ℕ) (sizes : List ℕ) (z : ℕ) → parameters x (sizes ++ z ∷ []) ≡ parameters x sizes ++ (x + length sizes, z) ∷ []
parameters_append x [] z = ap (λ (k : ℕ). (k, z) ∷ []) (omega arith)
parameters_append x (y ∷ sizes) z = ap (λ l. (x, y) ∷ l) (parameters_append (x + 1) sizes z ∙ ap (λ (k : ℕ). parameters (x + 1) sizes ++ (k, z) ∷ []) (omega arith))

pub ending_parameter : (sizes : List ℕ) (left z : ℕ) (s now : State) → left < length sizes → z ≡ get_or sizes left z
    → now ≡ record s { world = end_local left z s.world } → ending (parameters 0 (take left sizes)) now ≡ ending (parameters 0 (take (left + 1) sizes)) s
ending_parameter sizes left z s now h e m =
    let t : take (left + 1) sizes ≡ take left sizes ++ z ∷ [] = take_more sizes left z h ∙ ap (λ (k : ℕ). take left sizes ++ k ∷ []) (sym e) in
    let n : length (take left sizes) ≡ left = length-take-le left sizes (omega (arith, h)) in
    let p : parameters 0 (take (left + 1) sizes) ≡ parameters 0 (take left sizes) ++ (left, z) ∷ [] =
    ap (parameters 0) t ∙ parameters_append 0 (take left sizes) z ∙ ap (λ (k : ℕ). parameters 0 (take left sizes) ++ (k, z) ∷ []) (omega (arith, n)) in
    ap (ending (parameters 0 (take left sizes))) m
    ∙ ap (λ w. let y : State = record s { world = w } in y) (sym (end_append (parameters 0 (take left sizes)) ((left, z) ∷ []) s.world))
    ∙ ap (λ l. ending l s) (sym p)
