-- The list of all locals, and the part of it that is the running function's.
use Rattle.std.proofs.Common.{◌≡◌, ℕ, zero, suc, ◌+◌, ◌-◌, ◌<◌, ◌≤◌, true, false, List, [], ◌∷◌, ◌++◌, length, take, drop, get_or, set, replicate, Option, Some, None, refl, sym, ap, subst, ◌∙◌, arith, append-nil}
use Rattle.std.specs.Prelude.{nat_le, if◌then◌else◌}
use Rattle.std.proofs.lemmas.List.{take_all, drop_more, drop_all, length-drop, length-append, length-set, drop-append-le, drop-set-add, take-append-le, take-set-le}
use Rattle.c_core.specs.declared.values.BlockKind.TheVariants as kind
use Rattle.c_core.specs.declared.values.End.{End}
use Rattle.c_core.specs.declared.values.End.TheVariants.{Spent, StackFull}
use Rattle.c_core.specs.Blocks.{Blocks, placed}
use Rattle.range_heap.specs.Blocks.{rounded}
use Rattle.c_meaning.specs.World.{State, Acted, Gives, Stops, set_local, with_local}
use Rattle.machine_frames.specs.Views.{state_of, grants_from}
use Rattle.machine_frames.specs.declared.state.Rest.{Rest}
use Rattle.machine_steps.specs.Steps.{Made, Makes, Ends, made_by, made_paid, made_room, made_local, made_locals, then_made}
use Rattle.machine_state.specs.State.{AreLocals}
use Rattle.machine_objects.specs.Made.{made_of}

abbrev pub Locals : Type 0
Locals = List (Option ℕ)

-- nothing is missing
pub pad_none : (xs : Locals) (at n : ℕ) → at < n → n ≡ length xs → xs ≡ xs ++ replicate (at + 1 - n) None
pad_none xs at n h e =
    let z : at + 1 - n ≡ 0 = omega (arith, h) in
    sym (append-nil xs) ∙ ap (λ k. xs ++ replicate k None) (sym z)

pub pad_some : (xs : Locals) (at n : ℕ) → n ≤ at → n ≡ length xs → take (at + 1) xs ++ replicate (at + 1 - n) None ≡ xs ++ replicate (at + 1 - n) None
pad_some xs at n h e = ap (λ l. l ++ replicate (at + 1 - n) None) (take_all (at + 1) xs (omega (arith, h, e)))

pub ruleset pads = (pad_none, pad_some)

abbrev pub padded : Locals → ℕ → Locals
padded xs at = xs ++ replicate (at + 1 - length xs) None

pub padded_as : (xs ys : Locals) (at n : ℕ) → ys ≡ xs ++ replicate (at + 1 - n) None → n ≡ length xs → ys ≡ padded xs at
padded_as xs ys at n e h = e ∙ ap (λ (k : ℕ). xs ++ replicate (at + 1 - k) None) h

pub set_there : (xs : Locals) (base x n : ℕ) → base ≤ length xs → drop base (set (padded xs (base + x)) (base + x) (Some n)) ≡ set_local (drop base xs) x n
set_there xs base x n h =
    let l = length-drop base xs in
    let k : base + x + 1 - length xs ≡ suc x - length (drop base xs) = omega (arith, h, l) in
    drop-set-add base (padded xs (base + x)) x (Some n)
    ∙ ap (λ l. set l x (Some n)) (drop-append-le base xs (replicate (base + x + 1 - length xs) None) h ∙ ap (λ m. drop base xs ++ replicate m None) k)

pub set_saved : (xs : Locals) (base x n : ℕ) → base ≤ length xs → take base (set (padded xs (base + x)) (base + x) (Some n)) ≡ take base xs
set_saved xs base x n h = take-set-le base (padded xs (base + x)) (base + x) (Some n) (omega arith) ∙ take-append-le base xs (replicate (base + x + 1 - length xs) None) h

pub set_long : (xs : Locals) (base at n : ℕ) → base ≤ length xs → base ≤ length (set (padded xs at) at (Some n))
set_long xs base at n h =
    let a = length-set (padded xs at) at (Some n) in
    let b = length-append xs (replicate (at + 1 - length xs) None) in
    omega (arith, a, b, h)

given_append : (count : ℕ) (xs ys : Locals) → AreLocals count xs → AreLocals count ys → AreLocals count (xs ++ ys)
given_append count [] ys a b = b
given_append count (x ∷ xs) ys a b = (a.0, given_append count xs ys a.1 b)

given_none : (count k : ℕ) → AreLocals count (replicate k None)
given_none count zero = tt
given_none count (suc k) = (tt, given_none count k)

given_at : (count : ℕ) (xs : Locals) (at n : ℕ) → n < count → AreLocals count xs → AreLocals count (set xs at (Some n))
given_at count [] at n h a = tt
given_at count (x ∷ xs) zero n h a = (h, a.1)
given_at count (x ∷ xs) (suc at) n h a = (a.0, given_at count xs at n h a.1)

pub set_given : (xs : Locals) (at n count : ℕ) → n < count → AreLocals count xs → AreLocals count (set (padded xs at) at (Some n))
set_given xs at n count h a = given_at count (padded xs at) at n h (given_append count xs (replicate (at + 1 - length xs) None) a (given_none count (at + 1 - length xs)))

-- ---- states

-- a state with these blocks and locals
abbrev pub seen : Blocks → Locals → Rest → State
seen bs locals r = record {
  ticks = r.ticks;
  world = record {
    blocks = bs;
    grants = grants_from 0 r.log.items;
    locals = locals;
    input = drop r.read r.input.items;
    output = r.output.items;
    room = r.room;
    asked = length r.log.items;
  };
}

-- a local was made
pub local_state : (bs cs : Blocks) (r0 r now : Rest) (x size n : ℕ) → r ≡ r0 → now ≡ record r { locals = now.locals } → cs ≡ placed bs kind.Auto size → n ≡ length bs
    → drop r.base now.locals.items ≡ set_local (drop r.base r.locals.items) x n
    → state_of cs now ≡ record (state_of bs r0) { world = with_local x size (state_of bs r0).world }
local_state bs cs r0 r now x size n e is blocks number locals =
    subst (λ (q : Rest). state_of cs now ≡ record (state_of bs q) { world = with_local x size (state_of bs q).world }) e
    (ap (state_of cs) is
    ∙ ap (λ (l : Locals). seen cs l r) (locals ∙ ap (λ (k : ℕ). set_local (drop r.base r.locals.items) x k) number)
    ∙ ap (λ (b : Blocks). seen b (set_local (drop r.base r.locals.items) x (length bs)) r) blocks)

-- ---- ticks and room

paid_none : (t : ℕ) (f : State → Made) (s : State) → t ≡ 0 → Ends Spent s ≡ made_paid t f s
paid_none zero f s e = refl
paid_none (suc t) f s e = absurd (omega (arith, e))

paid_some : (t u : ℕ) (f : State → Made) (s : State) → t ≡ suc u → made_paid t f s ≡ f (record s { ticks = u })
paid_some zero u f s e = absurd (omega (arith, e))
paid_some (suc t) u f s e = let same : t ≡ u = omega (arith, e) in ap (λ (k : ℕ). f (record s { ticks = k })) same

pub made_spent : (bs : Blocks) (r : Rest) (x size : ℕ) → r.ticks ≡ 0 → made_of (Some Spent) (state_of bs r) ≡ made_local x size (state_of bs r)
made_spent bs r x size e = paid_none r.ticks (made_room x size) (state_of bs r) e

-- the state behind what was taken, or not
abbrev pub room_left : Rest → (size : ℕ) → Rest
room_left r size = if nat_le (rounded size) r.room then record r { room = r.room - rounded size } else r

pub made_full : (bs : Blocks) (r now : Rest) (x size u : ℕ) → r.ticks ≡ suc u → nat_le (rounded size) r.room ≡ false → now ≡ room_left (record r { ticks = u }) size
    → made_of (Some StackFull) (state_of bs now) ≡ made_local x size (state_of bs r)
made_full bs r now x size u e f is =
    let q : Rest = record r { ticks = u } in
    ap (λ n. Ends StackFull (state_of bs n)) (is ∙ ap (λ b. let n : Rest = if b then record q { room = q.room - rounded size } else q in n) f)
    ∙ sym (paid_some r.ticks u (made_room x size) (state_of bs r) e
    ∙ ap (λ b. then_made (made_by (let a : Acted (Unit {0}) = if b then Gives tt (record ((state_of bs q).world) { room = q.room - rounded size }) else Stops StackFull in a) (state_of bs q)) (λ s. Makes (record s { world = with_local x size s.world }))) f)

pub made_whole : (bs : Blocks) (r now : Rest) (s : State) (x size u : ℕ) → r.ticks ≡ suc u → nat_le (rounded size) r.room ≡ true → now ≡ room_left (record r { ticks = u }) size
    → s ≡ record (state_of bs now) { world = with_local x size (state_of bs now).world }
    → made_of None s ≡ made_local x size (state_of bs r)
made_whole bs r now s x size u e f is h =
    let q : Rest = record r { ticks = u } in
    let took : Rest = record q { room = q.room - rounded size } in
    let here : now ≡ took = is ∙ ap (λ b. let n : Rest = if b then took else q in n) f in
    ap Makes (h ∙ ap (λ (n : Rest). let z : State = record (state_of bs n) { world = with_local x size (state_of bs n).world } in z) here)
    ∙ sym (paid_some r.ticks u (made_room x size) (state_of bs r) e
    ∙ ap (λ b. then_made (made_by (let a : Acted (Unit {0}) = if b then Gives tt (record ((state_of bs q).world) { room = q.room - rounded size }) else Stops StackFull in a) (state_of bs q)) (λ s. Makes (record s { world = with_local x size s.world }))) f)

-- ---- one after another

at_next : (objects : List (ℕ × ℕ)) (i : ℕ) (o : ℕ × ℕ) → i < length objects → o ≡ get_or objects i o → drop i objects ≡ o ∷ drop (i + 1) objects
at_next objects i o h e = drop_more objects i o h ∙ ap (λ (p : ℕ × ℕ). p ∷ drop (i + 1) objects) (sym e)

pub locals_step : (objects : List (ℕ × ℕ)) (i : ℕ) (o : ℕ × ℕ) (s now : State) → i < length objects → o ≡ get_or objects i o → made_of None now ≡ made_local o.0 o.1 s
    → made_locals (drop (i + 1) objects) now ≡ made_locals (drop i objects) s
locals_step objects i o s now h e m =
    ap (λ x. then_made x (made_locals (drop (i + 1) objects))) m
    ∙ ap (λ l. made_locals l s) (sym (at_next objects i o h e))

pub locals_over : (objects : List (ℕ × ℕ)) (i : ℕ) (o : ℕ × ℕ) (s now : State) (end : End) → i < length objects → o ≡ get_or objects i o → made_of (Some end) now ≡ made_local o.0 o.1 s
    → made_of (Some end) now ≡ made_locals (drop i objects) s
locals_over objects i o s now end h e m =
    ap (λ x. then_made x (made_locals (drop (i + 1) objects))) m
    ∙ ap (λ l. made_locals l s) (sym (at_next objects i o h e))

pub locals_end : (objects : List (ℕ × ℕ)) (i : ℕ) (s : State) → length objects ≤ i → made_of None s ≡ made_locals (drop i objects) s
locals_end objects i s h = ap (λ l. made_locals l s) (sym (drop_all i objects h))
