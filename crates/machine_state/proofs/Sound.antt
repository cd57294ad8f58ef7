-- What holds of the memory and what is kept beside it, after each change.
use Rattle.std.proofs.Common.{◌≡◌, ◌⊎◌, ⊎_elim, inl, inr, ℕ, zero, suc, ◌+◌, ◌*◌, ◌<◌, ◌≤◌, ◌^◌, Bool, true, false, List, [], ◌∷◌, ◌++◌, length, take, drop, Option, Some, None, refl, sym, ap, subst, ◌∙◌, arith, append_assoc, append-nil}
use Rattle.std.specs.Prelude.{slice_get, slice_index}
use Rattle.std.proofs.lemmas.List.{length-map}
use Rattle.c_core.specs.declared.values.BlockKind.{BlockKind}
use Rattle.c_core.specs.declared.values.BlockKind.TheVariants as kind
use Rattle.c_core.specs.Blocks.{Block, Blocks, placed, killed}
use Rattle.c_meaning.specs.declared.log.LogEntry.{LogEntry}
use Rattle.c_meaning.specs.World.{is_heap}
use Rattle.c_meaning.specs.Rules.{size_in}
use Rattle.block_memory.specs.Given.{IsGiven, IsGivenValue}
use Rattle.block_memory.specs.Rooms.{room}
use Rattle.block_memory.specs.Shape.{sizes_of}
use Rattle.machine_values.specs.Small.{AreSmall}
use Rattle.c_core.specs.declared.values.Pointer.{Pointer}
use Rattle.c_core.specs.declared.values.Pointer.TheVariants.{Null, Object, Function}
use Rattle.c_core.specs.declared.values.Value.{Value}
use Rattle.c_core.specs.declared.values.Value.TheVariants as value
use Rattle.range_heap.specs.Seen.{AllHeaps}
use Rattle.machine_frames.specs.Held.{AreGivenLocals, AreGivenValues}
use Rattle.machine_frames.specs.declared.state.Rest.{Rest}
use Rattle.machine_state.specs.declared.ledger.Spot.{Spot}
use Rattle.machine_state.specs.declared.ledger.Ledger.{Ledger}
use Rattle.machine_state.specs.Stands.{Stand, stand_of, stands_of, ended_at, end_of, Stands}
use Rattle.machine_state.specs.State.{IsSound, IsLocal, AreLocals, AreMore, SameRanges, Keeps, spots_of}
use Rattle.machine_state.proofs.Lists.{length_more, none_is, some_is}
use Rattle.machine_state.proofs.Blocks.{Alike, stands_long, stands_at, stands_placed, stands_killed, length_killed}
use Rattle.machine_state.proofs.Objects.{object_made, nothing_made, block_ended}

local_more : (count more : ℕ) (x : Option ℕ) → count ≤ more → IsLocal count x → IsLocal more x
local_more count more None h l = tt
local_more count more (Some n) h l = omega (arith, h, l)

pub locals_more : (count more : ℕ) (xs : List (Option ℕ)) → count ≤ more → AreLocals count xs → AreLocals more xs
locals_more count more [] h a = tt
locals_more count more (x ∷ xs) h a = (local_more count more x h a.0, locals_more count more xs h a.1)

-- ---- other ledgers

-- what a step may change but for locals, room and what is read
pub sound_rest : (bs : Blocks) (starts : List ℕ) (top : ℕ) (l now : Ledger) → IsSound bs starts top l → now.ranges ≡ l.ranges → now.region.items ≡ l.region.items → now.count ≡ l.count
    → now.rest.log.items ≡ l.rest.log.items → AreLocals (length bs) now.rest.locals.items → now.rest.base ≤ length now.rest.locals.items → now.rest.room ≤ 4194304 → now.rest.read ≤ length now.rest.input.items
    → IsSound bs starts top now
sound_rest bs starts top l now s ranges region count log locals base room read = record {
  stands = subst (λ (a : AllHeaps). Stands top a (spots_of now.region.items) now.rest.log.items (stands_of bs starts)) (sym ranges)
      (subst (λ (r : List Spot). Stands top l.ranges (spots_of r) now.rest.log.items (stands_of bs starts)) (sym region)
      (subst (λ (g : List LogEntry). Stands top l.ranges (spots_of l.region.items) g (stands_of bs starts)) (sym log) s.stands));
  long = s.long;
  count = count ∙ s.count;
  room = room;
  locals = locals;
  base = base;
  read = read;
}

-- ---- cells are written

pub sound_alike : (bs cs : Blocks) (starts starts_now : List ℕ) (top top_now : ℕ) (l : Ledger) → IsSound bs starts top l → Alike bs cs → starts_now ≡ starts → top_now ≡ top → IsSound cs starts_now top_now l
sound_alike bs cs starts starts_now top top_now l s a e f = record {
  stands = subst (λ (t : ℕ). Stands t l.ranges (spots_of l.region.items) l.rest.log.items (stands_of cs starts_now)) (sym f)
      (subst (λ (x : List ℕ). Stands top l.ranges (spots_of l.region.items) l.rest.log.items (stands_of cs x)) (sym e)
      (subst (λ (x : List Stand). Stands top l.ranges (spots_of l.region.items) l.rest.log.items x) (sym (a.1 starts)) s.stands));
  long = ap length e ∙ s.long ∙ sym a.0;
  count = s.count ∙ sym a.0;
  room = s.room;
  locals = subst (λ (n : ℕ). AreLocals n l.rest.locals.items) (sym a.0) s.locals;
  base = s.base;
  read = s.read;
}

-- ---- a block is placed

module _ (bs cs : Blocks) (starts starts_now : List ℕ) (top top_now : ℕ) (l now : Ledger) (s : IsSound bs starts top l) (k : BlockKind) (size at : ℕ)
    (blocks : cs ≡ placed bs k size) (start : starts_now ≡ starts ++ at ∷ []) (top_is : top_now ≡ top) (count : now.count ≡ suc l.count)
    (locals : AreLocals (suc (length bs)) now.rest.locals.items) (base : now.rest.base ≤ length now.rest.locals.items) (room_is : now.rest.room ≤ 4194304) (read : now.rest.read ≤ length now.rest.input.items) where
  abbrev x : Stand
  x = record { kind = k; size = size; live = true; at = at }

  long_now : length cs ≡ suc (length bs)
  long_now = ap length blocks ∙ length_more bs _

  pub sound_placed : Stands top now.ranges (spots_of now.region.items) now.rest.log.items (stands_of bs starts ++ x ∷ []) → IsSound cs starts_now top_now now
  sound_placed st = record {
    stands = subst (λ (t : ℕ). Stands t now.ranges (spots_of now.region.items) now.rest.log.items (stands_of cs starts_now)) (sym top_is)
        (subst (λ (y : List ℕ). Stands top now.ranges (spots_of now.region.items) now.rest.log.items (stands_of cs y)) (sym start)
        (subst (λ (y : Blocks). Stands top now.ranges (spots_of now.region.items) now.rest.log.items (stands_of y (starts ++ at ∷ []))) (sym blocks)
        (subst (λ (y : List Stand). Stands top now.ranges (spots_of now.region.items) now.rest.log.items y) (sym (stands_placed bs starts k size at s.long)) st)));
    long = let a : length starts_now ≡ suc (length starts) = ap length start ∙ length_more starts at in let b = s.long in let c = long_now in omega (arith, a, b, c);
    count = let a = s.count in let c = long_now in omega (arith, count, a, c);
    room = room_is;
    locals = subst (λ (n : ℕ). AreLocals n now.rest.locals.items) (sym long_now) locals;
    base = base;
    read = read;
  }

-- ---- a block ends

pub sound_killed : (bs cs : Blocks) (starts starts_now : List ℕ) (top top_now : ℕ) (l : Ledger) → IsSound bs starts top l → (n : ℕ) → cs ≡ killed bs n → starts_now ≡ starts → top_now ≡ top → IsSound cs starts_now top_now l
sound_killed bs cs starts starts_now top top_now l s n blocks e f =
    let long : length cs ≡ length bs = ap length blocks ∙ length_killed bs n in
    record {
      stands = subst (λ (t : ℕ). Stands t l.ranges (spots_of l.region.items) l.rest.log.items (stands_of cs starts_now)) (sym f)
          (subst (λ (x : List ℕ). Stands top l.ranges (spots_of l.region.items) l.rest.log.items (stands_of cs x)) (sym e)
          (subst (λ (x : Blocks). Stands top l.ranges (spots_of l.region.items) l.rest.log.items (stands_of x starts)) (sym blocks)
          (subst (λ (x : List Stand). Stands top l.ranges (spots_of l.region.items) l.rest.log.items x) (sym (stands_killed bs starts n)) (block_ended top l.ranges (spots_of l.region.items) l.rest.log.items (stands_of bs starts) s.stands n))));
      long = ap length e ∙ s.long ∙ sym long;
      count = s.count ∙ sym long;
      room = s.room;
      locals = subst (λ (m : ℕ). AreLocals m l.rest.locals.items) (sym long) s.locals;
      base = s.base;
      read = s.read;
    }

-- ---- what is small, and what is given

size_or : (o : Option Block) → ((b : Block) → o ≡ Some b → b.size < 2 ^ 32) → size_in o < 2 ^ 32
size_or None h = omega arith
size_or (Some b) h = h b refl

start_there : (starts : List ℕ) (n : ℕ) → n < length starts → (s : ℕ) × (slice_get starts n ≡ Some s)
start_there [] n h = absurd (omega (arith, h))
start_there (s ∷ starts) zero h = (s, refl)
start_there (s ∷ starts) (suc n) h = start_there starts n (omega (arith, h))

block_within : (bs : Blocks) (n : ℕ) (b : Block) → slice_get bs n ≡ Some b → n < length bs
block_within [] n b e = none_is b e
block_within (c ∷ bs) zero b e = omega arith
block_within (c ∷ bs) (suc n) b e = let h = block_within bs n b e in omega (arith, h)

pub sound_small : (bs : Blocks) (starts : List ℕ) (top : ℕ) (l : Ledger) → IsSound bs starts top l → AreSmall bs
sound_small bs starts top l s n = size_or (slice_get bs n) (λ b e.
    let w = block_within bs n b e in
    let long = s.long in
    let at = start_there starts n (omega (arith, w, long)) in
    s.stands.small n (stand_of b at.0) (stands_at bs starts n b at.0 e at.1))

index_more : (xs more : List ℕ) (n : ℕ) → n < length xs → (n < length (xs ++ more)) × (slice_index (xs ++ more) n ≡ slice_index xs n)
index_more [] more n h = absurd (omega (arith, h))
index_more (x ∷ xs) more zero h = (omega arith, refl)
index_more (x ∷ xs) more (suc n) h = let i = index_more xs more n (omega (arith, h)) in (omega (arith, i.0), i.1)

-- what was given stays so when more blocks are made
pub given_more : (old new : List ℕ) → AreMore old new → (v : Value) → IsGivenValue old v → IsGivenValue new v
given_more old new m (value.Int n) g = tt
given_more old new m (value.Ptr Null) g = tt
given_more old new m (value.Ptr (Function f)) g = tt
given_more old new m (value.Ptr (Object n i)) g =
    let k = index_more old m.0 n g.0 in
    let b = g.1 in
    subst (λ (sizes : List ℕ). IsGiven sizes (Object n i)) (sym m.1) (k.0, omega (arith, b, k.1))

-- the blocks of locals are given
pub given_locals : (bs : Blocks) (sizes : List ℕ) (xs : List (Option ℕ)) → sizes ≡ sizes_of bs → AreLocals (length bs) xs → AreGivenLocals sizes xs
given_locals bs sizes [] e a = tt
given_locals bs sizes (None ∷ xs) e a = given_locals bs sizes xs e a.1
given_locals bs sizes (Some n ∷ xs) e a =
    let long : length sizes ≡ length bs = ap (λ (l : List ℕ). length l) e ∙ length-map bs (λ (b : Block). b.size) in
    let h = a.0 in
    ((omega (arith, h, long), omega arith), given_locals bs sizes xs e a.1)

-- values that are given stay so when more blocks are made
pub given_values : (old new : List ℕ) (vs : List Value) → AreMore old new → AreGivenValues old vs → AreGivenValues new vs
given_values old new [] m a = tt
given_values old new (v ∷ vs) m a = (given_more old new m v a.0, given_values old new vs m a.1)

-- ---- what is kept

pub more_none : (sizes now : List ℕ) → now ≡ sizes → AreMore sizes now
more_none sizes now e = ([], e ∙ sym (append-nil sizes))

pub more_one : (sizes now : List ℕ) (size : ℕ) → now ≡ sizes ++ size ∷ [] → AreMore sizes now
more_one sizes now size e = (size ∷ [], e)

pub more_then : (a b c : List ℕ) → AreMore a b → AreMore b c → AreMore a c
more_then a b c x y = (x.0 ++ y.0, y.1 ∙ ap (λ l. l ++ y.0) x.1 ∙ append_assoc a x.0 y.0)

pub keeps_none : (sizes now : List ℕ) (l : Ledger) → now ≡ sizes → Keeps sizes l now l
keeps_none sizes now l e = record { sizes = more_none sizes now e; base = refl; saved = refl; ranges = (refl, refl); fallback = refl }

pub keeps_then : (a b c : List ℕ) (l m n : Ledger) → Keeps a l b m → Keeps b m c n → Keeps a l c n
keeps_then a b c l m n x y = record {
  sizes = more_then a b c x.sizes y.sizes;
  base = y.base ∙ x.base;
  saved = y.saved ∙ x.saved;
  ranges = (y.ranges.0 ∙ x.ranges.0, y.ranges.1 ∙ x.ranges.1);
  fallback = y.fallback ∙ x.fallback;
}
