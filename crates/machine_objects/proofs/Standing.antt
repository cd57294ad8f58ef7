-- What holds where an object was placed.
use Rattle.std.proofs.Common.{◌≡◌, ℕ, suc, ◌+◌, ◌<◌, ◌≤◌, ◌^◌, true, false, List, [], ◌∷◌, ◌++◌, length, sym, ap, subst, ◌∙◌, arith}
use Rattle.c_core.specs.declared.values.BlockKind.{BlockKind}
use Rattle.c_core.specs.Blocks.{Blocks, placed}
use Rattle.c_meaning.specs.World.{is_heap}
use Rattle.block_memory.specs.Rooms.{room, IsFree}
use Rattle.machine_state.specs.declared.ledger.Spot.{Spot}
use Rattle.machine_state.specs.declared.ledger.Ledger.{Ledger}
use Rattle.machine_state.specs.Stands.{Stand, stands_of, end_of, Stands}
use Rattle.machine_state.specs.State.{IsSound, AreLocals, spots_of}
use Rattle.machine_state.proofs.Blocks.{stands_long}
use Rattle.machine_state.proofs.Free.{object_free, nothing_free}
use Rattle.machine_state.proofs.Objects.{object_made, nothing_made}
use Rattle.machine_state.proofs.Sound.{sound_placed, locals_more}
use Rattle.machine_objects.specs.Made.{IsPlaced}

module _ (bs cs : Blocks) (given given_now starts starts_now : List ℕ) (top top_now : ℕ) (l now : Ledger) (s : IsSound bs starts top l) (k : BlockKind) (size z at : ℕ) (other : is_heap k ≡ false) (small : size < 2 ^ 32)
    (same : z ≡ size) (blocks : cs ≡ placed bs k z) (sizes : given_now ≡ given ++ z ∷ []) (start : starts_now ≡ starts ++ at ∷ []) (top_is : top_now ≡ top) where
  abbrev xs : List Stand
  xs = stands_of bs starts

  placed_by : now.ranges ≡ l.ranges → now.count ≡ l.count + 1 → now.fallback ≡ l.fallback → now.rest ≡ l.rest
      → Stands top l.ranges (spots_of now.region.items) l.rest.log.items (xs ++ record { kind = k; size = size; live = true; at = at } ∷ []) → IsPlaced k size bs given l cs given_now starts_now top_now now
  placed_by ranges count fallback rest st =
      let here : cs ≡ placed bs k size = blocks ∙ ap (λ n. placed bs k n) same in
      let st2 : Stands top now.ranges (spots_of now.region.items) now.rest.log.items (xs ++ record { kind = k; size = size; live = true; at = at } ∷ []) =
      subst (λ r. Stands top r (spots_of now.region.items) now.rest.log.items (xs ++ record { kind = k; size = size; live = true; at = at } ∷ [])) (sym ranges)
      (subst (λ r. Stands top l.ranges (spots_of now.region.items) r.log.items (xs ++ record { kind = k; size = size; live = true; at = at } ∷ [])) (sym rest) st) in
      let locals : AreLocals (suc (length bs)) now.rest.locals.items = subst (λ r. AreLocals (suc (length bs)) r.locals.items) (sym rest) (locals_more (length bs) (suc (length bs)) l.rest.locals.items (omega arith) s.locals) in
      let base : now.rest.base ≤ length now.rest.locals.items = subst (λ r. r.base ≤ length r.locals.items) (sym rest) s.base in
      let room_is : now.rest.room ≤ 4194304 = subst (λ r. r.room ≤ 4194304) (sym rest) s.room in
      let read : now.rest.read ≤ length now.rest.input.items = subst (λ r. r.read ≤ length r.input.items) (sym rest) s.read in
      record {
        blocks = here;
        sizes = sizes ∙ ap (λ n. given ++ n ∷ []) same;
        sound = sound_placed bs cs starts starts_now top top_now l now s k size at here start top_is (omega (arith, count)) locals base room_is read st2;
        rest = rest;
        ranges = ranges;
        fallback = fallback;
      }

  -- an object without addresses
  pub placed_nothing : room k size ≡ 0 → now ≡ record l { count = l.count + 1 } → IsPlaced k size bs given l cs given_now starts_now top_now now
  placed_nothing none is =
      placed_by (ap (λ n. n.ranges) is) (ap (λ n. n.count) is) (ap (λ n. n.fallback) is) (ap (λ n. n.rest) is)
      (subst (λ n. Stands top l.ranges (spots_of n.region.items) l.rest.log.items (xs ++ record { kind = k; size = size; live = true; at = at } ∷ [])) (sym is)
      (nothing_made top l.ranges (spots_of l.region.items) l.rest.log.items xs s.stands k size at other small none))

  -- one behind the topmost object that lives
  pub placed_behind : (spots : List Spot) (end : ℕ) → Stands top l.ranges spots l.rest.log.items xs → at ≡ end_of spots → end ≡ at + room k size → end ≤ 16777216
      → spots_of now.region.items ≡ record { number = l.count; end = end } ∷ spots → now ≡ record l { count = l.count + 1; region = now.region }
      → IsPlaced k size bs given l cs given_now starts_now top_now now
  placed_behind spots end S begin is low region now_is =
      let number : length xs ≡ l.count = stands_long bs starts s.long ∙ sym s.count in
      let made : Stands top l.ranges (record { number = length xs; end = end } ∷ spots) l.rest.log.items (xs ++ record { kind = k; size = size; live = true; at = end_of spots } ∷ []) =
      object_made top l.ranges spots l.rest.log.items xs S k size end other small (omega (arith, is, begin)) low in
      placed_by (ap (λ n. n.ranges) now_is) (ap (λ n. n.count) now_is) (ap (λ n. n.fallback) now_is) (ap (λ n. n.rest) now_is)
      (subst (λ (r : List Spot). Stands top l.ranges r l.rest.log.items (xs ++ record { kind = k; size = size; live = true; at = at } ∷ [])) (sym region)
      (subst (λ (n : ℕ). Stands top l.ranges (record { number = n; end = end } ∷ spots) l.rest.log.items (xs ++ record { kind = k; size = size; live = true; at = at } ∷ [])) number
      (subst (λ (n : ℕ). Stands top l.ranges (record { number = length xs; end = end } ∷ spots) l.rest.log.items (xs ++ record { kind = k; size = size; live = true; at = n } ∷ [])) (sym begin) made)))

-- the addresses of the object are free
pub behind_free : (bs : Blocks) (starts : List ℕ) (top : ℕ) (l : Ledger) (k : BlockKind) (spots : List Spot) (at z size taken : ℕ) → Stands top l.ranges spots l.rest.log.items (stands_of bs starts)
    → at ≡ end_of spots → z ≡ size → taken ≡ room k size → at + taken ≤ 16777216 → IsFree bs starts at (room k z)
behind_free bs starts top l k spots at z size taken S begin same is low =
    subst (λ n. IsFree bs starts at (room k n)) (sym same)
    (object_free top l.ranges spots l.rest.log.items bs starts S at (room k size) (omega (arith, begin)) (omega (arith, is, low)))

pub none_free : (bs : Blocks) (starts : List ℕ) (top : ℕ) (l : Ledger) (k : BlockKind) (z size at : ℕ) → IsSound bs starts top l → z ≡ size → room k size ≡ 0 → IsFree bs starts at (room k z)
none_free bs starts top l k z size at s same none =
    subst (λ n. IsFree bs starts at n) (sym (ap (room k) same ∙ none)) (nothing_free top l.ranges (spots_of l.region.items) l.rest.log.items bs starts s.stands at)
