-- What taking and giving back do to a list of holes.
use Rattle.std.proofs.Common.{◌≡◌, ⊎_elim, inl, inr, ℕ, ◌+◌, ◌-◌, ◌<◌, ◌≤◌, List, [], ◌∷◌, ◌++◌, arith}
use Rattle.hole_list.specs.Shape.{Apart}
use Rattle.hole_list.specs.declared.gap.Hole.{Hole}
use Rattle.hole_list.proofs.Gaps.{Inside, Free, next, apart_weaker, apart_front, apart_rest, apart_join, free_bounds, free_below, free_append, free_right, in_middle, Loses, Gains}

abbrev pub hole : ℕ → ℕ → Hole
hole start len = record { start = start; len = len }

-- the hole between xs and ys
module _ (end : ℕ) (xs ys : List Hole) (h : Hole) (a : Apart 0 end (xs ++ h ∷ ys)) where
  front : Apart 0 end xs
  front = apart_front 0 end xs (h ∷ ys) a

  rest : Apart (next 0 xs) end (h ∷ ys)
  rest = apart_rest 0 end xs (h ∷ ys) a

  before : (k : ℕ) → Free xs k → k + 1 < h.start
  before k f = omega (arith, free_below 0 end xs k front f, rest.0)

  behind : (k : ℕ) → Free ys k → h.start + h.len + 1 ≤ k
  behind k f = let b = free_bounds (h.start + h.len + 1) end ys k rest.3 f in b.0

  pub served_whole : (n : ℕ) → n ≡ h.len → Apart 0 end (xs ++ ys) × Loses (xs ++ h ∷ ys) (xs ++ ys) h.start n
  served_whole n e = (
    apart_join 0 end xs ys front (apart_weaker (h.start + h.len + 1) (next 0 xs) end ys (omega (arith, rest.0)) rest.3),
    record {
      inside = λ k le lt f. ⊎_elim (λ g. let b = before k g in absurd (omega (arith, b, le))) (λ g. let b = behind k g in absurd (omega (arith, b, lt, e))) (free_append xs ys k f);
      kept = λ k f. in_middle xs [] (h ∷ []) ys k (λ g. inr g) f;
      only = λ k o f. in_middle xs (h ∷ []) [] ys k (λ g. ⊎_elim (λ (i : Inside h k). absurd (⊎_elim {C = ⊥} (λ (p : k < h.start). omega (arith, p, i.0)) (λ (p : h.start + n ≤ k). omega (arith, p, i.1, e)) o)) (λ q. q) g) f;
    },
  )

  pub served_part : (n : ℕ) → 0 < n → n < h.len → Apart 0 end (xs ++ hole (h.start + n) (h.len - n) ∷ ys) × Loses (xs ++ h ∷ ys) (xs ++ hole (h.start + n) (h.len - n) ∷ ys) h.start n
  served_part n pos lt = (
    apart_join 0 end xs (hole (h.start + n) (h.len - n) ∷ ys) front (omega (arith, rest.0), omega (arith, lt), omega (arith, rest.2, lt), apart_weaker (h.start + h.len + 1) ((h.start + n) + (h.len - n) + 1) end ys (omega (arith, lt)) rest.3),
    record {
      inside = λ k le l f. ⊎_elim
          (λ g. let b = before k g in absurd (omega (arith, b, le)))
          (λ g. ⊎_elim (λ (i : Inside (hole (h.start + n) (h.len - n)) k). absurd (omega (arith, i.0, l))) (λ q. let b = behind k q in absurd (omega (arith, b, l, lt))) g)
          (free_append xs (hole (h.start + n) (h.len - n) ∷ ys) k f);
      kept = λ k f. in_middle xs (hole (h.start + n) (h.len - n) ∷ []) (h ∷ []) ys k (λ g. ⊎_elim (λ (i : Inside (hole (h.start + n) (h.len - n)) k). inl (omega (arith, i.0), omega (arith, i.1, lt))) (λ q. inr q) g) f;
      only = λ k o f. in_middle xs (h ∷ []) (hole (h.start + n) (h.len - n) ∷ []) ys k (λ g. ⊎_elim (λ (i : Inside h k). ⊎_elim (λ (p : k < h.start). absurd (omega (arith, p, i.0))) (λ (p : h.start + n ≤ k). inl (p, omega (arith, i.1, lt))) o) (λ q. inr q) g) f;
    },
  )

  -- the freed units touch the hole from above
  pub grown_up : (s n : ℕ) → h.start + h.len ≡ s → s + n ≤ end → Apart (s + n + 1) end ys → Apart 0 end (xs ++ hole h.start (h.len + n) ∷ ys) × Gains (xs ++ h ∷ ys) (xs ++ hole h.start (h.len + n) ∷ ys) s n
  grown_up s n e within far = (
    apart_join 0 end xs (hole h.start (h.len + n) ∷ ys) front (rest.0, omega (arith, rest.1), omega (arith, e, within), apart_weaker (s + n + 1) (h.start + (h.len + n) + 1) end ys (omega (arith, e)) far),
    record {
      inside = λ k le lt. free_right xs (hole h.start (h.len + n) ∷ ys) k (inl (omega (arith, e, le), omega (arith, e, lt)));
      kept = λ k f. in_middle xs (h ∷ []) (hole h.start (h.len + n) ∷ []) ys k (λ g. ⊎_elim (λ (i : Inside h k). inl (i.0, omega (arith, i.1))) (λ q. inr q) g) f;
      only = λ k o f. in_middle xs (hole h.start (h.len + n) ∷ []) (h ∷ []) ys k (λ g. ⊎_elim (λ (i : Inside (hole h.start (h.len + n)) k). inl (⊎_elim (λ (p : k < s). (i.0, omega (arith, p, e))) (λ (p : s + n ≤ k). absurd (omega (arith, p, i.1, e))) o)) (λ q. inr q) g) f;
    },
  )

  -- they touch it from below
  pub grown_down : (s n : ℕ) → s + n ≡ h.start → 0 < n → next 0 xs ≤ s → Apart 0 end (xs ++ hole s (n + h.len) ∷ ys) × Gains (xs ++ h ∷ ys) (xs ++ hole s (n + h.len) ∷ ys) s n
  grown_down s n e pos far = (
    apart_join 0 end xs (hole s (n + h.len) ∷ ys) front (far, omega (arith, pos), omega (arith, rest.2, e), apart_weaker (h.start + h.len + 1) (s + (n + h.len) + 1) end ys (omega (arith, e)) rest.3),
    record {
      inside = λ k le lt. free_right xs (hole s (n + h.len) ∷ ys) k (inl (le, omega (arith, lt)));
      kept = λ k f. in_middle xs (h ∷ []) (hole s (n + h.len) ∷ []) ys k (λ g. ⊎_elim (λ (i : Inside h k). inl (omega (arith, i.0, e), omega (arith, i.1, e))) (λ q. inr q) g) f;
      only = λ k o f. in_middle xs (hole s (n + h.len) ∷ []) (h ∷ []) ys k (λ g. ⊎_elim (λ (i : Inside (hole s (n + h.len)) k). inl (⊎_elim (λ (p : k < s). absurd (omega (arith, p, i.0))) (λ (p : s + n ≤ k). (omega (arith, p, e), omega (arith, i.1, e))) o)) (λ q. inr q) g) f;
    },
  )

-- they touch the hole below and the hole above
pub joined : (end : ℕ) (xs ys : List Hole) (h q : Hole) (s n : ℕ) → Apart 0 end (xs ++ h ∷ q ∷ ys) → h.start + h.len ≡ s → q.start ≡ s + n → Apart 0 end (xs ++ hole h.start (h.len + n + q.len) ∷ ys) × Gains (xs ++ h ∷ q ∷ ys) (xs ++ hole h.start (h.len + n + q.len) ∷ ys) s n
joined end xs ys h q s n a e f =
    let r = apart_rest 0 end xs (h ∷ q ∷ ys) a in (
      apart_join 0 end xs (hole h.start (h.len + n + q.len) ∷ ys) (apart_front 0 end xs (h ∷ q ∷ ys) a) (r.0, omega (arith, r.1), omega (arith, e, f, r.3.2), apart_weaker (q.start + q.len + 1) (h.start + (h.len + n + q.len) + 1) end ys (omega (arith, e, f)) r.3.3),
      record {
        inside = λ k le lt. free_right xs (hole h.start (h.len + n + q.len) ∷ ys) k (inl (omega (arith, e, le), omega (arith, e, lt)));
        kept = λ k g. in_middle xs (h ∷ q ∷ []) (hole h.start (h.len + n + q.len) ∷ []) ys k
            (λ m. ⊎_elim (λ (i : Inside h k). inl (i.0, omega (arith, i.1))) (λ m2. ⊎_elim (λ (i : Inside q k). inl (omega (arith, i.0, e, f), omega (arith, i.1, e, f))) (λ z. inr z) m2) m) g;
        only = λ k o g. in_middle xs (hole h.start (h.len + n + q.len) ∷ []) (h ∷ q ∷ []) ys k
            (λ m. ⊎_elim (λ (i : Inside (hole h.start (h.len + n + q.len)) k). ⊎_elim (λ (p : k < s). inl (i.0, omega (arith, p, e))) (λ (p : s + n ≤ k). inr (inl (omega (arith, p, f), omega (arith, i.1, e, f)))) o) (λ z. inr (inr z)) m) g;
      },
    )

-- they touch no hole
pub apart_hole : (end : ℕ) (xs ys : List Hole) (s n : ℕ) → Apart 0 end (xs ++ ys) → 0 < n → s + n ≤ end → next 0 xs ≤ s → Apart (s + n + 1) end ys → Apart 0 end (xs ++ hole s n ∷ ys) × Gains (xs ++ ys) (xs ++ hole s n ∷ ys) s n
apart_hole end xs ys s n a pos within near far = (
  apart_join 0 end xs (hole s n ∷ ys) (apart_front 0 end xs ys a) (near, pos, within, far),
  record {
    inside = λ k le lt. free_right xs (hole s n ∷ ys) k (inl (le, lt));
    kept = λ k f. in_middle xs [] (hole s n ∷ []) ys k (λ g. inr g) f;
    only = λ k o f. in_middle xs (hole s n ∷ []) [] ys k (λ g. ⊎_elim (λ (i : Inside (hole s n) k). absurd (⊎_elim {C = ⊥} (λ (p : k < s). omega (arith, p, i.0)) (λ (p : s + n ≤ k). omega (arith, p, i.1)) o)) (λ q. q) g) f;
  },
)
