-- The parameters of a function by their places.
use Rattle.std.proofs.Common.{◌≡◌, ℕ, zero, suc, ◌+◌, ◌<◌, List, [], ◌∷◌, slice_get, Option, Some, None, IfSome, IfNone, refl, sym, ap, arith}
use Rattle.c_types.specs.declared.terms.Term.{Term}
use Rattle.c_types.specs.declared.terms.TypeId.{TypeId}
use Rattle.c_types.specs.CTypes.{CTypes, no_types, one_type}
use Rattle.c_types.specs.Pieces.{without}
use Rattle.c_types.specs.Table.{type_at, types_at, AllBelow}

module _ (ts : List Term) where
  none_at : (ids : List TypeId) (i : ℕ) → slice_get ids i ≡ None → without i (types_at ts ids) ≡ no_types
  none_at [] zero e = refl
  none_at [] (suc i) e = refl
  none_at (p ∷ ps) zero e = absurd (cc)
  none_at (p ∷ ps) (suc i) e = none_at ps i e

  some_at : (ids : List TypeId) (i : ℕ) (p : TypeId) → slice_get ids i ≡ Some p → without i (types_at ts ids) ≡ one_type (type_at ts p.0) (without (i + 1) (types_at ts ids))
  some_at [] zero p e = absurd (cc)
  some_at [] (suc i) p e = absurd (cc)
  some_at (q ∷ qs) zero p e = let s : q ≡ p = cc in ap (λ (z : TypeId). one_type (type_at ts z.0) (types_at ts qs)) s
  some_at (q ∷ qs) (suc i) p e = let n : suc i + 1 ≡ suc (i + 1) = omega arith in rw n (some_at qs i p e)

  pub none_of : (ids : List TypeId) (i : ℕ) (o : Option TypeId) (ps : CTypes) → o ≡ slice_get ids i → types_at ts ids ≡ ps → IfNone o (without i ps ≡ no_types)
  none_of ids i None ps e t = rw (← t) (none_at ids i (sym e))
  none_of ids i (Some p) ps e t = tt

  pub some_of : (ids : List TypeId) (i : ℕ) (o : Option TypeId) (ps : CTypes) → o ≡ slice_get ids i → types_at ts ids ≡ ps → IfSome o (λ p. without i ps ≡ one_type (type_at ts p.0) (without (i + 1) ps))
  some_of ids i None ps e t = tt
  some_of ids i (Some p) ps e t = rw (← t) (some_at ids i p (sym e))

below_at : (n : ℕ) (ids : List TypeId) (i : ℕ) (p : TypeId) → AllBelow n ids → slice_get ids i ≡ Some p → p.0 < n
below_at n [] zero p v e = absurd (cc)
below_at n [] (suc i) p v e = absurd (cc)
below_at n (q ∷ qs) zero p v e = let s : q ≡ p = cc in rw s at v.0
below_at n (q ∷ qs) (suc i) p v e = below_at n qs i p v.1 e

pub below_of : (n : ℕ) (ids : List TypeId) (i : ℕ) (o : Option TypeId) → o ≡ slice_get ids i → AllBelow n ids → IfSome o (λ p. p.0 < n)
below_of n ids i None e v = tt
below_of n ids i (Some p) e v = below_at n ids i p v (sym e)
