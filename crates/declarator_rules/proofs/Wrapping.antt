-- Qualifiers around a type, and lengths.
use Rattle.std.proofs.Common.{◌≡◌, ℕ, List, [], ◌∷◌, ◌++◌, Option, refl, ap}
use Rattle.c_types.specs.CTypes.{CType, Qualified, is_flexible}
use Rattle.c_types.specs.Layout.{size}
use Rattle.c_types.specs.declared.records.Layout.{Layout}
use Rattle.declarator_rules.specs.Lengths.{wrapped}

pub wrapped_more : (qs : List ℕ) (q : ℕ) (t : CType) → wrapped (qs ++ q ∷ []) t ≡ wrapped qs (Qualified q t)
wrapped_more [] q t = refl
wrapped_more (p ∷ qs) q t = ap (Qualified p) (wrapped_more qs q t)

pub wrapped_size : (ls : List (Option Layout)) (qs : List ℕ) (t : CType) → size ls (wrapped qs t) ≡ size ls t
wrapped_size ls [] t = refl
wrapped_size ls (q ∷ qs) t = wrapped_size ls qs t

pub wrapped_flexible : (qs : List ℕ) (t : CType) → is_flexible (wrapped qs t) ≡ is_flexible t
wrapped_flexible [] t = refl
wrapped_flexible (q ∷ qs) t = wrapped_flexible qs t
