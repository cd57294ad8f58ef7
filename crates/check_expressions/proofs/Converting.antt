-- The arguments of a call one by one, with the parameters at their places.
use Rattle.std.proofs.Common.{◌≡◌, ℕ, zero, suc, ◌+◌, ◌<◌, Bool, true, false, ◌&&◌, List, [], ◌∷◌, drop, slice_get, Some, None, refl, sym, ap, ◌∙◌, arith}
use Rattle.c_types.specs.declared.terms.Term.{Term}
use Rattle.c_types.specs.CTypes.{CType, CTypes, no_types, one_type}
use Rattle.c_types.specs.Pieces.{without}
use Rattle.c_rules.specs.World.{World, note_target}
use Rattle.c_rules.specs.Typed.{Typed}
use Rattle.c_rules.specs.Expressions.{converts, all_convert}
use Rattle.c_rules.specs.Forms.{Given, all_typed}
use Rattle.expression_rules.specs.declared.typed.Argument as r
use Rattle.expression_rules.specs.Typed.{typed_of}
use Rattle.expression_rules.specs.Arguments.{given_of, all_given, AllBelow, converted_all}
use Rattle.expression_rules.specs.Steps.{converts_first}

-- ---- the argument at a place

pub given_at : (ts : List Term) (xs : List r.Argument) (i : ℕ) (x : r.Argument) → slice_get xs i ≡ Some x → all_given ts (drop i xs) ≡ given_of ts x ∷ all_given ts (drop (i + 1) xs)
unfolding all_given
given_at ts [] i x e = cc
given_at ts (y ∷ ys) zero x e = let s : y ≡ x = cc in ap (λ (z : r.Argument). given_of ts z ∷ all_given ts ys) s
given_at ts (y ∷ ys) (suc i) x e = let n : suc i + 1 ≡ suc (i + 1) = omega arith in rw n (given_at ts ys i x e)

pub given_end : (ts : List Term) (xs : List r.Argument) (i : ℕ) → slice_get xs i ≡ None → all_given ts (drop i xs) ≡ []
unfolding all_given
given_end ts [] zero e = refl
given_end ts [] (suc i) e = refl
given_end ts (y ∷ ys) zero e = cc
given_end ts (y ∷ ys) (suc i) e = given_end ts ys i e

pub below_at : (n : ℕ) (xs : List r.Argument) (i : ℕ) (x : r.Argument) → slice_get xs i ≡ Some x → AllBelow n xs → x.typed.ty.0 < n
below_at n [] i x e v = cc
below_at n (y ∷ ys) zero x e v = let s : y ≡ x = cc in rw s at v.0
below_at n (y ∷ ys) (suc i) x e v = below_at n ys i x e v.1

-- ---- the parameters behind a place

abbrev tail_of : CTypes → CTypes
tail_of no_types = no_types
tail_of (one_type p ps) = ps

next_is : (i : ℕ) (ps : CTypes) → without (suc i) ps ≡ tail_of (without i ps)
next_is zero no_types = refl
next_is zero (one_type p ps) = refl
next_is (suc i) no_types = refl
next_is (suc i) (one_type p ps) = next_is i ps

behind_is : (i : ℕ) (ps : CTypes) → without (i + 1) ps ≡ tail_of (without i ps)
behind_is i ps = let n : i + 1 ≡ suc i = omega arith in rw n (next_is i ps)

-- ---- whether they are converted

convert_by : (qs : CTypes) (x : Given) (xs : List Given) (b : Bool) → converts_first qs x.typed ≡ Some b → all_convert qs (all_typed (x ∷ xs)) ≡ (b && all_convert (tail_of qs) (all_typed xs))
convert_by no_types x xs b e = cc
convert_by (one_type p ps) x xs b e = let s : converts p x.typed ≡ b = cc in ap (λ c. c && all_convert ps (all_typed xs)) s

none_by : (qs : CTypes) (x : Typed) (xs : List Typed) → converts_first qs x ≡ None → all_convert qs xs ≡ true
none_by no_types x xs e = refl
none_by (one_type p ps) x xs e = cc

end_by : (qs : CTypes) → all_convert qs [] ≡ true
end_by no_types = refl
end_by (one_type p ps) = refl

ended : (qs : CTypes) (w : World) → converted_all qs [] w ≡ w
unfolding converted_all
ended no_types w = refl
ended (one_type p ps) w = refl

module _ (ps : CTypes) (ts : List Term) (xs : List r.Argument) (i : ℕ) where
  convert_step : (x : r.Argument) (b : Bool) → slice_get xs i ≡ Some x → converts_first (without i ps) (typed_of ts x.typed) ≡ Some b
      → all_convert (without i ps) (all_typed (all_given ts (drop i xs))) ≡ (b && all_convert (without (i + 1) ps) (all_typed (all_given ts (drop (i + 1) xs))))
  convert_step x b at e =
      ap (λ gs. all_convert (without i ps) (all_typed gs)) (given_at ts xs i x at)
      ∙ convert_by (without i ps) (given_of ts x) (all_given ts (drop (i + 1) xs)) b e
      ∙ ap (λ qs. b && all_convert qs (all_typed (all_given ts (drop (i + 1) xs)))) (sym (behind_is i ps))

  pub convert_true : (x : r.Argument) → slice_get xs i ≡ Some x → converts_first (without i ps) (typed_of ts x.typed) ≡ Some true
      → all_convert (without i ps) (all_typed (all_given ts (drop i xs))) ≡ all_convert (without (i + 1) ps) (all_typed (all_given ts (drop (i + 1) xs)))
  convert_true x at e = convert_step x true at e

  pub convert_false : (x : r.Argument) → slice_get xs i ≡ Some x → converts_first (without i ps) (typed_of ts x.typed) ≡ Some false
      → all_convert (without i ps) (all_typed (all_given ts (drop i xs))) ≡ false
  convert_false x at e = convert_step x false at e

  pub convert_none : (x : Typed) → converts_first (without i ps) x ≡ None → all_convert (without i ps) (all_typed (all_given ts (drop i xs))) ≡ true
  convert_none x e = none_by (without i ps) x (all_typed (all_given ts (drop i xs))) e

  pub convert_end : slice_get xs i ≡ None → all_convert (without i ps) (all_typed (all_given ts (drop i xs))) ≡ true
  convert_end e = ap (λ gs. all_convert (without i ps) (all_typed gs)) (given_end ts xs i e) ∙ end_by (without i ps)

  -- ---- what is noted of them

  pub target_step : (w : World) (x : r.Argument) (p : CType) (rest : CTypes) → slice_get xs i ≡ Some x → without i ps ≡ one_type p rest
      → converted_all (without i ps) (all_given ts (drop i xs)) w ≡ converted_all rest (all_given ts (drop (i + 1) xs)) (note_target x.at.id p w)
  unfolding converted_all
  target_step w x p rest at e = rw (e, given_at ts xs i x at) refl

  pub target_none : (w : World) → without i ps ≡ no_types → converted_all (without i ps) (all_given ts (drop i xs)) w ≡ w
  unfolding converted_all
  target_none w e = rw e refl

  pub target_end : (w : World) → slice_get xs i ≡ None → converted_all (without i ps) (all_given ts (drop i xs)) w ≡ w
  target_end w e = ap (λ gs. converted_all (without i ps) gs w) (given_end ts xs i e) ∙ ended (without i ps) w
