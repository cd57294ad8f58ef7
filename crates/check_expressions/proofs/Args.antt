-- The arguments of a call.
use Rattle.std.proofs.Common.{◌≡◌, ℕ, suc, ◌<◌, ◌≤◌, List, [], ◌∷◌, ◌++◌, length, refl, ap, arith}
use Rattle.c_types.specs.declared.terms.Term.{Term}
use Rattle.c_types.specs.declared.terms.TypeId.{TypeId}
use Rattle.c_types.specs.CTypes.{CTypes, no_types, one_type}
use Rattle.c_types.specs.Plain.{count_types}
use Rattle.c_types.specs.Table.{Table, types_at}
use Rattle.c_rules.specs.World.{World}
use Rattle.c_rules.specs.Trials.{Trials}
use Rattle.c_rules.specs.Forms.{Given, convert_all}
use Rattle.c_world.specs.Extends.{Extends}
use Rattle.expression_rules.specs.declared.typed.Typed as r
use Rattle.expression_rules.specs.declared.typed.Argument as a
use Rattle.expression_rules.specs.Typed.{typed_of}
use Rattle.expression_rules.specs.Arguments.{given_of, all_given, AllBelow, converted_all}

-- over a table that has grown an argument means the same
pub typed_same : (s t : Table) → Extends s t → (x : r.Typed) → x.ty.0 < length s.terms → typed_of t.terms x ≡ typed_of s.terms x
typed_same s t e x h = ap (λ u. record { type = u; is_lvalue = x.is_lvalue; value = x.value; is_null = x.is_null; address = x.address; text = x.text }) (e.grows.same x.ty.0 h)

pub given_same : (s t : Table) (xs : List a.Argument) → Extends s t → AllBelow (length s.terms) xs → all_given t.terms xs ≡ all_given s.terms xs
unfolding all_given
given_same s t [] e v = refl
given_same s t (x ∷ xs) e v = cc (typed_same s t e x.typed v.0, given_same s t xs e v.1)

-- one argument more
pub given_more : (ts : List Term) (xs : List a.Argument) (x : a.Argument) → all_given ts (xs ++ x ∷ []) ≡ all_given ts xs ++ given_of ts x ∷ []
unfolding all_given
given_more ts [] x = refl
given_more ts (y ∷ ys) x = ap (λ zs. given_of ts y ∷ zs) (given_more ts ys x)

pub below_more : (n : ℕ) (xs : List a.Argument) (x : a.Argument) → AllBelow n xs → x.typed.ty.0 < n → AllBelow n (xs ++ x ∷ [])
below_more n [] x v h = (h, tt)
below_more n (y ∷ ys) x v h = (v.0, below_more n ys x v.1 h)

-- the numbers stay in a table that grows
pub below_up : (n m : ℕ) (xs : List a.Argument) → n ≤ m → AllBelow n xs → AllBelow m xs
below_up n m [] l v = tt
below_up n m (x ∷ xs) l v = ((let h = v.0 in omega arith), below_up n m xs l v.1)

pub given_length : (ts : List Term) (xs : List a.Argument) → length (all_given ts xs) ≡ length xs
unfolding all_given
given_length ts [] = refl
given_length ts (x ∷ xs) = ap suc (given_length ts xs)

pub count_is : (ts : List Term) (ps : List TypeId) → count_types (types_at ts ps) ≡ length ps
count_is ts [] = refl
count_is ts (p ∷ ps) = ap suc (count_is ts ps)

-- what the conversion of all arguments does to what is known
pub converted_is : (ps : CTypes) (xs : List Given) (next : Unit {0} → World → Trials) (w : World) → convert_all ps xs next w ≡ next tt (converted_all ps xs w)
unfolding converted_all
converted_is no_types xs next w = refl
converted_is (one_type p ps) [] next w = refl
converted_is (one_type p ps) (x ∷ xs) next w = converted_is ps xs next _
