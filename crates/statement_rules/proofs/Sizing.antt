-- Arrays whose length an initialiser gives.
use Rattle.std.proofs.Common.{◌≡◌, ℕ, ◌==◌, Bool, true, false, if◌then◌else◌, List, [], ◌∷◌, Option, Some, None, Result, Ok, Err, IfOk, refl, sym, subst}
use Rattle.tok_base.specs.declared.NoMemory.{NoMemory}
use Rattle.c_tree.specs.Marked as t
use Rattle.c_types.specs.declared.terms.Term.{Term}
use Rattle.c_types.specs.CTypes.{CType, Void, Int, Enum, Pointer, Array, Flexible, Function, Record, Named, Qualified, is_flexible}
use Rattle.c_types.specs.Plain.{plain}
use Rattle.c_rules.specs.Declarators.{Built, Layer, pointer, array, unsized, function, built}
use Rattle.c_rules.specs.Types.{element, is_char}
use Rattle.c_rules.specs.Unit.{given_length, length_given, sized}
use Rattle.c_rules.specs.World.{World}
use Rattle.declarator_rules.specs.Built.{IsBuilt, IsOversized}
use Rattle.declarator_rules.specs.Lengths.{FitsLength}
use Rattle.declarator_rules.specs.Members.{is_unsized}
use Rattle.declarator_rules.specs.declared.built.Built as r
use Rattle.declarator_rules.specs.declared.built.Built.TheVariants as v
use Rattle.declarator_rules.specs.declared.built.Oversized.{Oversized}

pub flexible_plain : (t : CType) → is_flexible t ≡ is_unsized (plain t)
flexible_plain (Named n t) = flexible_plain t
flexible_plain (Qualified q t) = flexible_plain t
flexible_plain Void = refl
flexible_plain (Int k) = refl
flexible_plain (Enum e) = refl
flexible_plain (Pointer t) = refl
flexible_plain (Array t n) = refl
flexible_plain (Flexible t) = refl
flexible_plain (Function r ps) = refl
flexible_plain (Record k) = refl

-- ---- what breaks 5 has no characters for elements

pointer_char : (b : Bool) (q : ℕ) (t : CType) → is_char (plain (if b then Pointer t else Qualified q (Pointer t))) ≡ false
pointer_char true q t = refl
pointer_char false q t = refl

pointer_flexible : (b : Bool) (q : ℕ) (t : CType) → is_flexible (if b then Pointer t else Qualified q (Pointer t)) ≡ false
pointer_flexible true q t = refl
pointer_flexible false q t = refl

no_char : (w : World) (base : CType) (ls : List Layer) → (built w base ls).is_sized ≡ false → is_char (plain (built w base ls).type) ≡ false
no_char w base [] e = absurd (cc)
no_char w base (pointer q ∷ ls) e = pointer_char (q == 0) q (built w base ls).type
no_char w base (array c ∷ ls) e = refl
no_char w base (unsized ∷ ls) e = refl
no_char w base (function ts es ∷ ls) e = refl

pub no_chars : (w : World) (base : CType) (ls : List Layer) → (built w base ls).is_sized ≡ false → is_flexible (built w base ls).type ≡ true
    → is_char (plain (element (plain (built w base ls).type))) ≡ false
no_chars w base [] e f = absurd (cc)
no_chars w base (pointer q ∷ ls) e f = absurd (let n = pointer_flexible (q == 0) q (built w base ls).type in cc)
no_chars w base (array c ∷ ls) e f = absurd (cc)
no_chars w base (unsized ∷ ls) e f = no_char w base ls e
no_chars w base (function ts es ∷ ls) e f = absurd (cc)

-- ---- an initialiser gives a length to an array without one

fits_by : (o : Option ℕ) (t : CType) → is_flexible t ≡ true → FitsLength o t
fits_by None t e = tt
fits_by (Some n) t e = e

pub fits_given : (u : CType) (g : t.MaybeInit) → FitsLength (given_length u g) u
fits_given u g = by_flexible (is_flexible u) refl
  where
    by_flexible : (b : Bool) → is_flexible u ≡ b → FitsLength (if b then length_given u g else None) u
    by_flexible true e = fits_by (length_given u g) u e
    by_flexible false e = tt

-- a type that breaks 4 breaks it with a length too
pub sized_complete : (w : World) (o : Option ℕ) (b : Built) → b.is_complete ≡ false → (sized w o b).is_complete ≡ false
sized_complete w None b e = e
sized_complete w (Some n) b e = e

-- what breaks 5, with the length that its initialiser gives
pub oversized_sized : (w w2 : World) (ts ts2 : List Term) (x : r.Built) (o : Oversized) (g : t.MaybeInit) (n : Option ℕ) (made : Result r.Built NoMemory)
    → x ≡ v.Oversized o
    → ((u : CType) → is_flexible u ≡ o.is_flexible → (is_flexible u ≡ true → is_char (plain (element (plain u))) ≡ false) → n ≡ given_length u g)
    → IfOk made (λ y. (base : CType) (ls : List Layer) → IsOversized w o (built w base ls) → FitsLength n (built w base ls).type → IsBuilt w2 ts2 y (sized w n (built w base ls)))
    → IfOk made (λ y. (base : CType) (ls : List Layer) → IsBuilt w ts x (built w base ls) → IsBuilt w2 ts2 y (sized w (given_length (built w base ls).type g) (built w base ls)))
oversized_sized w w2 ts ts2 x o g n (Err e) is given h = tt
oversized_sized w w2 ts ts2 x o g n (Ok y) is given h = λ base ls b.
    let u = (built w base ls).type in
    let big : IsOversized w o (built w base ls) = subst (λ z. IsBuilt w ts z (built w base ls)) is b in
    let count : n ≡ given_length u g = given u big.flexible (no_chars w base ls big.sized) in
    subst (λ m. IsBuilt w2 ts2 y (sized w m (built w base ls))) count (h base ls big (subst (λ m. FitsLength m u) (sym count) (fits_given u g)))
