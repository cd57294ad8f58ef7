-- A value of type `int` has 32 bits.
use Rattle.std.proofs.Common.{◌≡◌, IsTrue, ℤ, FitsSigned, of_z, to_z, w32, arith, ◌∙◌, ap, subst}
use Rattle.std.specs.Int.{w128}
use Rattle.std.proofs.lemmas.Int.{to_z-of_z, ints}
use Rattle.num_ops.specs.declared.kinds.IntKind.{IntKind}
use Rattle.num_ops.specs.declared.kinds.IntKind.TheVariants as k
use Rattle.num_ops.specs.Numbers.{Number}
use Rattle.num_ops.specs.Kinds.{holds}

fits_32 : (z : ℤ) → IsTrue (holds k.Int z) → FitsSigned w32 z
fits_32 z h = grind (arith, ints)

fits_128 : (z : ℤ) → FitsSigned w32 z → FitsSigned w128 z
fits_128 z h = record { sfits = let a = h.sfits in omega (arith, a) }

pub as_code : (kind : IntKind) (z : ℤ) (n : Number) → IsTrue (holds kind z) → ◌≡◌ {A = Number} (record { kind = kind; value = z }) n → n.kind ≡ k.Int → to_z w32 (of_z w32 (to_z w128 (of_z w128 z))) ≡ n.value
as_code kind z n h e i =
    let j : IsTrue (holds k.Int z) = subst (λ (x : IntKind). IsTrue (holds x z)) (ap (λ (m : Number). m.kind) e ∙ i) h in
    let a = fits_32 z j in
    ap (λ x. to_z w32 (of_z w32 x)) (to_z-of_z w128 z (fits_128 z a)) ∙ to_z-of_z w32 z a ∙ ap (λ (m : Number). m.value) e
