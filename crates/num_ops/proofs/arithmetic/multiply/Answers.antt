use Rattle.std.proofs.Common.{◌∙◌, sym, refl, FitsSigned, ◌*ℤ◌}
use Rattle.std.specs.Int.{w128}
use Rattle.std.proofs.lemmas.Int.{to_z-of_z}
use Rattle.num_ops.proofs.Bounds as bounds
use Rattle.num_ops.proofs.arithmetic.multiply.Goals as goal

pub returns-then-is_signed : goal.returns-then-is_signed
returns-then-is_signed c =
    let a_fits : FitsSigned w128 c.args.a = c.ranges.a in
    let b_fits : FitsSigned w128 c.args.b = c.ranges.b in
    let fits : FitsSigned w128 (c.args.a *ℤ c.args.b) = bounds.product_fits c.args.kind c.args.a c.args.b (sym c.is_signed.ensures ∙ c.if-is_signed.true) c.requires.left c.requires.right in
    simp to_z-of_z at c.fit.ensures

pub returns-else-is_signed : goal.returns-else-is_signed
returns-else-is_signed c =
    let a_fits : FitsSigned w128 c.args.a = c.ranges.a in
    let b_fits : FitsSigned w128 c.args.b = c.ranges.b in
    let unsigned = sym c.is_signed.ensures ∙ c.if-is_signed.false in
    let product = simp to_z-of_z at c.multiply_unsigned.ensures in
    rw (bounds.fitted_unsigned c.args.kind (c.args.a *ℤ c.args.b) unsigned, ← bounds.unsigned_product c.args.kind c.args.a c.args.b unsigned c.requires.left c.requires.right, product) refl
