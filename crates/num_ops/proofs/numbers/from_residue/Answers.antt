use Rattle.std.proofs.Common.{ℤ, ◌∙◌, ap}
use Rattle.num_ops.proofs.Converting.{from_bits_past, greatest_is, modulus_is}
use Rattle.num_ops.specs.Numbers.{Number}
use Rattle.num_ops.proofs.numbers.from_residue.Goals as goal

pub returns-else-value-greatest : goal.returns-else-value-greatest
returns-else-value-greatest c =
    let f = rw (c.greatest.ensures, greatest_is c.args.kind) at c.if-value-greatest.false in
    let e = rw (c.modulus.ensures, modulus_is c.args.kind) at c.exact-else-value-greatest.ensures in
    e ∙ ap (λ (v : ℤ). let n : Number = record { kind = c.args.kind; value = v } in n) (from_bits_past c.args.kind c.args.residue c.requires f)
