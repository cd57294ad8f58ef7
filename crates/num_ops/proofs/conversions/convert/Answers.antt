use Rattle.std.proofs.Common.{◌≡◌, ap, FitsSigned, rules}
use Rattle.std.specs.Int.{w128}
use Rattle.std.proofs.lemmas.Int.{to_z-of_z}
use Rattle.num_ops.specs.Numbers.{Number}
use Rattle.num_ops.proofs.Converting.{converted_number}
use Rattle.num_ops.proofs.conversions.convert.Goals as goal

pub returns-in_default : goal.returns-in_default
returns-in_default c =
    let fits : FitsSigned w128 c.a.inside.value = search rules in
    let same : c.a.inside.value ≡ c.args.a.value = ap (λ (n : Number). n.value) c.a.view_is in
    let e = rw (to_z-of_z, same) at c.fit.ensures in
    rw (converted_number c.args.kind c.args.a.value c.in_default.not-Bool) e
