use Rattle.std.proofs.Common.{sym, ap, ◌∙◌}
use Rattle.c_types.specs.Canonical.{canonical}
use Rattle.c_types.specs.Table.{type_at}
use Rattle.c_types.proofs.Rooting.{one_first}
use Rattle.c_types.proofs.laws.same_numbers_law.Goals as goal

pub returns : goal.returns
returns c = λ ts a b i j x y. (λ e. sym x.is ∙ ap (type_at ts) e ∙ y.is, λ e. one_first ts (canonical (type_at ts b)) i j (let z = rw e at x in z) y)
