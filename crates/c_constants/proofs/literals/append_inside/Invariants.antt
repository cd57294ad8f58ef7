use Rattle.std.proofs.Common.{◌≡◌, ◌++◌, drop}
use Rattle.c_constants.specs.Literals as literals
use Rattle.c_constants.specs.declared.literals.Reading.TheVariants as reading
use Rattle.c_constants.proofs.literals.append_inside.Given as goal

abbrev pub invariant-loop-b : goal.invariant-loop-b
invariant-loop-b l = l.fn.out ++ literals.bytes_from l.q reading.Between l.inside ≡ l.out ++ literals.bytes_from l.q l.reading (drop l.b-index l.inside)
