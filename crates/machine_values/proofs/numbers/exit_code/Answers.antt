use Rattle.std.proofs.Common.{ap, ◌∙◌}
use Rattle.machine_values.proofs.Codes.{as_code}
use Rattle.num_ops.specs.Numbers.{Number}
use Rattle.machine_values.proofs.numbers.exit_code.Goals as goal

pub returns : goal.returns
returns c =
    as_code c.result.inside.kind c.result.inside.value c.convert.result c.result.invariant c.result.view_is (ap (λ (m : Number). m.kind) c.convert.ensures)
    ∙ rw (c.convert.ensures, c.number_in.ensures)
