use Rattle.std.proofs.Common.{◌≡◌, ◌+◌, ◌-◌, ap, ◌∙◌, take, drop, arith}
use Rattle.c_core.specs.Values.{scalar_size, value_in}
use Rattle.block_memory.proofs.cell_memory.read.Goals as goal

pub returns : goal.returns
returns c =
    let e : c.args.at + c.size_of-size.result - c.args.at ≡ scalar_size c.args.kind = omega (arith, c.size_of-size.ensures) in
    c.value_in.ensures ∙ ap (λ k. value_in c.args.kind (take k (drop c.args.at c.args.cells.now))) e
