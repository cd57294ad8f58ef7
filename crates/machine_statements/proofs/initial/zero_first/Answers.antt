use Rattle.std.proofs.Common.{sym, ap, ◌∙◌}
use Rattle.c_meaning.specs.Meaning as meaning
use Rattle.machine_frames.specs.Views.{state_of}
use Rattle.machine_statements.proofs.initial.zero_first.Goals as goal

pub returns-then-zeros-clause-value : goal.returns-then-zeros-clause-value
returns-then-zeros-clause-value g c =
    let bs = g.M.Memory.blocks c.args.memory.now in
    let w = (state_of bs c.args.rest.now).world in
    rw (c.if-zeros.true) (ap (λ b. meaning.zero_block b w) (sym (c.local_block.ensures.block bs)) ∙ c.zero_block.ensures.value w)
