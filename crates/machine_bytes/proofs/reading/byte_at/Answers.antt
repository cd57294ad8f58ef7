use Rattle.std.proofs.Common.{sym, ap, ◌∙◌}
use Rattle.num_ops.specs.declared.kinds.IntKind.TheVariants as k
use Rattle.c_core.specs.declared.values.Scalar.TheVariants as scalar
use Rattle.c_core.specs.Blocks.{load}
use Rattle.c_meaning.specs.Storage.{further}
use Rattle.machine_values.proofs.Small.{pointer_below}
use Rattle.machine_bytes.proofs.Bytes.{next_given}
use Rattle.machine_bytes.proofs.reading.byte_at.Goals as goal

pub further-requires : goal.further-requires
further-requires g c = pointer_below (g.M.Memory.blocks c.args.memory.now) (g.M.Memory.sizes c.args.memory.now) (further c.args.p c.args.at) (g.met.M.Memory.sizes_are c.args.memory.now) c.requires.small c.requires.given

pub returns-in-Ok-clause-next : goal.returns-in-Ok-clause-next
returns-in-Ok-clause-next g c =
    let bs = g.M.Memory.blocks c.args.memory.now in
    next_given bs (g.M.Memory.sizes c.args.memory.now) c.args.p c.args.at c.in-Ok.value (g.met.M.Memory.sizes_are c.args.memory.now) c.requires.given
    (ap (λ q. load bs q (scalar.Int k.UChar)) (sym c.further.ensures) ∙ sym c.load.ensures.value ∙ c.in-Ok.is)
