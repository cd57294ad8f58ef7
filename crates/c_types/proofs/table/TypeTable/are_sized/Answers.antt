use Rattle.std.proofs.Common.{◌<◌, length, false, sym, ◌∙◌, arith}
use Rattle.c_types.proofs.Laying.{are_sized_step}
use Rattle.c_types.proofs.table.TypeTable.are_sized.Goals as goal

pub returns-then-not-is_sized : goal.returns-then-not-is_sized
returns-then-not-is_sized c =
    let within : c.loop-i.i < length c.args.members.now = omega arith in
    sym (c.loop-i.invariant ∙ are_sized_step c.args.self.now.layouts c.args.self.now.terms c.args.members.now c.loop-i.i c.index-members-i.result false within c.index-members-i.is (sym c.if-not-is_sized.true ∙ c.is_sized.ensures))
