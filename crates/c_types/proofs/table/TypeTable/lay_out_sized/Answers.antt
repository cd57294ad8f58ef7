use Rattle.std.proofs.Common.{◌<◌, length, drop, suc, ◌∙◌, ap, arith}
use Rattle.c_types.specs.Layout.{end_of}
use Rattle.c_types.specs.Table.{type_at, member_types}
use Rattle.c_types.proofs.Laying.{rest_types, too_far}
use Rattle.c_types.proofs.table.TypeTable.lay_out_sized.Goals as goal

pub returns-in-Err-clause-cause : goal.returns-in-Err-clause-cause
returns-in-Err-clause-cause c =
    let within : c.loop-member.member-index < length c.args.members.now = omega arith in
    let rest = rest_types c.args.self.now.terms c.args.members.now c.loop-member.member-index c.member-item.result within c.member-item.is in
    let cause = c.in-Err.ensures.cause in
    λ _. (
      cause.0,
      too_far c.args.self.now.layouts c.args.is_union (member_types c.args.self.now.terms c.args.members.now) (member_types c.args.self.now.terms (drop (suc c.loop-member.member-index) c.args.members.now)) c.loop-member.so_far.end (type_at c.args.self.now.terms c.member-item.result.ty.0)
          (c.loop-member.invariant.end_is ∙ ap (end_of c.args.self.now.layouts c.args.is_union c.loop-member.so_far.end) rest) cause.1,
    )
