use Rattle.std.proofs.Common.{◌<◌, ◌≤◌, length, drop, suc, sym, ap, ◌∙◌, arith}
use Rattle.std.specs.Prelude.{nat_lt}
use Rattle.std.proofs.lemmas.List.{drop_all}
use Rattle.c_types.specs.Layout.{record_size}
use Rattle.c_types.specs.Table.{member_types, type_at}
use Rattle.c_types.proofs.Laying.{rest_types}
use Rattle.c_world.specs.Seen.{seen}
use Rattle.part_rules.proofs.Measuring.{measured_end, too_large, types_are}
use Rattle.part_rules.proofs.sizes.is_small.Goals as goal

pub returns-then-next-ge-LIMIT : goal.returns-then-next-ge-LIMIT
returns-then-next-ge-LIMIT c =
    let l = c.loop-member in
    let ts = c.args.world.now.table.terms in
    let ms = c.args.members.now in
    let ls = (seen c.args.world.now).records.layouts in
    let far : 268435456 ≤ c.reach-next.result = omega arith in
    sym (ap (λ us. nat_lt (record_size ls c.args.is_union us) 268435456) (types_are ts ms)
    ∙ too_large ls c.args.is_union (member_types ts ms) (member_types ts (drop l.member-index ms)) (member_types ts (drop (suc l.member-index) ms)) l.end l.align (type_at ts c.member-item.result.ty.0)
    l.invariant (rest_types ts ms l.member-index c.member-item.result c.loop-member-test.true c.member-item.is) (rw c.reach-next.ensures at far))

pub returns : goal.returns
returns c =
    let l = c.loop-member in
    let ts = c.args.world.now.table.terms in
    let ms = c.args.members.now in
    let ls = (seen c.args.world.now).records.layouts in
    ap (λ n. nat_lt n 268435456)
    (c.rounded.ensures.is ∙ sym (measured_end ls c.args.is_union (member_types ts ms) (member_types ts (drop l.member-index ms)) l.end l.align l.invariant (ap (member_types ts) (drop_all l.member-index ms c.loop-member-test.false)))
    ∙ ap (record_size ls c.args.is_union) (sym (types_are ts ms)))
