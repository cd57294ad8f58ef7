use Rattle.std.proofs.Common.{[], ◌∷◌, ◌++◌, map, refl, rules}
use Rattle.c_types.specs.Table.{member_of, type_at}
use Rattle.c_rules.specs.Trials.{give}
use Rattle.c_rules.specs.Walk.{judge_member}
use Rattle.c_world.specs.Seen.{seen}
use Rattle.declarator_rules.specs.Layers.{laid_of}
use Rattle.check_walk.specs.Walking.{gathered, one}
use Rattle.check_walk.proofs.Gathering.{gather_more}
use Rattle.check_walk.proofs.Growing.{members_after, members_below_after}
use Rattle.check_walk.proofs.Sequencing.{stops}
use Rattle.check_walk.proofs.lists.gather_member.Goals as goal

pub returns-clause-gives : goal.returns-clause-gives
returns-clause-gives c =
    let ts = c.args.world.now.table.terms in
    gather_more (one (judge_member c.args.at (type_at ts c.args.base.0) (laid_of ts c.args.laid.now))) (map (member_of ts) c.args.members.now) _
    (member_of c.judge_member.new.world.table.terms c.in_ok-member.member ∷ []) _ _
    (members_after c.args.world.now.table c.judge_member.new.world.table c.in_ok-member.ensures.extends _ c.args.members.now c.in_ok-member.member c.requires.members c.in_ok-push.ensures.ok)
    (λ next. c.in_ok-member.ensures.gives (λ x. next (x ∷ [])))

pub returns-clause-valid : goal.returns-clause-valid
returns-clause-valid c = members_below_after _ _ _ c.args.members.now c.in_ok-member.member c.in_ok-member.ensures.extends.grows.longer c.requires.members c.in_ok-member.ensures.valid c.in_ok-push.ensures.ok

pub returns-in_err-member-clause-gives : goal.returns-in_err-member-clause-gives
returns-in_err-member-clause-gives c =
    let ts = c.args.world.now.table.terms in
    let done = map (member_of ts) c.args.members.now in
    let m = judge_member c.args.at (type_at ts c.args.base.0) (laid_of ts c.args.laid.now) in
    stops m (λ x. give (done ++ x ∷ [])) (gathered done (one m)) (seen c.args.world.now) (seen c.judge_member.new.world) _ c.in_err-member.field-0.0 c.from_residual.result (member_of c.judge_member.new.world.table.terms) _
    refl c.in_err-member.ensures.gives (search rules)
