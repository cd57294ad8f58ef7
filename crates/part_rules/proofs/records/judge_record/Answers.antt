use Rattle.std.proofs.Common.{◌≡◌, map, Err, subst}
use Rattle.c_types.specs.Table.{member_of, type_at}
use Rattle.c_rules.specs.Trials.{Trials, verdict}
use Rattle.c_rules.specs.World.{World}
use Rattle.c_world.specs.Seen.{seen, Gives}
use Rattle.part_rules.specs.Records.{finished_record, tried_record}
use Rattle.part_rules.proofs.Steps.{fails_first, goes_on}
use Rattle.part_rules.proofs.records.judge_record.Goals as goal

pub returns-in-Err-clause-gives : goal.returns-in-Err-clause-gives
returns-in-Err-clause-gives c =
    let ms = map (member_of c.args.world.now.table.terms) c.args.members in
    fails_first (tried_record c.args.at c.args.is_union c.args.tag.now c.args.number ms) (finished_record c.args.number ms) _ _ _ c.in-Err.end (λ _. tt) _
    (subst (λ xs. Gives {B = Unit {0}} (tried_record c.args.at c.args.is_union c.args.tag.now c.args.number (map (member_of c.args.world.now.table.terms) xs)) (seen c.args.world.now) (Err c.in-Err.end) (λ _. tt) (seen c.args.world.now)) c.as_slice.ensures c.in-Err.ensures.gives)

pub returns-in-Ok-clause-gives : goal.returns-in-Ok-clause-gives
returns-in-Ok-clause-gives c =
    let ms = map (member_of c.args.world.now.table.terms) c.args.members in
    goes_on (tried_record c.args.at c.args.is_union c.args.tag.now c.args.number ms) (finished_record c.args.number ms) tt _ (seen c.args.world.now) _ c.finish.result _
    (subst (λ xs. (next : Unit {0} → World → Trials) → verdict (tried_record c.args.at c.args.is_union c.args.tag.now c.args.number (map (member_of c.args.world.now.table.terms) xs) next (seen c.args.world.now)) ≡ verdict (next tt (seen c.args.world.now))) c.as_slice.ensures c.in-Ok.ensures.gives) c.finish.ensures.gives
