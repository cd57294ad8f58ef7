use Rattle.std.proofs.Common.{suc, map, sym, ◌∙◌, arith}
use Rattle.c_types.specs.Table.{member_of}
use Rattle.initialiser_rules.proofs.Pieces.{none_open, one_first}
use Rattle.initialiser_rules.proofs.parts.member_step.Goals as goal

pub returns-then-is_flexible-clause-is : goal.returns-then-is_flexible-clause-is
returns-then-is_flexible-clause-is c =
    let ts = c.args.world.now.table.terms in
    none_open c.args.is_alone (member_of ts c.args.first.now) (map (member_of ts) c.args.more.now) (sym c.is_flexible.ensures ∙ c.if-is_flexible.true)

pub returns-clause-is : goal.returns-clause-is
returns-clause-is c =
    let ts = c.args.world.now.table.terms in
    one_first ts c.args.is_alone c.args.first.now c.args.more.now _ (sym c.is_flexible.ensures ∙ c.if-is_flexible.false) (c.others.ensures.is ts)

pub returns-clause-rest : goal.returns-clause-rest
returns-clause-rest c = c.others.ensures.below _ (λ k d h. c.requires (suc k) d (omega arith))
