use Rattle.std.proofs.Common.{sym, subst}
use Rattle.range_heap.specs.Steps.{histories, Made}
use Rattle.range_heap.proofs.Noting.{reserved, made_ask, on_err}
use Rattle.range_heap.proofs.ranges.Ranges.make.Goals as goal

pub returns-in_err-reserve-in-Ask-clause-kept : goal.returns-in_err-reserve-in-Ask-clause-kept
returns-in_err-reserve-in-Ask-clause-kept c =
    on_err c.from_residual.result (reserved c.in-Ask.token c.args.self.now c.reserve.new.self (λ le. (c.reserve.ensures.outside le).1) c.reserve.ensures.inside).0

pub returns-in_ok-reserve-in-Ask-clause-made : goal.returns-in_ok-reserve-in-Ask-clause-made
returns-in_ok-reserve-in-Ask-clause-made c =
    let same = (reserved c.in-Ask.token c.args.self.now c.reserve.new.self (λ le. (c.reserve.ensures.outside le).1) c.reserve.ensures.inside).0 in
    subst (λ call. Made call c.grant.result (histories c.args.self.now) (histories c.grant.new.self)) (sym c.in-Ask.is)
    (made_ask c.in-Ask.who c.in-Ask.token c.in-Ask.size c.grant.result c.args.self.now c.reserve.new.self c.grant.new.self same c.grant.ensures.outside c.grant.ensures.inside)
