use Rattle.machine_library.proofs.Asking.{ask_noted}
use Rattle.machine_library.proofs.heap.ask.Goals as goal

pub returns-clause-noted : goal.returns-clause-noted
returns-clause-noted c =
    ask_noted c.args.token c.args.size c.grant-answer.result c.args.ledger.now.ranges c.reserve-2.new.self c.grant-answer.new.self
    (λ le. (c.reserve-2.ensures.outside le).1) c.reserve-2.ensures.inside c.grant-answer.ensures.outside c.grant-answer.ensures.inside c.stands.ensures.legal
