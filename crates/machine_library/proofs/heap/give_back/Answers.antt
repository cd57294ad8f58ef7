use Rattle.std.proofs.Common.{◌<◌, get_or, subst, arith}
use Rattle.range_heap.specs.Seen.{Kept}
use Rattle.range_heap.proofs.Noting.{reserved, still_live}
use Rattle.machine_library.proofs.Requesting.{release_noted}
use Rattle.machine_library.proofs.heap.give_back.Goals as goal

pub release-requires : goal.release-requires
release-requires c =
    let all = c.args.ledger.now.ranges in
    let mid = c.reserve-2.new.self in
    let r = reserved c.from-token.result all mid (λ le. (c.reserve-2.ensures.outside le).1) c.reserve-2.ensures.inside in
    let room : (d : Kept) → 0 < (get_or mid.heaps c.args.token d).room =
    λ d. subst (λ t. 0 < (get_or mid.heaps t d).room) c.from-token.ensures (let q = c.in_ok-reserve-2.ensures.room (omega (arith, c.requires.inside, c.from-token.ensures)) d in omega (arith, q)) in
    (c.args.token, still_live c.args.place c.args.token all mid r.0 r.2 c.requires.inside c.requires.live room)

pub returns-clause-noted : goal.returns-clause-noted
returns-clause-noted c =
    let all = c.args.ledger.now.ranges in
    let mid = c.reserve-2.new.self in
    let r = reserved c.from-token.result all mid (λ le. (c.reserve-2.ensures.outside le).1) c.reserve-2.ensures.inside in
    let room : (d : Kept) → 0 < (get_or mid.heaps c.args.token d).room =
    λ d. subst (λ t. 0 < (get_or mid.heaps t d).room) c.from-token.ensures (let q = c.in_ok-reserve-2.ensures.room (omega (arith, c.requires.inside, c.from-token.ensures)) d in omega (arith, q)) in
    release_noted c.args.token c.args.place all mid c.release.new.self c.requires.inside r
    (c.release.ensures c.args.token (still_live c.args.place c.args.token all mid r.0 r.2 c.requires.inside c.requires.live room)) c.stands.ensures.legal
