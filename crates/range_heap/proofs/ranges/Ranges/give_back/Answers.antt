use Rattle.std.proofs.Common.{◌≡◌, ◌<◌, true, [], length, get_or, None, is_some, not, sym, subst, ap, ◌∙◌, arith}
use Rattle.std.proofs.lemmas.List.{length-map}
use Rattle.range_heap.specs.Blocks.{live, live_at}
use Rattle.range_heap.specs.Seen.{Kept}
use Rattle.range_heap.specs.Ranges.{AllLegal}
use Rattle.range_heap.specs.Steps.{histories}
use Rattle.range_heap.proofs.Noting.{history_of, get_history, reserved, made_nothing, made_back, live_inside, none_else, on_err, none_from, still_live}
use Rattle.range_heap.proofs.ranges.Ranges.give_back.Goals as goal

pub returns-in_default-clause-made : goal.returns-in_default-clause-made
returns-in_default-clause-made c =
    let all = c.args.self.now in
    made_nothing c.args.who c.args.place all.size (histories all)
    (λ t lt alive. let long = length-map all.heaps history_of in c.in_default.ensures.outside t (omega (arith, lt, long)) (live_inside all.size (histories all) c.stands.ensures.legal c.args.place t lt alive))

pub returns-then-is_none-clause-made : goal.returns-then-is_none-clause-made
returns-then-is_none-clause-made c =
    let all = c.args.self.now in
    let inside = c.in-Some.ensures.inside in
    let here : get_or (histories all) c.in-Some.token [] ≡ c.heap.result.now.history = get_history all.heaps c.in-Some.token c.heap.result.now inside.0 ∙ ap history_of (sym (c.heap.ensures.heap c.heap.result.now)) in
    let none : live_at c.args.place (get_or (histories all) c.in-Some.token []) ≡ None = ap (λ h. live_at c.args.place h) here ∙ sym c.live_at.ensures ∙ none_from c.live_at.result (c.is_none.ensures ∙ ap not c.if-is_none.true) in
    made_nothing c.args.who c.args.place all.size (histories all) (none_else all.size (histories all) c.stands.ensures.legal c.args.place c.in-Some.token inside.1 none)

pub returns-in_err-reserve-clause-kept : goal.returns-in_err-reserve-clause-kept
returns-in_err-reserve-clause-kept c =
    on_err c.from_residual.result (reserved c.from.result c.args.self.now c.reserve.new.self (λ le. (c.reserve.ensures.outside le).1) c.reserve.ensures.inside).0

pub returns-clause-size : goal.returns-clause-size
returns-clause-size c =
    let all = c.args.self.now in
    let mid = c.reserve.new.self in
    let inside = c.in-Some.ensures.inside in
    let here : get_or (histories all) c.in-Some.token [] ≡ c.heap.result.now.history = get_history all.heaps c.in-Some.token c.heap.result.now inside.0 ∙ ap history_of (sym (c.heap.ensures.heap c.heap.result.now)) in
    let alive : live c.args.place (get_or (histories all) c.in-Some.token []) ≡ true = ap (λ h. live c.args.place h) here ∙ ap is_some (sym c.live_at.ensures) ∙ c.is_none.ensures ∙ ap not c.if-is_none.false in
    let r = reserved c.from.result all mid (λ le. (c.reserve.ensures.outside le).1) c.reserve.ensures.inside in
    let room : (d : Kept) → 0 < (get_or mid.heaps c.in-Some.token d).room = λ d. subst (λ t. 0 < (get_or mid.heaps t d).room) c.from.ensures (let q = c.in_ok-reserve.ensures.room (omega (arith, inside.0, c.from.ensures)) d in omega (arith, q)) in
    let changed = c.release.ensures c.in-Some.token (still_live c.args.place c.in-Some.token all mid r.0 r.2 inside.0 alive room) in
    changed.same_size ∙ r.1

pub returns-clause-made : goal.returns-clause-made
returns-clause-made c =
    let all = c.args.self.now in
    let mid = c.reserve.new.self in
    let inside = c.in-Some.ensures.inside in
    let here : get_or (histories all) c.in-Some.token [] ≡ c.heap.result.now.history = get_history all.heaps c.in-Some.token c.heap.result.now inside.0 ∙ ap history_of (sym (c.heap.ensures.heap c.heap.result.now)) in
    let alive : live c.args.place (get_or (histories all) c.in-Some.token []) ≡ true = ap (λ h. live c.args.place h) here ∙ ap is_some (sym c.live_at.ensures) ∙ c.is_none.ensures ∙ ap not c.if-is_none.false in
    let r = reserved c.from.result all mid (λ le. (c.reserve.ensures.outside le).1) c.reserve.ensures.inside in
    let room : (d : Kept) → 0 < (get_or mid.heaps c.in-Some.token d).room = λ d. subst (λ t. 0 < (get_or mid.heaps t d).room) c.from.ensures (let q = c.in_ok-reserve.ensures.room (omega (arith, inside.0, c.from.ensures)) d in omega (arith, q)) in
    let changed = c.release.ensures c.in-Some.token (still_live c.args.place c.in-Some.token all mid r.0 r.2 inside.0 alive room) in
    let lt : c.in-Some.token < length mid.heaps = omega (arith, inside.0, r.2) in
    made_back c.args.who c.args.place all.size c.in-Some.token all mid c.release.new.self r.0
    (subst (λ hs. AllLegal all.size hs) (sym r.0) c.stands.ensures.legal) lt
    (subst (λ hs. live c.args.place (get_or hs c.in-Some.token []) ≡ true) (sym r.0) alive) changed
