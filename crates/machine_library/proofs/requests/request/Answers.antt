use Rattle.std.proofs.Common.{◌≡◌, ℕ, ◌+◌, ◌<◌, true, [], ◌∷◌, ◌++◌, length, Option, refl, ap, subst, ◌∙◌, arith}
use Rattle.std.specs.Prelude.{IfSome}
use Rattle.c_meaning.specs.World.{request}
use Rattle.machine_library.specs.Leads.{entry_for, event_for, IsNoted}
use Rattle.machine_state.specs.declared.ledger.Ledger.{Ledger}
use Rattle.machine_library.proofs.Leading.{runs_err_value, nothing_done}
use Rattle.machine_library.proofs.Granting.{granted_free, granted_inside, sound_refused, sound_granted}
use Rattle.machine_library.proofs.Requesting.{request_refused, request_granted, request_placed, answered_run}
use Rattle.machine_library.proofs.requests.request.Goals as goal

pub returns-in_err-place-clause-run : goal.returns-in_err-place-clause-run
returns-in_err-place-clause-run g c = λ tok label e.
    let bs = g.M.Memory.blocks c.args.memory.now in
    runs_err_value tok (request label c.args.size) bs bs c.args.ledger.now c.ask.new.ledger c.from_residual.result c.from_residual.ensures.0
    (nothing_done tok (request label c.args.size) bs c.args.ledger.now c.ask.new.ledger c.in_err-place.ensures.failed)

pub returns-in_default-clause-run : goal.returns-in_default-clause-run
returns-in_default-clause-run g c = λ tok label e k.
    let l = c.args.ledger.now in
    let now = c.ask.new.ledger in
    request_refused tok label (g.M.Memory.blocks c.args.memory.now) (g.M.Memory.starts c.args.memory.now) (g.M.Memory.top c.args.memory.now) l now c.requires.sound c.args.token c.args.size e (ap (λ (x : Ledger). x.rest) c.ask.ensures.kept) k
    (subst (λ (o : Option ℕ). IsNoted l.ranges now.ranges c.args.token (event_for c.args.size o)) c.in_default.is c.in_ok-place.ensures.noted)
    (c.in_ok-place.ensures.log ∙ ap (λ (o : Option ℕ). l.rest.log.items ++ entry_for c.args.token c.args.size o ∷ []) c.in_default.is)

pub returns-in_default-clause-sound : goal.returns-in_default-clause-sound
returns-in_default-clause-sound g c =
    let l = c.args.ledger.now in
    let now = c.ask.new.ledger in
    sound_refused (g.M.Memory.blocks c.args.memory.now) (g.M.Memory.starts c.args.memory.now) (g.M.Memory.top c.args.memory.now) l now c.requires.sound l.count c.ask.ensures.kept c.args.token c.args.size
    (subst (λ (o : Option ℕ). IsNoted l.ranges now.ranges c.args.token (event_for c.args.size o)) c.in_default.is c.in_ok-place.ensures.noted) refl
    (c.in_ok-place.ensures.log ∙ ap (λ (o : Option ℕ). l.rest.log.items ++ entry_for c.args.token c.args.size o ∷ []) c.in_default.is)

pub returns-then-size-from-clause-run : goal.returns-then-size-from-clause-run
returns-then-size-from-clause-run g c = λ tok label e k.
    let bs = g.M.Memory.blocks c.args.memory.now in
    let l = c.args.ledger.now in
    let now = c.ask.new.ledger in
    let rest = ap (λ (x : Ledger). x.rest) c.ask.ensures.kept in (
      answered_run tok label bs (g.M.Memory.starts c.args.memory.now) (g.M.Memory.top c.args.memory.now) l now c.requires.sound c.args.token c.args.size e rest k true,
      request_granted tok label bs (g.M.Memory.starts c.args.memory.now) (g.M.Memory.top c.args.memory.now) l now c.requires.sound c.args.token c.args.size e rest k c.in-Some.place
          (subst (λ (o : Option ℕ). IfSome o (λ p. c.args.token < length l.ranges.heaps)) c.in-Some.is c.in_ok-place.ensures.inside)
          (subst (λ (o : Option ℕ). IsNoted l.ranges now.ranges c.args.token (event_for c.args.size o)) c.in-Some.is c.in_ok-place.ensures.noted)
          (c.in_ok-place.ensures.log ∙ ap (λ (o : Option ℕ). l.rest.log.items ++ entry_for c.args.token c.args.size o ∷ []) c.in-Some.is),
    )

pub place-requires-clause-inside : goal.place-requires-clause-inside
place-requires-clause-inside g c =
    let l = c.args.ledger.now in
    let now = c.ask.new.ledger in
    granted_inside (g.M.Memory.blocks c.args.memory.now) (g.M.Memory.starts c.args.memory.now) (g.M.Memory.top c.args.memory.now) l now.ranges c.args.token c.args.size c.in-Some.place c.requires.sound (subst (λ (o : Option ℕ). IfSome o (λ p. c.args.token < length l.ranges.heaps)) c.in-Some.is c.in_ok-place.ensures.inside)
    (subst (λ (o : Option ℕ). IsNoted l.ranges now.ranges c.args.token (event_for c.args.size o)) c.in-Some.is c.in_ok-place.ensures.noted)

pub place-requires-clause-free : goal.place-requires-clause-free
place-requires-clause-free g c =
    let l = c.args.ledger.now in
    let now = c.ask.new.ledger in
    granted_free (g.M.Memory.blocks c.args.memory.now) (g.M.Memory.starts c.args.memory.now) (g.M.Memory.top c.args.memory.now) l now.ranges c.args.token c.args.size c.in-Some.place c.requires.sound (subst (λ (o : Option ℕ). IfSome o (λ p. c.args.token < length l.ranges.heaps)) c.in-Some.is c.in_ok-place.ensures.inside)
    (subst (λ (o : Option ℕ). IsNoted l.ranges now.ranges c.args.token (event_for c.args.size o)) c.in-Some.is c.in_ok-place.ensures.noted)

pub returns-in_err-number-clause-run : goal.returns-in_err-number-clause-run
returns-in_err-number-clause-run g c = λ tok label e.
    let bs = g.M.Memory.blocks c.args.memory.now in
    let l = c.args.ledger.now in
    let now = c.ask.new.ledger in
    let rest = ap (λ (x : Ledger). x.rest) c.ask.ensures.kept in
    runs_err_value tok (request label c.args.size) bs (g.M.Memory.blocks c.place.new.self) l now c.from_residual-in_err-number.result c.from_residual-in_err-number.ensures.0
    (λ k. (
      answered_run tok label bs (g.M.Memory.starts c.args.memory.now) (g.M.Memory.top c.args.memory.now) l now c.requires.sound c.args.token c.args.size e rest k true,
      request_granted tok label bs (g.M.Memory.starts c.args.memory.now) (g.M.Memory.top c.args.memory.now) l now c.requires.sound c.args.token c.args.size e rest k c.in-Some.place
          (subst (λ (o : Option ℕ). IfSome o (λ p. c.args.token < length l.ranges.heaps)) c.in-Some.is c.in_ok-place.ensures.inside)
          (subst (λ (o : Option ℕ). IsNoted l.ranges now.ranges c.args.token (event_for c.args.size o)) c.in-Some.is c.in_ok-place.ensures.noted)
          (c.in_ok-place.ensures.log ∙ ap (λ (o : Option ℕ). l.rest.log.items ++ entry_for c.args.token c.args.size o ∷ []) c.in-Some.is),
    ))

pub returns-clause-run : goal.returns-clause-run
returns-clause-run g c = λ tok label e k.
    let bs = g.M.Memory.blocks c.args.memory.now in
    let l = c.args.ledger.now in
    let now = c.ask.new.ledger in
    let rest = ap (λ (x : Ledger). x.rest) c.ask.ensures.kept in
    request_placed tok label bs (g.M.Memory.starts c.args.memory.now) (g.M.Memory.top c.args.memory.now) l now c.requires.sound c.args.token c.args.size e rest k c.in-Some.place c.in_ok-number.number (g.M.Memory.blocks c.place.new.self) (record now { count = now.count + 1 })
    (subst (λ (o : Option ℕ). IfSome o (λ p. c.args.token < length l.ranges.heaps)) c.in-Some.is c.in_ok-place.ensures.inside)
    (subst (λ (o : Option ℕ). IsNoted l.ranges now.ranges c.args.token (event_for c.args.size o)) c.in-Some.is c.in_ok-place.ensures.noted)
    (c.in_ok-place.ensures.log ∙ ap (λ (o : Option ℕ). l.rest.log.items ++ entry_for c.args.token c.args.size o ∷ []) c.in-Some.is)
    c.in_ok-number.ensures.placed c.in_ok-number.ensures.number refl

pub returns-clause-sound : goal.returns-clause-sound
returns-clause-sound g c =
    let l = c.args.ledger.now in
    let now = c.ask.new.ledger in
    let after : Ledger = record now { count = now.count + 1 } in
    let same : now.count ≡ l.count = ap (λ (x : Ledger). x.count) c.ask.ensures.kept in
    sound_granted (g.M.Memory.blocks c.args.memory.now) (g.M.Memory.starts c.args.memory.now) (g.M.Memory.top c.args.memory.now) l after c.requires.sound (now.count + 1) (ap (λ (x : Ledger). let y : Ledger = record x { count = now.count + 1 } in y) c.ask.ensures.kept)
    c.args.token c.args.size c.in-Some.place (g.M.Memory.blocks c.place.new.self) (g.M.Memory.starts c.place.new.self) (g.M.Memory.top c.place.new.self) (subst (λ (o : Option ℕ). IfSome o (λ p. c.args.token < length l.ranges.heaps)) c.in-Some.is c.in_ok-place.ensures.inside)
    (subst (λ (o : Option ℕ). IsNoted l.ranges now.ranges c.args.token (event_for c.args.size o)) c.in-Some.is c.in_ok-place.ensures.noted) (omega arith) (omega (arith, same))
    (c.in_ok-place.ensures.log ∙ ap (λ (o : Option ℕ). l.rest.log.items ++ entry_for c.args.token c.args.size o ∷ []) c.in-Some.is)
    c.in_ok-number.ensures.placed c.in_ok-number.ensures.starts c.place.ensures.top
