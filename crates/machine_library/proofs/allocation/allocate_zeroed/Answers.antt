use Rattle.std.proofs.Common.{ℕ, Option, subst}
use Rattle.c_meaning.specs.Meaning.{allocate_zeroed, if_granted}
use Rattle.c_meaning.specs.Run.{Run}
use Rattle.c_meaning.specs.Storage.{zeroed}
use Rattle.c_meaning.specs.World.{M, act}
use Rattle.machine_library.specs.Leads.{Leads}
use Rattle.machine_state.specs.State.{state_in, regions}
use Rattle.machine_library.proofs.allocation.allocate_zeroed.Goals as goal

pub returns-in-Some-clause-run : goal.returns-in-Some-clause-run
returns-in-Some-clause-run g c = λ tok label e k.
    let l = c.args.ledger.now in
    let now = c.request.new.ledger in
    let s = state_in (g.M.Memory.blocks c.args.memory.now) l in
    let mid = state_in (g.M.Memory.blocks c.request.new.memory) now in
    let f : ℕ → M (Unit {0}) = λ n. act (zeroed c.args.span n c.args.size) in
    subst (λ (r : Run). Leads tok (regions l.ranges) l.rest.log.items (allocate_zeroed c.args.span label c.args.size k s) now.rest.log.items r) (c.zero_new.ensures.run k)
    (subst (λ (o : Option ℕ). Leads tok (regions l.ranges) l.rest.log.items (allocate_zeroed c.args.span label c.args.size k s) now.rest.log.items (if_granted o f k mid)) c.in-Some.is
    (c.in_ok-number.ensures.run tok label e (λ b. if_granted b f k)))

pub returns-in-None-clause-run : goal.returns-in-None-clause-run
returns-in-None-clause-run g c = λ tok label e k.
    let l = c.args.ledger.now in
    let now = c.request.new.ledger in
    let s = state_in (g.M.Memory.blocks c.args.memory.now) l in
    let mid = state_in (g.M.Memory.blocks c.request.new.memory) now in
    let f : ℕ → M (Unit {0}) = λ n. act (zeroed c.args.span n c.args.size) in
    subst (λ (o : Option ℕ). Leads tok (regions l.ranges) l.rest.log.items (allocate_zeroed c.args.span label c.args.size k s) now.rest.log.items (if_granted o f k mid)) c.in-None.is
    (c.in_ok-number.ensures.run tok label e (λ b. if_granted b f k))
