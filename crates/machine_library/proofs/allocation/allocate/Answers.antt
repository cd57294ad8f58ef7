use Rattle.std.proofs.Common.{ℕ, Option, subst}
use Rattle.c_meaning.specs.Meaning.{allocate, block_or_null}
use Rattle.machine_library.specs.Leads.{Leads}
use Rattle.machine_state.specs.State.{state_in, regions}
use Rattle.machine_library.proofs.allocation.allocate.Goals as goal

pub returns-in-Some-clause-run : goal.returns-in-Some-clause-run
returns-in-Some-clause-run g c = λ tok label e k.
    let l = c.args.ledger.now in
    let now = c.request.new.ledger in
    subst (λ (o : Option ℕ). Leads tok (regions l.ranges) l.rest.log.items (allocate label c.args.size k (state_in (g.M.Memory.blocks c.args.memory.now) l)) now.rest.log.items (k (block_or_null o) (state_in (g.M.Memory.blocks c.request.new.memory) now))) c.in-Some.is
    (c.in_ok-number.ensures.run tok label e (λ b. k (block_or_null b)))

pub returns-in-None-clause-run : goal.returns-in-None-clause-run
returns-in-None-clause-run g c = λ tok label e k.
    let l = c.args.ledger.now in
    let now = c.request.new.ledger in
    subst (λ (o : Option ℕ). Leads tok (regions l.ranges) l.rest.log.items (allocate label c.args.size k (state_in (g.M.Memory.blocks c.args.memory.now) l)) now.rest.log.items (k (block_or_null o) (state_in (g.M.Memory.blocks c.request.new.memory) now))) c.in-None.is
    (c.in_ok-number.ensures.run tok label e (λ b. k (block_or_null b)))
