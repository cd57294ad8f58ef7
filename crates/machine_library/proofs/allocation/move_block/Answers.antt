use Rattle.std.proofs.Common.{ℕ, Option, Some, None, subst}
use Rattle.c_core.specs.declared.values.Value.{Value}
use Rattle.c_meaning.specs.Meaning.{if_granted}
use Rattle.c_meaning.specs.World.{request}
use Rattle.machine_library.specs.Leads.{Leads, Runs, moving}
use Rattle.machine_state.specs.State.{state_in, regions}
use Rattle.machine_library.proofs.Leading.{runs_then, runs_err}
use Rattle.machine_library.proofs.allocation.move_block.Goals as goal

pub returns-in_err-new-clause-run : goal.returns-in_err-new-clause-run
returns-in_err-new-clause-run g c = λ tok label e.
    subst (λ (n : ℕ). Runs Value tok (λ k s. request label n (λ b. if_granted b (moving c.args.span c.args.old c.args.size) k) s) (g.M.Memory.blocks c.args.memory.now) c.args.ledger.now (g.M.Memory.blocks c.request.new.memory) c.request.new.ledger c.from_residual.result) c.from.ensures
    (runs_err tok (λ k s. request label c.from.result (λ b. if_granted b (moving c.args.span c.args.old c.args.size) k) s) (g.M.Memory.blocks c.args.memory.now) (g.M.Memory.blocks c.request.new.memory) c.args.ledger.now c.request.new.ledger c.from_residual.result c.from_residual.ensures.0
    (λ k. c.in_err-new.ensures.run tok label e (λ b. if_granted b (moving c.args.span c.args.old c.args.size) k)))

pub returns-in-Some-clause-run : goal.returns-in-Some-clause-run
returns-in-Some-clause-run g c = λ tok label e.
    let bs = g.M.Memory.blocks c.args.memory.now in
    let mid = g.M.Memory.blocks c.request.new.memory in
    let l = c.args.ledger.now in
    let l_mid = c.request.new.ledger in
    subst (λ (n : ℕ). Runs Value tok (λ k s. request label n (λ b. if_granted b (moving c.args.span c.args.old c.args.size) k) s) bs l (g.M.Memory.blocks c.fill_moved.new.memory) c.fill_moved.new.ledger c.fill_moved.result) c.from.ensures
    (runs_then tok (request label c.from.result) (λ b. if_granted b (moving c.args.span c.args.old c.args.size)) bs mid (g.M.Memory.blocks c.fill_moved.new.memory) l l_mid c.fill_moved.new.ledger (Some c.in-Some.new) c.fill_moved.result
    c.in_ok-new.ensures.called.keeps.ranges
    (λ k. subst (λ (o : Option ℕ). Leads tok (regions l.ranges) l.rest.log.items (request label c.from.result k (state_in bs l)) l_mid.rest.log.items (k o (state_in mid l_mid))) c.in-Some.is (c.in_ok-new.ensures.run tok label e k))
    (c.fill_moved.ensures.run tok))

pub returns-in-None-clause-run : goal.returns-in-None-clause-run
returns-in-None-clause-run g c = λ tok label e k.
    let bs = g.M.Memory.blocks c.args.memory.now in
    let mid = g.M.Memory.blocks c.request.new.memory in
    let l = c.args.ledger.now in
    let l_mid = c.request.new.ledger in
    subst (λ (n : ℕ). Leads tok (regions l.ranges) l.rest.log.items (request label n (λ b. if_granted b (moving c.args.span c.args.old c.args.size) k) (state_in bs l)) l_mid.rest.log.items (if_granted None (moving c.args.span c.args.old c.args.size) k (state_in mid l_mid))) c.from.ensures
    (subst (λ (o : Option ℕ). Leads tok (regions l.ranges) l.rest.log.items (request label c.from.result (λ b. if_granted b (moving c.args.span c.args.old c.args.size) k) (state_in bs l)) l_mid.rest.log.items (if_granted o (moving c.args.span c.args.old c.args.size) k (state_in mid l_mid))) c.in-None.is
    (c.in_ok-new.ensures.run tok label e (λ b. if_granted b (moving c.args.span c.args.old c.args.size) k)))
