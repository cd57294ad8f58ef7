use Rattle.std.proofs.Common.{refl, ap}
use Rattle.c_meaning.specs.World.{release}
use Rattle.machine_state.specs.declared.ledger.Ledger.{Ledger}
use Rattle.machine_state.specs.Stands.{stands_of}
use Rattle.machine_state.specs.State.{spots_of}
use Rattle.machine_library.proofs.Leading.{runs_err_value, nothing_done}
use Rattle.machine_library.proofs.Granting.{told_stand, held_token, sound_released}
use Rattle.machine_library.proofs.Requesting.{release_runs}
use Rattle.machine_library.proofs.requests.release.Goals as goal

pub returns-then-not-is_live_heap-clause-run : goal.returns-then-not-is_live_heap-clause-run
returns-then-not-is_live_heap-clause-run g c = λ tok. nothing_done tok (release c.args.number) (g.M.Memory.blocks c.args.memory.now) c.args.ledger.now c.args.ledger.now refl

pub returns-in_default-clause-run : goal.returns-in_default-clause-run
returns-in_default-clause-run g c = λ tok. nothing_done tok (release c.args.number) (g.M.Memory.blocks c.args.memory.now) c.args.ledger.now c.args.ledger.now refl

pub give_back-requires-clause-live : goal.give_back-requires-clause-live
give_back-requires-clause-live g c =
    let bs = g.M.Memory.blocks c.args.memory.now in
    let starts = g.M.Memory.starts c.args.memory.now in
    let l = c.args.ledger.now in
    let h = c.is_live_heap.ensures c.if-not-is_live_heap.false in
    let x = told_stand bs starts c.args.number c.block-info.result c.block-info.ensures.told c.block-info.ensures.start h.0 h.1 in
    (held_token (g.M.Memory.top c.args.memory.now) l.ranges (spots_of l.region.items) l.rest.log.items (stands_of bs starts) c.args.number x.0 c.in-Some.token c.block-info.result.at c.requires.sound.stands x.1 x.2 x.3 x.4 c.in-Some.ensures.inside.1).0

pub returns-in_err-give_back-clause-run : goal.returns-in_err-give_back-clause-run
returns-in_err-give_back-clause-run g c = λ tok.
    let bs = g.M.Memory.blocks c.args.memory.now in
    runs_err_value tok (release c.args.number) bs bs c.args.ledger.now c.give_back.new.ledger c.from_residual.result c.from_residual.ensures.0
    (nothing_done tok (release c.args.number) bs c.args.ledger.now c.give_back.new.ledger c.in_err-give_back.ensures.failed)

pub returns-clause-run : goal.returns-clause-run
returns-clause-run g c = λ tok k.
    let bs = g.M.Memory.blocks c.args.memory.now in
    let starts = g.M.Memory.starts c.args.memory.now in
    let l = c.args.ledger.now in
    let h = c.is_live_heap.ensures c.if-not-is_live_heap.false in
    let x = told_stand bs starts c.args.number c.block-info.result c.block-info.ensures.told c.block-info.ensures.start h.0 h.1 in
    let held = held_token (g.M.Memory.top c.args.memory.now) l.ranges (spots_of l.region.items) l.rest.log.items (stands_of bs starts) c.args.number x.0 c.in-Some.token c.block-info.result.at c.requires.sound.stands x.1 x.2 x.3 x.4 c.in-Some.ensures.inside.1 in
    release_runs tok bs (g.M.Memory.blocks c.kill.new.self) starts l c.give_back.new.ledger c.args.number c.in-Some.token c.block-info.result.at k c.requires.sound.long held.1
    (ap (λ (y : Ledger). y.rest) c.give_back.ensures.kept) c.in_ok-give_back.ensures.log c.kill.ensures.killed

pub returns-clause-sound : goal.returns-clause-sound
returns-clause-sound g c =
    let bs = g.M.Memory.blocks c.args.memory.now in
    let starts = g.M.Memory.starts c.args.memory.now in
    let l = c.args.ledger.now in
    let h = c.is_live_heap.ensures c.if-not-is_live_heap.false in
    let x = told_stand bs starts c.args.number c.block-info.result c.block-info.ensures.told c.block-info.ensures.start h.0 h.1 in
    sound_released bs starts (g.M.Memory.top c.args.memory.now) l c.give_back.new.ledger c.requires.sound l.count c.give_back.ensures.kept c.args.number c.in-Some.token c.block-info.result.at x.0
    (g.M.Memory.blocks c.kill.new.self) (g.M.Memory.starts c.kill.new.self) (g.M.Memory.top c.kill.new.self) x.1 x.2 x.3 x.4 c.in_ok-give_back.ensures.noted refl c.in_ok-give_back.ensures.log c.kill.ensures.killed c.kill.ensures.starts c.kill.ensures.top
