use Rattle.std.proofs.Common.{length}
use Rattle.machine_state.proofs.Sound.{sound_killed}
use Rattle.machine_objects.proofs.Dying.{killed_state, kept_state}
use Rattle.machine_objects.proofs.ending.kill_local.Goals as goal

pub kill-requires : goal.kill-requires
kill-requires g c = c.in-Some.ensures.given (length (g.M.Memory.blocks c.args.memory.now)) c.requires.sound.locals

pub returns-in-Some-clause-run : goal.returns-in-Some-clause-run
returns-in-Some-clause-run g c = killed_state (g.M.Memory.blocks c.args.memory.now) (g.M.Memory.blocks c.kill.new.self) c.args.ledger.now.rest c.args.local c.in-Some.number c.kill.ensures.killed (c.in-Some.ensures.block (g.M.Memory.blocks c.args.memory.now))

pub returns-in-Some-clause-sound : goal.returns-in-Some-clause-sound
returns-in-Some-clause-sound g c =
    sound_killed (g.M.Memory.blocks c.args.memory.now) (g.M.Memory.blocks c.kill.new.self) (g.M.Memory.starts c.args.memory.now) (g.M.Memory.starts c.kill.new.self) (g.M.Memory.top c.args.memory.now) (g.M.Memory.top c.kill.new.self)
    c.args.ledger.now c.requires.sound c.in-Some.number c.kill.ensures.killed c.kill.ensures.starts c.kill.ensures.top

pub returns-in-None-clause-run : goal.returns-in-None-clause-run
returns-in-None-clause-run g c = kept_state (g.M.Memory.blocks c.args.memory.now) c.args.ledger.now.rest c.args.local (c.in-None.ensures.block (g.M.Memory.blocks c.args.memory.now))
