use Rattle.std.proofs.Common.{◌+◌, ap, sym, ◌∙◌}
use Rattle.c_meaning.specs.World as world
use Rattle.machine_frames.proofs.Locals.{get_drop, entry_given}
use Rattle.machine_frames.proofs.state.Rest.local_block.Goals as goal

pub returns-clause-block : goal.returns-clause-block
returns-clause-block c = λ bs. c.entry_at.ensures ∙ ap world.block_in (sym (get_drop c.args.self.now.locals.items c.args.self.now.base c.args.local))

pub returns-clause-given : goal.returns-clause-given
returns-clause-given c = entry_given c.args.self.now.locals.items (c.args.self.now.base + c.args.local) c.entry_at.result c.entry_at.ensures
