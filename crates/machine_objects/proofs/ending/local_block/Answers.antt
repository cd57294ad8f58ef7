use Rattle.std.proofs.Common.{◌+◌, ap, sym, ◌∙◌}
use Rattle.c_meaning.specs.World as world
use Rattle.machine_objects.proofs.Dying.{get_drop, entry_given}
use Rattle.machine_objects.proofs.ending.local_block.Goals as goal

pub returns-clause-block : goal.returns-clause-block
returns-clause-block c = λ bs. c.entry_at.ensures ∙ ap world.block_in (sym (get_drop c.args.rest.now.locals.items c.args.rest.now.base c.args.local))

pub returns-clause-given : goal.returns-clause-given
returns-clause-given c = entry_given c.args.rest.now.locals.items (c.args.rest.now.base + c.args.local) c.entry_at.result c.entry_at.ensures
