use Rattle.std.proofs.Common.{◌∙◌, ap}
use Rattle.std.specs.Option.{option_and_then}
use Rattle.command_line.specs.Draft as machine
use Rattle.command_line.proofs.Drafts.{read_parts}
use Rattle.command_line.proofs.options.behind_command.Goals as goal

pub returns-in-Some : goal.returns-in-Some
returns-in-Some c = c.finish.ensures ∙ ap (option_and_then machine.finish) c.in-Some.ensures ∙ read_parts c.args.rest.now

pub returns-in-None : goal.returns-in-None
returns-in-None c = ap (option_and_then machine.finish) c.in-None.ensures ∙ read_parts c.args.rest.now
