use Rattle.std.proofs.Common.{rules}
use Rattle.machine_library.proofs.Quiet.{given_as}
use Rattle.machine_library.proofs.calls.argument.Goals as goal

pub returns-in-Some-clause-given : goal.returns-in-Some-clause-given
returns-in-Some-clause-given c = λ sizes a. given_as sizes c.args.args.now c.args.at c.copied.result (search rules) a
