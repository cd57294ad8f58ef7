use Rattle.c_tree.specs.Bare.{bare_unit}
use Rattle.c_tree.specs.View.{view_unit}
use Rattle.c_printer.proofs.Printing.{printed}
use Rattle.c_printer.proofs.printer.print_unit.Goals as goal

pub returns-clause-reads : goal.returns-clause-reads
returns-clause-reads c = printed c.lines.result (bare_unit (view_unit c.args.u.now)) c.lines.ensures
