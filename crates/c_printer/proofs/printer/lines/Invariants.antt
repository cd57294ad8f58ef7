use Rattle.std.proofs.Common.{◌≡◌, ◌++◌, map, drop}
use Rattle.c_tree.specs.Bare.{bare_external}
use Rattle.c_tree.specs.Printed.{unit_text}
use Rattle.c_tree.specs.View.{view_external}
use Rattle.c_printer.proofs.printer.lines.Given as goal

abbrev pub invariant-loop-x : goal.invariant-loop-x
invariant-loop-x l =
    l.text.items ++ unit_text (map bare_external (map view_external (drop l.x-index l.x-items))) ≡ unit_text (map bare_external (map view_external l.x-items))
