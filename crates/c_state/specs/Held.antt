-- A held mode, and the declarations that end a unit, seen as the reader's.
use Rattle.std.specs.Prelude.{List, map, Option, Some, None}
use Rattle.c_tree.specs.Marked as u
use Rattle.c_tree.specs.declared.statement.External.{External}
use Rattle.c_reader.specs.MarkedInside as r
use Rattle.c_stack.specs.Views.{view_mode}
use Rattle.c_symbol.specs.Shown.{shown_external}
use Rattle.c_state.specs.declared.held.HeldMode.{HeldMode}

abbrev pub view_held : HeldMode → r.Mode
view_held x = view_mode x.mode

abbrev pub view_end : Option (List External) → Option (List u.External)
view_end None = None
view_end (Some xs) = Some (map shown_external xs)
