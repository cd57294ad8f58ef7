-- The arguments of a call.
use Rattle.c_core.specs.Tree as t
use Rattle.c_core.specs.Tree.{Form, Exprs, no_exprs}

abbrev pub arguments : Form → Exprs
arguments (t.Call f type es used) = es
arguments (t.LibCall f es m) = es
arguments form = no_exprs
