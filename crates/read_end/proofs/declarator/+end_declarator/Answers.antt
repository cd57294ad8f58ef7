use Rattle.std.proofs.Common.{◌<◌, arith}
use Rattle.c_symbol.specs.Shown.{shown_qualifiers}
use Rattle.c_stack.specs.Views.{view_declarator_place}
use Rattle.c_symbol.specs.Nodes.{view_open}
use Rattle.read_end.proofs.Pointers.{pointers, fewer}
use Rattle.read_end.proofs.declarator.+end_declarator.Goals as goal

pub end_declarator-requires : goal.end_declarator-requires
end_declarator-requires t c =
    let below : pointers (view_declarator_place c.in-Pointer.k) < t = omega (arith, c.decreases, fewer (view_open c.in-Pointer.o) (shown_qualifiers c.in-Pointer.qualifiers) (view_declarator_place c.in-Pointer.k) (view_declarator_place c.args.k) c.in-Pointer.ensures) in
    (below, tt)
