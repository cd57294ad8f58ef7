use Rattle.c_stack.specs.Views.{view_declarator_place}
use Rattle.read_end.proofs.Pointers.{pointers}
use Rattle.read_end.proofs.declarator.+end_declarator.Given as goal

abbrev pub decreases-end_declarator : goal.decreases-end_declarator
decreases-end_declarator l = pointers (view_declarator_place l.k)
