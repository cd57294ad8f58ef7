-- What an enumeration is seen as, by its parts.
use Rattle.std.proofs.Common.{◌≡◌, refl, ap}
use Rattle.c_tree.specs.Marked as m
use Rattle.c_tree.specs.View.{view_list, view_enum, list_of}
use Rattle.c_tree.specs.declared.expression.Enum.{Enum}
use Rattle.c_tree.specs.declared.expression.Enum as ee
use Rattle.c_tree.specs.declared.expression.Declarator.TheBlock as b
use Rattle.c_tree.specs.declared.expression.Declarator.TheViews as w

list_held : (h : b.Held-Enum-list) → view_list h ≡ list_of (b.view-Enum-list h)
list_held b.Enum-list-None' = refl
list_held (b.Enum-list-Some' l) = refl

pub enum_seen : (e : Enum) (ss : m.Specs) → view_enum e ss ≡ m.Enum (ee.out-Enum e).at (ee.out-Enum e).tag (list_of (ee.out-Enum e).list) ss
unfolding w.out-Enum denote.Hole.Carrier.out
enum_seen (b.struct-Enum at tag h) ss = ap (λ x. m.Enum at tag x ss) (list_held h)
