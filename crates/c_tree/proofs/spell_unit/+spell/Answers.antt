use Rattle.std.proofs.Common.{◌∙◌}
use Rattle.c_tree.proofs.Spelling.{map_ok}
use Rattle.c_tree.proofs.Views.{inits_hidden}
use Rattle.c_tree.proofs.spell_unit.+spell.Goals as goal

pub init-returns-in_ok-comma_if-in-Braces : goal.init-returns-in_ok-comma_if-in-Braces
init-returns-in_ok-comma_if-in-Braces t c =
    rw c.in-Braces.is (rw (inits_hidden c.in-Braces.list)
    (map_ok c.mark-in-Braces.result
    (λ h rest. h rest ∙ c.in_ok-comma_if-in-Braces.ensures _ ∙ c.in_ok-inits-in-Braces.ensures _ ∙ c.in_ok-mark-in-Braces.ensures _) c.mark-in-Braces.ensures))
