use Rattle.std.proofs.Common.{◌∙◌, ap, sym, Some}
use Rattle.c_tree.specs.View.{inits_of, view_init}
use Rattle.c_tree.proofs.Views.{view_braces}
use Rattle.c_rules.specs.Unit.{how_many}
use Rattle.body_rules.specs.Lengths.{given_by}
use Rattle.body_rules.proofs.lengths.given_by.Goals as goal

pub returns-in-Braces : goal.returns-in-Braces
returns-in-Braces c =
    ap Some (c.count_entries.ensures ∙ ap (λ xs. how_many (inits_of xs)) c.as_slice.ensures)
    ∙ ap (given_by c.args.is_of_chars) (sym (view_braces c.in-Braces.field-0 c.in-Braces.entries c.in-Braces.field-2))
    ∙ ap (λ i. given_by c.args.is_of_chars (view_init i)) (sym c.in-Braces.is)
