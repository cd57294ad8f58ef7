use Rattle.std.proofs.Common.{◌∙◌, ap, sym}
use Rattle.c_tree.specs.View.{view_init}
use Rattle.c_tree.proofs.Views.{view_braces}
use Rattle.c_checked.specs.Found.{known_of}
use Rattle.alloc_infer.specs.Sites.{marks}
use Rattle.alloc_infer.specs.Walked.{in_init}
use Rattle.alloc_infer.proofs.Kept.{same_put}
use Rattle.alloc_infer.proofs.find_marks.+inits.Goals as goal

pub init-returns-in-Braces-clause-adds : goal.init-returns-in-Braces-clause-adds
init-returns-in-Braces-clause-adds t c =
    let k = known_of c.args.c.now.notes in
    same_put _ _ c.inits.result _ _ _ c.inits.ensures.adds (λ more.
    ap (λ g. in_init (marks k) g more) (sym (view_braces c.in-Braces.field-0 c.in-Braces.gs c.in-Braces.field-2))
    ∙ ap (λ g. in_init (marks k) (view_init g) more) (sym c.in-Braces.is))
