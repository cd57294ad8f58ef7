-- The name that an item's declarator makes.
use Rattle.std.proofs.Common.{◌≡◌, ℕ, Bool, true, false, List, Option, Some, None, refl, sym, ap, ◌∙◌}
use Rattle.c_tree.specs.Wf.{Env, with_name}
use Rattle.c_reader.specs.MarkedInside as r
use Rattle.c_stack.specs.Gives.{env_after}
use Rattle.c_symbol.specs.Made.{made_name}
use Rattle.c_stack.specs.Views.{view_mode}
use Rattle.c_stack.specs.declared.inside.Mode.{Mode}

pub unnamed : (td : Bool) (n : Option (List ℕ)) (env : Env) → with_name td n env ≡ env_after (made_name td n) env
unnamed true None env = refl
unnamed true (Some n) env = refl
unnamed false n env = refl

-- a step from the names with it, which makes none itself
pub named : (o : Option r.Next) (id : ℕ) (x made : Option (List ℕ)) (m : Mode) (td : Bool) (n : Option (List ℕ)) (env : Env)
    → o ≡ r.go_on id (env_after x (with_name td n env)) (view_mode m) → x ≡ None → made ≡ made_name td n → o ≡ r.go_on id (env_after made env) (view_mode m)
named o id x made m td n env h u e =
    h ∙ ap (λ s. r.go_on id (env_after s (with_name td n env)) (view_mode m)) u ∙ ap (λ v. r.go_on id v (view_mode m)) (unnamed td n env ∙ ap (λ s. env_after s env) (sym e))
