-- What a step answers.
use Rattle.std.specs.Prelude.{◌≡◌, ℕ, List, ◌∷◌, Option, Some, None, Result, Ok, Err}
use Rattle.c_tree.specs.Wf.{Env}
use Rattle.c_reader.specs.MarkedInside as r
use Rattle.c_stack.specs.Views.{view_mode}
use Rattle.c_stack.specs.declared.inside.Next.{Next}
use Rattle.c_symbol.specs.declared.step.StepEnd as end

-- the typedef names, with the one that the token made
abbrev pub env_after : Option (List ℕ) → Env → Env
env_after None env = env
env_after (Some n) env = n ∷ env

-- What a step answers is what the reader's step gives, unless memory ran out.
abbrev pub Gives : Env → Result Next end.StepEnd → Option r.Next → Type 0
Gives env (Ok x) o = o ≡ r.go_on x.id (env_after x.name env) (view_mode x.mode)
Gives env (Err end.TheVariants.Wrong) o = o ≡ None
Gives env (Err end.TheVariants.NoMemory) o = Unit {0}
