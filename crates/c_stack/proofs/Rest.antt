-- What a step gives, by an equation.
use Rattle.std.proofs.Common.{◌≡◌, Option, Result, subst}
use Rattle.c_tree.specs.Wf.{Env}
use Rattle.c_reader.specs.MarkedInside as r
use Rattle.c_stack.specs.Gives.{Gives}
use Rattle.c_stack.specs.declared.inside.Next.{Next}
use Rattle.c_symbol.specs.declared.step.StepEnd.{StepEnd}

-- what gives the one gives the other
pub gives : (env : Env) (a : Result Next StepEnd) (x y : Option r.Next) → x ≡ y → Gives env a x → Gives env a y
gives env a x y e h = subst (Gives env a) e h
