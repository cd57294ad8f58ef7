use Rattle.std.proofs.Common.{option_copied, option_and_then, reverse, ap, sym, ◌∙◌}
use Rattle.c_world.specs.Names.{head_in}
use Rattle.c_world.proofs.Heads.{found}
use Rattle.c_world.proofs.names.Names.find.Goals as goal

pub returns-in-Some : goal.returns-in-Some
returns-in-Some c = rw (← c.self.view_is)
    (ap (λ o. option_and_then (λ p. p) (option_copied o)) (sym c.in-Some.is) ∙ ap (λ o. option_and_then (λ p. p) o) c.get.ensures.value
    ∙ found (head_in (λ k. k.items) c.self.inside.heads.entries) (reverse c.self.inside.log) c.self.invariant c.args.name.now)

pub returns-in-None : goal.returns-in-None
returns-in-None c = rw (← c.self.view_is)
    (ap (λ o. option_and_then (λ p. p) (option_copied o)) (sym c.in-None.is) ∙ ap (λ o. option_and_then (λ p. p) o) c.get.ensures.value
    ∙ found (head_in (λ k. k.items) c.self.inside.heads.entries) (reverse c.self.inside.log) c.self.invariant c.args.name.now)
