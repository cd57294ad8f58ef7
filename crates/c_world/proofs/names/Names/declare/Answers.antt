use Rattle.std.proofs.Common.{reverse, ap, sym, subst, option_map, ◌∙◌, [], ◌∷◌}
use Rattle.std.proofs.lemmas.List.{reverse-append}
use Rattle.c_world.specs.Names.{Follows, head_in, find_in}
use Rattle.c_world.proofs.Heads.{entered, found}
use Rattle.c_world.proofs.names.Names.declare.Goals as goal

pub invariant_of-self-in-Ok : goal.invariant_of-self-in-Ok
invariant_of-self-in-Ok c =
    subst (λ us. Follows (head_in (λ k. k.items) c.insert.new.self.entries) us)
    (sym (reverse-append c.self.inside.log ((record { entry = record { name = c.args.name; bound = c.args.bound }; before = c.find-before.result }) ∷ [])) ∙ ap reverse (sym c.in_ok-push.ensures.ok))
    (entered (λ k. k.items) c.self.inside.heads.entries c.insert.new.self.entries c.in_ok-key.key (reverse c.self.inside.log)
    (record { entry = record { name = c.args.name; bound = c.args.bound }; before = c.find-before.result })
    c.in-Ok.ensures.entries (c.in_ok-key.ensures.items ∙ c.as_slice-2.ensures)
    (c.find-before.ensures ∙ ap (λ n. option_map (λ e. e.bound) (find_in n c.args.self.now)) c.as_slice.ensures
    ∙ ap (λ es. option_map (λ e. e.bound) (find_in c.args.name es)) (sym c.self.view_is)
    ∙ sym (found (head_in (λ k. k.items) c.self.inside.heads.entries) (reverse c.self.inside.log) c.self.invariant c.args.name))
    c.self.invariant)
