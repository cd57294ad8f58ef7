use Rattle.std.proofs.Common.{◌≡◌, reverse, ap, subst, ◌∙◌, [], ◌∷◌, Option, Some, None, option_and_then, nat_eq}
use Rattle.std.proofs.lemmas.List.{reverse-append}
use Rattle.std.specs.Cmp.Lexicographic.{pointwise}
use Rattle.std.specs.Map.{set_value}
use Rattle.c_world.specs.Names.{Follows, head_in}
use Rattle.c_world.specs.declared.names.Bound.{Bound}
use Rattle.c_world.proofs.Heads.{taken_back}
use Rattle.c_world.proofs.names.Names.undo.Goals as goal
use Rattle.c_world.proofs.names.Names.undo.Goals.{in-Some-get_mut, in-None-get_mut}

pub invariant_of-self : goal.invariant_of-self
invariant_of-self c = elim c.match-get_mut.branch [
  | in-Some-get_mut w ↦ rw w.self-inside-is (
      taken_back (λ k. k.items) c.self.inside.heads.entries (c.get_mut.follows.lender c.in-Some.undo.before).entries (reverse c.pop.new.self) c.in-Some.undo
      ((c.get_mut.follows.holds c.in-Some.undo.before).0
      ∙ ap (λ n. set_value (λ k. pointwise nat_eq n k.items) c.self.inside.heads.entries c.in-Some.undo.before) c.as_slice.ensures)
      (subst (λ us. Follows (head_in (λ k. k.items) c.self.inside.heads.entries) us) (ap reverse c.in-Some.ensures ∙ reverse-append c.pop.new.self (c.in-Some.undo ∷ [])) c.self.invariant))
  -- the name has a head, since the log's newest entry is of it
  | in-None-get_mut w ↦
      let all = subst (λ us. Follows (head_in (λ k. k.items) c.self.inside.heads.entries) us) (ap reverse c.in-Some.ensures ∙ reverse-append c.pop.new.self (c.in-Some.undo ∷ [])) c.self.invariant in
      let there : head_in (λ k. k.items) c.self.inside.heads.entries c.in-Some.undo.entry.name ≡ Some c.in-Some.undo.entry.bound = all.0 in
      let none : None ≡ head_in (λ k. k.items) c.self.inside.heads.entries c.in-Some.undo.entry.name =
      ap (λ (o : Option (Option Bound)). option_and_then (λ p. p) o) w.in-None-get_mut.ensures.value
      ∙ ap (λ n. head_in (λ k. k.items) c.self.inside.heads.entries n) c.as_slice.ensures in
      absurd (cc)
]
