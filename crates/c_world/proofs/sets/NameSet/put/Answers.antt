use Rattle.std.proofs.Common.{[], ◌∷◌, ◌++◌, ◌∙◌, ap}
use Rattle.name_places.specs.Placed.{placed, with_place}
use Rattle.c_world.proofs.Listed.{put}
use Rattle.c_world.proofs.sets.NameSet.put.Goals as goal

pub invariant_of-self-2 : goal.invariant_of-self-2
invariant_of-self-2 c =
    put c.self.inside.places c.note.new.self c.self.inside.list.items c.push.new.self.items c.args.name 0
    (λ o. c.in_ok-note.ensures.noted o ∙ ap (λ n. with_place (placed c.self.inside.places) n 0 o) c.as_slice.ensures)
    (c.push.ensures.items ∙ ap (λ xs. xs ++ c.args.name ∷ []) c.reserve.ensures.items)
    c.self.invariant
