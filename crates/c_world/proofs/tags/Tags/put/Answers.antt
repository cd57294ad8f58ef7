use Rattle.std.proofs.Common.{[], ◌∷◌, ◌++◌, ◌∙◌, ap, length}
use Rattle.name_places.specs.Placed.{placed, with_place}
use Rattle.c_rules.specs.World.{find_tag}
use Rattle.c_world.proofs.Tagged.{put}
use Rattle.c_world.proofs.tags.Tags.put.Goals as goal

pub invariant_of-self-2 : goal.invariant_of-self-2
invariant_of-self-2 c =
    put c.self.inside.places c.note.new.self c.self.inside.list.items c.push.new.self.items (record { name = c.args.name; tag = c.args.tag })
    (λ o. c.in_ok-note.ensures.noted o ∙ ap (λ n. with_place (placed c.self.inside.places) n c.len-place.result o) c.as_slice.ensures
    ∙ ap (λ k. with_place (placed c.self.inside.places) c.args.name k o) (c.len-place.ensures ∙ ap length c.reserve.ensures.items))
    (c.push.ensures.items ∙ ap (λ xs. xs ++ (record { name = c.args.name; tag = c.args.tag }) ∷ []) c.reserve.ensures.items)
    (ap (find_tag c.args.name) c.self.view_is ∙ c.requires)
    c.self.invariant
