use Rattle.std.proofs.Common.{ap, ◌∙◌, option_map}
use Rattle.c_rules.specs.World.{find_tag}
use Rattle.c_world.specs.Seen.{seen}
use Rattle.c_world.specs.Tags.{entry_of}
use Rattle.c_world.proofs.Numbering.{map_none, tag_there}
use Rattle.c_world.proofs.state.World.put_tag.Goals as goal

pub add_tag-requires-clause-unused : goal.add_tag-requires-clause-unused
unfolding seen
add_tag-requires-clause-unused c = rw (← c.self.view_is, ← c.as_slice.ensures) (map_none _ _ c.in-None.ensures)

pub returns-in-Some-clause-seen : goal.returns-in-Some-clause-seen
returns-in-Some-clause-seen c =
    rw (← c.self.view_is) (tag_there _ c.args.sort c.args.number c.args.name.now _ (c.in-Some.ensures ∙ ap (λ n. option_map entry_of (find_tag n c.self.inside.tags)) c.as_slice.ensures))
