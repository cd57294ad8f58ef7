use Rattle.std.proofs.Common.{◌∙◌, sym, ap}
use Rattle.c_rules.specs.World.{find_tag}
use Rattle.c_world.specs.Inner.{Inner}
use Rattle.c_world.proofs.Numbering.{tag_new, seen_tags}
use Rattle.c_world.proofs.state.World.add_tag.Goals as goal

pub put-requires : goal.put-requires
put-requires c =
    let t = ap (λ (v : Inner). v.tags) c.self.view_is in
    rw c.in_ok-name.ensures (ap (find_tag c.args.name.now) (t ∙ sym (seen_tags c.args.self.now)) ∙ c.requires.unused)

pub returns-clause-seen : goal.returns-clause-seen
returns-clause-seen c =
    let t = ap (λ (v : Inner). v.tags) c.self.view_is in
    let unused = ap (find_tag c.args.name.now) (t ∙ sym (seen_tags c.args.self.now)) ∙ c.requires.unused in
    rw (c.in_ok-put.ensures.put, c.in_ok-name.ensures, ← c.self.view_is) (tag_new _ c.args.sort c.args.number c.args.name.now unused)
