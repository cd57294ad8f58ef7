use Rattle.std.proofs.Common.{◌≡◌, ap}
use Rattle.c_world.specs.Inner.{Inner}
use Rattle.c_world.proofs.Sound.{object_added}
use Rattle.c_world.proofs.state.World.add_object.Goals as goal

pub returns-clause-seen : goal.returns-clause-seen
returns-clause-seen c =
    let t : c.self.inside.table ≡ c.make.new.self.table = ap (λ (v : Inner). v.table) c.self.view_is in
    rw (c.in_ok-push.ensures.ok, ← c.make.ensures.seen, ← c.self.view_is) (object_added _ c.in_ok-ty.ty c.args.local (rw t c.in_ok-ty.ensures.is))
