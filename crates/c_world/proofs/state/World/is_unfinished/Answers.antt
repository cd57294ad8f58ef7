use Rattle.std.proofs.Common.{◌≡◌, ap}
use Rattle.c_world.specs.Inner.{Inner}
use Rattle.c_world.specs.Seen.{seen}
use Rattle.c_world.proofs.state.World.is_unfinished.Goals as goal

pub returns : goal.returns
unfolding seen
returns c =
    let t : c.self.inside.table ≡ c.args.self.now.table = ap (λ (v : Inner). v.table) c.self.view_is in
    rw (c.is_finished.ensures, t, c.record_type-id.ensures.is)
