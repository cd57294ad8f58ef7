use Rattle.std.proofs.Common.{◌≡◌}
use Rattle.c_types.specs.Table.{type_at}
use Rattle.c_types.proofs.Qualifying.{path_up, path_raised, all_roots_up, roots_below}
use Rattle.c_types.proofs.table.TypeTable.canonical_qualified.Goals as goal

pub ascend-requires-clause-levels : goal.ascend-requires-clause-levels
ascend-requires-clause-levels c = all_roots_up c.args.self.now.terms c.known_or_made.new.self.terms c.descend.new.levels.items c.known_or_made.ensures.longer.grows c.in_ok-stop.ensures.roots

pub ascend-requires-clause-raised : goal.ascend-requires-clause-raised
ascend-requires-clause-raised c =
    let grows = c.known_or_made.ensures.longer.grows in
    let old = c.args.self.now.terms in
    let new = c.known_or_made.new.self.terms in
    let same : type_at new c.root-root.result.0 ≡ type_at old c.root-root.result.0 = grows.same c.root-root.result.0 c.root-root.ensures.root.first.below in
    let below = roots_below old c.descend.new.levels.items c.in_ok-stop.ensures.roots in
    let path = path_up old new (type_at old c.root-root.result.0) c.descend.new.levels.items (type_at old c.in_ok-stop.stop.0.0) grows below c.in_ok-stop.ensures.path in
    rw same (path_raised new c.args.qualifiers (type_at old c.root-root.result.0) c.descend.new.levels.items (type_at old c.in_ok-stop.stop.0.0) (type_at new c.in_ok-made.made.0) path c.in_ok-made.ensures.is)
