use Rattle.std.proofs.Common.{◌≡◌, ◌++◌, ◌∷◌, [], rules}
use Rattle.c_types.proofs.Qualifying.{all_below_more}
use Rattle.type_checks.proofs.make.so_many.Goals as goal

pub loop-preserved : goal.loop-preserved
loop-preserved c =
    let items : c.push.new.self ≡ c.loop.ids ++ c.args.id ∷ [] = search rules in
    λ n l. rw items (all_below_more n c.loop.ids c.args.id (c.loop.invariant n l) l)
