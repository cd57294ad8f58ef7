use Rattle.std.proofs.Common.{rules}
use Rattle.name_places.specs.Placed.{placed}
use Rattle.name_places.proofs.Noting.{noted_by}
use Rattle.name_places.proofs.places.NamePlaces.insert.Goals as goal
use Rattle.name_places.proofs.places.NamePlaces.insert.Goals.{in-Ok, in-Err}

pub returns : goal.returns
unfolding placed
returns c = elim c.match-insert.branch [
  | in-Ok w ↦ rw (w.result-is, w.in-Ok.ensures.entries) (record {
    noted = λ other. noted_by (λ k. k.items) c.args.self.now.index.entries c.in_ok-key.key c.args.place c.args.name.now other c.in_ok-key.ensures.items c.requires;
    same = tt;
  })
  | in-Err w ↦ rw (w.result-is) (record { noted = tt; same = λ other. search rules })
]
