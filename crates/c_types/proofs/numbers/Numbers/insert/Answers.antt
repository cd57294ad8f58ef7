use Rattle.std.proofs.Common.{refl}
use Rattle.c_types.specs.Found.{found}
use Rattle.c_types.proofs.Finding.{found_here, found_other}
use Rattle.c_types.proofs.numbers.Numbers.insert.Goals as goal
use Rattle.c_types.proofs.numbers.Numbers.insert.Goals.{in-Ok, in-Err}

pub returns-clause-here : goal.returns-clause-here
unfolding found
returns-clause-here c = elim c.match-insert.branch [
  | in-Ok w ↦ rw (w.result-is, w.in-Ok.ensures.entries) (found_here c.args.key c.args.number c.args.self.now.by_key.entries)
  | in-Err w ↦ rw w.result-is tt
]

pub returns-clause-others : goal.returns-clause-others
unfolding found
returns-clause-others c = elim c.match-insert.branch [
  | in-Ok w ↦ rw (w.result-is, w.in-Ok.ensures.entries) (λ other h. found_other c.args.key c.args.number other h c.args.self.now.by_key.entries)
  | in-Err w ↦ rw w.result-is tt
]

pub returns-clause-err : goal.returns-clause-err
unfolding found
returns-clause-err c = elim c.match-insert.branch [
  | in-Ok w ↦ rw w.result-is tt
  | in-Err w ↦ rw (w.result-is, w.in-Err.ensures.err) (λ other. refl)
]
