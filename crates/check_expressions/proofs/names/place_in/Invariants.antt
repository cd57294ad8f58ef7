use Rattle.std.proofs.Common.{◌≡◌, map, drop}
use Rattle.check_expressions.specs.Places.{place_from}
use Rattle.check_expressions.proofs.names.place_in.Given as goal

abbrev pub invariant-loop-t : goal.invariant-loop-t
invariant-loop-t l = record {
  place : l.place ≡ l.t-index;
  rest : place_from 0 l.name (map (λ t. t.now) l.table) ≡ place_from l.place l.name (map (λ t. t.now) (drop l.t-index l.table));
}
