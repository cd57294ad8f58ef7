use Rattle.std.specs.Prelude.{◌≡◌, ◌++◌, map, string_bytes}
use Rattle.std.specs.Vec.Iter.{into_iter_items}
use Rattle.command_line.proofs.arguments.behind_name.Given as goal

abbrev pub invariant-loop-arg : goal.invariant-loop-arg
invariant-loop-arg l = l.words ++ map string_bytes (into_iter_items l.arg-iterator) ≡ map string_bytes (into_iter_items l.initial.arg-iterator)
